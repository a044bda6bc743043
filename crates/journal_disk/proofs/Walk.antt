-- Laws of reading an area.
use Rattle.std.proofs.Common.{◌≡◌, ◌≢◌, ⊎_elim, ℕ, zero, suc, ◌+◌, ◌≤◌, ◌<◌, List, [], ◌∷◌, ◌++◌, length, take, drop, get_or, Option, Some, None, Ok, Err, true, false, refl, sym, ◌∙◌, ap, arith, append_assoc, cond, add-zero, take-append-drop}
use Rattle.std.specs.Prelude.{nat_eq}
use Rattle.std.proofs.lemmas.List.{take-append-le, drop_more}
use Rattle.std.proofs.lemmas.Bool.{cases_eq}
use Rattle.std.proofs.lemmas.Bool.Decides.{nat_tests}
use Rattle.std.proofs.lemmas.Grind.{common_steps}
use Rattle.journal_entry.specs.declared.entry.Entry.{Entry}
use Rattle.journal_entry.specs.EntryText.{entry_text, is_entry}
use Rattle.journal_entry.specs.Reading.{entry_at}
use Rattle.journal_entry.proofs.TextLaws.{text_again, no_further}
use Rattle.journal_disk.specs.AreaText.{Read, with_front, behind, walk}

-- what is read depends on the bytes that it takes alone
pub entry_local : (xs ys zs : List ℕ) (e : Entry) (n : ℕ) → entry_at (xs ++ ys) ≡ Some (e, n) → n ≤ length xs → entry_at (xs ++ zs) ≡ Some (e, n)
entry_local xs ys zs e n found le =
    ap entry_at (sym (ap (λ (l : List ℕ). l ++ (drop n xs ++ zs)) (take-append-le n xs ys le) ∙ sym (append_assoc (take n xs) (drop n xs) zs) ∙ ap (λ (l : List ℕ). l ++ zs) (take-append-drop n xs)))
    ∙ no_further (xs ++ ys) (drop n xs ++ zs) e n found

pub with_front-nil : (r : Read) → with_front [] r ≡ r
with_front-nil (Ok x) = refl
with_front-nil (Err place) = refl

pub with_front-twice : (a b : List Entry) (r : Read) → with_front a (with_front b r) ≡ with_front (a ++ b) r
with_front-twice a b (Ok x) = ap (λ (l : List Entry). Ok (l, x.1)) (sym (append_assoc a b x.0))
with_front-twice a b (Err place) = refl

-- the bytes that are passed over
pub walk_over : (xs ys : List ℕ) (place : ℕ) → walk (length xs) place (xs ++ ys) ≡ walk 0 (place + length xs) ys
walk_over [] ys place = rw add-zero refl
walk_over (x ∷ xs) ys place = walk_over xs ys (place + 1) ∙ ap (λ (n : ℕ). walk 0 n ys) (omega arith)

-- an open gate and an entry's text, and what is read behind it
pub walk_entry : (gate : ℕ) (e : Entry) (rest : List ℕ) (place : ℕ) → gate ≢ 0 → is_entry e ≡ true → walk 0 place (gate ∷ entry_text e ++ rest) ≡ with_front (e ∷ []) (walk 0 (place + 1 + length (entry_text e)) rest)
walk_entry gate e rest place is_open is =
    let unlike : nat_eq gate 0 ≡ false = grind (arith, nat_tests) in
    rw (unlike, text_again e rest is) (ap (λ (r : Read). with_front (e ∷ []) r) (walk_over (entry_text e) rest (place + 1)))

-- How an area is read up to its closed gate.
pub record Split (skip place : ℕ) (bytes : List ℕ) (entries : List Entry) (gate : ℕ) : Type 0 where
  pub front : List ℕ
  pub rest : List ℕ
  pub is : bytes ≡ front ++ 0 ∷ rest
  pub ends : place + length front ≡ gate
  pub passed : skip ≤ length front
  pub tail : (tl : List ℕ) → walk skip place (front ++ tl) ≡ with_front entries (walk 0 gate tl)

-- what an `Ok` holds
abbrev got : Read → List Entry × ℕ
got (Ok x) = x
got (Err place) = ([], place)

front_ok : (e : Entry) (r : Read) (entries : List Entry) (gate : ℕ) → with_front (e ∷ []) r ≡ Ok (entries, gate) → (es : List Entry) × (r ≡ Ok (es, gate)) × (entries ≡ e ∷ es)
front_ok e (Ok x) entries gate is = (x.0, ap (λ (n : ℕ). Ok (x.0, n)) (ap (λ (r : Read). (got r).1) is), sym (ap (λ (r : Read). (got r).0) is))
front_ok e (Err place) entries gate is = absurd cc

behind_ok : (o : Option (Entry × ℕ)) (place : ℕ) (rest : ℕ → Read) (entries : List Entry) (gate : ℕ) → behind o place rest ≡ Ok (entries, gate) → (found : Entry × ℕ) × (o ≡ Some found) × ((es : List Entry) × (rest found.1 ≡ Ok (es, gate)) × (entries ≡ found.0 ∷ es))
behind_ok None place rest entries gate is = absurd cc
behind_ok (Some found) place rest entries gate is = (found, refl, front_ok found.0 (rest found.1) entries gate is)

split_gate : (b : ℕ) (bytes : List ℕ) (place : ℕ) (entries : List Entry) (gate : ℕ) → ((skip place : ℕ) (es : List Entry) (gate : ℕ) → walk skip place bytes ≡ Ok (es, gate) → Split skip place bytes es gate) → walk 0 place (b ∷ bytes) ≡ Ok (entries, gate) → Split 0 place (b ∷ bytes) entries gate
split_gate b bytes place entries gate later is = ⊎_elim closed opened (cases_eq b 0)
  where
    closed : b ≡ 0 → Split 0 place (b ∷ bytes) entries gate
    closed shut =
        let now : cond (nat_eq b 0) (Ok ([], place)) (behind (entry_at bytes) place (λ n. walk n (place + 1) bytes)) ≡ Ok (entries, gate) = is in
        let test : nat_eq b 0 ≡ true = grind (arith, nat_tests) in
        let same : Ok ([], place) ≡ Ok (entries, gate) = rw test at now in
        let none : [] ≡ entries = ap (λ (r : Read). (got r).0) same in
        let here : place ≡ gate = ap (λ (r : Read). (got r).1) same in
        record {
          front = [];
          rest = bytes;
          is = ap (λ (x : ℕ). x ∷ bytes) shut;
          ends = omega (arith, here);
          passed = omega arith;
          tail = λ tl. sym (with_front-nil (walk 0 place tl)) ∙ ap (λ (es : List Entry). with_front es (walk 0 place tl)) none ∙ ap (λ (n : ℕ). with_front entries (walk 0 n tl)) here;
        }

    opened : b ≢ 0 → Split 0 place (b ∷ bytes) entries gate
    opened open_gate =
        let now : cond (nat_eq b 0) (Ok ([], place)) (behind (entry_at bytes) place (λ n. walk n (place + 1) bytes)) ≡ Ok (entries, gate) = is in
        let test : nat_eq b 0 ≡ false = grind (arith, nat_tests) in
        let same : behind (entry_at bytes) place (λ n. walk n (place + 1) bytes) ≡ Ok (entries, gate) = rw test at now in
        let parts = behind_ok (entry_at bytes) place (λ n. walk n (place + 1) bytes) entries gate same in
        let e = parts.0.0 in
        let n = parts.0.1 in
        let es = parts.2.0 in
        let more = later n (place + 1) es gate parts.2.1 in
        let found : entry_at (more.front ++ 0 ∷ more.rest) ≡ Some (e, n) = ap entry_at (sym more.is) ∙ parts.1 in
        record {
          front = b ∷ more.front;
          rest = more.rest;
          is = ap (λ (l : List ℕ). b ∷ l) more.is;
          ends = omega (arith, more.ends);
          passed = omega arith;
          tail = λ tl.
              let there : entry_at (more.front ++ tl) ≡ Some (e, n) = entry_local more.front (0 ∷ more.rest) tl e n found more.passed in
              rw (test, there) (ap (λ (r : Read). with_front (e ∷ []) r) (more.tail tl) ∙ with_front-twice (e ∷ []) es (walk 0 gate tl) ∙ ap (λ (l : List Entry). with_front l (walk 0 gate tl)) (sym parts.2.2));
        }

pub walk_split : (bytes : List ℕ) (skip place : ℕ) (entries : List Entry) (gate : ℕ) → walk skip place bytes ≡ Ok (entries, gate) → Split skip place bytes entries gate
walk_split [] skip place entries gate is = absurd cc
walk_split (b ∷ bytes) (suc skip) place entries gate is =
    let more = walk_split bytes skip (place + 1) entries gate is in
    record {
      front = b ∷ more.front;
      rest = more.rest;
      is = ap (λ (l : List ℕ). b ∷ l) more.is;
      ends = omega (arith, more.ends);
      passed = omega (arith, more.passed);
      tail = more.tail;
    }
walk_split (b ∷ bytes) zero place entries gate is = split_gate b bytes place entries gate (walk_split bytes) is

pub walk_skip : (bytes : List ℕ) (n place : ℕ) → n ≤ length bytes → walk n place bytes ≡ walk 0 (place + n) (drop n bytes)
walk_skip bytes zero place le = ap (λ (q : ℕ). walk 0 q bytes) (sym (add-zero place))
walk_skip [] (suc n) place le = absurd (omega (arith, le))
walk_skip (b ∷ bytes) (suc n) place le = walk_skip bytes n (place + 1) (omega (arith, le)) ∙ ap (λ (q : ℕ). walk 0 q (drop n bytes)) (omega arith)

-- one gate and entry further, for a reader that keeps what it has read
pub walk_step : (bytes : List ℕ) (place n : ℕ) (e : Entry) (front : List Entry) → place < length bytes → get_or bytes place 0 ≢ 0 → entry_at (drop (place + 1) bytes) ≡ Some (e, n) → n ≤ length (drop (place + 1) bytes)
    → with_front (front ++ e ∷ []) (walk 0 (place + (1 + n)) (drop (place + (1 + n)) bytes)) ≡ with_front front (walk 0 place (drop place bytes))
walk_step bytes place n e front lt is_open found le =
    let gate = get_or bytes place 0 in
    let rest = drop (place + 1) bytes in
    let here : drop place bytes ≡ gate ∷ rest = drop_more bytes place 0 lt in
    let unlike : nat_eq gate 0 ≡ false = grind (arith, nat_tests) in
    let there : walk 0 (place + 1 + n) (drop n rest) ≡ walk 0 (place + (1 + n)) (drop (place + (1 + n)) bytes) =
    ap (λ (l : List ℕ). walk 0 (place + 1 + n) l) (drop-drop' n) ∙ ap (λ (q : ℕ). walk 0 q (drop (place + (1 + n)) bytes)) (omega arith) in
    let step : walk 0 place (gate ∷ rest) ≡ with_front (e ∷ []) (walk n (place + 1) rest) = rw (unlike, found) refl in
    sym (with_front-twice front (e ∷ []) (walk 0 (place + (1 + n)) (drop (place + (1 + n)) bytes)))
    ∙ ap (λ (r : Read). with_front front r) (ap (λ (r : Read). with_front (e ∷ []) r) (sym there ∙ sym (walk_skip rest n (place + 1) le)) ∙ sym step ∙ ap (λ (l : List ℕ). walk 0 place l) (sym here))
  where
    drop-drop' : (n : ℕ) → drop n (drop (place + 1) bytes) ≡ drop (place + (1 + n)) bytes
    drop-drop' n = grind (arith, common_steps)
