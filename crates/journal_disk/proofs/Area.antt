-- What stands before an area's closed gate, and what the area is with other bytes from that gate on.
use Rattle.std.proofs.Common.{◌≡◌, ◌≢◌, ◌⊎◌, inl, inr, ⊎_elim, ℕ, ◌≤◌, ◌<◌, List, [], ◌∷◌, ◌++◌, length, take, drop, Some, Ok, true, refl, sym, ◌∙◌, ap, arith, append_assoc, length-append, take-append-drop, length-drop}
use Rattle.std.specs.Prelude.{nat_le}
use Rattle.std.proofs.lemmas.List.{append-nil, take_at, drop_at, length-take-le}
use Rattle.std.proofs.lemmas.Bool.{cases_eq, cases_lt, le-leb}
use Rattle.journal_entry.specs.declared.entry.Entry.{Entry}
use Rattle.journal_entry.specs.EntryText.{entry_text, is_entry}
use Rattle.journal_disk.specs.AreaText.{Read, with_front, walk, area_of, head_of, next_gate}
use Rattle.journal_disk.specs.Journaling.{IsArea}
use Rattle.journal_disk.proofs.Walk.{Split, walk_split, walk_entry}

-- the head is in the first nine bytes, where another byte follows
pub head_front : (h x y : List ℕ) → length h ≡ 9 → 1 ≤ length x → 1 ≤ length y → head_of (h ++ x) ≡ head_of (h ++ y)
unfolding head_of
head_front [] x y nine lx ly = absurd (omega (arith, nine))
head_front (b ∷ h) x y nine lx ly =
    let eight : length h ≡ 8 = omega (arith, nine) in
    let long_x : nat_le 10 (length (b ∷ (h ++ x))) ≡ true = le-leb 10 _ (omega (arith, lx, eight, length-append h x)) in
    let long_y : nat_le 10 (length (b ∷ (h ++ y))) ≡ true = le-leb 10 _ (omega (arith, ly, eight, length-append h y)) in
    let front_x : take 8 (h ++ x) ≡ h = take_at h x 8 eight in
    let front_y : take 8 (h ++ y) ≡ h = take_at h y 8 eight in
    rw (long_x, long_y, front_x, front_y) refl

pub record Lead (bytes : List ℕ) (entries : List Entry) (gate : ℕ) : Type 0 where
  pub lead : List ℕ
  pub rest : List ℕ
  pub is : bytes ≡ lead ++ 0 ∷ rest
  pub size : length lead ≡ gate
  pub nine : 9 ≤ gate
  pub head : (tl : List ℕ) → 1 ≤ length tl → head_of (lead ++ tl) ≡ head_of bytes
  pub area : (tl : List ℕ) → area_of (lead ++ tl) ≡ with_front entries (walk 0 gate tl)

pub lead_of : (bytes : List ℕ) (entries : List Entry) (gate : ℕ) → area_of bytes ≡ Ok (entries, gate) → Lead bytes entries gate
lead_of bytes entries gate is =
    let split = walk_split (drop 9 bytes) 0 9 entries gate is in
    let long : 10 ≤ length bytes = ⊎_elim (λ (short : length bytes < 10). absurd (none split short)) (λ le. le) (cases_lt (length bytes) 10) in
    let nine : length (take 9 bytes) ≡ 9 = length-take-le 9 bytes (omega (arith, long)) in
    let whole : bytes ≡ take 9 bytes ++ (split.front ++ 0 ∷ split.rest) = sym (take-append-drop 9 bytes) ∙ ap (λ (l : List ℕ). take 9 bytes ++ l) split.is in
    record {
      lead = take 9 bytes ++ split.front;
      rest = split.rest;
      is = whole ∙ sym (append_assoc (take 9 bytes) split.front (0 ∷ split.rest));
      size = omega (arith, length-append (take 9 bytes) split.front, nine, split.ends);
      nine = omega (arith, split.ends);
      head = λ tl le.
          ap head_of (append_assoc (take 9 bytes) split.front tl)
          ∙ head_front (take 9 bytes) (split.front ++ tl) (split.front ++ 0 ∷ split.rest) nine (omega (arith, le, length-append split.front tl)) (omega (arith, length-append split.front (0 ∷ split.rest)))
          ∙ ap head_of (sym whole);
      area = λ tl.
          ap (λ (l : List ℕ). walk 0 9 l) (ap (λ (l : List ℕ). drop 9 l) (append_assoc (take 9 bytes) split.front tl) ∙ drop_at (take 9 bytes) (split.front ++ tl) 9 nine)
          ∙ split.tail tl;
    }
  where
    none : Split 0 9 (drop 9 bytes) entries gate → length bytes < 10 → ⊥
    none split short = omega (arith, short, ap length split.is, length-append split.front (0 ∷ split.rest), length-drop 9 bytes)

module _ (bytes : List ℕ) (generation : ℕ) (entries : List Entry) (gate : ℕ) (head : head_of bytes ≡ Some generation) (l : Lead bytes entries gate) where
  -- behind the closed gate anything may stand
  pub closed : (c r : List ℕ) → c ≡ l.lead ++ 0 ∷ r → IsArea c generation entries gate
  closed c r is = record {
    head = ap head_of is ∙ l.head (0 ∷ r) (omega arith) ∙ head;
    area = ap area_of is ∙ l.area (0 ∷ r) ∙ ap (λ (es : List Entry). Ok (es, gate)) (append-nil entries);
  }

  -- an open gate, an entry and a closed gate
  pub opened : (e : Entry) (c r : List ℕ) (x : ℕ) → is_entry e ≡ true → c ≡ l.lead ++ x ∷ (entry_text e ++ 0 ∷ r) → x ≢ 0 → IsArea c generation (entries ++ e ∷ []) (next_gate gate e)
  opened e c r x entry is is_open = record {
    head = ap head_of is ∙ l.head (x ∷ (entry_text e ++ 0 ∷ r)) (omega arith) ∙ head;
    area = ap area_of is ∙ l.area (x ∷ (entry_text e ++ 0 ∷ r)) ∙ ap (λ (w : Read). with_front entries w) (walk_entry x e (0 ∷ r) gate is_open entry);
  }

  -- whatever the gate's byte is
  pub either : (e : Entry) (c r : List ℕ) (x : ℕ) → is_entry e ≡ true → c ≡ l.lead ++ x ∷ (entry_text e ++ 0 ∷ r) → IsArea c generation entries gate ⊎ IsArea c generation (entries ++ e ∷ []) (next_gate gate e)
  either e c r x entry is = ⊎_elim (λ (shut : x ≡ 0). inl (closed c (entry_text e ++ 0 ∷ r) (is ∙ ap (λ (n : ℕ). l.lead ++ n ∷ (entry_text e ++ 0 ∷ r)) shut))) (λ apart. inr (opened e c r x entry is apart)) (cases_eq x 0)
