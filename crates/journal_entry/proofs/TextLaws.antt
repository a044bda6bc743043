-- A text is read as an entry exactly where it begins with the text of that entry.
use Rattle.std.proofs.Common.{◌≡◌, ℕ, ◌+◌, ◌^◌, ◌<◌, ◌≤◌, true, false, cond, ltb, leb, List, ◌++◌, length, take, drop, Some, None, refl, sym, ap, subst, ◌∙◌, append_assoc, arith}
use Rattle.std.specs.Int.{w32, from_be_bytes}
use Rattle.std.proofs.lemmas.Bool.{leb-true, le-ltb, ltb-false}
use Rattle.std.proofs.lemmas.List.{take_at, drop_at, length-append, length-take, take-append-drop}
use Rattle.journal_entry.specs.declared.entry.Entry.{Entry}
use Rattle.journal_entry.specs.Fields.{four_bytes}
use Rattle.journal_entry.specs.EntryText.{body, entry_text, has_form, has_bounds, fits, is_entry, IsEntryText}
use Rattle.journal_entry.specs.Reading.{◌>>=◌, tested, number_at, part_at, entry_of, entry_at}
use Rattle.journal_entry.proofs.Parts.{IsBytes, bind_some, let_through, kept_out, some_is, first_true, second_true, both, Reads, tested_reads}
use Rattle.journal_entry.proofs.FieldLaws.{number32, part_found, part_again, IsBytes-front}
use Rattle.journal_entry.proofs.KindLaws.{entry_found, entry_again}

length_reads : Reads ℕ four_bytes (λ n. (n < 2 ^ 32) × (leb n 8248 ≡ true)) (tested (λ n. leb n 8248) (number_at w32))
length_reads = tested_reads (λ n. leb n 8248) number32

-- what an entry that was read has to do with the text
pub record IsFound (text : List ℕ) (e : Entry) (n : ℕ) : Type 0 where
  pub entry : is_entry e ≡ true
  pub rest : List ℕ
  pub parts : text ≡ entry_text e ++ rest
  pub len : n ≡ length (entry_text e)

pub text_found : (text : List ℕ) (e : Entry) (n : ℕ) → IsBytes text → entry_at text ≡ Some (e, n) → IsFound text e n
unfolding entry_at
text_found text e n fit h =
    let a = bind_some (tested (λ n. leb n 8248) (number_at w32) text) (λ n. part_at n.0 n.1 >>= λ part. entry_of part.0 >>= λ e. Some (e, 4 + n.0)) (e, n) h in
    let b = bind_some (part_at a.0.0 a.0.1) (λ part. entry_of part.0 >>= λ e. Some (e, 4 + a.0.0)) (e, n) a.2 in
    let c = bind_some (entry_of b.0.0) (λ e. Some (e, 4 + a.0.0)) (e, n) b.2 in
    let one = length_reads.takes text a.0.0 a.0.1 fit a.1 in
    let two = part_found a.0.0 a.0.1 b.0.0 b.0.1 b.1 in
    let three = entry_found b.0.0 c.0 (IsBytes-front a.0.1 b.0.0 b.0.1 two.0 one.0.rest_fits) c.1 in
    let len : a.0.0 ≡ length (body c.0) = sym two.1 ∙ ap length three.0 in
    let short : leb (length (body c.0)) 8248 ≡ true = subst (λ (k : ℕ). leb k 8248 ≡ true) len one.1.1 in
    let after : a.0.1 ≡ body c.0 ++ b.0.1 = two.0 ∙ ap (λ (w : List ℕ). w ++ b.0.1) three.0 in
    let whole : text ≡ entry_text c.0 ++ b.0.1 =
    one.0.parts ∙ ap (λ (w : List ℕ). four_bytes a.0.0 ++ w) after ∙ ap (λ (k : ℕ). four_bytes k ++ (body c.0 ++ b.0.1)) len ∙ sym (append_assoc (four_bytes (length (body c.0))) (body c.0) b.0.1) in
    let made : IsFound text c.0 (4 + a.0.0) = record {
      entry = both (has_form c.0) (fits c.0) three.1 (both (has_bounds c.0) (leb (length (body c.0)) 8248) three.2 short);
      rest = b.0.1;
      parts = whole;
      len = omega (arith, len, length-append (four_bytes (length (body c.0))) (body c.0));
    } in
    subst (λ (x : Entry × ℕ). IsFound text x.0 x.1) (some_is (c.0, 4 + a.0.0) (e, n) c.2) made

-- the text of an entry is read as it, whatever follows
pub text_again : (e : Entry) (rest : List ℕ) → is_entry e ≡ true → entry_at (entry_text e ++ rest) ≡ Some (e, length (entry_text e))
unfolding entry_at
text_again e rest h =
    let form = first_true (has_form e) (fits e) h in
    let fit = second_true (has_form e) (fits e) h in
    let bounds = first_true (has_bounds e) (leb (length (body e)) 8248) fit in
    let short = second_true (has_bounds e) (leb (length (body e)) 8248) fit in
    let few : length (body e) ≤ 8248 = leb-true (length (body e)) 8248 short in
    let len : 4 + length (body e) ≡ length (entry_text e) = omega (arith, length-append (four_bytes (length (body e))) (body e)) in
    ap entry_at (append_assoc (four_bytes (length (body e))) (body e) rest)
    ∙ rw (length_reads.again (length (body e)) (body e ++ rest) (omega arith, short), part_again (body e) rest, entry_again e form bounds) (ap (λ (k : ℕ). Some (e, k)) len)

-- what was read is the text of the entry
pub found_text : (text : List ℕ) (e : Entry) (n : ℕ) → IsFound text e n → IsEntryText (take n text) e × (n ≤ length text)
found_text text e n f =
    let front : take n text ≡ entry_text e = ap (take n) f.parts ∙ take_at (entry_text e) f.rest n (sym f.len) in
    (record { entry = f.entry; bytes = front }, omega (arith, f.len, ap length f.parts, length-append (entry_text e) f.rest))

-- a text that begins with an entry's is read
pub begun_again : (text : List ℕ) (e : Entry) (n : ℕ) → IsEntryText (take n text) e → entry_at text ≡ Some (e, length (entry_text e))
begun_again text e n t = ap entry_at (sym (take-append-drop n text) ∙ ap (λ (w : List ℕ). w ++ drop n text) t.bytes) ∙ text_again e (drop n text) t.entry

-- ---- laws

-- no text of an entry begins another's
pub one_text : (e f : Entry) (x y : List ℕ) → is_entry e ≡ true → is_entry f ≡ true → entry_text e ++ x ≡ entry_text f ++ y → (e ≡ f) × (x ≡ y)
one_text e f x y he hf h =
    let same : e ≡ f = ap (λ (p : Entry × ℕ). p.0) (some_is (e, length (entry_text e)) (f, length (entry_text f)) (sym (text_again e x he) ∙ ap entry_at h ∙ text_again f y hf)) in
    let rests : drop (length (entry_text e)) (entry_text e ++ x) ≡ drop (length (entry_text e)) (entry_text e ++ y) = ap (drop (length (entry_text e))) (h ∙ ap (λ (g : Entry). entry_text g ++ y) (sym same)) in
    (same, sym (drop_at (entry_text e) x (length (entry_text e)) refl) ∙ rests ∙ drop_at (entry_text e) y (length (entry_text e)) refl)

-- a number is read of its bytes, whatever follows
number_front : (front rest : List ℕ) → length front ≡ 4 → number_at w32 (front ++ rest) ≡ Some (from_be_bytes w32 front, rest)
number_front front rest len =
    let long : ltb (length (front ++ rest)) 4 ≡ false = le-ltb _ _ (omega (arith, length-append front rest)) in
    rw (long, take_at front rest 4 len, drop_at front rest 4 len) refl

-- which bytes a number was read of
number_found : (text : List ℕ) (n : ℕ) (rest : List ℕ) → number_at w32 text ≡ Some (n, rest) → (front : List ℕ) × (length front ≡ 4) × (text ≡ front ++ rest) × (from_be_bytes w32 front ≡ n)
number_found text n rest e =
    let g = kept_out (ltb (length text) 4) (from_be_bytes w32 (take 4 text), drop 4 text) (n, rest) e in
    let long : 4 ≤ length text = ltb-false _ _ g.0 in
    (take 4 text, omega (arith, length-take 4 text), sym (take-append-drop 4 text) ∙ ap (λ (p : ℕ × List ℕ). take 4 text ++ p.1) g.1, ap (λ (p : ℕ × List ℕ). p.0) g.1)

-- what is read doesn't depend on what stands behind it
pub no_further : (text rest : List ℕ) (e : Entry) (n : ℕ) → entry_at text ≡ Some (e, n) → entry_at (take n text ++ rest) ≡ Some (e, n)
unfolding entry_at
no_further text rest e n h =
    let a = bind_some (tested (λ n. leb n 8248) (number_at w32) text) (λ n. part_at n.0 n.1 >>= λ part. entry_of part.0 >>= λ e. Some (e, 4 + n.0)) (e, n) h in
    let b = bind_some (part_at a.0.0 a.0.1) (λ part. entry_of part.0 >>= λ e. Some (e, 4 + a.0.0)) (e, n) a.2 in
    let c = bind_some (entry_of b.0.0) (λ e. Some (e, 4 + a.0.0)) (e, n) b.2 in
    let d = bind_some (number_at w32 text) (λ x. cond (leb x.0 8248) (Some x) None) a.0 a.1 in
    let t = let_through (leb d.0.0 8248) d.0 a.0 d.2 in
    let number : number_at w32 text ≡ Some a.0 = d.1 ∙ ap (λ (x : ℕ × List ℕ). Some x) t.1 in
    let short : leb a.0.0 8248 ≡ true = subst (λ (x : ℕ × List ℕ). leb x.0 8248 ≡ true) t.1 t.0 in
    let f = number_found text a.0.0 a.0.1 number in
    let p = part_found a.0.0 a.0.1 b.0.0 b.0.1 b.1 in
    let len : n ≡ length (f.0 ++ b.0.0) = omega (arith, ap (λ (x : Entry × ℕ). x.1) (some_is (c.0, 4 + a.0.0) (e, n) c.2), length-append f.0 b.0.0, f.1, p.1) in
    let parts : text ≡ (f.0 ++ b.0.0) ++ b.0.1 = f.2 ∙ ap (λ (w : List ℕ). f.0 ++ w) p.0 ∙ sym (append_assoc f.0 b.0.0 b.0.1) in
    let front : take n text ≡ f.0 ++ b.0.0 = ap (take n) parts ∙ take_at (f.0 ++ b.0.0) b.0.1 n (sym len) in
    let part : part_at a.0.0 (b.0.0 ++ rest) ≡ Some (b.0.0, rest) = ap (λ (k : ℕ). part_at k (b.0.0 ++ rest)) (sym p.1) ∙ part_again b.0.0 rest in
    ap (λ (w : List ℕ). entry_at (w ++ rest)) front ∙ ap entry_at (append_assoc f.0 b.0.0 rest)
    ∙ rw (number_front f.0 (b.0.0 ++ rest) f.1, f.3, short, part, c.1) c.2
