-- The text of an area is read as its generation and entries, whatever stands behind it.
use Rattle.std.proofs.Common.{◌≡◌, ◌≢◌, ℕ, ◌+◌, ◌^◌, ◌<◌, ◌≤◌, List, [], ◌∷◌, ◌++◌, length, drop, true, false, Some, Ok, refl, sym, ◌∙◌, ap, arith, append_assoc, length-append, add-zero}
use Rattle.std.specs.Prelude.{nat_eq, nat_le, sum_by}
use Rattle.std.specs.List.{AllPass, flat_map, list_all}
use Rattle.std.proofs.lemmas.Bool.{le-leb}
use Rattle.std.proofs.lemmas.Bool.Decides.{nat_tests}
use Rattle.std.proofs.lemmas.List.{drop_at}
use Rattle.std.proofs.lemmas.List.Sums.{list_all-from_AllPass, sum_by-cons}
use Rattle.std.proofs.lemmas.Nat.{from_be_bytes-to_be_bytes_8}
use Rattle.journal_entry.specs.declared.entry.Entry.{Entry}
use Rattle.journal_entry.specs.EntryText.{entry_text, is_entry}
use Rattle.journal_entry.specs.Fields.{eight_bytes}
use Rattle.journal_entry.proofs.Parts.{first_true, second_true}
use Rattle.journal_disk.specs.AreaText.{Read, behind_head, gate_behind, gated, head_of, walk, with_front}
use Rattle.journal_disk.specs.Journaling.{IsArea}
use Rattle.journal_disk.proofs.Walk.{walk_entry}

-- how long it is
gated_len : (entries : List Entry) → length (flat_map gated entries) ≡ sum_by (λ e. 1 + length (entry_text e)) entries
gated_len [] = refl
gated_len (e ∷ es) = omega (arith, length-append (gated e) (flat_map gated es), gated_len es, sum_by-cons (λ e. 1 + length (entry_text e)) e es)

pub behind_head_len : (generation : ℕ) (entries : List Entry) → length (behind_head generation entries) ≡ gate_behind entries
behind_head_len generation entries =
    omega (arith, gated_len entries, length-append (eight_bytes generation ++ flat_map gated entries) (0 ∷ []), length-append (eight_bytes generation) (flat_map gated entries))

-- the entries, each behind an open gate
walk_entries : (entries : List Entry) (rest : List ℕ) (place : ℕ) → list_all is_entry entries ≡ true → walk 0 place (flat_map gated entries ++ 0 ∷ rest) ≡ Ok (entries, place + sum_by (λ e. 1 + length (entry_text e)) entries)
walk_entries [] rest place are = ap (λ (n : ℕ). Ok ([], n)) (sym (add-zero place))
walk_entries (e ∷ es) rest place are =
    let here = first_true (is_entry e) (list_all is_entry es) are in
    let later = second_true (is_entry e) (list_all is_entry es) are in
    ap (λ (l : List ℕ). walk 0 place l) (append_assoc (gated e) (flat_map gated es) (0 ∷ rest))
    ∙ walk_entry 1 e (flat_map gated es ++ 0 ∷ rest) place (λ (is : 1 ≡ 0). omega (arith, is)) here
    ∙ ap (λ (r : Read). with_front (e ∷ []) r) (walk_entries es rest (place + 1 + length (entry_text e)) later)
    ∙ ap (λ (n : ℕ). Ok (e ∷ es, n)) (omega (arith, sum_by-cons (λ e. 1 + length (entry_text e)) e es))

head_read : (x generation : ℕ) (l : List ℕ) → x ≢ 0 → generation < 2 ^ 64 → 1 ≤ length l → head_of (x ∷ (eight_bytes generation ++ l)) ≡ Some generation
unfolding head_of
head_read x generation l is_open lt le =
    let long : nat_le 10 (length (x ∷ (eight_bytes generation ++ l))) ≡ true = le-leb 10 _ (omega (arith, le, length-append (eight_bytes generation) l)) in
    let unlike : nat_eq x 0 ≡ false = grind (arith, nat_tests) in
    rw (long, unlike) (ap (λ (n : ℕ). Some n) (from_be_bytes-to_be_bytes_8 generation lt))

-- behind an open head gate
pub text_read : (generation : ℕ) (entries : List Entry) (x : ℕ) (rest : List ℕ) → generation < 2 ^ 64 → AllPass is_entry entries → x ≢ 0 → IsArea (x ∷ (behind_head generation entries ++ rest)) generation entries (gate_behind entries)
text_read generation entries x rest lt are is_open =
    let texts = flat_map gated entries in
    let after : behind_head generation entries ++ rest ≡ eight_bytes generation ++ (texts ++ 0 ∷ rest) =
    append_assoc (eight_bytes generation ++ texts) (0 ∷ []) rest ∙ append_assoc (eight_bytes generation) texts (0 ∷ rest) in
    record {
      head = ap (λ (l : List ℕ). head_of (x ∷ l)) after ∙ head_read x generation (texts ++ 0 ∷ rest) is_open lt (omega (arith, length-append texts (0 ∷ rest)));
      area = ap (λ (l : List ℕ). walk 0 9 (drop 8 l)) after
          ∙ ap (λ (l : List ℕ). walk 0 9 l) (drop_at (eight_bytes generation) (texts ++ 0 ∷ rest) 8 refl)
          ∙ walk_entries entries rest 9 (list_all-from_AllPass is_entry entries are);
    }
