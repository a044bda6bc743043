-- The words of fills.
use Rattle.std.proofs.Common.{◌≡◌, ℕ, zero, suc, ◌*◌, ◌/◌, ◌%◌, ◌^◌, ◌-◌, ◌<◌, ◌≤◌, Bool, true, false, not, cond, ◌&&◌, ◌==◌, eqb, List, [], ◌∷◌, ◌++◌, length, codes, slice_index, Some, None, decimal, refl, sym, ap, ◌∙◌, subst, arith, append_assoc, length-append}
use Rattle.std.specs.List.{AllByRecursion, All, list_all, join_with_byte}
use Rattle.std.specs.Result.{result_ok}
use Rattle.std.specs.Fmt.{digit_glyph}
use Rattle.std.specs.Str.{bytes_eq}
use Rattle.std.proofs.lemmas.Bool.{eqb-true, lt-ltb, ltb-true, leb-true, le-leb}
use Rattle.std.proofs.lemmas.Fmt.{length-decimal-le}
use Rattle.std.proofs.lemmas.Slice.Eq.{bytes_eq-Decides}
use Rattle.std.proofs.lemmas.List.Splits.{slice_split_none, slice_split_at, join_with_byte-slice_split}
use Rattle.std.proofs.lemmas.List.Elements.{All-from_recursion}
use Rattle.std.proofs.lemmas.List.Folds.{list_all-append}
use Rattle.hex.specs.Hex.{lower_digits, encode_with, encode_lower, decode_of, IsBytes}
use Rattle.hex.proofs.HexLemmas.{decode_of-encode_lower, decode_of-ok}
use Rattle.fs_model.specs.PathText.{parts_at}
use Rattle.fs_model.specs.Spelled.{is_byte, is_piece_len, is_fill}
use Rattle.fs_model.specs.declared.event.Fill.{Fill}
use Rattle.script_text.specs.Words.{hex_word}
use Rattle.script_text.specs.LineText.{fill_word}
use Rattle.script_text.specs.ScriptForm.{is_word_byte, SpellsFill}
use Rattle.script_text.specs.EventText.{number_of, listed_of, made_of, fill_of}
use Rattle.script_text.proofs.Bools.{both_true, and_true, not_true}
use Rattle.script_text.proofs.Options.{and_then_some, ok_of, let_through}
use Rattle.script_text.proofs.Numbers.{number_found, number_again, number_word, number_no_colon}
use Rattle.script_text.proofs.Escapes.{all_below, holds_below}

-- ---- hexadecimal digits

-- the digits of a byte are those that the kit writes, and bytes of a word
abbrev is_fine : ℕ → Bool
is_fine b = bytes_eq (digit_glyph false (b / 16) ∷ digit_glyph false (b % 16) ∷ []) (slice_index lower_digits (b / 16) ∷ slice_index lower_digits (b % 16) ∷ []) && (is_word_byte (digit_glyph false (b / 16)) && is_word_byte (digit_glyph false (b % 16)))

computed : all_below is_fine 256 ≡ true
computed = refl

fine : (b : ℕ) → is_byte b ≡ true → is_fine b ≡ true
fine b h = holds_below is_fine 256 b computed (ltb-true b 256 h)

digits_are : (b : ℕ) → is_byte b ≡ true → digit_glyph false (b / 16) ∷ digit_glyph false (b % 16) ∷ [] ≡ slice_index lower_digits (b / 16) ∷ slice_index lower_digits (b % 16) ∷ []
digits_are b h = (bytes_eq-Decides (digit_glyph false (b / 16) ∷ digit_glyph false (b % 16) ∷ []) (slice_index lower_digits (b / 16) ∷ slice_index lower_digits (b % 16) ∷ [])).0
    (both_true (bytes_eq (digit_glyph false (b / 16) ∷ digit_glyph false (b % 16) ∷ []) (slice_index lower_digits (b / 16) ∷ slice_index lower_digits (b % 16) ∷ [])) (is_word_byte (digit_glyph false (b / 16)) && is_word_byte (digit_glyph false (b % 16))) (fine b h)).0

hex_is : (bytes : List ℕ) → list_all is_byte bytes ≡ true → hex_word bytes ≡ encode_lower bytes
unfolding encode_with
hex_is [] h = refl
hex_is (b ∷ bs) h =
    let both = both_true _ _ h in
    let here = digits_are b both.0 in
    ap (λ x. x ++ hex_word bs) here ∙ ap (λ x. slice_index lower_digits (b / 16) ∷ slice_index lower_digits (b % 16) ∷ x) (hex_is bs both.1)

hex_clean : (bytes : List ℕ) → list_all is_byte bytes ≡ true → list_all is_word_byte (hex_word bytes) ≡ true
hex_clean [] h = refl
hex_clean (b ∷ bs) h =
    let both = both_true _ _ h in
    let here = both_true _ _ (both_true _ _ (fine b both.0)).1 in
    and_true _ _ here.0 (and_true _ _ here.1 (hex_clean bs both.1))

hex_len : (bytes : List ℕ) → length (hex_word bytes) ≡ 2 * length bytes
hex_len [] = refl
hex_len (b ∷ bs) = omega (arith, hex_len bs)

bytes_are : (bs : List ℕ) → list_all is_byte bs ≡ true → IsBytes bs
bytes_are [] h i = omega arith
bytes_are (b ∷ bs) h zero = ltb-true b 256 (both_true _ _ h).0
bytes_are (b ∷ bs) h (suc i) = bytes_are bs (both_true _ _ h).1 i

are_bytes : (bs : List ℕ) → IsBytes bs → list_all is_byte bs ≡ true
are_bytes [] h = refl
are_bytes (b ∷ bs) h = and_true _ _ (lt-ltb b 256 (h 0)) (are_bytes bs (λ i. h (suc i)))

-- ---- what is read spells the fill

abbrev IsFillOf : List ℕ → Fill → Type 0
IsFillOf word fill = SpellsFill word fill × (is_fill fill ≡ true)

listed_found : (digits : List ℕ) (fill : Fill) → listed_of digits ≡ Some fill → IsFillOf (codes "x:" ++ digits) fill
unfolding listed_of
listed_found digits fill h =
    let b = and_then_some (λ (bytes : List ℕ). cond (is_piece_len (length bytes)) (Some (Fill.Listed bytes)) None) (result_ok (decode_of digits)) fill h in
    let decoded = ok_of (decode_of digits) b.0 b.1 in
    let kept = let_through (is_piece_len (length b.0)) (Fill.Listed b.0) fill b.2 in
    subst (IsFillOf (codes "x:" ++ digits)) kept.1 ((digits, refl, decoded), and_true _ _ kept.0 (are_bytes b.0 (decode_of-ok digits b.0 decoded).3))

-- three numbers with a colon between them
three : (num at len : List ℕ) → codes "g:" ++ join_with_byte 58 (num ∷ at ∷ len ∷ []) ≡ codes "g:" ++ num ++ codes ":" ++ at ++ codes ":" ++ len
three num at len = simp append_assoc

made_found : (words : List (List ℕ)) (fill : Fill) → made_of words ≡ Some fill → IsFillOf (codes "g:" ++ join_with_byte 58 words) fill
unfolding made_of
made_found (num ∷ at ∷ len ∷ []) fill h =
    let n = and_then_some _ (number_of 0 255 num) fill h in
    let a = and_then_some _ (number_of 0 (2 ^ 42 - 1) at) fill n.2 in
    let l = and_then_some _ (number_of 1 65536 len) fill a.2 in
    let is_num = number_found 0 255 num n.0 (omega arith) n.1 in
    let is_at = number_found 0 (2 ^ 42 - 1) at a.0 (omega arith) a.1 in
    let is_len = number_found 1 65536 len l.0 (omega arith) l.1 in
    let num_to = is_num.to_most in
    let at_to = is_at.to_most in
    let made : Fill.Made n.0 a.0 l.0 ≡ fill = cc (l.2) in
    let text = three num at len ∙ ap (λ x. codes "g:" ++ x ++ codes ":" ++ at ++ codes ":" ++ len) is_num.word_is ∙ ap (λ x. codes "g:" ++ decimal n.0 ++ codes ":" ++ x ++ codes ":" ++ len) is_at.word_is ∙ ap (λ x. codes "g:" ++ decimal n.0 ++ codes ":" ++ decimal a.0 ++ codes ":" ++ x) is_len.word_is in
    subst (IsFillOf (codes "g:" ++ join_with_byte 58 (num ∷ at ∷ len ∷ []))) made
    (text, and_true _ _ (and_true _ _ (lt-ltb n.0 256 (omega arith)) (lt-ltb a.0 (2 ^ 42) (omega arith))) (and_true _ _ (le-leb 1 l.0 is_len.from_least) (le-leb l.0 65536 is_len.to_most)))
made_found _ fill h = cc

two_are : (a b c d : ℕ) → (a == c && b == d) ≡ true → (rest : List ℕ) → a ∷ b ∷ rest ≡ c ∷ d ∷ rest
two_are a b c d h rest =
    let both = both_true _ _ h in
    ap (λ x. x ∷ b ∷ rest) (eqb-true a c both.0) ∙ ap (λ x. c ∷ x ∷ rest) (eqb-true b d both.1)

-- what is read spells the fill
pub fill_found : (word : List ℕ) (fill : Fill) → fill_of word ≡ Some fill → IsFillOf word fill
unfolding fill_of
fill_found [] fill h = cc
fill_found (a ∷ []) fill h = cc
fill_found (a ∷ b ∷ rest) fill h = by_letter (a == 120 && b == 58) (a == 103 && b == 58) (λ e. two_are a b 120 58 e rest) (λ e. two_are a b 103 58 e rest) h
  where
    by_letter : (x g : Bool) → (x ≡ true → a ∷ b ∷ rest ≡ 120 ∷ 58 ∷ rest) → (g ≡ true → a ∷ b ∷ rest ≡ 103 ∷ 58 ∷ rest) → cond x (listed_of rest) (cond g (made_of (parts_at 58 rest)) None) ≡ Some fill → IsFillOf (a ∷ b ∷ rest) fill
    by_letter true g listed made h = subst (λ w. IsFillOf w fill) (sym (listed refl)) (listed_found rest fill h)
    by_letter false true listed made h =
        let parts = ap (λ x. codes "g:" ++ x) (join_with_byte-slice_split 58 rest) in
        subst (λ w. IsFillOf w fill) (parts ∙ sym (made refl)) (made_found (parts_at 58 rest) fill h)
    by_letter false false listed made h = cc

-- ---- what spells a fill is read

no_colon : (w : List ℕ) → list_all (λ b. not (b == 58)) w ≡ true → AllByRecursion (λ x. eqb x 58 ≡ false) w
no_colon [] h = tt
no_colon (b ∷ bs) h = let both = both_true _ _ h in (not_true _ both.0, no_colon bs both.1)

without_colon : (n : ℕ) → n < 2 ^ 64 → All (λ x. eqb x 58 ≡ false) (decimal n)
without_colon n fits = All-from_recursion (λ x. eqb x 58 ≡ false) (decimal n) (no_colon (decimal n) (number_no_colon n fits))

-- three numbers that were joined are cut again
three_again : (num at len : ℕ) → num < 2 ^ 64 → at < 2 ^ 64 → len < 2 ^ 64 → parts_at 58 (join_with_byte 58 (decimal num ∷ decimal at ∷ decimal len ∷ [])) ≡ decimal num ∷ decimal at ∷ decimal len ∷ []
three_again num at len num_fits at_fits len_fits =
    slice_split_at (λ x. eqb x 58) (decimal num) 58 (decimal at ++ 58 ∷ decimal len) (without_colon num num_fits) refl
    ∙ ap (λ (xs : List (List ℕ)). decimal num ∷ xs) (slice_split_at (λ x. eqb x 58) (decimal at) 58 (decimal len) (without_colon at at_fits) refl)
    ∙ ap (λ (xs : List (List ℕ)). decimal num ∷ decimal at ∷ xs) (slice_split_none (λ x. eqb x 58) (decimal len) (without_colon len len_fits))

-- the bounds of a generator's bytes
record AreBounds (num at len : ℕ) : Type 0 where
  pub num_to : num < 256
  pub at_to : at < 2 ^ 42
  pub len_from : 1 ≤ len
  pub len_to : len ≤ 65536

bounds_of : (num at len : ℕ) → is_fill (Fill.Made num at len) ≡ true → AreBounds num at len
bounds_of num at len h =
    let all = both_true _ _ h in
    let first = both_true _ _ all.0 in
    let last = both_true _ _ all.1 in
    record { num_to = ltb-true num 256 first.0; at_to = ltb-true at (2 ^ 42) first.1; len_from = leb-true 1 len last.0; len_to = leb-true len 65536 last.1 }

-- what spells a fill is read as it
pub fill_again : (word : List ℕ) (fill : Fill) → is_fill fill ≡ true → SpellsFill word fill → fill_of word ≡ Some fill
unfolding fill_of listed_of made_of
fill_again word (Fill.Listed bytes) bounds h =
    let few = (both_true (is_piece_len (length bytes)) (list_all is_byte bytes) bounds).0 in
    ap fill_of h.1 ∙ rw (h.2, few) refl
fill_again word (Fill.Made num at len) fits h =
    let bounds = bounds_of num at len fits in
    let num_to : num ≤ 255 = omega (arith, bounds.num_to) in
    let at_to : at ≤ 2 ^ 42 - 1 = omega (arith, bounds.at_to) in
    let len_from = bounds.len_from in
    let len_to = bounds.len_to in
    ap fill_of (h ∙ sym (three (decimal num) (decimal at) (decimal len)))
    ∙ ap made_of (three_again num at len (omega arith) (omega arith) (omega arith))
    ∙ rw (number_again 0 255 num (omega arith) num_to (omega arith), number_again 0 (2 ^ 42 - 1) at (omega arith) at_to (omega arith), number_again 1 65536 len len_from len_to (omega arith)) refl

-- ---- the canonical word of a fill

-- a word that spells the fill, of at most 131,074 bytes
pub record IsFillWord (fill : Fill) (word : List ℕ) : Type 0 where
  pub spelled : SpellsFill word fill
  pub is_word : list_all is_word_byte word ≡ true
  pub short : length word ≤ 131074

listed_len : (bytes : List ℕ) → length bytes ≤ 65536 → length (codes "x:" ++ hex_word bytes) ≤ 131074
listed_len bytes few = omega (arith, few, hex_len bytes)

made_len : (num at len : List ℕ) → length num ≤ 20 → length at ≤ 20 → length len ≤ 20 → length (codes "g:" ++ join_with_byte 58 (num ∷ at ∷ len ∷ [])) ≤ 131074
made_len num at len a b c = omega (arith, a, b, c, length-append num (58 ∷ at ++ 58 ∷ len), length-append at (58 ∷ len))

made_clean : (num at len : List ℕ) → list_all is_word_byte num ≡ true → list_all is_word_byte at ≡ true → list_all is_word_byte len ≡ true → list_all is_word_byte (codes "g:" ++ join_with_byte 58 (num ∷ at ∷ len ∷ [])) ≡ true
made_clean num at len a b c =
    let behind = list_all-append is_word_byte at (58 ∷ len) ∙ and_true _ _ b (and_true _ _ refl c) in
    and_true _ _ refl (and_true _ _ refl (list_all-append is_word_byte num (58 ∷ at ++ 58 ∷ len) ∙ and_true _ _ a (and_true _ _ refl behind)))

number_len : (n : ℕ) → n < 2 ^ 64 → length (decimal n) ≤ 20
number_len n fits = length-decimal-le 20 n (omega arith) (omega arith) fits

-- the canonical word of a fill is such a word
pub fill_word_is : (fill : Fill) → is_fill fill ≡ true → IsFillWord fill (fill_word fill)
fill_word_is (Fill.Listed bytes) h =
    let both = both_true (is_piece_len (length bytes)) (list_all is_byte bytes) h in
    record {
      spelled = (hex_word bytes, refl, ap decode_of (hex_is bytes both.1) ∙ decode_of-encode_lower bytes (bytes_are bytes both.1));
      is_word = and_true _ _ refl (and_true _ _ refl (hex_clean bytes both.1));
      short = listed_len bytes (leb-true (length bytes) 65536 (both_true _ _ both.0).1);
    }
fill_word_is (Fill.Made num at len) h =
    let bounds = bounds_of num at len h in
    let num_to : num < 2 ^ 64 = omega (arith, bounds.num_to) in
    let at_to : at < 2 ^ 64 = omega (arith, bounds.at_to) in
    let len_to : len < 2 ^ 64 = omega (arith, bounds.len_to) in
    let text = three (decimal num) (decimal at) (decimal len) in
    record {
      spelled = refl;
      is_word = subst (λ x. list_all is_word_byte x ≡ true) text (made_clean (decimal num) (decimal at) (decimal len) (number_word num num_to) (number_word at at_to) (number_word len len_to));
      short = subst (λ x. length x ≤ 131074) text (made_len (decimal num) (decimal at) (decimal len) (number_len num num_to) (number_len at at_to) (number_len len len_to));
    }
