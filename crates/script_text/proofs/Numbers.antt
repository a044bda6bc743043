-- Numbers without sign and without needless zeros.
use Rattle.std.proofs.Common.{◌≡◌, ℕ, ◌-◌, ◌^◌, ◌<◌, ◌≤◌, Bool, true, false, not, cond, nat_lt, nat_le, ◌&&◌, ◌==◌, List, [], ◌∷◌, length, slice_index, Some, None, Result, Ok, Err, decimal, ◌≢◌, refl, sym, ap, ◌∙◌, subst, arith, rules, leb-true, le-leb, ⊎_elim}
use Rattle.std.specs.List.{list_all}
use Rattle.std.specs.Result.{result_ok, OkIff}
use Rattle.std.specs.Char.{is_ascii_digit}
use Rattle.std.specs.Str.Parse.{digits_value, ParsesUnsigned}
use Rattle.std.proofs.lemmas.Bool.{cases_eq, cond-true, ltb-true, ltb-false, lt-ltb, eq-eqb}
use Rattle.std.proofs.lemmas.Bool.Decides.{nat_tests}
use Rattle.std.proofs.lemmas.Fmt.{digits_decimal, digits_value-decimal, decimal-digits_value, decimal_digit, decimal_nonempty, first_decimal, IsAscii-from_digits}
use Rattle.std.proofs.lemmas.Str.{IsUtf8-from_ascii}
use Rattle.std.specs.Str.{IsUtf8}
use Rattle.std.proofs.lemmas.Str.Parse.{IsNumeralModel, numerals_by_value, parse_digits}
use Rattle.script_text.specs.ScriptForm.{is_word_byte}
use Rattle.script_text.specs.EventText.{is_number, number_of}
use Rattle.script_text.proofs.Bools.{both_true, and_true}
use Rattle.script_text.proofs.Options.{let_through}

own : IsNumeralModel (λ ds. list_all is_ascii_digit ds ≡ true) (digits_value 10)
own = numerals_by_value _ (search rules)

-- ---- what is read is the digits of the number

-- a zero that nothing more follows is one digit
one_digit : (more zero : Bool) (len : ℕ) → not (more && zero) ≡ true → (more ≡ false → len ≤ 1) → 0 < len → zero ≡ true → len ≡ 1
one_digit true true len h few some e = cc
one_digit true false len h few some e = cc
one_digit false zero len h few some e = let k = few refl in omega arith

-- a word that is the digits of the number, which lies within its bounds
pub record IsNumber (least most : ℕ) (word : List ℕ) (n : ℕ) : Type 0 where
  pub from_least : least ≤ n
  pub to_most : n ≤ most
  pub word_is : word ≡ decimal n

pub number_found : (least most : ℕ) (word : List ℕ) (n : ℕ) → most < 2 ^ 64 → number_of least most word ≡ Some n → IsNumber least most word n
unfolding is_number number_of
number_found least most word n fits h =
    let v : ℕ = digits_value 10 word in
    let through = let_through _ v n h in
    let bounds = both_true _ _ through.0 in
    let low = both_true _ _ bounds.0 in
    let digits = both_true _ _ low.0 in
    let padded = both_true _ _ digits.0 in
    let some = ltb-true 0 (length word) padded.0 in
    let from : least ≤ v = leb-true least v low.1 in
    let to : v ≤ most = leb-true v most bounds.1 in
    let text = decimal-digits_value own word digits.1 some (λ e. one_digit _ _ (length word) padded.1 (λ k. ltb-false 1 (length word) k) some (eq-eqb (slice_index word 0) 48 e)) (omega arith) in
    subst (λ x. IsNumber least most word x) through.1 (record { from_least = from; to_most = to; word_is = sym text })

-- ---- the digits of a number are read

unpadded : (more zero : Bool) → zero ≡ false → not (more && zero) ≡ true
unpadded true zero h = ap not h
unpadded false zero h = refl

-- the first digit of a number above 0 isn't 0
no_zero : (n : ℕ) → n < 2 ^ 64 → not (nat_lt 1 (length (decimal n)) && slice_index (decimal n) 0 == 48) ≡ true
no_zero n fits =
    ⊎_elim
    (λ (e : n ≡ 0). subst (λ (ds : List ℕ). not (nat_lt 1 (length ds) && slice_index ds 0 == 48) ≡ true) (sym (ap decimal e ∙ decimal_digit 0 (omega arith))) refl)
    (λ (e : n ≢ 0). unpadded (nat_lt 1 (length (decimal n))) (slice_index (decimal n) 0 == 48) (other (slice_index (decimal n) 0) (first_decimal n (omega arith) fits)))
    (cases_eq n 0)
  where
    other : (d : ℕ) → 48 < d → (d == 48) ≡ false
    other d more = grind (arith, nat_tests)

is_number-decimal : (n : ℕ) → n < 2 ^ 64 → is_number (decimal n) ≡ true
unfolding is_number
is_number-decimal n fits = and_true _ _ (and_true _ _ (lt-ltb 0 (length (decimal n)) (decimal_nonempty n fits)) (no_zero n fits)) (digits_decimal own n fits)

pub number_again : (least most n : ℕ) → least ≤ n → n ≤ most → most < 2 ^ 64 → number_of least most (decimal n) ≡ Some n
unfolding number_of
number_again least most n from to fits =
    let value = digits_value-decimal own n (omega arith) in
    let low = subst (λ x. nat_le least x ≡ true) (sym value) (le-leb least n from) in
    let high = subst (λ x. nat_le x most ≡ true) (sym value) (le-leb n most to) in
    cond-true _ _ _ (and_true _ _ (and_true _ _ (is_number-decimal n (omega arith)) low) high) ∙ ap (λ (x : ℕ). Some x) value

-- ---- what std reads

is_digits : (word : List ℕ) → is_number word ≡ true → list_all is_ascii_digit word ≡ true
unfolding is_number
is_digits word h = (both_true _ _ h).1

is_some : (word : List ℕ) → is_number word ≡ true → 0 < length word
unfolding is_number
is_some word h = ltb-true 0 (length word) (both_true _ _ (both_true _ _ h).0).0

-- a number is text
pub is_text : (word : List ℕ) → is_number word ≡ true → IsUtf8 word
is_text word h = IsUtf8-from_ascii word (IsAscii-from_digits word (own.to word (is_digits word h)))

ok_where : {E : Type 0} (r : Result ℕ E) (P : Type 0) (v : ℕ) (test : Bool) → OkIff r P v → (P → test ≡ true) → (test ≡ true → P) → result_ok r ≡ cond test (Some v) None
ok_where (Ok x) P v test h to from = ap (λ (y : ℕ). Some y) h.1 ∙ sym (cond-true test (Some v) None (to h.0))
ok_where (Err e) P v true h to from = absurd (h (from refl))
ok_where (Err e) P v false h to from = refl

-- what `parse` gives of a number is the number, where it is below 2^64
pub parsed : {E : Type 0} (word : List ℕ) (r : Result ℕ E) → is_number word ≡ true → ParsesUnsigned 64 10 word r → result_ok r ≡ number_of 0 (2 ^ 64 - 1) word
unfolding number_of
parsed word r h p =
    let v : ℕ = digits_value 10 word in
    ok_where r ((0 < length word) × (v < 2 ^ 64)) v (is_number word && nat_le 0 v && nat_le v (2 ^ 64 - 1)) (parse_digits own 64 word r p (is_digits word h))
    (λ k. let below = k.1 in and_true _ _ (and_true _ _ h (le-leb 0 v (omega arith))) (le-leb v (2 ^ 64 - 1) (omega arith)))
    (λ k. let below : v ≤ 2 ^ 64 - 1 = leb-true v (2 ^ 64 - 1) (both_true (is_number word && nat_le 0 v) (nat_le v (2 ^ 64 - 1)) k).1 in (is_some word h, omega arith))

-- ---- words

digit_word : (b : ℕ) → is_ascii_digit b ≡ true → is_word_byte b ≡ true
digit_word b h = grind (arith, nat_tests)

digit_no_colon : (b : ℕ) → is_ascii_digit b ≡ true → not (b == 58) ≡ true
digit_no_colon b h = grind (arith, nat_tests)

digit_no_hash : (b : ℕ) → is_ascii_digit b ≡ true → (b == 35) ≡ false
digit_no_hash b h = grind (arith, nat_tests)

each_passes : (test : ℕ → Bool) → ((b : ℕ) → is_ascii_digit b ≡ true → test b ≡ true) → (ds : List ℕ) → list_all is_ascii_digit ds ≡ true → list_all test ds ≡ true
each_passes test passes [] h = refl
each_passes test passes (d ∷ ds) h =
    let both = both_true _ _ h in
    and_true _ _ (passes d both.0) (each_passes test passes ds both.1)

-- a number is a word
pub number_word : (n : ℕ) → n < 2 ^ 64 → list_all is_word_byte (decimal n) ≡ true
number_word n fits = each_passes is_word_byte digit_word (decimal n) (digits_decimal own n fits)

-- it has no colon
pub number_no_colon : (n : ℕ) → n < 2 ^ 64 → list_all (λ b. not (b == 58)) (decimal n) ≡ true
number_no_colon n fits = each_passes (λ b. not (b == 58)) digit_no_colon (decimal n) (digits_decimal own n fits)

-- a text by its first byte, which begins no comment
pub record BeginsLine (text : List ℕ) : Type 0 where
  pub first : ℕ
  pub rest : List ℕ
  pub text_is : text ≡ first ∷ rest
  pub no_comment : (first == 35) ≡ false

-- it begins no comment
pub number_begins : (n : ℕ) → n < 2 ^ 64 → BeginsLine (decimal n)
number_begins n fits = begins (decimal n) (decimal_nonempty n fits) (digits_decimal own n fits)
  where
    begins : (ds : List ℕ) → 0 < length ds → list_all is_ascii_digit ds ≡ true → BeginsLine ds
    begins [] some h = absurd (omega arith)
    begins (d ∷ ds) some h = record { first = d; rest = ds; text_is = refl; no_comment = digit_no_hash d (both_true _ _ h).0 }
