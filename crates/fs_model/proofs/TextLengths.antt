-- The lengths that are counted for paths, keys and numbers are those of their texts.
use Rattle.std.proofs.Common.{◌≡◌, ◌≢◌, ℕ, zero, suc, pred, ◌+◌, ◌*◌, ◌/◌, ◌%◌, ◌^◌, ◌<◌, ◌≤◌, Bool, true, false, cond, nat_lt, List, [], ◌∷◌, ◌++◌, length, refl, ap, arith, length-append, ◌==◌, pow-suc}
use Rattle.std.proofs.lemmas.Fmt.{AppendsLastDigit, decimal_from_appends_wide, decimal_by_steps_wide}
use Rattle.std.specs.Fmt.{decimal, digits, digits_onto, digit_glyph}
use Rattle.fs_model.specs.declared.path.Path.{Path}
use Rattle.fs_model.specs.declared.prefix.Prefix.{Prefix}
use Rattle.fs_model.specs.PathForm.{names_text, path_text, key_text}
use Rattle.fs_model.specs.Words.{path_bytes, path_len, digits_within, number_text}
use Rattle.fs_model.specs.Changes.{key_len}

path_bytes-names_text : (p : Path) → path_bytes p ≡ length (names_text p)
path_bytes-names_text [] = refl
path_bytes-names_text (x ∷ xs) = omega (arith, path_bytes-names_text xs, length-append (47 ∷ x) (names_text xs))

pub path_len-path_text : (p : Path) → path_len p ≡ length (path_text p)
path_len-path_text [] = refl
path_len-path_text (x ∷ xs) = path_bytes-names_text (x ∷ xs)

pub key_len-key_text : (k : Prefix) → key_len k ≡ length (key_text k)
key_len-key_text [] = refl
key_len-key_text (x ∷ xs) = ap pred (path_bytes-names_text (x ∷ xs))

-- ---- the digits of a number

AppendsLastDigit-digits_within : AppendsLastDigit digits_within
AppendsLastDigit-digits_within = search arith

length-decimal_le_suc : (n : ℕ) → n < 10 ^ 64 → length (decimal n) ≤ suc n
length-decimal_le_suc = decimal_by_steps_wide (λ m ds. length ds ≤ suc m) (λ m l. omega arith) (λ m ds l h. omega (arith, length-append ds ((48 + m % 10) ∷ [])))

-- std's decimal text has at most 64 digits, so it is this one below 10 ^ 64
pub number_text-decimal : (n : ℕ) → n < 10 ^ 64 → number_text n ≡ decimal n
number_text-decimal n small = decimal_from_appends_wide digits_within AppendsLastDigit-digits_within (suc n) n small (length-decimal_le_suc n small)

-- from 10 ^ 64 on it is longer

ten_to_some : (j : ℕ) → 1 ≤ 10 ^ j
ten_to_some zero = omega arith
ten_to_some (suc j) = omega (arith, ten_to_some j, pow-suc 10 j)

length-digits_within : (j k n : ℕ) → 10 ^ j ≤ n → j < k → j < length (digits_within k n)
length-digits_within j zero n large lt = absurd (omega arith)
length-digits_within zero (suc k) n large lt = by (nat_lt n 10)
  where
    by : (b : Bool) → 0 < length (cond b ((48 + n) ∷ []) (digits_within k (n / 10) ++ (48 + n % 10) ∷ []))
    by true = omega arith
    by false = omega (arith, length-append (digits_within k (n / 10)) ((48 + n % 10) ∷ []))
length-digits_within (suc j) (suc k) n large lt =
    let some : 1 ≤ 10 ^ j = ten_to_some j in
    let split : 10 ^ suc j ≡ 10 ^ j * 10 = pow-suc 10 j in
    let front : j < length (digits_within k (n / 10)) = length-digits_within j k (n / 10) (omega arith) (omega arith) in
    omega (arith, ap length (AppendsLastDigit-digits_within.more k n (omega arith)), length-append (digits_within k (n / 10)) ((48 + n % 10) ∷ []))

length-digits_onto : (k n : ℕ) (acc : List ℕ) → length (digits_onto k 10 false n acc) ≤ k + length acc
length-digits_onto zero n acc = omega arith
length-digits_onto (suc k) n acc = by (n / 10 == 0) (length-digits_onto k (n / 10) (digit_glyph false (n % 10) ∷ acc))
  where
    by : (b : Bool) → length (digits_onto k 10 false (n / 10) (digit_glyph false (n % 10) ∷ acc)) ≤ k + suc (length acc)
        → length (cond b (digit_glyph false (n % 10) ∷ acc) (digits_onto k 10 false (n / 10) (digit_glyph false (n % 10) ∷ acc))) ≤ suc k + length acc
    by true rest = omega arith
    by false rest = omega arith

pub number_text_past_decimal : (n : ℕ) → 10 ^ 64 ≤ n → number_text n ≢ decimal n
unfolding digits
number_text_past_decimal n large e =
    let enough : 64 < suc n = omega arith in
    let long : 64 < length (number_text n) = length-digits_within 64 (suc n) n large enough in
    let short : length (decimal n) ≤ 64 + 0 = length-digits_onto 64 n [] in
    absurd (omega (arith, ap length e))
