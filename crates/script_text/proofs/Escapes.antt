-- Percent-encoding with this crate's set spells a name, and decoding reads it back.
use Rattle.std.proofs.Common.{◌≡◌, ℕ, zero, suc, ◌*◌, ◌<◌, ◌≤◌, Bool, true, false, nat_le, ◌&&◌, List, [], ◌∷◌, ◌++◌, length, refl, sym, ap, ◌∙◌, subst, arith, eqb, ⊎_elim, append_assoc, length-append, leb-true}
use Rattle.std.specs.List.{All, list_all}
use Rattle.std.specs.Str.{bytes_eq}
use Rattle.std.proofs.lemmas.Bool.{cases_Bool, eqb-true, eqb-false, cond-true, cond-false}
use Rattle.std.proofs.lemmas.Slice.Eq.{bytes_eq-Decides}
use Rattle.std.proofs.lemmas.List.Elements.{All-head, All-tail}
use Rattle.std.proofs.lemmas.List.Folds.{list_all-append}
use Rattle.percent_encoding.specs.AsciiSet.{should_percent_encode}
use Rattle.percent_encoding.specs.Percent.{percent_encode, percent_decode, encode_byte, percent_encode_byte}
use Rattle.percent_encoding.proofs.PercentLemmas.{IsByte, percent_decode-percent_encode_byte, percent_decode_not_percent}
use Rattle.script_text.specs.declared.word.TheConstants.{ESCAPED}
use Rattle.script_text.specs.Words.{byte_word, name_word}
use Rattle.script_text.specs.ScriptForm.{is_word_byte}
use Rattle.script_text.proofs.Bools.{both_true, and_true}

-- the spelling of a byte is its encoding, in at most three bytes of words
abbrev is_fine : ℕ → Bool
is_fine b = bytes_eq (encode_byte ESCAPED b) (byte_word b) && (list_all is_word_byte (byte_word b) && nat_le (length (byte_word b)) 3)

-- the test holds of each number below n
abbrev pub all_below : (ℕ → Bool) → ℕ → Bool
all_below test zero = true
all_below test (suc n) = test n && all_below test n

computed : all_below is_fine 256 ≡ true
unfolding should_percent_encode percent_encode_byte
computed = refl

pub holds_below : (test : ℕ → Bool) (n b : ℕ) → all_below test n ≡ true → b < n → test b ≡ true
holds_below test zero b h less = absurd (omega arith)
holds_below test (suc n) b h less =
    let parts = both_true (test n) (all_below test n) h in
    ⊎_elim
    (λ e. subst (λ x. test x ≡ true) (sym (eqb-true b n e)) parts.0)
    (λ e. holds_below test n b parts.1 (below b n less (eqb-false b n e)))
    (cases_Bool (eqb b n))
  where
    below : (b n : ℕ) → b < suc n → (b ≡ n → ⊥) → b < n
    below b n less other = grind arith

fine : (b : ℕ) → b < 256 → is_fine b ≡ true
fine b small = holds_below is_fine 256 b computed small

pub encodes_byte : (b : ℕ) → b < 256 → encode_byte ESCAPED b ≡ byte_word b
encodes_byte b small = (bytes_eq-Decides _ _).0 (both_true _ _ (fine b small)).0

-- a name is spelled by the encoding of its bytes
pub encodes_name : (name : List ℕ) → All IsByte name → percent_encode ESCAPED name ≡ name_word name
unfolding percent_encode
encodes_name [] small = refl
encodes_name (b ∷ bs) small = rw (encodes_byte b (All-head IsByte b bs small), encodes_name bs (All-tail IsByte b bs small)) refl

no_percent : (b : ℕ) → b ≡ 37 → should_percent_encode ESCAPED b ≡ false → ⊥
unfolding should_percent_encode
no_percent b percent e = let k : should_percent_encode ESCAPED 37 ≡ false = subst (λ x. should_percent_encode ESCAPED x ≡ false) percent e in cc

-- the spelling of a byte is read back
decodes_byte : (b : ℕ) (rest : List ℕ) → b < 256 → percent_decode (byte_word b ++ rest) ≡ b ∷ percent_decode rest
decodes_byte b rest small =
    ap (λ x. percent_decode (x ++ rest)) (sym (encodes_byte b small))
    ∙ ⊎_elim
    (λ e. ap (λ x. percent_decode (x ++ rest)) (cond-true _ _ _ e) ∙ percent_decode-percent_encode_byte b rest small)
    (λ e. ap (λ x. percent_decode (x ++ rest)) (cond-false _ _ _ e) ∙ percent_decode_not_percent b rest (λ percent. no_percent b percent e))
    (cases_Bool (should_percent_encode ESCAPED b))

-- the spelling of a name is read back
pub decodes_name : (name rest : List ℕ) → All IsByte name → percent_decode (name_word name ++ rest) ≡ name ++ percent_decode rest
decodes_name [] rest small = refl
decodes_name (b ∷ bs) rest small =
    ap percent_decode (append_assoc (byte_word b) (name_word bs) rest)
    ∙ decodes_byte b (name_word bs ++ rest) (All-head IsByte b bs small)
    ∙ ap (λ x. b ∷ x) (decodes_name bs rest (All-tail IsByte b bs small))

-- it is bytes of words
pub word_bytes : (name : List ℕ) → All IsByte name → list_all is_word_byte (name_word name) ≡ true
word_bytes [] small = refl
word_bytes (b ∷ bs) small =
    let here = both_true _ _ (both_true _ _ (fine b (All-head IsByte b bs small))).1 in
    list_all-append is_word_byte (byte_word b) (name_word bs) ∙ and_true _ _ here.0 (word_bytes bs (All-tail IsByte b bs small))

byte_len : (b : ℕ) → b < 256 → length (byte_word b) ≤ 3
byte_len b small = leb-true (length (byte_word b)) 3 (both_true _ _ (both_true _ _ (fine b small)).1).1

-- it is at most three times as long
pub word_len : (name : List ℕ) → All IsByte name → length (name_word name) ≤ 3 * length name
word_len [] small = omega arith
word_len (b ∷ bs) small =
    omega (arith, byte_len b (All-head IsByte b bs small), word_len bs (All-tail IsByte b bs small), length-append (byte_word b) (name_word bs))
