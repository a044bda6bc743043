-- The word of a path in its canonical spelling.
use Rattle.std.proofs.Common.{◌≡◌, ℕ, ◌*◌, ◌<◌, ◌≤◌, true, ltb, nat_le, List, [], ◌∷◌, ◌++◌, length, refl, ap, ◌∙◌, subst, arith, ⊎_elim, length-append, leb-true, ltb-true}
use Rattle.std.specs.List.{All, list_all}
use Rattle.std.specs.Str.{IsUtf8}
use Rattle.std.proofs.lemmas.Bool.{cond_both}
use Rattle.std.proofs.lemmas.Str.{IsUtf8-from_is_utf8}
use Rattle.std.proofs.lemmas.List.Elements.{All-nil, All-cons, All-append}
use Rattle.std.proofs.lemmas.List.Folds.{list_all-append}
use lib.Utf8.{encode, encodes, scalar, scalars, scalar_cases}
use Rattle.percent_encoding.specs.Percent.{percent_decode}
use Rattle.percent_encoding.proofs.PercentLemmas.{IsByte, percent_decode_not_percent, percent_decode-nil}
use Rattle.fs_model.specs.PathForm.{is_name, is_path, names_text, path_text}
use Rattle.script_text.specs.Words.{name_word, names_word, path_word}
use Rattle.script_text.specs.ScriptForm.{is_word_byte}
use Rattle.script_text.proofs.Bools.{both_true, and_true}
use Rattle.script_text.proofs.Escapes.{decodes_name, word_bytes, word_len}

-- ---- names are bytes

bytes_2 : (a b : ℕ) → a < 256 → b < 256 → All IsByte (a ∷ b ∷ [])
bytes_2 a b ha hb = All-cons IsByte a (b ∷ []) ha (All-cons IsByte b [] hb (All-nil IsByte))

bytes_3 : (a b c : ℕ) → a < 256 → b < 256 → c < 256 → All IsByte (a ∷ b ∷ c ∷ [])
bytes_3 a b c ha hb hc = All-cons IsByte a (b ∷ c ∷ []) ha (bytes_2 b c hb hc)

bytes_4 : (a b c d : ℕ) → a < 256 → b < 256 → c < 256 → d < 256 → All IsByte (a ∷ b ∷ c ∷ d ∷ [])
bytes_4 a b c d ha hb hc hd = All-cons IsByte a (b ∷ c ∷ d ∷ []) ha (bytes_3 b c d hb hc hd)

encode_bytes : (c : ℕ) → c < 1114112 → All IsByte (encode c)
unfolding encode
encode_bytes c fits =
    cond_both (ltb c 128) _ _ (All IsByte)
    (λ e. All-cons IsByte c [] (omega (arith, ltb-true c 128 e)) (All-nil IsByte))
    (λ _. cond_both (ltb c 2048) _ _ (All IsByte)
    (λ e. let h = ltb-true c 2048 e in bytes_2 _ _ (omega arith) (omega arith))
    (λ _. cond_both (ltb c 65536) _ _ (All IsByte)
    (λ e. let h = ltb-true c 65536 e in bytes_3 _ _ _ (omega arith) (omega arith) (omega arith))
    (λ _. bytes_4 _ _ _ _ (omega arith) (omega arith) (omega arith) (omega arith))))

scalar_small : (c : ℕ) → scalar c ≡ true → c < 1114112
scalar_small c h = ⊎_elim (λ (l : c < 55296). omega arith) (λ (r : (57344 ≤ c) × (c < 1114112)). omega arith) (scalar_cases c h)

encodes_bytes : (cs : List ℕ) → scalars cs ≡ true → All IsByte (encodes cs)
encodes_bytes [] h = All-nil IsByte
encodes_bytes (c ∷ cs) h =
    let parts = both_true _ _ h in
    All-append IsByte (encode c) (encodes cs) (encode_bytes c (scalar_small c parts.0)) (encodes_bytes cs parts.1)

utf8_bytes : (bs : List ℕ) → IsUtf8 bs → All IsByte bs
utf8_bytes bs u = subst (All IsByte) u.1.1 (encodes_bytes u.0 u.1.0)

name_bytes : (n : List ℕ) → is_name n ≡ true → All IsByte n
name_bytes n h = utf8_bytes n (IsUtf8-from_is_utf8 n (both_true _ _ (both_true _ _ h).0).1)

-- ---- names behind slashes

decodes_slash : (rest : List ℕ) → percent_decode (47 ∷ rest) ≡ 47 ∷ percent_decode rest
decodes_slash rest = percent_decode_not_percent 47 rest (λ e. omega arith)

decodes_names : (ns : List (List ℕ)) → list_all is_name ns ≡ true → percent_decode (names_word ns) ≡ names_text ns
decodes_names [] h = percent_decode-nil
decodes_names (n ∷ ns) h =
    let parts = both_true _ _ h in
    decodes_slash (name_word n ++ names_word ns)
    ∙ ap (λ x. 47 ∷ x) (decodes_name n (names_word ns) (name_bytes n parts.0) ∙ ap (λ x. n ++ x) (decodes_names ns parts.1))

names_bytes : (ns : List (List ℕ)) → list_all is_name ns ≡ true → list_all is_word_byte (names_word ns) ≡ true
names_bytes [] h = refl
names_bytes (n ∷ ns) h =
    let parts = both_true _ _ h in
    list_all-append is_word_byte (name_word n) (names_word ns) ∙ and_true _ _ (word_bytes n (name_bytes n parts.0)) (names_bytes ns parts.1)

names_len : (ns : List (List ℕ)) → list_all is_name ns ≡ true → length (names_word ns) ≤ 3 * length (names_text ns)
names_len [] h = omega arith
names_len (n ∷ ns) h =
    let parts = both_true (is_name n) (list_all is_name ns) h in
    omega (arith, word_len n (name_bytes n parts.0), names_len ns parts.1, length-append (name_word n) (names_word ns), length-append n (names_text ns))

-- ---- paths

-- the word of a path stands for the path
pub decodes_path : (p : List (List ℕ)) → is_path p ≡ true → percent_decode (path_word p) ≡ path_text p
decodes_path [] h = decodes_slash [] ∙ ap (λ x. 47 ∷ x) percent_decode-nil
decodes_path (n ∷ ns) h = decodes_names (n ∷ ns) (both_true _ _ h).0

-- it is a word
pub path_bytes : (p : List (List ℕ)) → is_path p ≡ true → list_all is_word_byte (path_word p) ≡ true
path_bytes [] h = refl
path_bytes (n ∷ ns) h = names_bytes (n ∷ ns) (both_true _ _ h).0

-- it is not long
pub path_len : (p : List (List ℕ)) → is_path p ≡ true → length (path_word p) ≤ 12288
path_len [] h = omega arith
path_len (n ∷ ns) h =
    let parts = both_true (list_all is_name (n ∷ ns)) (nat_le (length (path_text (n ∷ ns))) 4096) h in
    omega (arith, names_len (n ∷ ns) parts.0, leb-true (length (path_text (n ∷ ns))) 4096 parts.1)
