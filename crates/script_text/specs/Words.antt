-- The words of scripts and lines that stand for names, paths, keys and bytes, in their one canonical spelling.
use Rattle.std.specs.Prelude.{ℕ, ◌/◌, ◌%◌, Bool, true, false, ◌||◌, ◌==◌, List, [], ◌∷◌, ◌++◌, codes, if◌then◌else◌}
use Rattle.std.specs.List.{flat_map}
use Rattle.std.specs.Char.{is_ascii_alphanumeric}
use Rattle.std.specs.Fmt.{digit_glyph}
use Rattle.std.specs.Str.{bytes_eq}

-- a letter, a digit, `.`, `_` or `-`
abbrev pub is_plain : ℕ → Bool
is_plain b = is_ascii_alphanumeric b || b == 46 || b == 95 || b == 45

-- a byte of a name: as it is where it is plain, else `%` and its two upper-case hexadecimal digits
abbrev pub byte_word : ℕ → List ℕ
byte_word b = if is_plain b then b ∷ [] else 37 ∷ digit_glyph true (b / 16) ∷ digit_glyph true (b % 16) ∷ []

-- a name, byte by byte
abbrev pub name_word : List ℕ → List ℕ
name_word name = flat_map byte_word name

-- a slash before each name
abbrev pub names_word : List (List ℕ) → List ℕ
names_word names = flat_map (λ n. 47 ∷ name_word n) names

-- a path: `/`, or a slash before each name
abbrev pub path_word : List (List ℕ) → List ℕ
path_word [] = 47 ∷ []
path_word (n ∷ ns) = names_word (n ∷ ns)

-- the first name of a key; the key whose one name is `-` is told apart from the empty one
abbrev pub first_word : List ℕ → List (List ℕ) → List ℕ
first_word n [] = if bytes_eq n (codes "-") then codes "%2D" else name_word n
first_word n (m ∷ ns) = name_word n

-- a key: `-` where it is empty, else its names with a slash between them
abbrev pub key_word : List (List ℕ) → List ℕ
key_word [] = codes "-"
key_word (n ∷ ns) = first_word n ns ++ names_word ns

-- bytes, each by its two lower-case hexadecimal digits
abbrev pub hex_word : List ℕ → List ℕ
hex_word bytes = flat_map (λ b. digit_glyph false (b / 16) ∷ digit_glyph false (b % 16) ∷ []) bytes

-- a space before each word
abbrev pub spaced : List (List ℕ) → List ℕ
spaced words = flat_map (λ w. 32 ∷ w) words
