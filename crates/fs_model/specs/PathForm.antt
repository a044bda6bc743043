-- What names, labels, paths and keys are, as bytes and lists of bytes. No type of this crate is named here.
use Rattle.std.specs.Prelude.{ℕ, Bool, true, not, ◌&&◌, ◌||◌, ◌==◌, nat_lt, nat_le, nat_eq, List, [], ◌∷◌, length, drop, codes}
use Rattle.std.specs.List.{list_all, flat_map, starts_with}
use Rattle.std.specs.Char.{is_ascii_lowercase, is_ascii_digit}
use Rattle.std.specs.Str.{bytes_eq, is_utf8}

-- what a byte of a name may be: no slash and no zero
abbrev pub is_name_byte : ℕ → Bool
is_name_byte b = not (b == 47) && not (b == 0)

-- the names that the file layer keeps to itself: `.`, `..` and those that begin with `.tierfs`
abbrev pub is_kept_name : List ℕ → Bool
is_kept_name bytes = bytes_eq bytes (46 ∷ []) || bytes_eq bytes (46 ∷ 46 ∷ []) || starts_with nat_eq bytes (codes ".tierfs")

-- a name is 1 to 255 such bytes of UTF-8 that aren't kept
abbrev pub is_name : List ℕ → Bool
is_name bytes = nat_lt 0 (length bytes) && nat_le (length bytes) 255 && list_all is_name_byte bytes && is_utf8 bytes && not (is_kept_name bytes)

-- a slash before each name
abbrev pub names_text : List (List ℕ) → List ℕ
names_text ns = flat_map (λ n. 47 ∷ n) ns

-- the text of a path: `/`, or a slash before each name
abbrev pub path_text : List (List ℕ) → List ℕ
path_text [] = 47 ∷ []
path_text (n ∷ ns) = names_text (n ∷ ns)

-- a path is names whose text has at most 4,096 bytes
abbrev pub is_path : List (List ℕ) → Bool
is_path names = list_all is_name names && nat_le (length (path_text names)) 4096

-- what a byte of a label may be: a lower-case letter or a digit
abbrev pub is_label_byte : ℕ → Bool
is_label_byte b = is_ascii_lowercase b || is_ascii_digit b

-- a label is 1 to 16 such bytes
abbrev pub is_label : List ℕ → Bool
is_label bytes = nat_lt 0 (length bytes) && nat_le (length bytes) 16 && list_all is_label_byte bytes

-- the first name of a reserved key
abbrev pub reserved_name : List ℕ
reserved_name = codes ".tierfs"

-- the text of a key: its names with a slash between them
abbrev pub key_text : List (List ℕ) → List ℕ
key_text ns = drop 1 (names_text ns)

-- names of a key, of which the first may also be the reserved one
abbrev pub are_key_names : List (List ℕ) → Bool
are_key_names [] = true
are_key_names (n ∷ ns) = (is_name n || bytes_eq n reserved_name) && list_all is_name ns

-- a key is such names whose text has at most 8,192 bytes
abbrev pub is_key : List (List ℕ) → Bool
is_key names = are_key_names names && nat_le (length (key_text names)) 8192

-- a key that a user may give: not reserved, in at most 4,096 bytes
abbrev pub is_plain_key : List (List ℕ) → Bool
is_plain_key names = list_all is_name names && nat_le (length (key_text names)) 4096
