-- How the words of an event are read.
use Rattle.std.specs.Prelude.{ℕ, ◌^◌, ◌-◌, Bool, not, ◌&&◌, ◌==◌, nat_lt, nat_le, List, [], ◌∷◌, length, slice_index, codes, Option, None, Some, if◌then◌else◌, option_map, option_and_then}
use Rattle.std.specs.List.{list_all}
use Rattle.std.specs.Result.{result_ok}
use Rattle.std.specs.Char.{is_ascii_digit}
use Rattle.std.specs.Str.{bytes_eq}
use Rattle.std.specs.Str.Parse.{digits_value}
use Rattle.hex.specs.Hex.{decode_of}
use Rattle.percent_encoding.specs.Percent.{percent_decode}
use Rattle.fs_model.specs.PathForm.{is_label}
use Rattle.fs_model.specs.PathText.{parts_at, read_path}
use Rattle.fs_model.specs.Spelled.{is_piece_len}
use Rattle.fs_model.specs.declared.event.Event.{Event}
use Rattle.fs_model.specs.declared.event.Fill.{Fill}
use Rattle.fs_model.specs.declared.event.WriteType.{WriteType}
use Rattle.fs_model.specs.declared.event.ReadType.{ReadType}

-- the next step with what was read, where something was
infixl 10 ◌>>=◌
abbrev pub ◌>>=◌ : {A B : Type 0} → Option A → (A → Option B) → Option B
o >>= f = option_and_then f o

-- ---- arguments

-- digits alone, one or more, and no needless zero in front
unfoldable pub is_number : List ℕ → Bool
is_number word = nat_lt 0 (length word) && not (nat_lt 1 (length word) && slice_index word 0 == 48) && list_all is_ascii_digit word

-- the number from `least` to `most` that a word is
unfoldable pub number_of : ℕ → ℕ → List ℕ → Option ℕ
number_of least most word = if is_number word && nat_le least (digits_value 10 word) && nat_le (digits_value 10 word) most then Some (digits_value 10 word) else None

-- the label that a word is
unfoldable pub label_of : List ℕ → Option (List ℕ)
label_of word = if is_label word then Some word else None

-- the path that a word stands for, once its escapes are decoded
unfoldable pub path_of : List ℕ → Option (List (List ℕ))
path_of word = result_ok (read_path (percent_decode word))

-- how a file is written; types that aren't built have no word
unfoldable pub write_type_of : List ℕ → Option WriteType
write_type_of word = if bytes_eq word (codes "MUST_CACHE") then Some WriteType.MustCache else None

-- how a file is read; types that aren't built have no word
unfoldable pub read_type_of : List ℕ → Option ReadType
read_type_of word = if bytes_eq word (codes "NO_CACHE") then Some ReadType.NoCache else None

-- the bytes of hexadecimal digits in either case, where they are as many as one call may move
unfoldable pub listed_of : List ℕ → Option Fill
listed_of digits = do
  bytes ← result_ok (decode_of digits)
  if is_piece_len (length bytes) then Some (Fill.Listed bytes) else None

-- a generator, a place and a length
unfoldable pub made_of : List (List ℕ) → Option Fill
made_of (num ∷ at ∷ len ∷ []) = do
  n ← number_of 0 255 num
  a ← number_of 0 (2 ^ 42 - 1) at
  l ← number_of 1 65536 len
  Some (Fill.Made n a l)
made_of _ = None

-- the bytes of `x:` and digits, or of `g:` and three numbers with a colon between them
unfoldable pub fill_of : List ℕ → Option Fill
fill_of [] = None
fill_of (a ∷ []) = None
fill_of (a ∷ b ∷ rest) = if a == 120 && b == 58 then listed_of rest else (if a == 103 && b == 58 then made_of (parts_at 58 rest) else None)

-- ---- events, by what stands behind their first word

-- the path that the only word stands for
unfoldable pub only_path : List (List ℕ) → Option (List (List ℕ))
only_path (word ∷ []) = path_of word
only_path _ = None

-- the label that the only word is
unfoldable pub only_label : List (List ℕ) → Option (List ℕ)
only_label (word ∷ []) = label_of word
only_label _ = None

-- `mkdir P`
unfoldable pub mkdir_of : List (List ℕ) → Option Event
mkdir_of words = option_map (λ p. Event.Mkdir p) (only_path words)

-- `ls P`
unfoldable pub list_of : List (List ℕ) → Option Event
list_of words = option_map (λ p. Event.List p) (only_path words)

-- `stat P`
unfoldable pub stat_of : List (List ℕ) → Option Event
stat_of words = option_map (λ p. Event.Stat p) (only_path words)

-- `create L P T W`; a worker is named, since no type that needs none is built
unfoldable pub create_of : List (List ℕ) → Option Event
create_of (label ∷ path ∷ kind ∷ worker ∷ []) = do
  l ← label_of label
  p ← path_of path
  k ← write_type_of kind
  w ← number_of 1 1000 worker
  Some (Event.Create l p k w)
create_of _ = None

-- `room L`
unfoldable pub room_of : List (List ℕ) → Option Event
room_of words = option_map (λ l. Event.Room l) (only_label words)

-- `put L F`
unfoldable pub put_of : List (List ℕ) → Option Event
put_of (label ∷ fill ∷ []) = do
  l ← label_of label
  f ← fill_of fill
  Some (Event.Put l f)
put_of _ = None

-- `done L`
unfoldable pub finish_of : List (List ℕ) → Option Event
finish_of words = option_map (λ l. Event.Finish l) (only_label words)

-- `open L P R W`
unfoldable pub open_of : List (List ℕ) → Option Event
open_of (label ∷ path ∷ kind ∷ worker ∷ []) = do
  l ← label_of label
  p ← path_of path
  k ← read_type_of kind
  w ← number_of 0 1000 worker
  Some (Event.OpenFile l p k w)
open_of _ = None

-- `next L`
unfoldable pub next_of : List (List ℕ) → Option Event
next_of words = option_map (λ l. Event.Next l) (only_label words)

-- `poll L N`
unfoldable pub poll_of : List (List ℕ) → Option Event
poll_of (label ∷ limit ∷ []) = do
  l ← label_of label
  n ← number_of 1 65536 limit
  Some (Event.Poll l n)
poll_of _ = None

-- `close L`
unfoldable pub close_of : List (List ℕ) → Option Event
close_of words = option_map (λ l. Event.Close l) (only_label words)

-- `checkpoint`
unfoldable pub checkpoint_of : List (List ℕ) → Option Event
checkpoint_of [] = Some Event.Checkpoint
checkpoint_of _ = None

-- `fuse K`
unfoldable pub fuse_of : List (List ℕ) → Option Event
fuse_of (calls ∷ []) = do
  n ← number_of 0 (2 ^ 63 - 1) calls
  Some (Event.Fuse n)
fuse_of _ = None

-- ---- events, by their first word

-- a first word, and how the words behind it are read
abbrev pub Reader : Type 0
Reader = List ℕ × (List (List ℕ) → Option Event)

-- the words that are built
abbrev pub readers : List Reader
readers =
    (codes "mkdir", mkdir_of) ∷ (codes "create", create_of) ∷ (codes "ls", list_of) ∷ (codes "stat", stat_of) ∷ (codes "room", room_of) ∷ (codes "put", put_of)
    ∷ (codes "done", finish_of) ∷ (codes "open", open_of) ∷ (codes "next", next_of) ∷ (codes "poll", poll_of) ∷ (codes "close", close_of)
    ∷ (codes "checkpoint", checkpoint_of) ∷ (codes "fuse", fuse_of) ∷ []

-- what the reader of this first word says
abbrev pub read_by : List Reader → List ℕ → List (List ℕ) → Option Event
read_by [] verb words = None
read_by (r ∷ rs) verb words = if bytes_eq verb r.0 then r.1 words else read_by rs verb words

-- the event of a first word and those behind it
unfoldable pub event_of : List (List ℕ) → Option Event
event_of [] = None
event_of (verb ∷ words) = read_by readers verb words
