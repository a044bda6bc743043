-- How the text of an entry is read, from left to right.
use Rattle.std.specs.Prelude.{◌≡◌, ℕ, zero, suc, ◌+◌, Bool, true, false, ◌&&◌, ◌||◌, ◌==◌, nat_lt, nat_le, List, [], ◌∷◌, length, take, drop, Option, Some, None, Result, Ok, Err, option_and_then, if◌then◌else◌}
use Rattle.std.specs.Result.{result_ok}
use Rattle.std.specs.Int.{Width, w16, w32, w64, byte_len, from_be_bytes}
use Rattle.fs_model.specs.PathText.{read_path}
use Rattle.fs_model.specs.KeyText.{read_key}
use Rattle.fs_model.specs.declared.reply.Stored.{Stored}
use Rattle.fs_model.specs.declared.change.PlanKind.{PlanKind}
use Rattle.journal_entry.specs.declared.entry.Entry.{Entry}
use Rattle.journal_entry.specs.declared.fault.Fault.{Fault}
use Rattle.journal_entry.specs.declared.fault.Fault.TheVariants as faults
use Rattle.journal_entry.specs.Fields.{is_file_id, is_plan, is_plan_or_none, is_plan_of, is_next, is_worker, is_move, is_root}
use Rattle.journal_entry.specs.EntryText.{is_node}

-- ---- what a reader of the code answers

-- a fault is that nothing was there; want of memory is free
abbrev pub Fails : {Y : Type 0} → Fault → Option Y → Type 0
Fails faults.NoEntry read = read ≡ None
Fails faults.Memory read = Unit {0}

-- what a function found, as view sees it, is what reading gives, unless memory ran out
abbrev pub Gives : {X Y : Type 0} → (X → Y) → Result X Fault → Option Y → Type 0
Gives view (Ok x) read = read ≡ Some (view x)
Gives view (Err e) read = Fails e read

-- ---- readers

-- a value at the front, and the bytes after it
abbrev pub Reader : Type 0 → Type 0
Reader X = List ℕ → Option (X × List ℕ)

-- the next step with what was read, where something was
infixl 10 ◌>>=◌
abbrev pub ◌>>=◌ : {A B : Type 0} → Option A → (A → Option B) → Option B
o >>= f = option_and_then f o

-- what was read, where it passes the test
abbrev pub tested : {X : Type 0} → (X → Bool) → Reader X → Reader X
tested test read bytes = do
  x ← read bytes
  if test x.0 then Some x else None

-- what was read, as something else, where it stands for something
abbrev pub meaning : {X Y : Type 0} → (X → Option Y) → Reader X → Reader Y
meaning of read bytes = do
  x ← read bytes
  y ← of x.0
  Some (y, x.1)

-- two values, one after the other
infixl 9 ◌then◌
abbrev pub ◌then◌ : {X Y : Type 0} → Reader X → Reader Y → Reader (X × Y)
(first then second) bytes = do
  x ← first bytes
  y ← second x.1
  Some ((x.0, y.0), y.1)

-- ---- fields

-- a number of this width
abbrev pub number_at : Width → Reader ℕ
number_at w bytes = if nat_lt (length bytes) (byte_len w) then None else Some (from_be_bytes w (take (byte_len w) bytes), drop (byte_len w) bytes)

-- a byte
abbrev pub byte_at : Reader ℕ
byte_at [] = None
byte_at (b ∷ rest) = Some (b, rest)

-- so many bytes
abbrev pub part_at : ℕ → Reader (List ℕ)
part_at n bytes = if nat_lt (length bytes) n then None else Some (take n bytes, drop n bytes)

-- a text behind its length
unfoldable pub counted_at : Reader (List ℕ)
counted_at bytes = do
  n ← number_at w16 bytes
  part_at n.0 n.1

-- a path
unfoldable pub path_at : Reader (List (List ℕ))
path_at = meaning (λ text. result_ok (read_path text)) counted_at

-- a key
unfoldable pub key_at : Reader (List (List ℕ))
key_at = meaning read_key counted_at

-- a flag is 0 or 1
abbrev pub flag_of : ℕ → Option Bool
flag_of zero = Some false
flag_of (suc zero) = Some true
flag_of (suc (suc b)) = None

unfoldable pub flag_at : Reader Bool
flag_at = meaning flag_of byte_at

-- whether a node is a directory
abbrev pub node_of : ℕ → Option Bool
node_of zero = Some true
node_of (suc zero) = Some false
node_of (suc (suc b)) = None

unfoldable pub node_at : Reader Bool
node_at = meaning node_of byte_at

-- how a file stands to its under-store
abbrev pub stored_of : ℕ → Option Stored
stored_of zero = Some Stored.No
stored_of (suc zero) = Some Stored.Wanted
stored_of (suc (suc zero)) = Some Stored.Yes
stored_of (suc (suc (suc b))) = None

unfoldable pub stored_at : Reader Stored
stored_at = meaning stored_of byte_at

-- what a plan does
abbrev pub plan_kind_of : ℕ → Option PlanKind
plan_kind_of zero = None
plan_kind_of (suc zero) = Some PlanKind.Move
plan_kind_of (suc (suc zero)) = Some PlanKind.Remove
plan_kind_of (suc (suc (suc zero))) = Some PlanKind.Publish
plan_kind_of (suc (suc (suc (suc zero)))) = Some PlanKind.Load
plan_kind_of (suc (suc (suc (suc (suc b))))) = None

unfoldable pub plan_kind_at : Reader PlanKind
plan_kind_at = meaning plan_kind_of byte_at

-- a file's length
unfoldable pub len_at : Reader ℕ
len_at = number_at w64

-- a store
unfoldable pub store_at : Reader ℕ
store_at = number_at w32

-- a file's id
unfoldable pub id_at : Reader ℕ
id_at = tested is_file_id (number_at w64)

-- a plan
unfoldable pub plan_at : Reader ℕ
plan_at = tested is_plan (number_at w64)

-- a plan, or 0 for none
unfoldable pub plan_or_none_at : Reader ℕ
plan_or_none_at = tested is_plan_or_none (number_at w64)

-- a next number
unfoldable pub next_at : Reader ℕ
next_at = tested is_next (number_at w64)

-- a worker
unfoldable pub worker_at : Reader ℕ
worker_at = tested is_worker (number_at w32)

-- a worker above this number
unfoldable pub above_at : ℕ → Reader ℕ
above_at last = tested (λ w. nat_lt last w && nat_le w 64) (number_at w32)

-- so many workers, each above the one before and above this number
unfoldable pub workers_from : ℕ → ℕ → Reader (List ℕ)
workers_from zero last bytes = Some ([], bytes)
workers_from (suc n) last bytes = do
  w ← above_at last bytes
  ws ← workers_from n w.0 w.1
  Some (w.0 ∷ ws.0, ws.1)

-- 1 to 64 workers behind their number, rising
unfoldable pub workers_at : Reader (List ℕ)
workers_at bytes = do
  n ← tested (λ n. nat_lt 0 n && nat_le n 64) (number_at w16) bytes
  workers_from n.0 0 n.1

-- ---- entries by kind: the fields, and nothing after them

-- the entry that fields make, where all bytes were read
abbrev pub whole : {X : Type 0} → (X → Entry) → Reader X → List ℕ → Option Entry
whole make read bytes = do
  x ← read bytes
  if length x.1 == 0 then Some (make x.0) else None

unfoldable pub mkdir_of : List ℕ → Option Entry
mkdir_of = whole (λ p. Entry.Mkdir p) path_at

unfoldable pub create_of : List ℕ → Option Entry
create_of = whole (λ x. Entry.Create x.0 x.1) (id_at then path_at)

unfoldable pub done_of : List ℕ → Option Entry
done_of = whole (λ x. Entry.Done x.0.0.0 x.0.0.1 x.0.1 x.1) (tested (λ x. is_plan_of x.0.1 x.1) (id_at then len_at then stored_at then number_at w64))

unfoldable pub remove_of : List ℕ → Option Entry
remove_of = whole (λ x. Entry.Remove x.0 x.1) (path_at then plan_or_none_at)

unfoldable pub move_of : List ℕ → Option Entry
move_of = whole (λ x. Entry.Move x.0.0 x.0.1 x.1) (path_at then path_at then plan_or_none_at)

unfoldable pub pin_of : List ℕ → Option Entry
pin_of = whole (λ x. Entry.Pin x.0 x.1) (path_at then flag_at)

unfoldable pub want_of : List ℕ → Option Entry
want_of = whole (λ id. Entry.Want id) id_at

unfoldable pub plan_end_of : List ℕ → Option Entry
plan_end_of = whole (λ plan. Entry.PlanEnd plan) plan_or_none_at

unfoldable pub persisted_of : List ℕ → Option Entry
persisted_of = whole (λ x. Entry.Persisted x.0 x.1) (id_at then plan_at)

unfoldable pub mount_of : List ℕ → Option Entry
mount_of = whole (λ x. Entry.Mount x.0.0.0 x.0.0.1 x.0.1 x.1) (path_at then store_at then key_at then plan_or_none_at)

unfoldable pub unmount_of : List ℕ → Option Entry
unmount_of = whole (λ p. Entry.Unmount p) path_at

unfoldable pub seen_of : List ℕ → Option Entry
seen_of = whole (λ w. Entry.Seen w) worker_at

unfoldable pub lost_of : List ℕ → Option Entry
lost_of = whole (λ ws. Entry.Lost ws) workers_at

unfoldable pub loaded_of : List ℕ → Option Entry
loaded_of = whole (λ x. Entry.Loaded x.0.0 x.0.1 x.1) (id_at then path_at then len_at)

unfoldable pub next_of : List ℕ → Option Entry
next_of = whole (λ x. Entry.Next x.0 x.1) (next_at then next_at)

unfoldable pub row_of : List ℕ → Option Entry
row_of = whole (λ x. Entry.Node x.0.0.0.0.0.0 x.0.0.0.0.0.1 x.0.0.0.0.1 x.0.0.0.1 x.0.0.1 x.0.1 x.1)
    (tested (λ x. is_node x.0.0.0.0.0.1 x.0.0.0.0.1 x.0.0.0.1 x.0.0.1 x.0.1 x.1) (path_at then node_at then number_at w64 then len_at then flag_at then stored_at then flag_at))

unfoldable pub pending_of : List ℕ → Option Entry
pending_of = whole (λ x. Entry.Pending x.0.0.0 x.0.0.1 x.0.1 x.1) (tested (λ x. is_move x.0.0.1 || is_root x.1) (plan_at then plan_kind_at then path_at then path_at))

unfoldable pub leaf_of : List ℕ → Option Entry
leaf_of = whole (λ x. Entry.Leaf x.0 x.1) (plan_at then path_at)

-- ---- entries

-- a kind byte, and how the fields behind it are read
abbrev pub Kind : Type 0
Kind = ℕ × (List ℕ → Option Entry)

-- the kinds of changes
abbrev pub changes : List Kind
changes =
    (1, mkdir_of) ∷ (2, create_of) ∷ (3, done_of) ∷ (4, remove_of) ∷ (5, move_of) ∷ (6, pin_of) ∷ (7, want_of)
    ∷ (8, plan_end_of) ∷ (9, persisted_of) ∷ (10, mount_of) ∷ (11, unmount_of) ∷ (12, seen_of) ∷ (13, lost_of) ∷ (14, loaded_of) ∷ []

-- the kinds that stand in checkpoints alone
abbrev pub rows : List Kind
rows = (15, next_of) ∷ (16, row_of) ∷ (17, pending_of) ∷ (18, leaf_of) ∷ []

-- what the reader of this kind byte says
abbrev pub read_by : List Kind → ℕ → List ℕ → Option Entry
read_by [] kind bytes = None
read_by (k ∷ ks) kind bytes = if kind == k.0 then k.1 bytes else read_by ks kind bytes

unfoldable pub change_of : ℕ → List ℕ → Option Entry
change_of = read_by changes

unfoldable pub checkpoint_of : ℕ → List ℕ → Option Entry
checkpoint_of = read_by rows

-- the entry of a body
unfoldable pub entry_of : List ℕ → Option Entry
entry_of [] = None
entry_of (kind ∷ bytes) = if nat_lt kind 15 then change_of kind bytes else checkpoint_of kind bytes

-- the entry whose text is at the front, and how many bytes that takes
unfoldable pub entry_at : List ℕ → Option (Entry × ℕ)
entry_at text = do
  n ← tested (λ n. nat_le n 8248) (number_at w32) text
  part ← part_at n.0 n.1
  e ← entry_of part.0
  Some (e, 4 + n.0)
