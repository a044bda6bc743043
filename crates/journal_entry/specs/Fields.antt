-- The fields of entries: the bytes of each, and which values each may have. No type of this crate is named here.
use Rattle.std.specs.Prelude.{ℕ, ◌^◌, Bool, true, false, ◌&&◌, ◌==◌, nat_lt, nat_le, List, [], ◌∷◌, ◌++◌, length}
use Rattle.std.specs.List.{flat_map}
use Rattle.std.specs.Int.{w16, w32, w64, to_be_bytes}
use Rattle.fs_model.specs.declared.reply.Stored.{Stored}
use Rattle.fs_model.specs.declared.change.PlanKind.{PlanKind}
use Rattle.fs_model.specs.PathForm.{path_text, key_text}

-- ---- bytes; the highest of a number comes first

-- a number in two bytes
abbrev pub two_bytes : ℕ → List ℕ
two_bytes n = to_be_bytes w16 n

-- a number in four bytes: a worker, a store
abbrev pub four_bytes : ℕ → List ℕ
four_bytes n = to_be_bytes w32 n

-- a number in eight bytes: an id, a length, a plan
abbrev pub eight_bytes : ℕ → List ℕ
eight_bytes n = to_be_bytes w64 n

-- a text: its length in two bytes, and the text
abbrev pub counted : List ℕ → List ℕ
counted text = two_bytes (length text) ++ text

-- a path
abbrev pub path_field : List (List ℕ) → List ℕ
path_field p = counted (path_text p)

-- a key
abbrev pub key_field : List (List ℕ) → List ℕ
key_field k = counted (key_text k)

-- workers: how many there are in two bytes, and each
abbrev pub workers_field : List ℕ → List ℕ
workers_field ws = two_bytes (length ws) ++ flat_map four_bytes ws

-- a flag
abbrev pub flag_byte : Bool → ℕ
flag_byte false = 0
flag_byte true = 1

-- how a file stands to its under-store
abbrev pub stored_byte : Stored → ℕ
stored_byte Stored.No = 0
stored_byte Stored.Wanted = 1
stored_byte Stored.Yes = 2

-- what a plan does
abbrev pub plan_kind_byte : PlanKind → ℕ
plan_kind_byte PlanKind.Move = 1
plan_kind_byte PlanKind.Remove = 2
plan_kind_byte PlanKind.Publish = 3
plan_kind_byte PlanKind.Load = 4

-- what a node is: 0 a directory, 1 a file
abbrev pub node_byte : Bool → ℕ
node_byte true = 0
node_byte false = 1

-- ---- values

-- a file's id
abbrev pub is_file_id : ℕ → Bool
is_file_id n = nat_lt 0 n && nat_lt n (2 ^ 63)

-- a plan
abbrev pub is_plan : ℕ → Bool
is_plan n = nat_lt 0 n && nat_lt n (2 ^ 63)

-- a plan, or 0 for none
abbrev pub is_plan_or_none : ℕ → Bool
is_plan_or_none n = nat_lt n (2 ^ 63)

-- the plan of a finished file: there is one exactly where the file is to be published
abbrev pub is_plan_of : Stored → ℕ → Bool
is_plan_of Stored.Yes n = is_plan n
is_plan_of Stored.No n = n == 0
is_plan_of Stored.Wanted n = n == 0

-- the number that the next file or plan gets
abbrev pub is_next : ℕ → Bool
is_next n = nat_lt 0 n && nat_le n (2 ^ 63)

-- a worker
abbrev pub is_worker : ℕ → Bool
is_worker n = nat_lt 0 n && nat_le n 64

-- workers, each above the one before and above this number
abbrev pub are_above : ℕ → List ℕ → Bool
are_above last [] = true
are_above last (w ∷ ws) = nat_lt last w && nat_le w 64 && are_above w ws

-- 1 to 64 workers, rising
abbrev pub are_workers : List ℕ → Bool
are_workers ws = nat_lt 0 (length ws) && nat_le (length ws) 64 && are_above 0 ws

-- the file isn't to be in its under-store
abbrev pub is_no : Stored → Bool
is_no Stored.No = true
is_no Stored.Wanted = false
is_no Stored.Yes = false

-- the plan moves objects, so that it has a second path
abbrev pub is_move : PlanKind → Bool
is_move PlanKind.Move = true
is_move PlanKind.Remove = false
is_move PlanKind.Publish = false
is_move PlanKind.Load = false

-- `/`
abbrev pub is_root : List (List ℕ) → Bool
is_root [] = true
is_root (n ∷ ns) = false
