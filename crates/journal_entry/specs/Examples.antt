-- Worked examples: the texts of the entries of two small areas, computed from the definitions, and read again.
use Rattle.std.specs.Prelude.{◌≡◌, refl, true, false, ℕ, ◌+◌, Some, None, List, [], ◌∷◌, ◌++◌, length}
use Rattle.fs_model.specs.declared.change.PlanKind.{PlanKind}
use Rattle.fs_model.specs.declared.reply.Stored.{Stored}
use Rattle.journal_entry.specs.declared.entry.Entry.{Entry}
use Rattle.journal_entry.specs.EntryText.{entry_text, is_entry}
use Rattle.journal_entry.specs.Reading.{counted_at, path_at, flag_at, mkdir_of, pin_of, change_of, entry_of, entry_at}

-- eight bytes of 0
abbrev none : List ℕ
none = 0 ∷ 0 ∷ 0 ∷ 0 ∷ 0 ∷ 0 ∷ 0 ∷ 0 ∷ []

-- a 1 in eight bytes
abbrev one : List ℕ
one = 0 ∷ 0 ∷ 0 ∷ 0 ∷ 0 ∷ 0 ∷ 0 ∷ 1 ∷ []

-- the path `/a`
abbrev a : List (List ℕ)
a = (97 ∷ []) ∷ []

-- ---- the first area of a fresh journal, and `mkdir /a`

-- the next file and the next plan get 1
abbrev next_bytes : List ℕ
next_bytes = (0 ∷ 0 ∷ 0 ∷ 0x11 ∷ 0x0f ∷ []) ++ one ++ one

next_text : entry_text (Entry.Next 1 1) ≡ next_bytes
next_text = refl

-- store 1 is mounted at `/` under the empty key
abbrev mount_bytes : List ℕ
mount_bytes = (0 ∷ 0 ∷ 0 ∷ 0x12 ∷ 0x0a ∷ 0 ∷ 1 ∷ 0x2f ∷ 0 ∷ 0 ∷ 0 ∷ 1 ∷ 0 ∷ 0 ∷ []) ++ none

mount_text : entry_text (Entry.Mount [] 1 [] 0) ≡ mount_bytes
mount_text = refl

-- the directory `/a` is made
abbrev mkdir_bytes : List ℕ
mkdir_bytes = 0 ∷ 0 ∷ 0 ∷ 5 ∷ 1 ∷ 0 ∷ 2 ∷ 0x2f ∷ 0x61 ∷ []

mkdir_text : entry_text (Entry.Mkdir a) ≡ mkdir_bytes
mkdir_text = refl

-- head and gates and these three: the closed gate stands at place 64
first_gate : 9 + (1 + length next_bytes) + (1 + length mount_bytes) + (1 + length mkdir_bytes) ≡ 64
first_gate = refl

-- ---- the checkpoint that follows

-- the directory `/a` is there
abbrev node_bytes : List ℕ
node_bytes = (0 ∷ 0 ∷ 0 ∷ 0x19 ∷ 0x10 ∷ 0 ∷ 2 ∷ 0x2f ∷ 0x61 ∷ 0 ∷ []) ++ none ++ none ++ 1 ∷ 0 ∷ 0 ∷ []

node_text : entry_text (Entry.Node a true 0 0 true Stored.No false) ≡ node_bytes
node_text = refl

second_gate : 9 + (1 + length next_bytes) + (1 + length mount_bytes) + (1 + length node_bytes) ≡ 84
second_gate = refl

-- ---- other kinds

-- file 1 at `/a` is made
create_text : entry_text (Entry.Create 1 a) ≡ (0 ∷ 0 ∷ 0 ∷ 13 ∷ 2 ∷ []) ++ one ++ 0 ∷ 2 ∷ 0x2f ∷ 0x61 ∷ []
create_text = refl

-- it is done with 258 bytes, and isn't kept
done_text : entry_text (Entry.Done 1 258 Stored.No 0) ≡ (0 ∷ 0 ∷ 0 ∷ 26 ∷ 3 ∷ []) ++ one ++ (0 ∷ 0 ∷ 0 ∷ 0 ∷ 0 ∷ 0 ∷ 1 ∷ 2 ∷ []) ++ (0 ∷ []) ++ none
done_text = refl

-- workers 1 and 64 went silent
lost_text : entry_text (Entry.Lost (1 ∷ 64 ∷ [])) ≡ 0 ∷ 0 ∷ 0 ∷ 11 ∷ 13 ∷ 0 ∷ 2 ∷ 0 ∷ 0 ∷ 0 ∷ 1 ∷ 0 ∷ 0 ∷ 0 ∷ 64 ∷ []
lost_text = refl

-- plan 1 publishes `/a`
pending_text : entry_text (Entry.Pending 1 PlanKind.Publish a []) ≡ (0 ∷ 0 ∷ 0 ∷ 17 ∷ 17 ∷ []) ++ one ++ (3 ∷ 0 ∷ 2 ∷ 0x2f ∷ 0x61 ∷ 0 ∷ 1 ∷ 0x2f ∷ [])
pending_text = refl

-- ---- what is an entry, and what is none

-- bytes may follow a text
mkdir_is_read : entry_at (0 ∷ 0 ∷ 0 ∷ 4 ∷ 1 ∷ 0 ∷ 1 ∷ 0x2f ∷ 0 ∷ []) ≡ Some (Entry.Mkdir [], 8)
unfolding counted_at path_at mkdir_of change_of entry_of entry_at
mkdir_is_read = refl

-- a file that is to be kept has a plan, and only such a file
kept_has_plan : is_entry (Entry.Done 1 0 Stored.Yes 0) ≡ false
kept_has_plan = refl

plan_is_kept : is_entry (Entry.Done 1 0 Stored.Wanted 1) ≡ false
plan_is_kept = refl

-- workers stand in rising order, none twice
workers_rise : is_entry (Entry.Lost (2 ∷ 2 ∷ [])) ≡ false
workers_rise = refl

-- a flag is 0 or 1
one_is_a_flag : entry_at (0 ∷ 0 ∷ 0 ∷ 5 ∷ 6 ∷ 0 ∷ 1 ∷ 0x2f ∷ 1 ∷ []) ≡ Some (Entry.Pin [] true, 9)
unfolding counted_at path_at flag_at pin_of change_of entry_of entry_at
one_is_a_flag = refl

two_is_no_flag : entry_at (0 ∷ 0 ∷ 0 ∷ 5 ∷ 6 ∷ 0 ∷ 1 ∷ 0x2f ∷ 2 ∷ []) ≡ None
unfolding counted_at path_at flag_at pin_of change_of entry_of entry_at
two_is_no_flag = refl

-- nothing stands behind the fields
nothing_more : entry_at (0 ∷ 0 ∷ 0 ∷ 5 ∷ 1 ∷ 0 ∷ 1 ∷ 0x2f ∷ 0 ∷ []) ≡ None
unfolding counted_at path_at mkdir_of change_of entry_of entry_at
nothing_more = refl

-- a body that ends early
ends_early : entry_at (0 ∷ 0 ∷ 0 ∷ 3 ∷ 1 ∷ 0 ∷ 1 ∷ 0x2f ∷ []) ≡ None
unfolding counted_at path_at mkdir_of change_of entry_of entry_at
ends_early = refl

-- a body that is longer than the bytes
too_few_bytes : entry_at (0 ∷ 0 ∷ 0 ∷ 5 ∷ 1 ∷ 0 ∷ 1 ∷ 0x2f ∷ []) ≡ None
unfolding counted_at path_at mkdir_of change_of entry_of entry_at
too_few_bytes = refl
