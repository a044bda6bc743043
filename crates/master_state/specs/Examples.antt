-- Worked examples: what small journals stand for, computed from the definitions.
use Rattle.std.specs.Prelude.{◌≡◌, refl, true, false, ℕ, List, [], ◌∷◌, ◌++◌}
use Rattle.fs_model.specs.declared.reply.Stored.{Stored}
use Rattle.fs_model.specs.State.{Names, Node, NodeRow}
use Rattle.fs_model.specs.Changes.{no_names}
use Rattle.journal_entry.specs.declared.entry.Entry.{Entry}
use Rattle.journal_entry.specs.Meaning.{checkpoint_entries}
use Rattle.master_state.specs.Effect.{meaning}

-- the paths `/a`, `/a/f` and `/b`
abbrev a : List (List ℕ)
a = (97 ∷ []) ∷ []

abbrev f : List (List ℕ)
f = (97 ∷ []) ∷ (102 ∷ []) ∷ []

abbrev b : List (List ℕ)
b = (98 ∷ []) ∷ []

-- `/`
abbrev root : NodeRow
root = ([], Node.Directory)

-- the names over a fresh journal, with store 1 mounted at `/` under the empty key
abbrev opened : Names
opened = record no_names { mounts = record { path = []; store = 1; key = [] } ∷ [] }

-- the entries of its first checkpoint
abbrev first : List Entry
first = Entry.Next 1 1 ∷ Entry.Mount [] 1 [] 0 ∷ []

opened_again : meaning first ≡ opened
opened_again = refl

-- and with `/a` made
abbrev with_a : Names
with_a = record opened { nodes = root ∷ (a, Node.Directory) ∷ [] }

a_made : meaning (first ++ Entry.Mkdir a ∷ []) ≡ with_a
a_made = refl

-- its checkpoint
a_kept : checkpoint_entries with_a ≡ first ++ Entry.Node a true 0 0 true Stored.No false ∷ []
a_kept = refl

a_again : meaning (checkpoint_entries with_a) ≡ with_a
a_again = refl

-- an entry that doesn't fit is passed over: the directory is there, one before it is missing, `/` is mounted
passed_over : meaning (first ++ Entry.Mkdir a ∷ Entry.Mkdir a ∷ Entry.Mkdir [] ∷ Entry.Create 4 (b ++ a) ∷ Entry.Mount [] 2 b 0 ∷ []) ≡ with_a
passed_over = refl

-- the file `/a/f` with number 7, of 3 bytes
abbrev with_f : Names
with_f = record with_a { nodes = root ∷ (a, Node.Directory) ∷ (f, Node.IsFile (record { id = 7; len = 3; done = true; stored = Stored.Wanted; pinned = false })) ∷ []; next_id = 8 }

-- it is done once
f_done : meaning (first ++ Entry.Mkdir a ∷ Entry.Create 7 f ∷ Entry.Done 7 3 Stored.Wanted 0 ∷ Entry.Done 7 5 Stored.No 0 ∷ []) ≡ with_f
f_done = refl

f_again : meaning (checkpoint_entries with_f) ≡ with_f
f_again = refl

-- no second file has its number, and no node is below it
no_second : meaning (first ++ Entry.Mkdir a ∷ Entry.Create 7 f ∷ Entry.Done 7 3 Stored.Wanted 0 ∷ Entry.Create 7 b ∷ Entry.Node b false 7 0 false Stored.No false ∷ Entry.Mkdir (f ++ b) ∷ []) ≡ with_f
no_second = refl

-- what isn't built yet is passed over
not_built : meaning (first ++ Entry.Mkdir a ∷ Entry.Create 7 f ∷ Entry.Done 7 3 Stored.Wanted 0 ∷ Entry.Remove a 0 ∷ Entry.Pin f true ∷ Entry.Persisted 7 1 ∷ Entry.Mount b 2 [] 0 ∷ Entry.Seen 1 ∷ Entry.Loaded 9 b 1 ∷ []) ≡ with_f
not_built = refl

-- next numbers rise alone
next_rises : meaning (Entry.Next 5 3 ∷ Entry.Next 2 4 ∷ []) ≡ record no_names { next_id = 5; next_plan = 4 }
next_rises = refl
