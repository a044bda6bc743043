-- Laws above the grammar of entries.
use Rattle.std.specs.Prelude.{◌≡◌, ℕ, ◌+◌, true, List, ◌++◌, length, take, sum_by, Some}
use Rattle.fs_model.specs.declared.change.Change.{Change}
use Rattle.fs_model.specs.Changes.{entry_len}
use Rattle.fs_model.specs.NodesEvents.{checkpoint_gate}
use Rattle.fs_model.specs.State.{Names}
use Rattle.journal_entry.specs.declared.entry.Entry.{Entry}
use Rattle.journal_entry.specs.EntryText.{entry_text, is_entry}
use Rattle.journal_entry.specs.Reading.{entry_at}
use Rattle.journal_entry.specs.Lengths.{body_len}
use Rattle.journal_entry.specs.Meaning.{entry_of_change, checkpoint_entries}

-- no text of an entry begins another's, so bytes begin with one entry at most
abbrev pub NoTextBeginsAnother : Type 0
NoTextBeginsAnother = (e f : Entry) (x y : List ℕ) → is_entry e ≡ true → is_entry f ≡ true → entry_text e ++ x ≡ entry_text f ++ y → (e ≡ f) × (x ≡ y)

-- the text of an entry is read as it, whatever follows
abbrev pub TextIsReadAgain : Type 0
TextIsReadAgain = (e : Entry) (rest : List ℕ) → is_entry e ≡ true → entry_at (entry_text e ++ rest) ≡ Some (e, length (entry_text e))

-- what was read of some bytes is read of the front that it took, whatever follows that
abbrev pub ReadingLooksNoFurther : Type 0
ReadingLooksNoFurther = (text rest : List ℕ) (e : Entry) (n : ℕ) → entry_at text ≡ Some (e, n) → entry_at (take n text ++ rest) ≡ Some (e, n)

-- the machine counts just the lengths of the texts for its changes
abbrev pub ChangesAreCounted : Type 0
ChangesAreCounted = (c : Change) → length (entry_text (entry_of_change c)) ≡ entry_len c

-- and for a checkpoint: its gate stands behind the head and the texts of its entries, each behind a gate of its own
abbrev pub CheckpointIsCounted : Type 0
CheckpointIsCounted = (N : Names) → 9 + sum_by (λ e. 1 + length (entry_text e)) (checkpoint_entries N) ≡ checkpoint_gate N

-- the length of each text
abbrev pub TextsHaveLength : Type 0
TextsHaveLength = (e : Entry) → length (entry_text e) ≡ 4 + body_len e
