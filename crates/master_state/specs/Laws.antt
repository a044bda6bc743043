-- Laws above what entries stand for.
use Rattle.std.specs.Prelude.{◌≡◌, true, List, Some, None}
use Rattle.std.specs.List.{list_all}
use Rattle.fs_model.specs.declared.setup.Setup.{Setup}
use Rattle.fs_model.specs.declared.event.Event.{Event}
use Rattle.fs_model.specs.declared.change.Change.{Change}
use Rattle.fs_model.specs.State.{Names, State, Hands}
use Rattle.fs_model.specs.Changes.{apply}
use Rattle.fs_model.specs.Spelled.{is_spelled}
use Rattle.fs_model.specs.Built as events
use Rattle.fs_model.specs.Machine.{refusal}
use Rattle.fs_model.specs.Journaling.{change_of}
use Rattle.journal_entry.specs.declared.entry.Entry.{Entry}
use Rattle.journal_entry.specs.EntryText.{fits, is_entry}
use Rattle.journal_entry.specs.Meaning.{entry_of_change, checkpoint_entries}
use Rattle.master_state.specs.Effect.{effect, counts_in, taken, meaning}
use Rattle.master_state.specs.Finishing.{finishes_new}
use Rattle.master_state.specs.Plain.{IsPlain}

-- the entry of a change that fits does what the change does
abbrev pub EntriesDoTheirChanges : Type 0
EntriesDoTheirChanges = (c : Change) (N : Names) → effect (entry_of_change c) N ≡ apply c N

-- names stay plain whatever entry comes
abbrev pub NamesStayPlain : Type 0
NamesStayPlain = (e : Entry) (N : Names) → is_entry e ≡ true → IsPlain N → IsPlain (taken e N)

-- a checkpoint of plain names stands for them
abbrev pub CheckpointIsReadAgain : Type 0
CheckpointIsReadAgain = (N : Names) → IsPlain N → meaning (checkpoint_entries N) ≡ N

-- and each of its entries has a text
abbrev pub CheckpointHasTexts : Type 0
CheckpointHasTexts = (N : Names) → IsPlain N → list_all fits (checkpoint_entries N) ≡ true

-- what entries stand for is plain
abbrev pub JournalsStandForPlain : Type 0
JournalsStandForPlain = (es : List Entry) → list_all is_entry es ≡ true → IsPlain (meaning es)

-- the change of an event that is built and accepted fits plain names, and its entry has a text
abbrev pub ChangesFit : Type 0
ChangesFit = (S : Setup) (A : State) (H : Hands) (e : Event) (c : Change) → events.is_built e ≡ true → is_spelled e ≡ true → IsPlain A.names → finishes_new A H e ≡ true → refusal S A H e ≡ None → change_of S A H e ≡ Some c
    → (counts_in (entry_of_change c) A.names ≡ true) × (fits (entry_of_change c) ≡ true)
