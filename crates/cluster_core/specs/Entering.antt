-- What becomes of a master when an entry is journaled and what it stands for is done.
use Rattle.std.specs.Prelude.{◌≡◌, ℕ, ◌+◌, ◌<◌, length, Result, Ok, Err, OnOk, IsErrOf}
use Rattle.fs_model.specs.declared.reply.Reply.{Reply}
use Rattle.fs_model.specs.declared.reply.Refusal.{Refusal}
use Rattle.fs_model.specs.declared.reply.Which.{Which}
use Rattle.outside.specs.Fuse.{IsBelow, burnt}
use Rattle.outside.specs.declared.disk.Disk as disks
use Rattle.journal_entry.specs.declared.entry.Entry.{Entry}
use Rattle.journal_entry.specs.EntryText.{entry_text}
use Rattle.journal_entry.specs.Meaning.{checkpoint_entries}
use Rattle.journal_disk.specs.Journaling.{BothTell, GoesOn, HadCause, HasAppended, HasCheckpoint, HasFailed, IsFull, StaysAs, checkpoint_calls}
use Rattle.journal_disk.specs.declared.fault.AppendFault.{AppendFault}
use Rattle.journal_disk.specs.declared.fault.AppendFault.TheVariants as faults
use Rattle.master_state.specs.Effect.{taken}
use Rattle.master_node.specs.Mastering.{IsKept, LeavesStanding, Mastering, Standing, entered, names_of, renewed, standing_of}

-- the answer where the journal takes no entry or no checkpoint
abbrev pub fault_reply : AppendFault → Reply
fault_reply faults.Full = Reply.Refused (Refusal.Limit Which.Area)
fault_reply faults.Failed = Reply.Refused Refusal.JournalFault
fault_reply faults.Memory = Reply.Refused Refusal.Memory

-- the answer to a change or a checkpoint
abbrev pub done_or : {T : Type 0} → Result T AppendFault → Reply
done_or (Ok x) = Reply.Done
done_or (Err fault) = fault_reply fault

-- the entry is one more of the journal's, and what it stands for was done, in four calls; each image has it from now on
pub record Entered {D : Type 0} (d : disks.Ghosts D) (e : Entry) (old new : Mastering D) : Type 0 where
  pub names : names_of new ≡ taken e (names_of old)
  pub moved : HasAppended old.journal new.journal e
  pub burnt : new.journal.here.fuse ≡ burnt 4 old.journal.here.fuse
  pub enough : IsBelow old.journal.here.fuse 4 → ⊥
  pub later : IsKept d new
  pub moments : BothTell d old.journal → LeavesStanding d old new (entered e (standing_of old))
  pub goes_on : GoesOn d old.journal new.journal

-- one of so many calls failed, for a cause; the names are as they were, and the master is stopped; each image stands for what it did, or for what was to be
pub record HasStopped {D : Type 0} (d : disks.Ghosts D) (calls : ℕ) (s : Standing) (old new : Mastering D) : Type 0 where
  pub names : names_of new ≡ names_of old
  pub cause : HadCause calls d old.journal new.journal
  pub failed : HasFailed old.journal new.journal
  pub moments : BothTell d old.journal → LeavesStanding d old new s
  pub goes_on : GoesOn d old.journal new.journal

-- no area was called, and the names are as they were
pub record Stays {D : Type 0} (d : disks.Ghosts D) (old new : Mastering D) : Type 0 where
  pub names : names_of new ≡ names_of old
  pub journal : StaysAs d old.journal new.journal

-- what came of it
pub record Enters {D T : Type 0} (d : disks.Ghosts D) (e : Entry) (old new : Mastering D) (result : Result T AppendFault) : Type 0 where
  pub done : OnOk result (Entered d e old new)
  pub stopped : IsErrOf result faults.Failed → HasStopped d 4 (entered e (standing_of old)) old new
  pub short : IsErrOf result faults.Memory → Stays d old new
  pub full : IsErrOf result faults.Full → old.journal.limit < old.journal.gate + 2 + length (entry_text e)

-- ---- checkpoints

-- the other area has a checkpoint of the names, and is current; each image has it from now on
pub record Renewed {D : Type 0} (d : disks.Ghosts D) (old new : Mastering D) : Type 0 where
  pub names : names_of new ≡ names_of old
  pub made : HasCheckpoint old.journal new.journal (checkpoint_entries (names_of old))
  pub fits : IsFull old.journal (checkpoint_entries (names_of old)) → ⊥
  pub burnt : new.journal.here.fuse ≡ burnt (checkpoint_calls (checkpoint_entries (names_of old))) old.journal.here.fuse
  pub enough : IsBelow old.journal.here.fuse (checkpoint_calls (checkpoint_entries (names_of old))) → ⊥
  pub later : IsKept d new
  pub moments : BothTell d old.journal → LeavesStanding d old new (renewed (standing_of old))
  pub goes_on : GoesOn d old.journal new.journal

-- what came of a checkpoint
pub record Renews {D T : Type 0} (d : disks.Ghosts D) (old new : Mastering D) (result : Result T AppendFault) : Type 0 where
  pub done : OnOk result (Renewed d old new)
  pub stopped : IsErrOf result faults.Failed → HasStopped d (checkpoint_calls (checkpoint_entries (names_of old))) (renewed (standing_of old)) old new × (IsFull old.journal (checkpoint_entries (names_of old)) → ⊥)
  pub short : IsErrOf result faults.Memory → Stays d old new
  pub full : IsErrOf result faults.Full → IsFull old.journal (checkpoint_entries (names_of old)) × Stays d old new
