-- A master: its journal, and the names that the journal's entries stand for.
use Rattle.std.specs.Prelude.{◌≡◌, ◌⊎◌, ℕ, ◌+◌, false, List, Some, Ok}
use Rattle.outside.specs.History.{Images}
use Rattle.outside.specs.declared.disk.Disk as disks
use Rattle.fs_model.specs.State.{Names}
use Rattle.journal_entry.specs.declared.entry.Entry.{Entry}
use Rattle.journal_entry.specs.Meaning.{checkpoint_entries}
use Rattle.journal_disk.specs.AreaText.{gate_behind, next_gate}
use Rattle.journal_disk.specs.Areas.{Current, journal_of}
use Rattle.journal_disk.specs.Journaling.{BothTell, IsReady, Journaling, LeavesAreas, area_0, area_1}
use Rattle.master_state.specs.Effect.{meaning, taken}
use Rattle.master_state.specs.View.{NamesView}

-- the journal, and the names with what is ready for the next entry
pub record Mastering (D : Type 0) : Type 0 where
  pub journal : Journaling D
  pub kept : NamesView

-- the names that it serves
abbrev pub names_of : {D : Type 0} → Mastering D → Names
names_of m = m.kept.names

-- the master is up: no call of an area has failed
abbrev pub IsUp : {D : Type 0} → Mastering D → Type 0
IsUp m = m.journal.failed ≡ false

-- what holds of each master: while it is up, an area is current, and the journal stands for entries that mean its names
abbrev pub Stands : {D : Type 0} → disks.Ghosts D → Mastering D → Type 0
Stands w m = IsUp m → (m.journal.fresh ≡ false) × (entries : List Entry) × IsReady w m.journal entries × (meaning entries ≡ names_of m)

-- ---- what areas stand for
-- names that an area keeps, the place of its closed gate, and its generation
pub record Standing : Type 0 where
  pub names : Names
  pub gate : ℕ
  pub generation : ℕ

-- the same of a master
abbrev pub standing_of : {D : Type 0} → Mastering D → Standing
standing_of m = record { names = names_of m; gate = m.journal.gate; generation = m.journal.generation }

-- and of an area that is current
abbrev pub standing_in : Current → Standing
standing_in c = record { names = meaning c.entries; gate = c.gate; generation = c.generation }

-- after one entry more
abbrev pub entered : Entry → Standing → Standing
entered e s = record { names = taken e s.names; gate = next_gate s.gate e; generation = s.generation }

-- after a checkpoint
abbrev pub renewed : Standing → Standing
renewed s = record { names = s.names; gate = gate_behind (checkpoint_entries s.names); generation = s.generation + 1 }

-- ---- crashes
-- these bytes of both areas stand for that
abbrev pub StandsFor : Standing → List ℕ → List ℕ → Type 0
StandsFor s a b = (c : Current) × (journal_of a b ≡ Ok (Some c)) × (standing_in c ≡ s)

-- at every moment of a call each pair of images of both areas stands for what it did before, or for this
abbrev pub LeavesStanding : {D : Type 0} → disks.Ghosts D → Mastering D → Mastering D → Standing → Type 0
LeavesStanding w old new s = LeavesAreas w old.journal new.journal (λ a b. StandsFor (standing_of old) a b ⊎ StandsFor s a b)

-- each pair of images of both areas, as they are now, stands for what the master does
abbrev pub IsKept : {D : Type 0} → disks.Ghosts D → Mastering D → Type 0
IsKept w m = BothTell w m.journal → Images (StandsFor (standing_of m)) (w.history (area_0 m.journal)).now (w.history (area_1 m.journal)).now
