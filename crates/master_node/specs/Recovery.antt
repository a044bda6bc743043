-- What an opening of both areas makes of a master.
use Rattle.std.specs.Prelude.{◌≡◌, ◌⊎◌, ℕ, ◌+◌, ◌<◌, ◌≤◌, Bool, false, true, ◌&&◌, [], List, is_some, nat_le, None, Some, Ok, Err}
use Rattle.std.specs.List.{list_all}
use Rattle.outside.specs.History.{Leaves}
use Rattle.outside.specs.Fuse.{Fusing}
use Rattle.outside.specs.declared.disk.Disk as disks
use Rattle.fs_model.specs.declared.setup.Setup.{Setup}
use Rattle.fs_model.specs.declared.stop.Stop.{Stop}
use Rattle.fs_model.specs.State.{MountRow, Names}
use Rattle.fs_model.specs.Lookups.{mount_at}
use Rattle.fs_model.specs.Opening.{fresh_names}
use Rattle.journal_entry.specs.Meaning.{checkpoint_entries}
use Rattle.journal_disk.specs.AreaText.{gate_behind}
use Rattle.journal_disk.specs.Areas.{Current, journal_of}
use Rattle.journal_disk.specs.Journaling.{fused_0, fused_1}
use Rattle.journal_disk.specs.Opening.{Opens, OwnRose, Tell}
use Rattle.journal_disk.specs.declared.fault.RecoverFault.{RecoverFault}
use Rattle.journal_disk.specs.declared.fault.RecoverFault.TheVariants as faults
use Rattle.master_state.specs.Effect.{meaning}
use Rattle.master_node.specs.Mastering.{IsUp, Mastering, Standing, StandsFor, names_of, standing_of}

-- ---- names and a setup
-- the mount is in a store that is configured
abbrev pub is_in_a_store : Setup → MountRow → Bool
is_in_a_store S m = nat_le 1 m.store && nat_le m.store S.stores

-- `/` is mounted, and each mount is in a store that is configured
abbrev pub is_served : Setup → Names → Bool
is_served S N = is_some (mount_at N []) && list_all (is_in_a_store S) N.mounts

-- what the first checkpoint keeps
abbrev pub first_standing : Setup → Standing
first_standing S = record { names = fresh_names S; gate = gate_behind (checkpoint_entries (fresh_names S)); generation = 1 }

-- the first checkpoint is longer than an area may be
abbrev pub IsTooLong : Setup → Type 0
IsTooLong S = S.area < gate_behind (checkpoint_entries (fresh_names S)) + 1

-- ---- what an opening finds and leaves
-- P holds of the bytes that a read of both areas gives, where both tell
abbrev pub Finds : {D : Type 0} → disks.Ghosts D → Fusing D → Fusing D → (List ℕ → List ℕ → Type 0) → Type 0
Finds w a b P = Tell w a b → P (w.history a.disk).now.held (w.history b.disk).now.held

-- neither area is open, or both stand for this
abbrev pub IsFreshOr : Standing → List ℕ → List ℕ → Type 0
IsFreshOr s x y = (journal_of x y ≡ Ok None) ⊎ StandsFor s x y

-- Neither area was open. They were opened, and from there on the first checkpoint was begun.
pub record Begins {D : Type 0} (w : disks.Ghosts D) (S : Setup) (a b a' b' : Fusing D) : Type 0 where
  pub opened_0 : Fusing D
  pub opened_1 : Fusing D
  pub opening : Opens w a b opened_0 opened_1
  pub none : Finds w a b (λ x y. journal_of x y ≡ Ok None)
  pub tells_0 : w.tells a'.disk ≡ w.tells opened_0.disk
  pub tells_1 : w.tells b'.disk ≡ w.tells opened_1.disk
  pub own_0 : w.faults opened_0.disk ≤ w.faults a'.disk
  pub own_1 : w.faults opened_1.disk ≤ w.faults b'.disk
  pub begun : Tell w a b → Leaves (w.history opened_0.disk) (w.history a'.disk) (w.history opened_1.disk) (w.history b'.disk) (IsFreshOr (first_standing S))

-- the areas stood for what the master does
pub record IsAgain {D : Type 0} (w : disks.Ghosts D) (a b : Fusing D) (m : Mastering D) : Type 0 where
  pub found : Finds w a b (StandsFor (standing_of m))
  pub areas : Opens w a b (fused_0 m.journal) (fused_1 m.journal)

-- neither area was open, and the first checkpoint was made
pub record IsFirst {D : Type 0} (w : disks.Ghosts D) (S : Setup) (a b : Fusing D) (m : Mastering D) : Type 0 where
  pub standing : standing_of m ≡ first_standing S
  pub short : IsTooLong S → ⊥
  pub areas : Begins w S a b (fused_0 m.journal) (fused_1 m.journal)

-- ---- the answers
-- why a journal isn't open, as the end of an opening
abbrev pub stop_of : RecoverFault → Stop
stop_of (faults.Damaged area place) = Stop.Damaged area place
stop_of faults.Failed = Stop.JournalFault
stop_of faults.Memory = Stop.Memory

-- a master that is up over both areas, with no fuse, and its names are served
pub record IsOver {D : Type 0} (w : disks.Ghosts D) (S : Setup) (a b : Fusing D) (m : Mastering D) : Type 0 where
  pub up : IsUp m
  pub limited : m.journal.limit ≡ S.area
  pub unfused : m.journal.here.fuse ≡ None
  pub served : is_served S (names_of m) ≡ true
  pub from : IsAgain w a b m ⊎ IsFirst w S a b m

-- the areas stand for names that aren't served
abbrev pub IsUnserved : Setup → List ℕ → List ℕ → Type 0
IsUnserved S x y = (c : Current) × (journal_of x y ≡ Ok (Some c)) × (is_served S (meaning c.entries) ≡ false)

-- Why no master is up: the current area is damaged at this place, the own count of an area rose, or the setup doesn't serve what was found. Else there was no memory.
pub record IsClosed {D : Type 0} (w : disks.Ghosts D) (S : Setup) (a b a' b' : Fusing D) (why : Stop) : Type 0 where
  pub damaged : (area place : ℕ) → why ≡ Stop.Damaged area place → Finds w a b (λ x y. journal_of x y ≡ Err (area, place))
  pub failed : why ≡ Stop.JournalFault → OwnRose w a b a' b'
  pub unserved : why ≡ Stop.Setup → Finds w a b (IsUnserved S) ⊎ (Finds w a b (λ x y. journal_of x y ≡ Ok None) × IsTooLong S)
  pub unloaded : why ≡ Stop.OpenFault → ⊥
  pub unwritten : why ≡ Stop.WriteFault → ⊥
  pub areas : Opens w a b a' b' ⊎ Begins w S a b a' b'
