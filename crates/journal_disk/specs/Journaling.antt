-- A journal over two areas: what it stands for, and what its calls leave.
use Rattle.std.specs.Prelude.{◌≡◌, ◌⊎◌, ℕ, ◌+◌, ◌-◌, ◌/◌, ◌^◌, ◌<◌, ◌≤◌, Bool, true, false, not, List, [], ◌∷◌, ◌++◌, length, Option, Some, None, Ok, IsTrue, if◌then◌else◌}
use Rattle.outside.specs.Causes.{Rose}
use Rattle.outside.specs.History.{Leaves, Moment, Spare}
use Rattle.outside.specs.Fuse.{Fusing, IsBelow, IsNoLonger}
use Rattle.outside.specs.declared.disk.Disk as disks
use Rattle.journal_entry.specs.declared.entry.Entry.{Entry}
use Rattle.journal_entry.specs.EntryText.{entry_text}
use Rattle.journal_disk.specs.AreaText.{area_of, gate_behind, head_of, is_shut, next_gate}
use Rattle.journal_disk.specs.Areas.{Current, chosen, first_of, second_of}

-- ---- the journal
-- the current area and the other one, whether the current one is area 1, whether either head gate is there and closed, whether no area is current, the generation of the current area, the place of its closed gate, the greatest length of an area in bytes, up to which place an append takes no memory, and whether a call has failed
pub record Journaling (D : Type 0) : Type 0 where
  pub here : Fusing D
  pub there : Fusing D
  pub second : Bool
  pub here_shut : Bool
  pub there_shut : Bool
  pub fresh : Bool
  pub generation : ℕ
  pub gate : ℕ
  pub limit : ℕ
  pub prepared : ℕ
  pub failed : Bool

-- area 0 and area 1, each with its fuse, and by itself
abbrev pub fused_0 : {D : Type 0} → Journaling D → Fusing D
fused_0 j = first_of j.second j.here j.there

abbrev pub fused_1 : {D : Type 0} → Journaling D → Fusing D
fused_1 j = second_of j.second j.here j.there

abbrev pub area_0 : {D : Type 0} → Journaling D → D
area_0 j = first_of j.second j.here.disk j.there.disk

abbrev pub area_1 : {D : Type 0} → Journaling D → D
area_1 j = second_of j.second j.here.disk j.there.disk

-- the current area with these entries
abbrev pub current_in : {D : Type 0} → Journaling D → List Entry → Option Current
current_in j entries = if j.fresh then None else Some (record { second = j.second; generation = j.generation; entries = entries; gate = j.gate })

-- with one entry more
abbrev pub with_entry : {D : Type 0} → Journaling D → List Entry → Entry → Option Current
with_entry j entries e = Some (record { second = j.second; generation = j.generation; entries = entries ++ e ∷ []; gate = next_gate j.gate e })

-- with a checkpoint of these entries in the other area
abbrev pub with_checkpoint : {D : Type 0} → Journaling D → List Entry → Option Current
with_checkpoint j entries = Some (record { second = not j.second; generation = j.generation + 1; entries = entries; gate = gate_behind entries })

-- ---- what it stands for
-- all that was written is on the disk
pub record IsAtRest (m : Moment) : Type 0 where
  pub same : m.synced ≡ m.held
  pub none : m.written ≡ []

-- the bytes are an open area with these entries
pub record IsArea (bytes : List ℕ) (generation : ℕ) (entries : List Entry) (gate : ℕ) : Type 0 where
  pub head : head_of bytes ≡ Some generation
  pub area : area_of bytes ≡ Ok (entries, gate)

-- Both areas are at rest where they tell, and the journal stands for these entries.
pub record IsReady {D : Type 0} (w : disks.Ghosts D) (j : Journaling D) (entries : List Entry) : Type 0 where
  pub here : IsTrue (w.tells j.here.disk) → IsAtRest (w.history j.here.disk).now
  pub there : IsTrue (w.tells j.there.disk) → IsAtRest (w.history j.there.disk).now
  pub here_shut : IsTrue (w.tells j.here.disk) → is_shut (w.history j.here.disk).now.held ≡ j.here_shut
  pub there_shut : IsTrue (w.tells j.there.disk) → is_shut (w.history j.there.disk).now.held ≡ j.there_shut
  pub area : j.fresh ≡ false → IsTrue (w.tells j.here.disk) → IsArea (w.history j.here.disk).now.held j.generation entries j.gate
  pub current : j.fresh ≡ false → IsTrue (w.tells j.there.disk) → chosen j.second (Some j.generation) (head_of (w.history j.there.disk).now.held) ≡ Some j.second
  pub fresh_here : j.fresh ≡ true → IsTrue (w.tells j.here.disk) → head_of (w.history j.here.disk).now.held ≡ None
  pub fresh_there : j.fresh ≡ true → IsTrue (w.tells j.there.disk) → head_of (w.history j.there.disk).now.held ≡ None
  pub none : j.fresh ≡ true → entries ≡ []

-- so many calls are covered, each as a call of n bytes that ends there
pub record CoversCalls (calls : ℕ) (spare : Spare) (end n : ℕ) : Type 0 where
  pub enough : calls ≤ spare.calls
  pub within : end ≤ spare.to
  pub fits : n ≤ spare.bytes

-- What holds of each journal: its numbers have bounds, both areas share a fuse, an entry that was prepared is covered, and until a call fails it stands for some entries.
pub record Fits {D : Type 0} (w : disks.Ghosts D) (j : Journaling D) : Type 0 where
  pub limit : j.limit ≤ 2 ^ 30
  pub gate : j.gate < 2 ^ 63
  pub generation : j.generation < 2 ^ 64
  pub prepared : 0 < j.prepared → CoversCalls 4 (w.spare j.here.disk) j.prepared (j.prepared - (j.gate + 1))
  pub fuse : j.here.fuse ≡ j.there.fuse
  pub fresh : j.fresh ≡ true → (j.second ≡ true) × (j.generation ≡ 0)
  pub ready : j.failed ≡ false → (entries : List Entry) × IsReady w j entries

-- the next append of this entry takes no memory
abbrev pub IsPrepared : {D : Type 0} → Journaling D → Entry → Type 0
IsPrepared j e = j.gate + 2 + length (entry_text e) ≤ j.prepared

-- ---- what its calls leave
abbrev pub BothTell : {D : Type 0} → disks.Ghosts D → Journaling D → Type 0
BothTell w j = IsTrue (w.tells (area_0 j)) × IsTrue (w.tells (area_1 j))

-- at every moment of a call each pair of images of both areas has P
abbrev pub LeavesAreas : {D : Type 0} → disks.Ghosts D → Journaling D → Journaling D → (List ℕ → List ℕ → Type 0) → Type 0
LeavesAreas w old new P = Leaves (w.history (area_0 old)) (w.history (area_0 new)) (w.history (area_1 old)) (w.history (area_1 new)) P

-- the fuse was smaller than so many calls, or the own count of an area rose
abbrev pub HadCause : {D : Type 0} → ℕ → disks.Ghosts D → Journaling D → Journaling D → Type 0
HadCause calls w old new = IsBelow old.here.fuse calls ⊎ (Rose (w.faults (area_0 old)) (w.faults (area_0 new)) ⊎ Rose (w.faults (area_1 old)) (w.faults (area_1 new)))

-- what no call changes
pub record GoesOn {D : Type 0} (w : disks.Ghosts D) (old new : Journaling D) : Type 0 where
  pub tells_0 : w.tells (area_0 new) ≡ w.tells (area_0 old)
  pub tells_1 : w.tells (area_1 new) ≡ w.tells (area_1 old)
  pub own_0 : w.faults (area_0 old) ≤ w.faults (area_0 new)
  pub own_1 : w.faults (area_1 old) ≤ w.faults (area_1 new)
  pub fuse : IsNoLonger old.here.fuse new.here.fuse
  pub limit : new.limit ≡ old.limit

-- neither area changes, and no count rises; what is reserved there may be more
pub record StaysAs {D : Type 0} (w : disks.Ghosts D) (old new : Journaling D) : Type 0 where
  pub here : w.history new.here.disk ≡ w.history old.here.disk
  pub there : w.history new.there.disk ≡ w.history old.there.disk
  pub tells_here : w.tells new.here.disk ≡ w.tells old.here.disk
  pub tells_there : w.tells new.there.disk ≡ w.tells old.there.disk
  pub own_here : w.faults new.here.disk ≡ w.faults old.here.disk
  pub own_there : w.faults new.there.disk ≡ w.faults old.there.disk
  pub rest : new ≡ record old { here = record old.here { disk = new.here.disk }; there = record old.there { disk = new.there.disk }; prepared = new.prepared }
  pub ready : (entries : List Entry) → IsReady w old entries → IsReady w new entries

-- one entry more
abbrev pub HasAppended : {D : Type 0} → Journaling D → Journaling D → Entry → Type 0
HasAppended old new e = new ≡ record old { here = new.here; there = new.there; gate = next_gate old.gate e; prepared = 0 }

-- the other area is current, with the entries of a checkpoint
abbrev pub HasCheckpoint : {D : Type 0} → Journaling D → Journaling D → List Entry → Type 0
HasCheckpoint old new entries = new ≡ record old {
  here = new.here;
  there = new.there;
  second = not old.second;
  here_shut = false;
  there_shut = old.here_shut;
  fresh = false;
  generation = old.generation + 1;
  gate = gate_behind entries;
  prepared = 0;
}

-- a call has failed, so that the journal takes no more
abbrev pub HasFailed : {D : Type 0} → Journaling D → Journaling D → Type 0
HasFailed old new = new ≡ record old { here = new.here; there = new.there; prepared = new.prepared; failed = true }

-- ---- checkpoints
-- one for each started 65,536 bytes
abbrev pub pieces_of : ℕ → ℕ
pieces_of len = (len + 65535) / 65536

-- the calls of a checkpoint: two that close the head gate, one for each piece behind it, a sync, and two that open the head gate
abbrev pub checkpoint_calls : List Entry → ℕ
checkpoint_calls entries = 5 + pieces_of (gate_behind entries)

-- the area would be longer than the limit, or there is no greater generation
abbrev pub IsFull : {D : Type 0} → Journaling D → List Entry → Type 0
IsFull j entries = (j.limit < gate_behind entries + 1) ⊎ (2 ^ 64 - 1 ≤ j.generation)
