-- What an opening of two areas finds, and what it leaves.
use Rattle.std.specs.Prelude.{◌≡◌, ◌⊎◌, ℕ, ◌≤◌, Bool, true, false, List, Option, None, Ok, Err, IsTrue}
use Rattle.outside.specs.Causes.{Rose}
use Rattle.outside.specs.History.{IsImage, Leaves}
use Rattle.outside.specs.Fuse.{Fusing}
use Rattle.outside.specs.declared.disk.Disk as disks
use Rattle.journal_entry.specs.declared.entry.Entry.{Entry}
use Rattle.journal_disk.specs.AreaText.{area_of, head_of, is_shut}
use Rattle.journal_disk.specs.Areas.{area_number, journal_of}
use Rattle.journal_disk.specs.Journaling.{IsAtRest, IsReady, Journaling, current_in, fused_0, fused_1}
use Rattle.journal_disk.specs.declared.fault.RecoverFault.{RecoverFault}
use Rattle.journal_disk.specs.declared.fault.RecoverFault.TheVariants as faults

-- ---- one area
-- reads change nothing
pub record IsRead {D : Type 0} (w : disks.Ghosts D) (old new : Fusing D) : Type 0 where
  pub tells : w.tells new.disk ≡ w.tells old.disk
  pub history : w.history new.disk ≡ w.history old.disk
  pub own : w.faults old.disk ≤ w.faults new.disk
  pub fuse : old.fuse ≡ None → new.fuse ≡ None

-- ---- both areas
-- both tell
abbrev pub Tell : {D : Type 0} → disks.Ghosts D → Fusing D → Fusing D → Type 0
Tell w a b = IsTrue (w.tells a.disk) × IsTrue (w.tells b.disk)

-- Reads give what they gave, the fuse is cleared, and at every moment each pair of images is one that a crash before the call could leave.
pub record Opens {D : Type 0} (w : disks.Ghosts D) (a b a' b' : Fusing D) : Type 0 where
  pub tells_0 : w.tells a'.disk ≡ w.tells a.disk
  pub tells_1 : w.tells b'.disk ≡ w.tells b.disk
  pub held_0 : IsTrue (w.tells a.disk) → (w.history a'.disk).now.held ≡ (w.history a.disk).now.held
  pub held_1 : IsTrue (w.tells b.disk) → (w.history b'.disk).now.held ≡ (w.history b.disk).now.held
  pub own_0 : w.faults a.disk ≤ w.faults a'.disk
  pub own_1 : w.faults b.disk ≤ w.faults b'.disk
  pub fuse_0 : a'.fuse ≡ None
  pub fuse_1 : b'.fuse ≡ None
  pub images : Tell w a b → Leaves (w.history a.disk) (w.history a'.disk) (w.history b.disk) (w.history b'.disk) (λ x y. IsImage (w.history a.disk).now x × IsImage (w.history b.disk).now y)

-- the own count of an area rose
abbrev pub OwnRose : {D : Type 0} → disks.Ghosts D → Fusing D → Fusing D → Fusing D → Fusing D → Type 0
OwnRose w a b a' b' = Rose (w.faults a.disk) (w.faults a'.disk) ⊎ Rose (w.faults b.disk) (w.faults b'.disk)

-- ---- the answers
-- The journal stands for what the bytes of both areas stand for.
pub record IsRecovered {D : Type 0} (w : disks.Ghosts D) (a b : Fusing D) (limit : ℕ) (j : Journaling D) (entries : List Entry) : Type 0 where
  pub stands : Tell w a b → journal_of (w.history a.disk).now.held (w.history b.disk).now.held ≡ Ok (current_in j entries)
  pub ready : IsReady w j entries
  pub sound : j.failed ≡ false
  pub limited : j.limit ≡ limit
  pub first : j.fresh ≡ true → j.generation ≡ 0
  pub areas : Opens w a b (fused_0 j) (fused_1 j)

-- Why there is none: the current area is damaged at this place, or the own count of an area rose, or there was no memory.
pub record IsBroken {D : Type 0} (w : disks.Ghosts D) (a b a' b' : Fusing D) (why : RecoverFault) : Type 0 where
  pub damaged : (area place : ℕ) → why ≡ faults.Damaged area place → Tell w a b → journal_of (w.history a.disk).now.held (w.history b.disk).now.held ≡ Err (area, place)
  pub failed : why ≡ faults.Failed → OwnRose w a b a' b'
  pub areas : Opens w a b a' b'

-- ---- the parts of an opening
-- an area at rest under this head
pub record IsHeaded {D : Type 0} (w : disks.Ghosts D) (area : Fusing D) (generation : Option ℕ) (shut : Bool) : Type 0 where
  pub rest : IsTrue (w.tells area.disk) → IsAtRest (w.history area.disk).now
  pub head : IsTrue (w.tells area.disk) → head_of (w.history area.disk).now.held ≡ generation
  pub closed : IsTrue (w.tells area.disk) → is_shut (w.history area.disk).now.held ≡ shut

-- the journal whose current area was read
pub record IsOpened {D : Type 0} (w : disks.Ghosts D) (second : Bool) (here there : Fusing D) (generation limit : ℕ) (j : Journaling D) (entries : List Entry) : Type 0 where
  pub read : IsRead w here j.here
  pub other : j.there ≡ there
  pub side : j.second ≡ second
  pub current : j.fresh ≡ false
  pub number : j.generation ≡ generation
  pub bounded : j.limit ≡ limit
  pub sound : j.failed ≡ false
  pub ready : IsReady w j entries

-- why the current area was not read
pub record IsUnread {D : Type 0} (w : disks.Ghosts D) (second : Bool) (here there here' there' : Fusing D) (why : RecoverFault) : Type 0 where
  pub read : IsRead w here here'
  pub other : there' ≡ there
  pub damaged : (area place : ℕ) → why ≡ faults.Damaged area place → (area ≡ area_number second) × (IsTrue (w.tells here.disk) → area_of (w.history here.disk).now.held ≡ Err place)
  pub failed : why ≡ faults.Failed → Rose (w.faults here.disk) (w.faults here'.disk)
