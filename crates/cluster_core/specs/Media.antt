-- What an event leaves of the areas, of the stores and of the workers' tiers, whatever the core stands for.
use Rattle.std.specs.Prelude.{ℕ, ◌≡◌, ◌≤◌, List, length, slice_get, Some}
use Rattle.outside.specs.declared.disk.Disk as disks
use Rattle.outside.specs.declared.objects.Objects as objects
use Rattle.outside.specs.declared.objects.ObjectWrite as writes
use Rattle.journal_disk.specs.Journaling.{Journaling, area_0, area_1}
use Rattle.cluster_core.specs.declared.node.Node.{Node}
use Rattle.cluster_core.specs.declared.cluster.Core.{Core}

module _ {S R W : Type 0} (o : objects.Ghosts S R W) where
  -- the worker has as many tiers as before, no tier's count fell, and each is steady as before
  pub record TiersStay (old new : Node S) : Type 0 where
    pub same_length : length new.tiers.items ≡ length old.tiers.items
    pub faults : (t : ℕ) (s u : S) → slice_get old.tiers.items t ≡ Some s → slice_get new.tiers.items t ≡ Some u → o.faults s ≤ o.faults u
    pub steady : (t : ℕ) (s u : S) → slice_get old.tiers.items t ≡ Some s → slice_get new.tiers.items t ≡ Some u → o.steady u ≡ o.steady s

  -- so it is with each worker
  pub record NodesStay (old new : List (Node S)) : Type 0 where
    pub same_length : length new ≡ length old
    pub each : (i : ℕ) (n m : Node S) → slice_get old i ≡ Some n → slice_get new i ≡ Some m → TiersStay n m

-- each area tells as before, its own count fell nowhere, and its greatest length stays
pub record AreasStay {D : Type 0} (d : disks.Ghosts D) (old new : Journaling D) : Type 0 where
  pub tells_0 : d.tells (area_0 new) ≡ d.tells (area_0 old)
  pub tells_1 : d.tells (area_1 new) ≡ d.tells (area_1 old)
  pub own_0 : d.faults (area_0 old) ≤ d.faults (area_0 new)
  pub own_1 : d.faults (area_1 old) ≤ d.faults (area_1 new)
  pub limit : new.limit ≡ old.limit

-- so it is with the journal's areas, the stores are as they were, no tier is lost, and no count of one fell
pub record MediaStays {D S R W : Type 0} (d : disks.Ghosts D) (o : objects.Ghosts S R W) {w : writes.Ghosts W} (old new : Core D S R W d w) : Type 0 where
  pub areas : AreasStay d old.master.journal new.master.journal
  pub stores : new.stores ≡ old.stores
  pub workers : NodesStay o old.workers.items new.workers.items
