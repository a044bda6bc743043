-- What an event of the core leaves as it was.
use Rattle.std.specs.Prelude.{◌≡◌}
use Rattle.outside.specs.declared.disk.Disk as disks
use Rattle.outside.specs.declared.objects.ObjectWrite as writes
use Rattle.cluster_core.specs.declared.cluster.Core.{Core}

-- all but the workers and what is under labels is as it was
pub record KeepsRest {D S R W : Type 0} {d : disks.Ghosts D} {w : writes.Ghosts W} (old new : Core D S R W d w) : Type 0 where
  pub block : new.block ≡ old.block
  pub master : new.master ≡ old.master
  pub stores : new.stores ≡ old.stores
