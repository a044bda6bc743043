-- For which states of the file machine a master stands.
use Rattle.std.specs.Prelude.{◌≡◌, false, not, []}
use Rattle.fs_model.specs.State.{State}
use Rattle.master_node.specs.Mastering.{Mastering, names_of}

-- the state has these names and this fuse, and its master is up where this one is, with this gate and generation; nothing is locked, and no worker was seen
pub record NamesStand {D : Type 0} (m : Mastering D) (A : State) : Type 0 where
  pub names : A.names ≡ names_of m
  pub gate : m.journal.failed ≡ false → A.master.gate ≡ m.journal.gate
  pub generation : m.journal.failed ≡ false → A.master.generation ≡ m.journal.generation
  pub fuse : A.master.fuse ≡ m.journal.here.fuse
  pub down : not A.master.up ≡ m.journal.failed
  pub unlocked : A.names.locks ≡ []
  pub unseen : A.names.seen ≡ []
