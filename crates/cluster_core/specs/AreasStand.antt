-- How the journal's areas hold what the file machine has, and what it has in doubt.
use Rattle.std.specs.Prelude.{ℕ, ◌≡◌, ◌⊎◌, ◌+◌, ◌<◌, ◌≤◌, ◌*◌, ⊤, true, List, length, Option, Some, None, find, nat_eq}
use Rattle.fs_model.specs.declared.change.Change.{Change}
use Rattle.fs_model.specs.declared.reply.Stored.{Stored}
use Rattle.fs_model.specs.State.{Content, Doubt, Master, Names}
use Rattle.fs_model.specs.Changes.{apply, entry_len}
use Rattle.fs_model.specs.NodesEvents.{checkpoint_gate}
use Rattle.outside.specs.History.{Images}
use Rattle.outside.specs.declared.disk.Disk as disks
use Rattle.journal_disk.specs.Journaling.{BothTell, area_0, area_1}
use Rattle.master_node.specs.Mastering.{Mastering, Standing, StandsFor}
use Rattle.cluster_core.specs.Knowledge.{Knowledge}

-- what is kept of the bytes of a file
abbrev pub content_row : List Content → ℕ → Option Content
content_row contents id = find (λ c. nat_eq c.file id) contents

-- ---- what areas stand for

-- the names, gate and generation of a state
abbrev pub standing_at : Names → Master → Standing
standing_at N M = record { names = N; gate = M.gate; generation = M.generation }

-- the same with what is in doubt
abbrev pub with_doubt : Option Doubt → Names → ℕ → ℕ → Standing
with_doubt None N gate generation = record { names = N; gate = gate; generation = generation }
with_doubt (Some (Doubt.InChange c bytes)) N gate generation = record { names = apply c N; gate = gate + 1 + entry_len c; generation = generation }
with_doubt (Some Doubt.InCheckpoint) N gate generation = record { names = N; gate = checkpoint_gate N; generation = generation + 1 }

-- so it is with a state
abbrev pub doubted_at : Names → Master → Standing
doubted_at N M = with_doubt M.doubt N M.gate M.generation

-- ---- what is in doubt

-- a file that may be done: its bytes are known, but not kept yet, and nobody writes it
pub record DoneFitsDoubt (K : Knowledge) (contents : List Content) (next bs id n : ℕ) (kind : Stored) (plan : ℕ) (all : List ℕ) : Type 0 where
  pub old : id < next
  pub unstored : kind ≡ Stored.No
  pub planless : plan ≡ 0
  pub bytes : K.bytes_of id ≡ Some all
  pub len : length all ≡ n
  pub short : length all ≤ 65536 * bs
  pub written : K.author id ≡ None
  pub unkept : content_row contents id ≡ None

-- a change that may have been made is one that the program makes
abbrev pub ChangeFits : Knowledge → List Content → ℕ → ℕ → Change → List ℕ → Type 0
ChangeFits K contents next bs (Change.Mkdir p) bytes = ⊤
ChangeFits K contents next bs (Change.Create id p) bytes = id ≡ next
ChangeFits K contents next bs (Change.Done id len stored plan) bytes = DoneFitsDoubt K contents next bs id len stored plan bytes
ChangeFits K contents next bs c bytes = ⊥

-- so it is with what is in doubt, if anything is
abbrev pub DoubtFits : Knowledge → List Content → ℕ → ℕ → Option Doubt → Type 0
DoubtFits K contents next bs None = ⊤
DoubtFits K contents next bs (Some (Doubt.InChange c bytes)) = ChangeFits K contents next bs c bytes
DoubtFits K contents next bs (Some Doubt.InCheckpoint) = ⊤

-- ---- both

-- both areas tell, each pair of images of them stands for the state, or for it with what is in doubt; and nothing is in doubt while the master is up
pub record AreasStand {D : Type 0} (d : disks.Ghosts D) (K : Knowledge) (contents : List Content) (bs : ℕ) (m : Mastering D) (N : Names) (M : Master) : Type 0 where
  pub tell : BothTell d m.journal
  pub images : Images (λ x y. StandsFor (standing_at N M) x y ⊎ StandsFor (doubted_at N M) x y) (d.history (area_0 m.journal)).now (d.history (area_1 m.journal)).now
  pub certain : M.up ≡ true → M.doubt ≡ None
  pub fits : DoubtFits K contents N.next_id bs M.doubt
