-- Media that tell that they are steady, and what is read and written over them.
use Rattle.std.specs.Prelude.{ℕ, ◌≡◌, true, List, Some, IfSome, slice_get}
use Rattle.std.specs.List.{All}
use Rattle.outside.specs.declared.media.Media.{Media}
use Rattle.outside.specs.declared.disk.Disk as disks
use Rattle.outside.specs.declared.objects.Objects as objects
use Rattle.outside.specs.declared.objects.ObjectRead as reads
use Rattle.outside.specs.declared.objects.ObjectWrite as writes
use Rattle.file_writer.specs.Parts.{is_block_steady, is_object_steady}
use Rattle.cluster_core.specs.LabelsView.{LabelsView, hand_in}
use Rattle.cluster_core.specs.declared.cluster.Core.{Core}
use Rattle.cluster_core.specs.declared.hand.Hand.{Hand}
use Rattle.cluster_core.specs.declared.node.Node.{Node}

-- all tiers are steady
abbrev pub MediaSteady : {D S R W : Type 0} → objects.Ghosts S R W → Media D S → Type 0
MediaSteady o m = All (λ v. All (λ s. o.steady s ≡ true) v.items) m.tiers.items

-- each tier of each worker is steady
abbrev pub TiersSteady : {S R W : Type 0} → objects.Ghosts S R W → List (Node S) → Type 0
TiersSteady {S} o nodes = (i t : ℕ) (n : Node S) (s : S) → slice_get nodes i ≡ Some n → slice_get n.tiers.items t ≡ Some s → o.steady s ≡ true

module _ {R W : Type 0} (r : reads.Ghosts R) (w : writes.Ghosts W) where
  -- the reader or the writers of what is under a label are steady
  abbrev pub IsHandSteady : Hand R W → Type 0
  IsHandSteady (Hand.Reading x) = IfSome x.source (λ b. r.steady b.stream.reader ≡ true)
  IsHandSteady (Hand.Writing x) = (is_block_steady w x.bytes.block ≡ true) × (is_object_steady w x.bytes.object ≡ true)

  -- so it is under each label of each actor
  abbrev pub HandsSteady : List (LabelsView (Hand R W)) → Type 0
  HandsSteady labels = (i : ℕ) (l : List ℕ) (s : LabelsView (Hand R W)) (h : Hand R W) → slice_get labels i ≡ Some s → hand_in s l ≡ Some h → IsHandSteady h

-- each tier is steady, and what is under each label
pub record IsSteady {D S R W : Type 0} (d : disks.Ghosts D) (o : objects.Ghosts S R W) (r : reads.Ghosts R) (w : writes.Ghosts W) (core : Core D S R W d w) : Type 0 where
  pub tiers : TiersSteady o core.workers.items
  pub hands : HandsSteady r w core.hands.items
