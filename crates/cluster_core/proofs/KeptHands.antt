-- A core whose labels all have what they had stands for the same states.
use Rattle.std.proofs.Common.{◌≡◌, ℕ, suc, ◌<◌, List, [], get_or, refl, ap, ◌∙◌, subst}
use Rattle.std.proofs.lemmas.List.{set-get_or}
use Rattle.fs_model.specs.declared.setup.Setup.{Setup}
use Rattle.fs_model.specs.State.{Hands, Whole}
use Rattle.outside.specs.declared.disk.Disk as disks
use Rattle.outside.specs.declared.objects.Objects as objects
use Rattle.outside.specs.declared.objects.ObjectRead as reads
use Rattle.outside.specs.declared.objects.ObjectWrite as writes
use Rattle.cluster_core.specs.Tiers.{ChangesAt}
use Rattle.cluster_core.specs.LabelsView.{LabelsView}
use Rattle.cluster_core.specs.HandChanges.{KeepsHands}
use Rattle.cluster_core.specs.Kept.{KeepsRest}
use Rattle.cluster_core.specs.Stands.{Stands, HandsStand}
use Rattle.cluster_core.specs.declared.cluster.Core.{Core}
use Rattle.cluster_core.specs.declared.hand.Hand.{Hand}
use Rattle.cluster_core.specs.declared.node.Node.{Node}
use Rattle.cluster_core.specs.Knowledge.{Knowledge}
use Rattle.cluster_core.proofs.LabelLaws.{matches_kept}
use Rattle.cluster_core.proofs.Actors.{hands_change}
use Rattle.cluster_core.proofs.Labelled.{leaves_all}
use Rattle.cluster_core.proofs.Standing.{stands_by}

-- what two calls leave
pub kept_twice : {D S R W : Type 0} {d : disks.Ghosts D} {w : writes.Ghosts W} (old mid new : Core D S R W d w) → KeepsRest old mid → KeepsRest mid new → KeepsRest old new
kept_twice old mid new a b = record { block = b.block ∙ a.block; master = b.master ∙ a.master; stores = b.stores ∙ a.stores }

-- where each label of an actor has what it had, all fit still
pub hands_kept : {S R W : Type 0} (r : reads.Ghosts R) (w : writes.Ghosts W) (K : Knowledge) (nodes : List (Node S)) (next bs i : ℕ) (all : List Hands) (labels changed : List (LabelsView (Hand R W))) → HandsStand r w K nodes next bs all labels → i < 64 → ChangesAt labels changed i KeepsHands → HandsStand r w K nodes next bs all changed
hands_kept r w K nodes next bs i all labels changed was within change =
    subst (λ hs. HandsStand r w K nodes next bs hs changed) (set-get_or all i [])
    (hands_change r w K K nodes nodes next next bs i [] (leaves_all (suc i, []) K nodes next) all labels changed KeepsHands was within change (get_or all i []) (λ s u m c. matches_kept u m c (λ l h t f. f)))

module _ {D S R W : Type 0} {d : disks.Ghosts D} (o : objects.Ghosts S R W) (r : reads.Ghosts R) (w : writes.Ghosts W) (U : Setup) (V : Whole) where
  -- and so the core stands
  pub stands_kept : (old new : Core D S R W d w) (i : ℕ) → i < 64 → KeepsRest old new → new.workers ≡ old.workers → ChangesAt old.hands.items new.hands.items i KeepsHands → Stands d o r w U old V → Stands d o r w U new V
  stands_kept old new i within rest workers change s = stands_by o r w U new V s.known old.block old.master.journal.limit old.master old.workers.items new.hands.items rest.block (ap (λ k. k.journal.limit) rest.master) rest.master (ap (λ v. v.items) workers) refl (record {
    setup = s.setup;
    named = s.names;
    areas = s.areas;
    workers = s.workers;
    hands = hands_kept r w s.known old.workers.items old.master.kept.names.next_id old.block i V.hands old.hands.items new.hands.items s.hands within change;
    files = s.files;
    objects = s.objects;
  })
