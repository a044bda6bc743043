-- All actors' labels fit after an event of one label.
use Rattle.std.proofs.Common.{◌≢◌, ℕ, suc, ◌<◌, List, [], get_or, set, Option, Some, None, inl, inr, refl, sym, ◌∙◌, subst, arith}
use Rattle.std.specs.Prelude.{IsSomeAnd, slice_get}
use Rattle.std.proofs.lemmas.List.{get_or-set_same, get_or-set_other, length-set}
use Rattle.fs_model.specs.State as machine
use Rattle.fs_model.specs.State.{Hands}
use Rattle.outside.specs.declared.objects.ObjectRead as reads
use Rattle.outside.specs.declared.objects.ObjectWrite as writes
use Rattle.cluster_core.specs.declared.node.Node.{Node}
use Rattle.cluster_core.specs.declared.hand.Hand.{Hand}
use Rattle.cluster_core.specs.Tiers.{ChangesAt}
use Rattle.cluster_core.specs.LabelsView.{LabelsView}
use Rattle.cluster_core.specs.Hands.{Matches}
use Rattle.cluster_core.specs.Knowledge.{Knowledge, Leaves}
use Rattle.cluster_core.specs.HandFits.{HandFits}
use Rattle.cluster_core.specs.Stands.{HandsStand}
use Rattle.cluster_core.proofs.LabelLaws.{matches_kept, Passes}
use Rattle.cluster_core.proofs.HandStays.{hand_stays, other_label, other_actor}
use Rattle.std.proofs.lemmas.Bool.{cases_eq}

-- P of what was there, and how it changed, give Q of what is there
pub both_at : {X : Type 0} (P Q : X → Type 0) (G : X → X → Type 0) (x y : Option X) → IsSomeAnd x P → IsSomeAnd x (λ s. IsSomeAnd y (λ u. G s u)) → ((s u : X) → P s → G s u → Q u) → IsSomeAnd y Q
both_at P Q G None y p g f = absurd p
both_at P Q G (Some s) None p g f = absurd g
both_at P Q G (Some s) (Some u) p g f = f s u p g

-- P of what is there, by a weaker Q
pub weaken_at : {X : Type 0} (P Q : X → Type 0) (x : Option X) → IsSomeAnd x P → ((s : X) → P s → Q s) → IsSomeAnd x Q
weaken_at P Q None p f = p
weaken_at P Q (Some s) p f = f s p

module _ {S R W : Type 0} (r : reads.Ghosts R) (w : writes.Ghosts W) (K N : Knowledge) (old new : List (Node S)) (before now bs i : ℕ) (l : List ℕ) (left : Leaves (suc i, l) K N old new before now) where
  -- what is under the labels of an actor fits what the machine has
  abbrev Was : ℕ → List ℕ → Option machine.Hand → Option (Hand R W) → Type 0
  Was j m = HandFits r w K old before bs (suc j, m)

  abbrev Now : ℕ → List ℕ → Option machine.Hand → Option (Hand R W) → Type 0
  Now j m = HandFits r w N new now bs (suc j, m)

  -- other labels of the actor
  pub passes : Passes (Was i) (Now i) l
  passes m h t other f = hand_stays r w K N old new before now bs (suc i, l) left (suc i, m) (other_label (suc i) l m other) h t f

  -- another actor's labels
  others_stay : (j : ℕ) → j ≢ i → (H : Hands) (s : LabelsView (Hand R W)) → Matches (Was j) H s → Matches (Now j) H s
  others_stay j differs H s was = matches_kept s was (record { hands = λ m. refl; count = refl }) (λ m h t f. hand_stays r w K N old new before now bs (suc i, l) left (suc j, m) (other_actor (suc i) (suc j) l m (λ e. differs (omega (arith, e)))) h t f)

  module _ (all : List Hands) (labels changed : List (LabelsView (Hand R W))) (G : LabelsView (Hand R W) → LabelsView (Hand R W) → Type 0) (was : HandsStand r w K old before bs all labels) (within : i < 64) (change : ChangesAt labels changed i G) where
    -- where the event's own labels match, all do
    pub hands_change : (H : Hands) → ((s u : LabelsView (Hand R W)) → Matches (Was i) (get_or all i []) s → G s u → Matches (Now i) H u) → HandsStand r w N new now bs (set all i H) changed
    hands_change H matches = record {
      actors = length-set all i H ∙ was.actors;
      each = λ j few. elim (cases_eq j i) [
        | inl here ↦
            let mine : IsSomeAnd (slice_get changed i) (Matches (Now i) H) = both_at (Matches (Was i) (get_or all i [])) (Matches (Now i) H) G (slice_get labels i) (slice_get changed i) (was.each i within) change.at matches in
            let set_here : IsSomeAnd (slice_get changed i) (Matches (Now i) (get_or (set all i H) i [])) = subst (λ K. IsSomeAnd (slice_get changed i) (Matches (Now i) K)) (sym (get_or-set_same all i H [] (omega (arith, within, was.actors)))) mine in
            subst (λ k. IsSomeAnd (slice_get changed k) (Matches (Now k) (get_or (set all i H) k []))) (sym here) set_here
        | inr differs ↦
            let theirs : IsSomeAnd (slice_get labels j) (Matches (Now j) (get_or all j [])) = weaken_at (Matches (Was j) (get_or all j [])) (Matches (Now j) (get_or all j [])) (slice_get labels j) (was.each j few) (others_stay j differs (get_or all j [])) in
            let hands_same : IsSomeAnd (slice_get labels j) (Matches (Now j) (get_or (set all i H) j [])) = subst (λ K. IsSomeAnd (slice_get labels j) (Matches (Now j) K)) (sym (get_or-set_other all i j H [] differs)) theirs in
            subst (λ o. IsSomeAnd o (Matches (Now j) (get_or (set all i H) j []))) (sym (change.others j differs)) hands_same
      ];
    }
