-- What a label has beside what the machine has there, and all labels after an event of one.
use Rattle.std.proofs.Common.{◌≡◌, ℕ, suc, ◌<◌, Bool, true, false, cond, List, [], length, get_or, set, Option, Some, None, is_some, refl, sym, ap, ◌∙◌, subst, arith}
use Rattle.std.specs.Prelude.{IsSomeAnd, slice_get}
use Rattle.fs_model.specs.Words.{name_eq}
use Rattle.fs_model.specs.State as machine
use Rattle.fs_model.specs.State.{Hands}
use Rattle.fs_model.specs.Lookups.{hand_at, has_label}
use Rattle.fs_model.specs.Updates.{add_hand, set_hand, end_hand}
use Rattle.outside.specs.declared.objects.ObjectRead as reads
use Rattle.outside.specs.declared.objects.ObjectWrite as writes
use Rattle.cluster_core.specs.declared.node.Node.{Node}
use Rattle.cluster_core.specs.declared.hand.Hand.{Hand}
use Rattle.cluster_core.specs.Tiers.{ChangesAt}
use Rattle.cluster_core.specs.LabelsView.{LabelsView, hand_in, count}
use Rattle.cluster_core.specs.Hands.{Matches}
use Rattle.cluster_core.specs.HandChanges.{AddsHand, SetsHand, EndsHand}
use Rattle.cluster_core.specs.Knowledge.{Knowledge, Leaves, Holder}
use Rattle.cluster_core.specs.HandFits.{HandFits, Fits}
use Rattle.cluster_core.specs.Stands.{HandsStand}
use Rattle.cluster_core.proofs.LabelLaws.{matches_added, matches_set, matches_ended}
use Rattle.cluster_core.proofs.Actors.{passes, hands_change}

-- ---- taken out and put back

module _ {T : Type 0} where
  -- one actor's labels, once a hand was taken out and another put back
  set_by : (l k : List ℕ) (t u : T) (old mid new : LabelsView T) → k ≡ l → EndsHand l t old mid → AddsHand k u mid new → SetsHand l t u old new
  set_by l k t u old mid new same ended added = record {
    there = ended.there;
    hands = λ m. added.hands m ∙ ap (λ q. cond (name_eq q m) (Some u) (hand_in mid m)) same ∙ ap (cond (name_eq l m) (Some u)) (ended.hands m) ∙ twice (name_eq l m) (hand_in old m);
    count = added.count ∙ sym ended.count;
  }
    where
      twice : (b : Bool) (x : Option T) → cond b (Some u) (cond b None x) ≡ cond b (Some u) x
      twice true x = refl
      twice false x = refl

  -- two changes at one place are one
  at_both : {P Q G : LabelsView T → LabelsView T → Type 0} (x y z : Option (LabelsView T)) → IsSomeAnd x (λ s. IsSomeAnd y (λ u. P s u)) → IsSomeAnd y (λ s. IsSomeAnd z (λ u. Q s u)) → ((s u v : LabelsView T) → P s u → Q u v → G s v) → IsSomeAnd x (λ s. IsSomeAnd z (λ v. G s v))
  at_both None y z p q f = absurd p
  at_both (Some s) None z p q f = absurd p
  at_both (Some s) (Some u) None p q f = absurd q
  at_both (Some s) (Some u) (Some v) p q f = f s u v p q

  -- so it is with the labels of all actors
  pub sets_hand : (i : ℕ) (l k : List ℕ) (t u : T) (old mid new : List (LabelsView T)) → k ≡ l → ChangesAt old mid i (EndsHand l t) → ChangesAt mid new i (AddsHand k u) → ChangesAt old new i (SetsHand l t u)
  sets_hand i l k t u old mid new same ended added = record {
    same_length = added.same_length ∙ ended.same_length;
    at = at_both (slice_get old i) (slice_get mid i) (slice_get new i) ended.at added.at (λ a b c. set_by l k t u a b c same);
    others = λ j differs. added.others j differs ∙ ended.others j differs;
  }

  -- what was there, where a hand was set or ended
  pub there_at : {G : LabelsView T → LabelsView T → Type 0} (P : LabelsView T → Type 0) (x y : Option (LabelsView T)) → IsSomeAnd x (λ s. IsSomeAnd y (λ u. G s u)) → ((s u : LabelsView T) → G s u → P s) → IsSomeAnd x P
  there_at P None y g f = absurd g
  there_at P (Some s) None g f = absurd g
  there_at P (Some s) (Some u) g f = f s u g

  pub set_there : (i : ℕ) (l : List ℕ) (t u : T) (old new : List (LabelsView T)) → ChangesAt old new i (SetsHand l t u) → IsSomeAnd (slice_get old i) (λ s. hand_in s l ≡ Some t)
  set_there i l t u old new c = there_at (λ s. hand_in s l ≡ Some t) (slice_get old i) (slice_get new i) c.at (λ a b h. h.there)

  pub end_there : (i : ℕ) (l : List ℕ) (t : T) (old new : List (LabelsView T)) → ChangesAt old new i (EndsHand l t) → IsSomeAnd (slice_get old i) (λ s. hand_in s l ≡ Some t)
  end_there i l t old new c = there_at (λ s. hand_in s l ≡ Some t) (slice_get old i) (slice_get new i) c.at (λ a b h. h.there)

module _ {S R W : Type 0} (r : reads.Ghosts R) (w : writes.Ghosts W) where
  -- ---- what the machine has under a label

  module _ (K : Knowledge) (nodes : List (Node S)) (next bs : ℕ) (all : List Hands) (labels : List (LabelsView (Hand R W))) (was : HandsStand r w K nodes next bs all labels) (i : ℕ) (within : i < 64) (l : List ℕ) where
    -- the labels' hands on both sides
    both_sides : (t : Option (Hand R W)) (x : Option (LabelsView (Hand R W))) → IsSomeAnd x (λ s. hand_in s l ≡ t) → IsSomeAnd x (Matches (λ m. HandFits r w K nodes next bs (suc i, m)) (get_or all i [])) → HandFits r w K nodes next bs (suc i, l) (hand_at (get_or all i []) l) t
    both_sides t None p m = absurd p
    both_sides t (Some s) p m = subst (λ q. HandFits r w K nodes next bs (suc i, l) (hand_at (get_or all i []) l) q) p (m.hands l)

    some_side : (h : Option machine.Hand) (t : Hand R W) → HandFits r w K nodes next bs (suc i, l) h (Some t) → (k : machine.Hand) × (h ≡ Some k) × Fits r w K nodes next bs (suc i, l) k t
    some_side None t f = absurd f
    some_side (Some k) t f = (k, refl, f)

    none_side : (h : Option machine.Hand) → HandFits r w K nodes next bs (suc i, l) h None → h ≡ None
    none_side None f = refl
    none_side (Some k) f = absurd f

    -- a hand fits one of the machine's
    pub fits_at : (t : Hand R W) → IsSomeAnd (slice_get labels i) (λ s. hand_in s l ≡ Some t) → (k : machine.Hand) × (hand_at (get_or all i []) l ≡ Some k) × Fits r w K nodes next bs (suc i, l) k t
    fits_at t at = some_side (hand_at (get_or all i []) l) t (both_sides (Some t) (slice_get labels i) at (was.each i within))

    -- no hand, and none of the machine's
    pub absent_at : IsSomeAnd (slice_get labels i) (λ s. hand_in s l ≡ None) → hand_at (get_or all i []) l ≡ None
    absent_at at = none_side (hand_at (get_or all i []) l) (both_sides None (slice_get labels i) at (was.each i within))

    -- as many labels on both sides
    counted : (n : ℕ) (x : Option (LabelsView (Hand R W))) → IsSomeAnd x (λ s. count s ≡ n) → IsSomeAnd x (Matches (λ m. HandFits r w K nodes next bs (suc i, m)) (get_or all i [])) → length (get_or all i []) ≡ n
    counted n None p m = absurd p
    counted n (Some s) p m = m.counts ∙ p

    pub count_at : (n : ℕ) → IsSomeAnd (slice_get labels i) (λ s. count s ≡ n) → length (get_or all i []) ≡ n
    count_at n at = counted n (slice_get labels i) at (was.each i within)

  -- ---- all labels after an event of one

  module _ (K N : Knowledge) (old new : List (Node S)) (before now bs i : ℕ) (l : List ℕ) (left : Leaves (suc i, l) K N old new before now) (all : List Hands) (labels changed : List (LabelsView (Hand R W))) (was : HandsStand r w K old before bs all labels) (within : i < 64) where
    is_there : (k : machine.Hand) → hand_at (get_or all i []) l ≡ Some k → has_label (get_or all i []) l ≡ true
    is_there k there = ap is_some there

    -- the label has another hand
    pub hands_set : (t u : Hand R W) (k h : machine.Hand) → hand_at (get_or all i []) l ≡ Some k → ChangesAt labels changed i (SetsHand l t u) → Fits r w N new now bs (suc i, l) h u → HandsStand r w N new now bs (set all i (set_hand l h (get_or all i []))) changed
    hands_set t u k h there change fits = hands_change r w K N old new before now bs i l left all labels changed (SetsHand l t u) was within change (set_hand l h (get_or all i [])) (λ s v m c. matches_set v l h m (passes r w K N old new before now bs i l left) t u (is_there k there) c fits)

    -- the label ends
    pub hands_ended : (t : Hand R W) (k : machine.Hand) → hand_at (get_or all i []) l ≡ Some k → ChangesAt labels changed i (EndsHand l t) → HandsStand r w N new now bs (set all i (end_hand l (get_or all i []))) changed
    hands_ended t k there change = hands_change r w K N old new before now bs i l left all labels changed (EndsHand l t) was within change (end_hand l (get_or all i [])) (λ s v m c. matches_ended v l t m (passes r w K N old new before now bs i l left) (is_there k there) c tt)

    -- the label comes
    pub hands_added : (t : Hand R W) (h : machine.Hand) → hand_at (get_or all i []) l ≡ None → ChangesAt labels changed i (AddsHand l t) → Fits r w N new now bs (suc i, l) h t → HandsStand r w N new now bs (set all i (add_hand l h (get_or all i []))) changed
    hands_added t h absent change fits = hands_change r w K N old new before now bs i l left all labels changed (AddsHand l t) was within change (add_hand l h (get_or all i [])) (λ s v m c. matches_added v l h m (passes r w K N old new before now bs i l left) t absent c fits)

-- all stays, for an event that changes nothing but its label's hand
pub leaves_all : {S : Type 0} (a : Holder) (K : Knowledge) (nodes : List (Node S)) (next : ℕ) → Leaves a K K nodes nodes next next
leaves_all a K nodes next = record {
  later = omega arith;
  files = λ id few other. (refl, refl);
  owners = λ w n b h other. h;
  rooms = λ w started n bytes b h other there. there;
}
