-- What is kept under the labels matches the file machine's list through each change of a label.
use Rattle.std.proofs.Common.{◌≡◌, ℕ, ◌+◌, true, false, cond, List, [], length, Option, Some, None, refl, sym, ap, ◌∙◌, subst, arith}
use Rattle.fs_model.specs.Words.{name_eq}
use Rattle.fs_model.specs.State.{Hand, Hands}
use Rattle.fs_model.specs.Lookups.{hand_at, has_label}
use Rattle.fs_model.specs.Updates.{add_hand, set_hand, end_hand}
use Rattle.cluster_core.specs.LabelsView.{LabelsView, hand_in, count}
use Rattle.cluster_core.specs.Hands.{Matches}
use Rattle.cluster_core.specs.HandChanges.{KeepsHands, AddsHand, SetsHand, EndsHand}
use Rattle.cluster_core.proofs.HandLists.{hand_at-add, length-add, is_distinct-add, hand_at-set, length-set_hand, is_distinct-set, hand_at-end, length-end, is_distinct-end}
use Rattle.cluster_core.proofs.SameLabels.{alike}

module _ {T : Type 0} (Q : List ℕ → Option Hand → Option T → Type 0) where
  -- Q under a label that decides, and under any other
  under_each : (l m : List ℕ) (x h : Option Hand) (y t : Option T) → Q l x y → (name_eq l m ≡ false → Q m h t) → Q m (cond (name_eq l m) x h) (cond (name_eq l m) y t)
  under_each l m x h y t here there = elim (name_eq l m) as (λ b. name_eq l m ≡ b → Q m (cond b x h) (cond b y t)) [
    | true ↦ λ same. subst (λ k. Q k x y) (alike l m same) here
    | false ↦ there
  ] refl

  -- Q at equal sides
  placed : (m : List ℕ) (x z : Option Hand) (y w : Option T) → x ≡ z → y ≡ w → Q m z w → Q m x y
  placed m x z y w first second holds = subst (λ o. Q m o y) (sym first) (subst (λ o. Q m z o) (sym second) holds)

-- R gives Q of each label but this one
abbrev pub Passes : {T : Type 0} → (List ℕ → Option Hand → Option T → Type 0) → (List ℕ → Option Hand → Option T → Type 0) → List ℕ → Type 0
Passes {T} R Q l = (m : List ℕ) (h : Option Hand) (t : Option T) → name_eq l m ≡ false → R m h t → Q m h t

module _ {T : Type 0} {R Q : List ℕ → Option Hand → Option T → Type 0} {H : Hands} {old : LabelsView T} (new : LabelsView T) where
  -- no label changes: after `reserve`
  pub matches_kept : Matches R H old → KeepsHands old new → ((m : List ℕ) (h : Option Hand) (t : Option T) → R m h t → Q m h t) → Matches Q H new
  matches_kept was change passes = record {
    hands = λ m. subst (λ o. Q m (hand_at H m) o) (sym (change.hands m)) (passes m (hand_at H m) (hand_in old m) (was.hands m));
    counts = was.counts ∙ sym change.count;
    distinct = was.distinct;
  }

  module _ (l : List ℕ) (h : Hand) (was : Matches R H old) (passes : Passes R Q l) where
    -- a label comes: after `insert`
    pub matches_added : (t : T) → hand_at H l ≡ None → AddsHand l t old new → Q l (Some h) (Some t) → Matches Q (add_hand l h H) new
    matches_added t absent change at = record {
      hands = λ m. placed Q m _ _ _ _ (hand_at-add l h H m absent) (change.hands m) (under_each Q l m (Some h) (hand_at H m) (Some t) (hand_in old m) at (λ other. passes m _ _ other (was.hands m)));
      counts = length-add l h H ∙ ap (λ n. n + 1) was.counts ∙ sym change.count;
      distinct = is_distinct-add l h H absent was.distinct;
    }

    -- a label has another hand: after `take` and `put`
    pub matches_set : (t u : T) → has_label H l ≡ true → SetsHand l t u old new → Q l (Some h) (Some u) → Matches Q (set_hand l h H) new
    matches_set t u there change at = record {
      hands = λ m. placed Q m _ _ _ _ (hand_at-set l h H m there) (change.hands m) (under_each Q l m (Some h) (hand_at H m) (Some u) (hand_in old m) at (λ other. passes m _ _ other (was.hands m)));
      counts = length-set_hand l h H ∙ was.counts ∙ sym change.count;
      distinct = is_distinct-set l h H was.distinct;
    }

  -- a label ends: after `take`
  pub matches_ended : (l : List ℕ) (t : T) → Matches R H old → Passes R Q l → has_label H l ≡ true → EndsHand l t old new → Q l None None → Matches Q (end_hand l H) new
  matches_ended l t was passes there change at = record {
    hands = λ m. placed Q m _ _ _ _ (hand_at-end l H m) (change.hands m) (under_each Q l m None (hand_at H m) None (hand_in old m) at (λ other. passes m _ _ other (was.hands m)));
    counts = fewer;
    distinct = is_distinct-end l H was.distinct;
  }
    where
      fewer : length (end_hand l H) ≡ count new
      fewer = omega (arith, length-end l H was.distinct there, was.counts, change.count)

-- no label: after `new`
pub matches_none : {T : Type 0} {R : List ℕ → Option Hand → Option T → Type 0} (s : LabelsView T) → ((l : List ℕ) → hand_in s l ≡ None) → count s ≡ 0 → ((l : List ℕ) → R l None None) → Matches R [] s
matches_none {T} {R} s hands counts at = record {
  hands = λ l. subst (λ o. R l None o) (sym (hands l)) (at l);
  counts = sym counts;
  distinct = refl;
}
