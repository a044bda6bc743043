-- A cluster gives as many tiers back as it was given.
use Rattle.std.proofs.Common.{◌≡◌, ℕ, suc, List, [], ◌∷◌, map, length, refl, ap, ◌∙◌, arith}
use Rattle.std.specs.Global.{Vec}
use Rattle.outside.specs.declared.objects.Objects as objects
use Rattle.cluster_core.specs.Begun.{tier_counts}
use Rattle.cluster_core.specs.Media.{NodesStay}
use Rattle.cluster_core.specs.declared.node.Node.{Node}

module _ {S R W : Type 0} (o : objects.Ghosts S R W) where
  tiers_of : List (Node S) → List (Vec S)
  tiers_of nodes = map (λ (n : Node S). n.tiers) nodes

  counts_stay : (old new : List (Node S)) → NodesStay o old new → tier_counts (tiers_of new) ≡ tier_counts (tiers_of old)
  unfolding tiers_of
  counts_stay [] [] stay = refl
  counts_stay [] (m ∷ ms) stay = absurd (let h = stay.same_length in omega (arith, h))
  counts_stay (n ∷ ns) [] stay = absurd (let h = stay.same_length in omega (arith, h))
  counts_stay (n ∷ ns) (m ∷ ms) stay =
      let first : length m.tiers.items ≡ length n.tiers.items = (stay.each 0 n m refl refl).same_length in
      let same : length ms ≡ length ns = (let h = stay.same_length in omega (arith, h)) in
      let rest : NodesStay o ns ms = record { same_length = same; each = λ i a b was is. stay.each (suc i) a b was is } in
      ap (λ (k : ℕ). k ∷ tier_counts (tiers_of ms)) first ∙ ap (λ (ks : List ℕ). length n.tiers.items ∷ ks) (counts_stay ns ms rest)

  -- the media before and after have as many tiers
  pub as_many : (before after : List (Vec S)) (old new : List (Node S)) → NodesStay o old new → map (λ (n : Node S). n.tiers) old ≡ before → after ≡ map (λ (n : Node S). n.tiers) new → tier_counts after ≡ tier_counts before
  unfolding tiers_of
  as_many before after old new stay opened closed = ap tier_counts closed ∙ counts_stay old new stay ∙ ap tier_counts opened
