-- Keys of two names don't cross, and which tier's count rose.
use Rattle.std.proofs.Common.{◌≡◌, Bool, true, false, not, ◌&&◌, ◌||◌, [], ◌∷◌, length, Option, Some, None, ap₂, arith}
use Rattle.std.specs.Prelude.{IsSome, IsSomeAnd}
use Rattle.std.specs.Cmp.Lexicographic.{nat_list_eq_equiv}
use Rattle.outside.specs.Keys.{KeyNames, key_eq, is_below, crosses}
use Rattle.outside.specs.Contents.{Contents, IsCrossed}
use Rattle.outside.specs.declared.objects.Objects as objects
use Rattle.cluster_core.specs.Stands.{TierTells}

neither : (e d : Bool) → d ≡ e → (not e && (e || d)) ≡ true → ⊥
neither true d same h = cc
neither false true same h = cc
neither false false same h = cc

-- two keys of two names aren't prefixes of one another
pub not_crossed : (k l : KeyNames) → length k ≡ 2 → length l ≡ 2 → crosses k l ≡ true → ⊥
not_crossed (a ∷ b ∷ []) (c ∷ d ∷ []) two too h = neither (key_eq (a ∷ b ∷ []) (c ∷ d ∷ [])) (is_below (c ∷ d ∷ []) (a ∷ b ∷ [])) (ap₂ (λ x y. x && (y && true)) (nat_list_eq_equiv.symm c a) (nat_list_eq_equiv.symm d b)) h
not_crossed [] l two too h = absurd (omega (arith, two))
not_crossed (a ∷ []) l two too h = absurd (omega (arith, two))
not_crossed (a ∷ b ∷ c ∷ k) l two too h = absurd (omega (arith, two))
not_crossed (a ∷ b ∷ []) [] two too h = absurd (omega (arith, too))
not_crossed (a ∷ b ∷ []) (c ∷ []) two too h = absurd (omega (arith, too))
not_crossed (a ∷ b ∷ []) (c ∷ d ∷ e ∷ l) two too h = absurd (omega (arith, too))

module _ {S R W : Type 0} (o : objects.Ghosts S R W) where
  -- so a key of two names can stand beside those of a tier
  pub none_crossed : (s : S) (key : KeyNames) → length key ≡ 2 → TierTells o s → IsCrossed (o.told s) key → ⊥
  none_crossed s key two tells crossed = by_told (o.told s) tells crossed
    where
      by_told : (x : Option Contents) → IsSomeAnd x (λ (m : Contents). (k : KeyNames) → IsSome (m k) → length k ≡ 2) → IsCrossed x key → ⊥
      by_told None t h = h
      by_told (Some m) t h = not_crossed key h.0 two (t h.0 h.2) h.1
