-- Whether one of the numbers from a place on passes a test.
use Rattle.std.proofs.Common.{◌≡◌, ℕ, suc, ◌+◌, ◌-◌, ◌<◌, Bool, false, ◌||◌, ap, ◌∙◌, arith}
use Rattle.std.specs.List.{list_any, range_with_len}

module _ (test : ℕ → Bool) (i n : ℕ) where
  -- this number, or a later one
  one_more : i < n → list_any test (range_with_len i (n - i)) ≡ (test i || list_any test (range_with_len (i + 1) (n - (i + 1))))
  one_more lt = let more : n - i ≡ suc (n - (i + 1)) = omega (arith, lt) in ap (λ k. list_any test (range_with_len i k)) more

  pub any_later : i < n → test i ≡ false → list_any test (range_with_len i (n - i)) ≡ list_any test (range_with_len (i + 1) (n - (i + 1)))
  any_later lt fails = one_more lt ∙ ap (λ b. b || list_any test (range_with_len (i + 1) (n - (i + 1)))) fails
