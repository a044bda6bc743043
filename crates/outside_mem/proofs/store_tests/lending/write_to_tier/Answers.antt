use Rattle.std.proofs.Common.{◌≡◌, ◌∙◌, ap, arith, length, map}
use Rattle.std.proofs.lemmas.List.{with_items_is}
use Rattle.outside_mem.proofs.store_tests.lending.write_to_tier.Goals as goal

pub give_back-requires : goal.give_back-requires
give_back-requires g c =
    let tiers = c.in_ok-media.media.tiers in
    let written = c.write_into_tier-written.new.tiers in
    let len : length written ≡ tiers.len = omega arith in
    rw c.in_ok-media.ensures.lent (record {
      stores = c.in_ok-media.ensures.shape.stores;
      tiers = ap (map (λ own. length own.items)) (with_items_is tiers written len) ∙ (rw c.as_mut_slice.ensures.value at c.write_into_tier-written.ensures) ∙ c.in_ok-media.ensures.shape.tiers;
    })
