use Rattle.std.proofs.Common.{◌∙◌, length, slice_index_or, sym}
use Rattle.std.proofs.Math.Seq.{map-set_same}
use Rattle.std.specs.Vec.{with_items}
use Rattle.outside_mem.proofs.store_tests.lending.write_into_tier.Goals as goal

pub returns : goal.returns
returns g c =
    let own = slice_index_or c.args.tiers.now c.args.worker c.index-tiers-worker.result in
    let after = with_items own c.write_into.new.stores in
    map-set_same (λ own. length own.items) c.args.tiers.now c.args.worker after c.index-tiers-worker.result (sym after.ok.0 ∙ own.ok.0)
