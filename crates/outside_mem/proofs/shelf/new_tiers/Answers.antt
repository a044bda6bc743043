use Rattle.std.proofs.Common.{◌≡◌, ap, arith, length, map, get_or}
use Rattle.std.specs.List.{All}
use Rattle.outside_mem.specs.Named.{IsNew}
use Rattle.outside_mem.proofs.NewMedia.{all_pushed, lens_on}
use Rattle.outside_mem.proofs.shelf.new_tiers.Goals as goal

pub loop-worker-preserved : goal.loop-worker-preserved
loop-worker-preserved c =
    let names = c.args.names.now in
    let place = c.loop-worker.worker-index in
    let same : length c.in_ok-new_stores.field-0.items ≡ length (get_or names place c.worker-item.result).items = omega (arith, c.in_ok-new_stores.ensures.len, ap (λ worker. length worker.items) c.worker-item.is, c.worker-item.result.ok.0) in
    record {
      lens = lens_on (λ own. length own.items) (λ worker. length worker.items) c.loop-worker.tiers.items c.in_ok-new_stores.field-0 c.push.new.self.items names place c.worker-item.result (map (λ worker. length worker.items) names) c.in_ok-push.ensures.items c.loop-worker-test.true same c.loop-worker.invariant.lens;
      new = all_pushed (λ own. All IsNew own.items) c.loop-worker.tiers.items c.in_ok-new_stores.field-0 c.push.new.self.items c.in_ok-push.ensures.items c.loop-worker.invariant.new c.in_ok-new_stores.ensures.new;
    }
