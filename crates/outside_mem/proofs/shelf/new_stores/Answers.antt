use Rattle.std.proofs.Common.{[], ◌∷◌, length-append, ap, arith, length}
use Rattle.outside_mem.specs.Named.{IsNew}
use Rattle.outside_mem.proofs.NewMedia.{all_pushed}
use Rattle.outside_mem.proofs.shelf.new_stores.Goals as goal

pub loop-preserved : goal.loop-preserved
loop-preserved c = record {
  len = omega (arith, ap length c.in_ok-push.ensures.items, length-append c.loop.stores.items (c.new.result ∷ []));
  new = all_pushed IsNew c.loop.stores.items c.new.result c.push.new.self.items c.in_ok-push.ensures.items c.loop.invariant.new (record { objects = c.new.ensures.objects; calls = c.new.ensures.calls; counts = c.new.ensures.counts });
}
