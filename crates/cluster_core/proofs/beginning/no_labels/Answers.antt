use Rattle.cluster_core.specs.Begun.{HasNone}
use Rattle.cluster_core.proofs.BeginGo.{one_more, all_more}
use Rattle.cluster_core.proofs.beginning.no_labels.Goals as goal

pub loop-preserved : goal.loop-preserved
loop-preserved g c =
    let is = c.in_ok-push.ensures.items in (
      one_more c.loop.hands.items c.new.result c.push.new.self.items c.loop.counter is c.loop.invariant.0,
      all_more HasNone c.loop.hands.items c.new.result c.push.new.self.items is (record { hands = c.new.ensures.none; counts = c.new.ensures.count }) c.loop.invariant.1,
    )
