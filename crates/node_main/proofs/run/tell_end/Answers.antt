use Rattle.std.proofs.Common.{ℕ, List, take, subst}
use Rattle.outside.specs.Streams.{Takes}
use Rattle.node_main.specs.Ends.{ToldAs}
use Rattle.node_main.proofs.run.tell_end.Goals as goal

pub returns-in-Ok-clause-ends : goal.returns-in-Ok-clause-ends
returns-in-Ok-clause-ends g c = ToldAs.Told (subst (λ (text : List ℕ). Takes (g.W.Out.Sink.taken (g.W.World.output c.args.world.now)) (g.W.Out.Sink.taken (g.W.World.output c.give.new.world)) text) c.requires c.in-Ok.ensures.whole)

pub returns-in-Err-clause-ends : goal.returns-in-Err-clause-ends
returns-in-Err-clause-ends g c =
    let part = c.in-Err.ensures.partly in
    ToldAs.Partly part.0 (subst (λ (text : List ℕ). Takes (g.W.Out.Sink.taken (g.W.World.output c.args.world.now)) (g.W.Out.Sink.taken (g.W.World.output c.give.new.world)) (take part.0 text)) c.requires part.1) c.in-Err.ensures.cause
