use Rattle.std.proofs.Common.{List, ℕ, take, subst, ◌∙◌}
use Rattle.outside.specs.Streams.{Takes}
use Rattle.play_run.proofs.play.tell.Goals as goal

pub returns-in-Ok-push_all-clause-ok : goal.returns-in-Ok-push_all-clause-ok
returns-in-Ok-push_all-clause-ok g c = subst (λ (text : List ℕ). Takes (g.S.Sink.taken c.args.sink.now) (g.S.Sink.taken c.push_all.new.sink) text) (c.deref.ensures.value ∙ c.in-Ok.ensures) c.in-Ok-push_all.ensures.whole

pub returns-clause-partly : goal.returns-clause-partly
returns-clause-partly g c =
    let part = c.in-Err.ensures.partly in
    (part.0, subst (λ (text : List ℕ). Takes (g.S.Sink.taken c.args.sink.now) (g.S.Sink.taken c.push_all.new.sink) (take part.0 text)) (c.deref.ensures.value ∙ c.in-Ok.ensures) part.1)
