use Rattle.std.proofs.lemmas.Result.{err_from_is_err_and}
use Rattle.script_text.proofs.Lines.{goes_on, stops, is_done}
use Rattle.script_text.proofs.read.commands_in.Goals as goal

pub returns-in_err-said : goal.returns-in_err-said
returns-in_err-said c =
    let q = err_from_is_err_and c.from_residual.result c.from_residual.ensures.1 in
    rw (q.1, q.2) (stops c.loop-line.commands.items c.loop-line.place c.in-Some.line.now _ _ c.in_err-said.field-0.0 _ c.in-Some.ensures.lines c.in_err-said.ensures.gives c.loop-line.invariant)

pub loop-line-preserved : goal.loop-line-preserved
loop-line-preserved c =
    rw c.in_ok-push_said.ensures.ok (goes_on c.loop-line.commands.items c.loop-line.place c.in-Some.line.now _ _ c.in_ok-said.said _ c.in-Some.ensures.lines c.in_ok-said.ensures.gives c.loop-line.invariant)

pub returns : goal.returns
returns c = is_done c.loop-line.commands.items c.loop-line.place _ _ c.in_default.ensures.lines c.loop-line.invariant
