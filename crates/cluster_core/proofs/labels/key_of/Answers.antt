use Rattle.std.proofs.Common.{None, find, is_some, sym, ap, ◌∙◌}
use Rattle.cluster_core.proofs.SlotRows.{labelled, found_here, key_found, is_there}
use Rattle.cluster_core.proofs.labels.key_of.Goals as goal

pub returns-then-eq-clause-found : goal.returns-then-eq-clause-found
returns-then-eq-clause-found g c =
    key_found c.args.rows.now c.args.label.now c.in-Some.key c.in-Some.row.now
    (found_here c.args.rows.now c.args.label.now c.loop-key.key-iterator c.next.new.self c.in-Some.key c.in-Some.row.now c.loop-key.invariant.2 c.in-Some.ensures.steps c.if-eq.ensures)

pub returns-then-eq-clause-there : goal.returns-then-eq-clause-there
returns-then-eq-clause-there g c =
    ap is_some (sym (is_there c.args.rows.now c.args.label.now _
    (found_here c.args.rows.now c.args.label.now c.loop-key.key-iterator c.next.new.self c.in-Some.key c.in-Some.row.now c.loop-key.invariant.2 c.in-Some.ensures.steps c.if-eq.ensures)))

pub returns-clause-there : goal.returns-clause-there
returns-clause-there g c = ap is_some (sym (is_there c.args.rows.now c.args.label.now None (sym c.loop-key.invariant.2 ∙ ap (find (labelled c.args.label.now)) c.in-None.ensures.steps.0)))
