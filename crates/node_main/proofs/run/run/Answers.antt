use Rattle.std.proofs.Common.{map, sym, ◌∙◌}
use Rattle.std.specs.String.{string_bytes}
use Rattle.outside.specs.Causes.{Rose}
use Rattle.node_main.proofs.Finishing.{bad_script, bad_setup, damaged_at, journal_fault}
use Rattle.node_main.proofs.OverAreas.{over_areas}
use Rattle.node_main.proofs.run.run.Goals as goal

pub returns-clause-bad : goal.returns-clause-bad
returns-clause-bad g c = λ h.
    let b = bad_script c.run_to_end.result (sym c.status_of.ensures ∙ h) in
    let k = rw b.1 at c.run_to_end.ensures.ended in
    (b.0, k.0, k.1, k.2)

pub returns-clause-damaged : goal.returns-clause-damaged
returns-clause-damaged g c = λ h.
    let b = damaged_at c.run_to_end.result (sym c.status_of.ensures ∙ h) in
    let k = rw b.2 at c.run_to_end.ensures.ended in
    (b.0, b.1, k.0, k.1)

pub returns-clause-areas : goal.returns-clause-areas
returns-clause-areas g c = over_areas g.W.Area.Disk g.W.Store.Objects g.W.Store.Reader.ObjectRead g.W.Store.Writer.ObjectWrite (g.W.World.shelf c.args.world.now) (g.W.World.shelf c.run_to_end.new.world, g.W.World.areas c.run_to_end.new.world) (g.W.World.held c.args.world.now) (map string_bytes c.args.words.now) (g.W.Out.Sink.taken (g.W.World.output c.args.world.now)) (g.W.Out.Sink.taken (g.W.World.output c.run_to_end.new.world))
    (Rose (g.W.World.faults c.args.world.now) (g.W.World.faults c.run_to_end.new.world)) (Rose (g.W.In.Source.faults (g.W.World.script_input c.args.world.now)) (g.W.In.Source.faults (g.W.World.script_input c.run_to_end.new.world))) (Rose (g.W.Out.Sink.faults (g.W.World.output c.args.world.now)) (g.W.Out.Sink.faults (g.W.World.output c.run_to_end.new.world)))
    (g.W.World.areas c.args.world.now) c.run_to_end.result c.run_to_end.ensures.ended c.status_of.result c.status_of.ensures

pub returns-clause-setup : goal.returns-clause-setup
returns-clause-setup g c = λ h. rw (bad_setup c.run_to_end.result (sym c.status_of.ensures ∙ h)) at c.run_to_end.ensures.ended

pub returns-clause-journal : goal.returns-clause-journal
returns-clause-journal g c = λ h. rw (journal_fault c.run_to_end.result (sym c.status_of.ensures ∙ h)) at c.run_to_end.ensures.ended
