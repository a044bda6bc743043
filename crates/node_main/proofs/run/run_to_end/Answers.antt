use Rattle.std.proofs.Common.{map}
use Rattle.std.specs.String.{string_bytes}
use Rattle.outside.specs.Causes.{Rose}
use Rattle.node_main.specs.Ends.{IsUnplayed}
use Rattle.node_main.proofs.Finishing.{untold, finished, finished_due, bad_words, rose_since, if_some}
use Rattle.node_main.proofs.run.run_to_end.Goals as goal

pub returns-in_default-clause-ended : goal.returns-in_default-clause-ended
returns-in_default-clause-ended g c =
    let end = untold c.attempt.result c.in_default.not-Done c.in_default.not-WriteFault in
    rw (c.finish.ensures.faults, c.finish.ensures.input, c.finish.ensures.shelf, c.finish.ensures.areas)
    (finished g.W.Area.Disk g.W.Store.Objects g.W.Store.Reader.ObjectRead g.W.Store.Writer.ObjectWrite (g.W.World.shelf c.args.world.now, g.W.World.areas c.args.world.now) (g.W.World.shelf c.attempt.new.world, g.W.World.areas c.attempt.new.world) (g.W.World.held c.args.world.now) (map string_bytes c.args.words.now) (g.W.Out.Sink.taken (g.W.World.output c.args.world.now)) (g.W.Out.Sink.taken (g.W.World.output c.attempt.new.world)) (g.W.Out.Sink.taken (g.W.World.output c.finish.new.world))
    (Rose (g.W.World.faults c.args.world.now) (g.W.World.faults c.attempt.new.world)) (Rose (g.W.In.Source.faults (g.W.World.script_input c.args.world.now)) (g.W.In.Source.faults (g.W.World.script_input c.attempt.new.world))) (Rose (g.W.Out.Sink.faults (g.W.World.output c.args.world.now)) (g.W.Out.Sink.faults (g.W.World.output c.attempt.new.world))) (Rose (g.W.Out.Sink.faults (g.W.World.output c.args.world.now)) (g.W.Out.Sink.faults (g.W.World.output c.finish.new.world))) (Rose (g.W.Out.Sink.faults (g.W.World.output c.attempt.new.world)) (g.W.Out.Sink.faults (g.W.World.output c.finish.new.world)))
    (rose_since _ _ _ c.attempt.ensures.sink_later) c.attempt.result end c.attempt.ensures.ended c.finish.result c.finish.ensures.ends)

pub returns-in_default-clause-words : goal.returns-in_default-clause-words
returns-in_default-clause-words g c = λ none. bad_words _ _ _ c.attempt.result c.finish.result (c.attempt.ensures.words none) c.finish.ensures.ends

pub returns-in_default-clause-due : goal.returns-in_default-clause-due
returns-in_default-clause-due g c =
    let end = untold c.attempt.result c.in_default.not-Done c.in_default.not-WriteFault in
    rw (c.finish.ensures.faults, c.finish.ensures.input, c.finish.ensures.shelf, c.finish.ensures.areas)
    (if_some (g.W.World.held c.args.world.now) _ _ (λ held due. finished_due held (map string_bytes c.args.words.now) (g.W.Out.Sink.taken (g.W.World.output c.attempt.new.world)) (g.W.Out.Sink.taken (g.W.World.output c.finish.new.world))
    (Rose (g.W.World.faults c.args.world.now) (g.W.World.faults c.attempt.new.world)) (Rose (g.W.In.Source.faults (g.W.World.script_input c.args.world.now)) (g.W.In.Source.faults (g.W.World.script_input c.attempt.new.world))) (Rose (g.W.Out.Sink.faults (g.W.World.output c.args.world.now)) (g.W.Out.Sink.faults (g.W.World.output c.attempt.new.world))) (Rose (g.W.Out.Sink.faults (g.W.World.output c.args.world.now)) (g.W.Out.Sink.faults (g.W.World.output c.finish.new.world))) (Rose (g.W.Out.Sink.faults (g.W.World.output c.attempt.new.world)) (g.W.Out.Sink.faults (g.W.World.output c.finish.new.world)))
    (rose_since _ _ _ c.attempt.ensures.sink_later) (IsUnplayed g.W.Area.Disk g.W.Store.Objects g.W.Store.Reader.ObjectRead g.W.Store.Writer.ObjectWrite (g.W.World.shelf c.args.world.now, g.W.World.areas c.args.world.now) (g.W.World.shelf c.attempt.new.world, g.W.World.areas c.attempt.new.world)) c.attempt.result end due c.finish.result c.finish.ensures.ends) c.attempt.ensures.due)
