use Rattle.std.proofs.Common.{◌≡◌, ◌≤◌, length, map, sym, ap, subst}
use Rattle.std.specs.String.{string_bytes}
use Rattle.node_main.specs.Ends.{Holds, IsUnplayed}
use Rattle.node_main.specs.declared.run.TheConstants.{LIMIT}
use Rattle.outside.specs.Causes.{Rose}
use Rattle.node_main.proofs.Finishing.{rose_since}
use Rattle.node_main.proofs.Playing.{attempted, due_of_text}
use Rattle.node_main.proofs.run.attempt.Goals as goal

pub returns-in-Ok-clause-ended : goal.returns-in-Ok-clause-ended
returns-in-Ok-clause-ended g c =
    let shelf = c.fetch.ensures.shelf in
    let areas = c.fetch.ensures.areas in
    let output = c.fetch.ensures.output in
    attempted g.W.Area.Disk g.W.Store.Objects g.W.Store.Reader.ObjectRead g.W.Store.Writer.ObjectWrite (g.W.World.shelf c.args.world.now, g.W.World.areas c.args.world.now) (g.W.World.shelf c.play_text.new.world, g.W.World.areas c.play_text.new.world) (g.W.World.held c.args.world.now) (map string_bytes c.args.words.now) (c.in-Some.config.now, c.in-Some.script.now) c.in-Some.ensures
    c.deref.result.now (subst (λ text. Holds (g.W.World.held c.args.world.now) c.in-Some.script.now (λ held. text ≡ held)) (sym c.deref.ensures.value) c.in-Ok.ensures.text)
    _ _ _ _ _ c.play_text.result
    (λ h. rw (shelf, areas, output) at c.play_text.ensures.done h)
    (λ h. rw (shelf, areas, output) at c.play_text.ensures.partly h)
    (λ h. rw (shelf, areas, output) at c.play_text.ensures.memory h)
    (λ h. let x = rw (shelf, areas, output) at c.play_text.ensures.open h in (rose_since _ _ _ c.fetch.ensures.world_later x.0, ap (λ out. g.W.Out.Sink.taken out) x.1, x.2))
    (λ line h. let x = rw (shelf, areas, output) at c.play_text.ensures.bad line h in (x.0, ap (λ out. g.W.Out.Sink.taken out) x.1, x.2))
    (λ h. rw output at c.play_text.ensures.write h)
    (λ why. IsUnplayed g.W.Area.Disk g.W.Store.Objects g.W.Store.Reader.ObjectRead g.W.Store.Writer.ObjectWrite (g.W.World.shelf c.args.world.now, g.W.World.areas c.args.world.now) (g.W.World.shelf c.play_text.new.world, g.W.World.areas c.play_text.new.world) why × (g.W.World.output c.play_text.new.world ≡ g.W.World.output c.args.world.now))
    (rw (shelf, areas, output) at c.play_text.ensures.due)
    (λ why p. (p.0, ap (λ out. g.W.Out.Sink.taken out) p.1))

pub returns-in-Ok-clause-due : goal.returns-in-Ok-clause-due
returns-in-Ok-clause-due g c =
    let shelf = c.fetch.ensures.shelf in
    let areas = c.fetch.ensures.areas in
    let output = c.fetch.ensures.output in
    due_of_text (map string_bytes c.args.words.now) (c.in-Some.config.now, c.in-Some.script.now) c.in-Some.ensures
    c.deref.result.now (subst (λ text. length text ≤ LIMIT) (sym c.deref.ensures.value) c.in-Ok.ensures.short)
    (g.W.World.held c.args.world.now) (subst (λ text. Holds (g.W.World.held c.args.world.now) c.in-Some.script.now (λ held. text ≡ held)) (sym c.deref.ensures.value) c.in-Ok.ensures.text) c.in-Ok.ensures.met
    (Rose (g.W.World.faults c.args.world.now) (g.W.World.faults c.play_text.new.world)) (Rose (g.W.In.Source.faults (g.W.World.script_input c.args.world.now)) (g.W.In.Source.faults (g.W.World.script_input c.play_text.new.world))) (Rose (g.W.Out.Sink.faults (g.W.World.output c.args.world.now)) (g.W.Out.Sink.faults (g.W.World.output c.play_text.new.world)))
    (λ why. IsUnplayed g.W.Area.Disk g.W.Store.Objects g.W.Store.Reader.ObjectRead g.W.Store.Writer.ObjectWrite (g.W.World.shelf c.args.world.now, g.W.World.areas c.args.world.now) (g.W.World.shelf c.play_text.new.world, g.W.World.areas c.play_text.new.world) why × (g.W.World.output c.play_text.new.world ≡ g.W.World.output c.args.world.now))
    (IsUnplayed g.W.Area.Disk g.W.Store.Objects g.W.Store.Reader.ObjectRead g.W.Store.Writer.ObjectWrite (g.W.World.shelf c.args.world.now, g.W.World.areas c.args.world.now) (g.W.World.shelf c.play_text.new.world, g.W.World.areas c.play_text.new.world))
    c.play_text.result
    (rw (shelf, areas, output) at c.play_text.ensures.due)
    (λ h. let x = rw (shelf, areas, output) at c.play_text.ensures.open h in rose_since _ _ _ c.fetch.ensures.world_later x.0)
    (λ h. rw output at c.play_text.ensures.write h)
    (λ why p. p.0)
