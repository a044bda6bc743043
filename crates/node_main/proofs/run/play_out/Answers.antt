use Rattle.node_main.proofs.run.play_out.Goals as goal

pub returns-clause-done : goal.returns-clause-done
returns-clause-done g c = rw (g.met.W.World.output_set c.args.world.now c.play.new.sink) (rw c.out.ensures.value at c.play.ensures.ok)

pub returns-clause-partly : goal.returns-clause-partly
returns-clause-partly g c = λ h. rw (g.met.W.World.output_set c.args.world.now c.play.new.sink) (rw c.out.ensures.value at c.play.ensures.write h)

pub returns-clause-memory : goal.returns-clause-memory
returns-clause-memory g c = λ h. rw (g.met.W.World.output_set c.args.world.now c.play.new.sink) (rw c.out.ensures.value at c.play.ensures.memory h)

pub returns-clause-unopened : goal.returns-clause-unopened
returns-clause-unopened g c = rw (g.met.W.World.output_set c.args.world.now c.play.new.sink) (rw c.out.ensures.value at c.play.ensures.unopened)

pub returns-clause-write : goal.returns-clause-write
returns-clause-write g c = λ h. rw (g.met.W.World.output_set c.args.world.now c.play.new.sink) (rw c.out.ensures.value at c.play.ensures.cause h)
