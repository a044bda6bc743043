use Rattle.std.proofs.Common.{refl, ap}
use Rattle.master_node.specs.Mastering.{names_of}
use Rattle.cluster_core.proofs.CheckpointGo.{fuse_steps}
use Rattle.cluster_core.proofs.journaling.Core+D+O+O+Reader+O+Writer.set_fuse.Goals as goal

pub returns-clause-steps : goal.returns-clause-steps
returns-clause-steps g c = fuse_steps g.O.Objects g.O.Reader.ObjectRead g.O.Writer.ObjectWrite c.args.self.now c.args.actor _ c.args.calls refl refl refl (ap (λ k. k.names) c.set_fuse.ensures.kept) c.set_fuse.ensures.journal
