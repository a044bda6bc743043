use Rattle.std.proofs.Common.{ap}
use Rattle.master_state.proofs.Fitting.{create_counts}
use Rattle.master_state.proofs.names.Names.create.Goals as goal

pub returns-clause-counts : goal.returns-clause-counts
returns-clause-counts c = create_counts c.args.self.now.names c.self.inside.kept.names c.args.path.now c.in_ok-clone.field-0 c.self-inside.inside.0.0.next_id (ap (λ n. n.names) c.self.view_is) c.in_ok-clone.ensures.cases (ap (λ n. n.kept.names.next_id) c.self-inside.view_is) c.self.invariant.0 c.requires.place
