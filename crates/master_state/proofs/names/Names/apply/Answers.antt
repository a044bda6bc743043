use Rattle.std.proofs.Common.{◌≤◌, sym, subst, arith}
use Rattle.master_state.specs.View.{nodes_in}
use Rattle.master_state.specs.Kept.{need_in}
use Rattle.master_state.proofs.Stay.{stay_after}
use Rattle.master_state.proofs.names.Names.apply.Goals as goal

pub invariant_of-self : goal.invariant_of-self
invariant_of-self c = (
  stay_after c.args.entry.now c.self.inside.kept.names c.take.new.self.names c.counts-counts.result c.look_at.ensures c.requires.text c.self.invariant.0 c.counts-counts.ensures c.if-counts.true c.take.ensures,
  subst (λ r. nodes_in (need_in r) ≤ c.take.new.self.room) (sym c.replace-ready.ensures.after) (omega arith),
)
