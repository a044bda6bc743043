use Rattle.std.proofs.Common.{refl, sym, ap, ◌∙◌}
use Rattle.fs_model.specs.Lookups.{find_node, walk_nodes}
use Rattle.cluster_core.proofs.StatGo.{stat_stopped, stat_lost, stat_dir, stat_file}
use Rattle.cluster_core.proofs.stating.Core+D+O+O+Reader+O+Writer.stat.Goals as goal

pub returns-then-row-clause-steps : goal.returns-then-row-clause-steps
returns-then-row-clause-steps g c = stat_dir g.O.Objects g.O.Reader.ObjectRead g.O.Writer.ObjectWrite c.args.self.now c.args.actor c.args.path.now (sym c.if-is_stopped.ensures) c.in-Found.row (c.in-Found.ensures.leads ∙ ap (λ k. walk_nodes k.names.nodes c.args.path.now) c.names.ensures) (ap (λ k. find_node k.names.nodes c.args.path.now) (sym c.names.ensures) ∙ c.in-Found.ensures.found) c.if-row.true

pub returns-in-Absent-clause-steps : goal.returns-in-Absent-clause-steps
returns-in-Absent-clause-steps g c = stat_lost g.O.Objects g.O.Reader.ObjectRead g.O.Writer.ObjectWrite c.args.self.now c.args.actor c.args.path.now (sym c.if-is_stopped.ensures) _ _ (c.in-Absent.ensures.leads ∙ ap (λ k. walk_nodes k.names.nodes c.args.path.now) c.names.ensures) refl

pub returns-in-Blocked-clause-steps : goal.returns-in-Blocked-clause-steps
returns-in-Blocked-clause-steps g c = stat_lost g.O.Objects g.O.Reader.ObjectRead g.O.Writer.ObjectWrite c.args.self.now c.args.actor c.args.path.now (sym c.if-is_stopped.ensures) _ _ (c.in-Blocked.ensures.leads ∙ ap (λ k. walk_nodes k.names.nodes c.args.path.now) c.names.ensures) refl

pub returns-else-row-clause-steps : goal.returns-else-row-clause-steps
returns-else-row-clause-steps g c = stat_file g.O.Objects g.O.Reader.ObjectRead g.O.Writer.ObjectWrite c.args.self.now c.args.actor c.args.path.now (sym c.if-is_stopped.ensures) c.in-Found.row c.state_of.result (c.in-Found.ensures.leads ∙ ap (λ k. walk_nodes k.names.nodes c.args.path.now) c.names.ensures) (ap (λ k. find_node k.names.nodes c.args.path.now) (sym c.names.ensures) ∙ c.in-Found.ensures.found) c.if-row.false c.state_of.ensures

pub returns-then-is_stopped-clause-steps : goal.returns-then-is_stopped-clause-steps
returns-then-is_stopped-clause-steps g c = stat_stopped g.O.Objects g.O.Reader.ObjectRead g.O.Writer.ObjectWrite c.args.self.now c.args.actor c.args.path.now (sym c.if-is_stopped.ensures)
