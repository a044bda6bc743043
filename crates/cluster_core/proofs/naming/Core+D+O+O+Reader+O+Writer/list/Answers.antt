use Rattle.std.proofs.Common.{refl, sym, ap, ◌∙◌}
use Rattle.fs_model.specs.Lookups.{find_node, names_in, walk_nodes}
use Rattle.cluster_core.proofs.NamesGo.{list_stopped, list_lost, list_file, list_shown, list_short}
use Rattle.cluster_core.proofs.naming.Core+D+O+O+Reader+O+Writer.list.Goals as goal

pub returns-then-not-row-clause-steps : goal.returns-then-not-row-clause-steps
returns-then-not-row-clause-steps g c = list_file g.O.Objects g.O.Reader.ObjectRead g.O.Writer.ObjectWrite c.args.self.now c.args.actor c.args.path.now (sym c.if-is_stopped.ensures) c.in-Found.row (c.in-Found.ensures.leads ∙ ap (λ k. walk_nodes k.names.nodes c.args.path.now) c.names.ensures) (ap (λ k. find_node k.names.nodes c.args.path.now) (sym c.names.ensures) ∙ c.in-Found.ensures.found) c.if-not-row.true

pub returns-in-Absent-clause-steps : goal.returns-in-Absent-clause-steps
returns-in-Absent-clause-steps g c = list_lost g.O.Objects g.O.Reader.ObjectRead g.O.Writer.ObjectWrite c.args.self.now c.args.actor c.args.path.now (sym c.if-is_stopped.ensures) _ _ (c.in-Absent.ensures.leads ∙ ap (λ k. walk_nodes k.names.nodes c.args.path.now) c.names.ensures) refl

pub returns-in-Blocked-clause-steps : goal.returns-in-Blocked-clause-steps
returns-in-Blocked-clause-steps g c = list_lost g.O.Objects g.O.Reader.ObjectRead g.O.Writer.ObjectWrite c.args.self.now c.args.actor c.args.path.now (sym c.if-is_stopped.ensures) _ _ (c.in-Blocked.ensures.leads ∙ ap (λ k. walk_nodes k.names.nodes c.args.path.now) c.names.ensures) refl

pub returns-in-Ok-clause-steps : goal.returns-in-Ok-clause-steps
returns-in-Ok-clause-steps g c = list_shown g.O.Objects g.O.Reader.ObjectRead g.O.Writer.ObjectWrite c.args.self.now c.args.actor c.args.path.now (sym c.if-is_stopped.ensures) c.in-Found.row _ (c.in-Found.ensures.leads ∙ ap (λ k. walk_nodes k.names.nodes c.args.path.now) c.names.ensures) (ap (λ k. find_node k.names.nodes c.args.path.now) (sym c.names.ensures) ∙ c.in-Found.ensures.found) c.if-not-row.false (c.from_vec.ensures ∙ c.in-Ok.ensures ∙ ap (λ k. names_in k.names.nodes c.args.path.now) c.names-in-Found.ensures)

pub returns-in-Err-clause-steps : goal.returns-in-Err-clause-steps
returns-in-Err-clause-steps g c = list_short g.O.Objects g.O.Reader.ObjectRead g.O.Writer.ObjectWrite c.args.self.now c.args.actor c.args.path.now

pub returns-then-is_stopped-clause-steps : goal.returns-then-is_stopped-clause-steps
returns-then-is_stopped-clause-steps g c = list_stopped g.O.Objects g.O.Reader.ObjectRead g.O.Writer.ObjectWrite c.args.self.now c.args.actor c.args.path.now (sym c.if-is_stopped.ensures)
