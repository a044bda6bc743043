use Rattle.std.proofs.Common.{rules, ◌≡◌, not, ap, filter}
use Rattle.std.proofs.lemmas.Fn.{filter_same}
use Rattle.fs_model.specs.Words.{under}
use Rattle.inode_tree.proofs.Removals.{is_kept, kept_in_order, kept_differ}
use Rattle.inode_tree.proofs.tree.Tree.remove.Goals as goal

pub invariant_of-self : goal.invariant_of-self
invariant_of-self c =
    let kept : c.retain.new.self.items ≡ filter (λ e. not (under e.path c.args.path.now)) c.self.inside.entries.items = filter_same _ (λ e. not (under e.path c.args.path.now)) _ (λ x b f' k. search rules) _ _ c.retain.ensures.filtered in (
      kept_in_order (λ x. not (under x c.args.path.now)) c.self.inside.entries.items c.retain.new.self.items kept c.self.invariant.0,
      kept_differ (λ x. not (under x c.args.path.now)) c.self.inside.entries.items c.retain.new.self.items kept c.self.invariant.1,
    )

pub returns-clause-nodes : goal.returns-clause-nodes
returns-clause-nodes c =
    let kept : c.retain.new.self.items ≡ filter (λ e. not (under e.path c.args.path.now)) c.self.inside.entries.items = filter_same _ (λ e. not (under e.path c.args.path.now)) _ (λ x b f' k. search rules) _ _ c.retain.ensures.filtered in
    is_kept (λ x. not (under x c.args.path.now)) c.self.inside.entries.items c.retain.new.self.items kept c.args.self.now.nodes (ap (λ v. v.nodes) c.self.view_is)
