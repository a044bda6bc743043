use Rattle.std.proofs.Common.{rules, ◌≡◌, ◌-◌, ◌≤◌, true, not, length, vec_len, ap, ◌∙◌, subst, arith}
use Rattle.std.specs.Vec.{vec_capacity}
use Rattle.fs_model.specs.Words.{under}
use Rattle.fs_model.specs.Changes.{keep_nodes, moved_rows}
use Rattle.inode_tree.specs.Rows.{ids_of, all_differ, relocated}
use Rattle.inode_tree.specs.Entries.{node_rows}
use Rattle.inode_tree.proofs.Relocation.{relocated_differ, moved_and_kept, length-node_rows}
use Rattle.inode_tree.proofs.tree.Tree.relink.Goals as goal

pub put_entries-requires-clause-spare : goal.put_entries-requires-clause-spare
put_entries-requires-clause-spare c =
    let p = c.args.path.now in
    let nodes = c.args.self.now.nodes in
    let left = c.self-2.inside.entries in
    let moved = c.in_ok-moved.moved in
    let view : node_rows c.deref.result.now ≡ nodes = ap node_rows c.deref.ensures.value ∙ ap (λ v. v.nodes) c.self.view_is in
    let went : length (node_rows moved.items) ≡ length (moved_rows p c.args.to.now nodes) = ap length (c.in_ok-moved.ensures ∙ ap (moved_rows p c.args.to.now) view) in
    let stayed : length (node_rows left.items) ≡ length (keep_nodes (λ x. not (under x p)) nodes) = ap length (ap (λ v. v.nodes) c.self-2.view_is ∙ c.remove.ensures.nodes) in
    let room : vec_capacity left - vec_len left ≡ c.remove.new.self.room = ap (λ v. v.room) c.self-2.view_is in
    let now : length c.remove.new.self.nodes ≡ length (keep_nodes (λ x. not (under x p)) nodes) = ap length c.remove.ensures.nodes in
    let all = moved_and_kept p c.args.to.now nodes in
    let long : length left.items ≡ vec_len left = search rules in
    let long_moved : length moved.items ≡ vec_len moved = search rules in
    let fits : vec_len left ≤ vec_capacity left = search rules in
    omega (arith, went, stayed, room, now, all, long, long_moved, fits, c.remove.ensures.room, length-node_rows left.items, length-node_rows moved.items)

pub invariant_of-self : goal.invariant_of-self
invariant_of-self c =
    let made : node_rows c.put_entries.new.entries.items ≡ relocated c.args.path.now c.args.to.now c.args.self.now.nodes = search rules in
    let apart : all_differ (ids_of c.args.self.now.nodes) ≡ true = subst (λ rows. all_differ (ids_of rows) ≡ true) (ap (λ v. v.nodes) c.self.view_is) c.self.invariant.1 in
    (c.put_entries.ensures.order, ap (λ rows. all_differ (ids_of rows)) made ∙ relocated_differ c.args.path.now c.args.to.now c.args.self.now.nodes apart)
