use Rattle.std.proofs.Common.{◌≡◌, Some, None, sym, ap, ◌∙◌}
use Rattle.fs_model.specs.Lookups as machine
use Rattle.fs_model.specs.Lookups.{find_node, walk_nodes}
use Rattle.inode_tree.specs.Rows.{node_of}
use Rattle.inode_tree.specs.Entries.{node_in, node_rows}
use Rattle.inode_tree.proofs.Walks.{walk_nodes-above, leads_on, node_of-row_of_node}
use Rattle.inode_tree.proofs.tree.Tree.walk.Goals as goal

pub returns-in-Absent-clause-leads : goal.returns-in-Absent-clause-leads
returns-in-Absent-clause-leads c = sym (walk_nodes-above c.args.self.now.nodes c.args.path.now machine.Walk.Absent c.in-Absent.ensures.leads)

pub returns-in-Blocked-clause-leads : goal.returns-in-Blocked-clause-leads
returns-in-Blocked-clause-leads c = sym (walk_nodes-above c.args.self.now.nodes c.args.path.now machine.Walk.Blocked c.in-Blocked.ensures.leads)

pub returns-in-None-clause-leads : goal.returns-in-None-clause-leads
returns-in-None-clause-leads c =
    let view : node_rows c.deref.result.now ≡ c.args.self.now.nodes = ap node_rows c.deref.ensures.value ∙ ap (λ v. v.nodes) c.self.view_is in
    let none : None ≡ find_node c.args.self.now.nodes c.args.path.now = c.in-None.ensures ∙ (λ i. find_node (view i) (c.as_slice.ensures.names i)) in
    leads_on c.args.self.now.nodes c.args.path.now _ None c.in-Found.ensures.leads none

pub returns-in-Some-clause-leads : goal.returns-in-Some-clause-leads
returns-in-Some-clause-leads c =
    let view : node_rows c.deref.result.now ≡ c.args.self.now.nodes = ap node_rows c.deref.ensures.value ∙ ap (λ v. v.nodes) c.self.view_is in
    let there : Some (node_in c.in-Some.inode) ≡ find_node c.args.self.now.nodes c.args.path.now = c.in-Some.ensures ∙ (λ i. find_node (view i) (c.as_slice.ensures.names i)) in
    ap (λ r. machine.Walk.Found (node_of r)) c.row.ensures
    ∙ ap (λ n. machine.Walk.Found n) (node_of-row_of_node (node_in c.in-Some.inode))
    ∙ leads_on c.args.self.now.nodes c.args.path.now _ (Some (node_in c.in-Some.inode)) c.in-Found.ensures.leads there
