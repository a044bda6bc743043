use Rattle.std.proofs.Common.{◌≡◌, None, Some, sym, ap, ◌∙◌}
use Rattle.fs_model.specs.State.{Node}
use Rattle.inode_tree.specs.Entries.{node_rows, node_in}
use Rattle.inode_tree.proofs.Walks.{begins, one_part}
use Rattle.inode_tree.proofs.entry.walk_prefixes.Goals as goal

pub loop-depth-init : goal.loop-depth-init
loop-depth-init c = begins (node_rows c.args.entries.now) c.args.names.now

pub returns-in-None-clause-leads : goal.returns-in-None-clause-leads
returns-in-None-clause-leads c = sym (one_part (node_rows c.args.entries.now) c.args.names.now c.loop-depth.depth None c.loop-depth-test.true c.in-None.ensures) ∙ c.loop-depth.invariant

pub returns-in-Some-File-clause-leads : goal.returns-in-Some-File-clause-leads
returns-in-Some-File-clause-leads c =
    let f = c.in-Some-File in
    let file : Some (node_in f.field-0) ≡ Some (Node.IsFile (record { id = f.field-0-0; len = f.field-0-1; done = f.field-0-2; stored = f.field-0-3; pinned = f.field-0-4 })) = ap (λ n. Some (node_in n)) f.field-0-is in
    sym (one_part (node_rows c.args.entries.now) c.args.names.now c.loop-depth.depth _ c.loop-depth-test.true (sym file ∙ f.ensures)) ∙ c.loop-depth.invariant

pub loop-depth-preserved : goal.loop-depth-preserved
loop-depth-preserved c =
    let f = c.in-Some-Directory in
    sym (one_part (node_rows c.args.entries.now) c.args.names.now c.loop-depth.depth (Some Node.Directory) c.loop-depth-test.true (ap (λ n. Some (node_in n)) (sym f.field-0-is) ∙ f.ensures)) ∙ c.loop-depth.invariant
