use Rattle.std.proofs.Common.{ap, ◌∙◌}
use Rattle.inode_tree.specs.Rows.{file_row}
use Rattle.inode_tree.specs.Entries.{node_rows}
use Rattle.inode_tree.proofs.Files.{file_at}
use Rattle.inode_tree.proofs.tree.Tree.path_of.Goals as goal

pub returns-in_ok-clone-in-Some-clause-there : goal.returns-in_ok-clone-in-Some-clause-there
returns-in_ok-clone-in-Some-clause-there c = file_at c.self.inside.entries.items c.args.self.now.nodes c.args.id c.in-Some.entry.now c.in_ok-clone-in-Some.field-0 c.self.invariant.0 (ap (λ t. t.nodes) c.self.view_is) (c.in-Some.ensures ∙ (λ j. file_row (node_rows (c.deref.ensures.value j)) (c.id.view_is j))) c.in_ok-clone-in-Some.ensures.cases
