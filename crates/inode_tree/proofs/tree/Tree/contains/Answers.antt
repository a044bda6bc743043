use Rattle.std.proofs.Common.{◌≡◌, false, is_some, sym, ◌∙◌, rules}
use Rattle.std.proofs.lemmas.Bool.{OnFalse_from}
use Rattle.fs_model.specs.Lookups as machine
use Rattle.fs_model.specs.Lookups.{find_node, walk_above, walk_nodes}
use Rattle.inode_tree.proofs.Walks.{free, free_leads}
use Rattle.inode_tree.proofs.tree.Tree.contains.Goals as goal

pub returns-clause-free : goal.returns-clause-free
returns-clause-free c =
    let nodes = c.args.self.now.nodes in
    let there : c.is_some.result ≡ is_some (find_node nodes c.args.path.now) = search rules in
    let leads : c.is_some.result ≡ false → walk_above nodes c.args.path.now ≡ free → walk_nodes nodes c.args.path.now ≡ machine.Walk.Absent = λ none parent. free_leads nodes c.args.path.now (sym there ∙ none) parent in
    OnFalse_from c.is_some.result (walk_above nodes c.args.path.now ≡ free → walk_nodes nodes c.args.path.now ≡ machine.Walk.Absent) leads
