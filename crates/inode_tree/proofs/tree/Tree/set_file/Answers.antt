use Rattle.std.proofs.Common.{◌≡◌, true, length, ap, ◌∙◌, subst, arith}
use Rattle.inode_tree.specs.Rows.{file_in_row, file_changed, ids_of, all_differ}
use Rattle.inode_tree.specs.Entries.{node_rows}
use Rattle.inode_tree.proofs.FileSet.{is_change, is_made, set_stays_in_order, set_still_differs}
use Rattle.inode_tree.proofs.tree.Tree.set_file.Goals as goal

pub invariant_of-self : goal.invariant_of-self
invariant_of-self c =
    let es = c.self.inside.entries.items in
    let g = file_in_row c.args.row in
    let long : length c.set_file.new.entries ≡ c.self.inside.entries.len = omega (arith, c.set_file.auto.entries, c.deref_mut.ensures.len) in
    let made = is_made g es c.deref_mut.result.now c.set_file.new.entries c.self.inside.entries.len c.deref_mut.ensures.value long c.set_file.ensures in
    (set_stays_in_order g es _ made c.self.invariant.0, set_still_differs g es _ made c.self.invariant.1)

pub returns-clause-change : goal.returns-clause-change
returns-clause-change c = λ r f change there file is.
    let es = c.self.inside.entries.items in
    let g = file_in_row c.args.row in
    let long : length c.set_file.new.entries ≡ c.self.inside.entries.len = omega (arith, c.set_file.auto.entries, c.deref_mut.ensures.len) in
    let made = is_made g es c.deref_mut.result.now c.set_file.new.entries c.self.inside.entries.len c.deref_mut.ensures.value long c.set_file.ensures in
    let view : node_rows es ≡ c.args.self.now.nodes = ap (λ t. t.nodes) c.self.view_is in
    made ∙ ap (file_changed c.args.row.id (λ x. g)) view
    ∙ is_change g c.args.self.now.nodes r f change (subst (λ rows. all_differ (ids_of rows) ≡ true) view c.self.invariant.1) there file is
