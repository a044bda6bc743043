use Rattle.std.proofs.Common.{rules, ◌≡◌, ◌<◌, true, false, length, is_some, ap, refl, arith}
use Rattle.fs_model.specs.Lookups.{find_node}
use Rattle.inode_tree.specs.Entries.{node_rows}
use Rattle.inode_tree.proofs.MovedPaths.{found_id, found_none}
use Rattle.inode_tree.proofs.Places.{is_within, is_set, set_in_order, is_put, stays_in_order}
use Rattle.inode_tree.proofs.moves.put_entry.Goals as goal

pub index_mut-requires : goal.index_mut-requires
index_mut-requires c =
    let es = c.args.entries.now.items in
    let here = c.place_of-at.ensures in
    let there : is_some (find_node (node_rows es) c.args.entry.path) ≡ true = search rules in
    let within : c.place_of-at.result < length es =
    is_within es c.deref.result.now c.as_slice-names.result.now c.args.entry.path c.place_of-at.result (node_rows es) _ c.deref.ensures.value c.as_slice-names.ensures.names refl here.within here.before here.after c.requires.order (found_id _ there) c.args.entry in
    omega (arith, within, c.deref.ensures.len, ap length c.deref.ensures.value)

pub returns-then-is_some-clause-nodes : goal.returns-then-is_some-clause-nodes
returns-then-is_some-clause-nodes c =
    let es = c.args.entries.now.items in
    let here = c.place_of-at.ensures in
    let there : is_some (find_node (node_rows es) c.args.entry.path) ≡ true = search rules in
    is_set es c.deref.result.now c.as_slice-names.result.now c.args.entry.path c.place_of-at.result (node_rows es) _ c.deref.ensures.value c.as_slice-names.ensures.names refl here.within here.before here.after c.requires.order (found_id _ there)
    c.index_mut.result.now (record { path = c.index_mut.result.now.path; inode = c.args.entry.inode }) _ c.index_mut.ensures.value refl refl

pub returns-then-is_some-clause-order : goal.returns-then-is_some-clause-order
returns-then-is_some-clause-order c =
    let es = c.args.entries.now.items in
    let here = c.place_of-at.ensures in
    let there : is_some (find_node (node_rows es) c.args.entry.path) ≡ true = search rules in
    set_in_order es c.deref.result.now c.as_slice-names.result.now c.args.entry.path c.place_of-at.result (node_rows es) _ c.deref.ensures.value c.as_slice-names.ensures.names refl here.within here.before here.after c.requires.order (found_id _ there)
    c.index_mut.result.now (record { path = c.index_mut.result.now.path; inode = c.args.entry.inode }) c.index_mut.ensures.value refl

pub returns-clause-nodes : goal.returns-clause-nodes
returns-clause-nodes c =
    let es = c.args.entries.now.items in
    let here = c.place_of-at.ensures in
    let none : is_some (find_node (node_rows es) c.args.entry.path) ≡ false = search rules in
    is_put es c.deref.result.now c.insert.new.self.items c.as_slice-names.result.now c.place_of-at.result c.args.entry c.deref.ensures.value c.as_slice-names.ensures.names here.within here.before here.after c.in-Ok.ensures.items
    (node_rows es) c.args.entry.path _ refl refl refl (found_none _ none)

pub returns-clause-order : goal.returns-clause-order
returns-clause-order c =
    let es = c.args.entries.now.items in
    let here = c.place_of-at.ensures in
    let none : is_some (find_node (node_rows es) c.args.entry.path) ≡ false = search rules in
    stays_in_order es c.deref.result.now c.insert.new.self.items c.as_slice-names.result.now c.place_of-at.result c.args.entry c.deref.ensures.value c.as_slice-names.ensures.names here.within here.before here.after c.in-Ok.ensures.items
    (node_rows es) c.args.entry.path refl refl (found_none _ none) c.requires.order
