use Rattle.std.proofs.Common.{ap, refl}
use Rattle.inode_tree.proofs.Walks.{is_free}
use Rattle.inode_tree.proofs.Places.{is_put, put_differs, stays_in_order}
use Rattle.inode_tree.proofs.Numbers.{new_differs}
use Rattle.inode_tree.specs.Rows.{file_in_row}
use Rattle.inode_tree.proofs.tree.Tree.put.Goals as goal

pub invariant_of-self : goal.invariant_of-self
invariant_of-self c =
    let here = c.place_of-at.ensures in
    let none = is_free c.args.self.now.nodes c.args.path c.requires.absent c.requires.parent in (
      stays_in_order c.self.inside.entries.items c.deref.result.now c.insert.new.self.items c.as_slice.result.now c.place_of-at.result (record { path = c.args.path; inode = c.of-inode.result })
          c.deref.ensures.value c.as_slice.ensures.names here.within here.before here.after c.in-Ok.ensures.items
          c.args.self.now.nodes c.args.path (ap (λ v. v.nodes) c.self.view_is) refl none c.self.invariant.0,
      put_differs c.self.inside.entries.items c.deref.result.now c.insert.new.self.items c.as_slice.result.now c.place_of-at.result (record { path = c.args.path; inode = c.of-inode.result })
          c.deref.ensures.value c.as_slice.ensures.names here.within here.before here.after c.in-Ok.ensures.items
          c.args.self.now.nodes _ (ap (λ v. v.nodes) c.self.view_is) c.of-inode.ensures (new_differs c.args.row.dir (file_in_row c.args.row) c.args.self.now.nodes c.requires.new_id) c.self.invariant.1,
    )

pub returns-clause-nodes : goal.returns-clause-nodes
returns-clause-nodes c =
    let here = c.place_of-at.ensures in
    let none = is_free c.args.self.now.nodes c.args.path c.requires.absent c.requires.parent in
    is_put c.self.inside.entries.items c.deref.result.now c.insert.new.self.items c.as_slice.result.now c.place_of-at.result (record { path = c.args.path; inode = c.of-inode.result })
    c.deref.ensures.value c.as_slice.ensures.names here.within here.before here.after c.in-Ok.ensures.items
    c.args.self.now.nodes c.args.path _ (ap (λ v. v.nodes) c.self.view_is) refl c.of-inode.ensures none
