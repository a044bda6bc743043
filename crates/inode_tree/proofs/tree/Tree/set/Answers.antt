use Rattle.std.proofs.Common.{◌<◌, length, ap, refl, arith}
use Rattle.inode_tree.specs.Rows.{file_id}
use Rattle.inode_tree.proofs.Places.{is_within, is_set, is_changed, set_in_order, set_differs}
use Rattle.inode_tree.specs.declared.entry.Inode.{Inode}
use Rattle.inode_tree.proofs.tree.Tree.set.Goals as goal

pub index_mut-requires : goal.index_mut-requires
index_mut-requires c =
    let here = c.place_of-at.ensures in
    let within : c.place_of-at.result < length c.self.inside.entries.items =
    is_within c.self.inside.entries.items c.deref.result.now c.as_slice.result.now c.args.path.now c.place_of-at.result c.args.self.now.nodes _
    c.deref.ensures.value c.as_slice.ensures.names (ap (λ v. v.nodes) c.self.view_is) here.within here.before here.after c.self.invariant.0 c.requires.same
    (record { path = c.args.path.now; inode = Inode.Directory }) in
    omega (arith, within, c.deref.ensures.len, ap length c.deref.ensures.value)

pub invariant_of-self : goal.invariant_of-self
invariant_of-self c =
    let here = c.place_of-at.ensures in (
      set_in_order c.self.inside.entries.items c.deref.result.now c.as_slice.result.now c.args.path.now c.place_of-at.result c.args.self.now.nodes _
          c.deref.ensures.value c.as_slice.ensures.names (ap (λ v. v.nodes) c.self.view_is) here.within here.before here.after c.self.invariant.0 c.requires.same
          c.index_mut.result.now (record { path = c.index_mut.result.now.path; inode = c.of.result }) c.index_mut.ensures.value refl,
      set_differs c.self.inside.entries.items c.deref.result.now c.as_slice.result.now c.args.path.now c.place_of-at.result c.args.self.now.nodes _
          c.deref.ensures.value c.as_slice.ensures.names (ap (λ v. v.nodes) c.self.view_is) here.within here.before here.after c.self.invariant.0 c.requires.same
          c.index_mut.result.now (record { path = c.index_mut.result.now.path; inode = c.of.result }) c.index_mut.ensures.value (ap file_id c.of.ensures) c.self.invariant.1,
    )

pub returns-clause-put : goal.returns-clause-put
returns-clause-put c =
    let here = c.place_of-at.ensures in
    is_set c.self.inside.entries.items c.deref.result.now c.as_slice.result.now c.args.path.now c.place_of-at.result c.args.self.now.nodes _
    c.deref.ensures.value c.as_slice.ensures.names (ap (λ v. v.nodes) c.self.view_is) here.within here.before here.after c.self.invariant.0 c.requires.same
    c.index_mut.result.now (record { path = c.index_mut.result.now.path; inode = c.of.result }) _ c.index_mut.ensures.value refl c.of.ensures

pub returns-clause-file : goal.returns-clause-file
returns-clause-file c = λ f change at to.
    let here = c.place_of-at.ensures in
    is_changed c.self.inside.entries.items c.deref.result.now c.as_slice.result.now c.args.path.now c.place_of-at.result c.args.self.now.nodes _
    c.deref.ensures.value c.as_slice.ensures.names (ap (λ v. v.nodes) c.self.view_is) here.within here.before here.after c.self.invariant.0 c.requires.same
    c.index_mut.result.now (record { path = c.index_mut.result.now.path; inode = c.of.result }) _ f change c.index_mut.ensures.value refl c.of.ensures c.self.invariant.1 at to
