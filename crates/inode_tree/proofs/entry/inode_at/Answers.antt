use Rattle.std.proofs.Common.{sym, arith}
use Rattle.fs_model.specs.Equal.{names_cmp_total}
use Rattle.inode_tree.specs.Entries.{node_row}
use Rattle.inode_tree.proofs.Rising.{find_at_end}
use Rattle.inode_tree.proofs.Places.{stands, is_missing}
use Rattle.inode_tree.proofs.entry.inode_at.Goals as goal

-- all entries come before
pub returns-then-at-entries : goal.returns-then-at-entries
returns-then-at-entries c = sym (find_at_end names_cmp_total node_row c.args.names.now c.args.entries.now c.place_of-at.result c.place_of-at.ensures.within (omega arith) c.place_of-at.ensures.before)

pub returns-then-eq : goal.returns-then-eq
returns-then-eq c = stands c.args.entries.now c.args.names.now c.place_of-at.result c.index-entries-at.result (omega (arith, c.place_of-at.ensures.within)) c.index-entries-at.is c.place_of-at.ensures.before _ c.as_slice.ensures.names c.if-eq.ensures

pub returns : goal.returns
returns c = is_missing c.args.entries.now c.args.names.now c.place_of-at.result c.index-entries-at.result (omega (arith, c.place_of-at.ensures.within)) c.index-entries-at.is c.place_of-at.ensures.before c.requires c.place_of-at.ensures.after _ c.as_slice.ensures.names c.if-eq.ensures
