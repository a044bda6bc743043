use Rattle.std.proofs.Common.{sym, ap, ◌∙◌, arith}
use Rattle.std.proofs.lemmas.List.{nil_from_length}
use Rattle.fs_model.specs.Lookups.{child_name}
use Rattle.inode_tree.proofs.PathOrder.{child_of_end, other_end, child_name-nil}
use Rattle.inode_tree.proofs.entry.child_name.Goals as goal

pub returns-in-empty : goal.returns-in-empty
returns-in-empty c = sym (ap (child_name c.args.upper.now) (nil_from_length c.args.path.now (omega arith)) ∙ child_name-nil c.args.upper.now)

pub returns-then-eq : goal.returns-then-eq
returns-then-eq c = child_of_end c.args.upper.now c.args.path.now c.last-item.result c.in-len1-up.len_at_least c.last-item.is c.if-eq.ensures

pub returns-else-eq : goal.returns-else-eq
returns-else-eq c = other_end c.args.upper.now c.args.path.now c.last-item.result c.in-len1-up.len_at_least c.last-item.is c.if-eq.ensures
