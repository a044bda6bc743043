use Rattle.std.proofs.Common.{◌≡◌, ◌++◌, drop}
use Rattle.fs_model.specs.PathForm.{names_text}
use Rattle.inode_tree.proofs.moves.push_names.Given as goal

-- the text so far, with that of the names to come
abbrev pub invariant-loop-name : goal.invariant-loop-name
invariant-loop-name l = l.text.items ++ names_text (drop l.name-index l.names) ≡ l.fn.text.items ++ names_text l.names
