use Rattle.std.proofs.Common.{◌≡◌, ◌≤◌, ◌+◌, ◌++◌, drop, vec_len}
use Rattle.std.specs.Vec.{vec_capacity}
use Rattle.fs_model.specs.PathForm.{names_text}
use Rattle.fs_model.specs.PathLength.{path_bytes}
use Rattle.journal_entry.proofs.put.put_path_names.Given as goal

abbrev pub invariant-loop-name : goal.invariant-loop-name
invariant-loop-name l = record {
  items : l.out.items ++ names_text (drop l.name-index l.names) ≡ l.fn.out.items ++ names_text l.names;
  len : vec_len l.out + path_bytes (drop l.name-index l.names) ≡ vec_len l.fn.out + path_bytes l.names;
  capacity : vec_capacity l.fn.out ≤ vec_capacity l.out;
}
