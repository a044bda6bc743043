use Rattle.std.proofs.Common.{◌≡◌, ◌+◌, drop}
use Rattle.fs_model.specs.PathLength.{path_bytes}
use Rattle.fs_model.proofs.prefix.names_len.Given as goal

abbrev pub invariant-loop-name : goal.invariant-loop-name
invariant-loop-name l = l.len + path_bytes (drop l.name-index l.names) ≡ path_bytes l.names
