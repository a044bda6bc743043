use Rattle.std.proofs.Common.{◌≡◌, ◌≤◌, ◌+◌, ◌*◌, ◌++◌, drop, vec_len}
use Rattle.std.specs.List.{flat_map}
use Rattle.std.specs.Vec.{vec_capacity}
use Rattle.journal_entry.specs.Fields.{four_bytes}
use Rattle.journal_entry.proofs.put.put_each.Given as goal

abbrev pub invariant-loop-worker : goal.invariant-loop-worker
invariant-loop-worker l = record {
  items : l.out.items ++ flat_map four_bytes (drop l.worker-index l.workers) ≡ l.fn.out.items ++ flat_map four_bytes l.workers;
  len : vec_len l.out ≡ vec_len l.fn.out + 4 * l.worker-index;
  capacity : vec_capacity l.fn.out ≤ vec_capacity l.out;
}
