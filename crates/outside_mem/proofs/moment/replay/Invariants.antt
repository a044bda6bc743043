use Rattle.std.proofs.Common.{◌≡◌, ◌≤◌, [], drop, length}
use Rattle.outside_mem.specs.DiskHistory.{all_len}
use Rattle.outside_mem.specs.Moments.{moment_after_all}
use Rattle.outside_mem.proofs.moment.replay.Given as goal

abbrev pub invariant-loop-call : goal.invariant-loop-call
invariant-loop-call l = record {
  fits : all_len (drop l.call-index l.calls) ≤ length l.rest;
  goes_on : moment_after_all l.rest (drop l.call-index l.calls) l.moment ≡ moment_after_all l.bytes l.calls (record { synced = l.fn.first.items; held = l.fn.first.items; written = [] });
}
