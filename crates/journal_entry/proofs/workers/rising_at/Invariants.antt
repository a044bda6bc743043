use Rattle.std.proofs.Common.{◌≡◌, ◌-◌}
use Rattle.journal_entry.specs.Reading.{workers_from}
use Rattle.journal_entry.proofs.Rising.{with_front}
use Rattle.journal_entry.proofs.workers.rising_at.Given as goal

abbrev pub invariant-loop : goal.invariant-loop
invariant-loop l = with_front l.workers.items (workers_from (l.count - l.counter) l.last l.rest) ≡ workers_from l.count 0 l.bytes
