use Rattle.std.proofs.Common.{◌≡◌, ◌+◌, drop, length}
use Rattle.std.specs.Prelude.{sum_by}
use Rattle.journal_entry.specs.EntryText.{entry_text}
use Rattle.journal_disk.specs.AreaText.{gate_behind}
use Rattle.journal_disk.proofs.text.gate_below.Given as goal

abbrev pub invariant-loop-entry : goal.invariant-loop-entry
invariant-loop-entry l = (l.gate + sum_by (λ e. 1 + length (entry_text e)) (drop l.entry-index l.entries) ≡ gate_behind l.entries)
