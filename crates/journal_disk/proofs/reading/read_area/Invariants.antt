use Rattle.std.proofs.Common.{◌≡◌, true, ◌-◌, ◌≤◌, length, drop}
use Rattle.std.specs.List.{list_all}
use Rattle.journal_entry.specs.EntryText.{is_entry}
use Rattle.journal_disk.specs.AreaText.{with_front, walk, area_of}
use Rattle.journal_disk.proofs.reading.read_area.Given as goal

abbrev pub invariant-loop-place : goal.invariant-loop-place
invariant-loop-place l = record {
  from : 9 ≤ l.place;
  are : list_all is_entry l.entries.items ≡ true;
  so_far : with_front l.entries.items (walk 0 l.place (drop l.place l.bytes)) ≡ area_of l.bytes;
}

abbrev pub decreases-loop-place : goal.decreases-loop-place
decreases-loop-place l = length l.bytes - l.place
