use Rattle.std.proofs.Common.{◌≡◌, ◌++◌, drop, take}
use Rattle.std.specs.List.{AllPass, flat_map}
use Rattle.journal_entry.specs.EntryText.{is_entry}
use Rattle.journal_disk.specs.AreaText.{gated}
use Rattle.journal_disk.proofs.text.put_gated.Given as goal

abbrev pub invariant-loop-entry : goal.invariant-loop-entry
invariant-loop-entry l = record {
  items : l.out.items ++ flat_map gated (drop l.entry-index l.entries) ≡ l.fn.out.items ++ flat_map gated l.entries;
  written : AllPass is_entry (take l.entry-index l.entries);
}
