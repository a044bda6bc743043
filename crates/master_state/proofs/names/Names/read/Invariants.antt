use Rattle.std.proofs.Common.{◌≡◌, true, drop}
use Rattle.std.specs.List.{list_all}
use Rattle.journal_entry.specs.EntryText.{fits}
use Rattle.master_state.specs.Effect.{after_entries, meaning}
use Rattle.master_state.proofs.names.Names.read.Given as goal

-- the names so far, with the entries to come, which have texts
abbrev pub invariant-loop-entry : goal.invariant-loop-entry
invariant-loop-entry l = record {
  stands : after_entries l.names.names (drop l.entry-index l.entries) ≡ meaning l.entries;
  texts : list_all fits (drop l.entry-index l.entries) ≡ true;
}
