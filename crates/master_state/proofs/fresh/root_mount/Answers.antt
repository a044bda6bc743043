use Rattle.std.proofs.Common.{◌∙◌}
use Rattle.journal_entry.specs.declared.entry.Entry.{Entry}
use Rattle.journal_entry.specs.EntryText.{fits}
use Rattle.master_state.proofs.FirstMount.{root_fits}
use Rattle.master_state.proofs.fresh.root_mount.Goals as goal

pub returns-clause-text : goal.returns-clause-text
returns-clause-text c =
    let key = c.in_ok-key_of.ensures ∙ c.as_slice.ensures in
    (λ i. fits (Entry.Mount (c.root.ensures i) 1 (key i) 0)) ∙ root_fits c.args.setup.now c.requires
