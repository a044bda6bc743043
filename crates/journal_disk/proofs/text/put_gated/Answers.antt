-- Each entry that is written is one.
use Rattle.std.proofs.Common.{◌≡◌, List, true, subst}
use Rattle.std.specs.List.{AllPass}
use Rattle.std.proofs.lemmas.List.{take_all}
use Rattle.std.proofs.lemmas.List.Elements.{All-more}
use Rattle.journal_entry.specs.declared.entry.Entry.{Entry}
use Rattle.journal_entry.specs.EntryText.{is_entry}
use Rattle.journal_disk.proofs.TextWritten.{written_more}
use Rattle.journal_disk.proofs.text.put_gated.Goals as goal

pub loop-entry-preserved : goal.loop-entry-preserved
loop-entry-preserved c =
    let es = c.args.entries.now in
    let i = c.loop-entry.entry-index in
    let e = c.entry-item.result in
    record {
      items = written_more _ _ _ es i e c.loop-entry-test.true c.entry-item.is c.loop-entry.invariant.items c.in_ok-put_one.ensures.text;
      written = All-more (λ x. is_entry x ≡ true) es i e c.loop-entry-test.true c.loop-entry.invariant.written (subst (λ (x : Entry). is_entry x ≡ true) c.entry-item.is c.in_ok-put_one.ensures.entry);
    }

pub returns-clause-entries : goal.returns-clause-entries
returns-clause-entries c = subst (λ (l : List Entry). AllPass is_entry l) (take_all c.loop-entry.entry-index c.args.entries.now c.loop-entry-test.false) c.loop-entry.invariant.written
