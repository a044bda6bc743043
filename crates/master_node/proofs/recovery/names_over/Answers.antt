use Rattle.std.proofs.Common.{◌≡◌, true, [], Err, List, ◌∙◌, sym, ap, subst}
use Rattle.journal_entry.specs.declared.entry.Entry.{Entry}
use Rattle.master_node.proofs.Masters.{kept}
use Rattle.master_node.proofs.Reopened.{closed_again, closed_first, entries_fit, over_again, over_first}
use Rattle.master_node.proofs.recovery.names_over.Goals as goal

pub read-requires : goal.read-requires
read-requires g c = entries_fit c.args.entries.now c.requires.texts

pub returns-in-Ok-clause-over : goal.returns-in-Ok-clause-over
returns-in-Ok-clause-over g c = λ a b r.
    over_first g.D.Disk c.args.setup.now a b c.args.journal.now c.args.entries.now r (sym c.is_fresh.ensures ∙ c.if-is_fresh.true) c.requires.unfused c.begin.new.journal c.begin.ensures.goes_on c.begin.ensures.any_moment
    c.in-Ok.names c.requires.setup c.in-Ok.ensures.names (c.requires.first (sym c.is_fresh.ensures ∙ c.if-is_fresh.true)) c.in-Ok.ensures.begun c.in-Ok.ensures.short

pub returns-in-Err-clause-closed : goal.returns-in-Err-clause-closed
returns-in-Err-clause-closed g c = λ a b r.
    closed_first g.D.Disk c.args.setup.now a b c.args.journal.now c.args.entries.now r (sym c.is_fresh.ensures ∙ c.if-is_fresh.true) c.requires.unfused c.begin.new.journal c.begin.ensures.goes_on c.begin.ensures.any_moment
    c.in-Err.why (λ is. c.in-Err.ensures.long (ap Err is)) (λ is. c.in-Err.ensures.failed (ap Err is)) c.in-Err.ensures.ends

pub returns-in-Ok-clause-kept : goal.returns-in-Ok-clause-kept
returns-in-Ok-clause-kept g c =
    kept g.D.Disk c.begin.new.journal _ c.in-Ok.names.names (c.in-Ok.ensures.again ∙ sym c.in-Ok.ensures.names) (ap (λ j. j.fresh) c.in-Ok.ensures.begun) c.in-Ok.ensures.ready

pub returns-in-Ok-read-clause-kept : goal.returns-in-Ok-read-clause-kept
returns-in-Ok-read-clause-kept g c =
    kept g.D.Disk c.args.journal.now c.args.entries.now c.in-Ok-read.names.names (sym c.in-Ok-read.ensures.names) (sym c.is_fresh.ensures ∙ c.if-is_fresh.false) c.requires.ready
