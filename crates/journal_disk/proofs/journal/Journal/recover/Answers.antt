use Rattle.std.proofs.Common.{◌∙◌, sym, subst}
use Rattle.journal_disk.specs.Journaling.{fused_0, fused_1}
use Rattle.journal_disk.specs.Opening.{IsBroken, IsRecovered}
use Rattle.journal_disk.proofs.Openings.{broken_fused, recovered_fused}
use Rattle.journal_disk.proofs.journal.Journal.recover.Goals as goal

pub returns-in-Ok-reopen-clause-recovered : goal.returns-in-Ok-reopen-clause-recovered
returns-in-Ok-reopen-clause-recovered g c =
    let w = g.D.Disk in
    let j = c.closed-journal.result in
    recovered_fused w c.args.a c.args.b (fused_0 j) (fused_1 j) c.args.limit c.reopen.new.self c.in-Ok-reopen.entries (c.closed-journal.ensures.first ∙ c.unfused-a.ensures) (c.closed-journal.ensures.second ∙ c.unfused-b.ensures)
    (subst (λ n. IsRecovered w (fused_0 j) (fused_1 j) n c.reopen.new.self c.in-Ok-reopen.entries) c.closed-journal.ensures.limited c.in-Ok-reopen.ensures.recovered)

pub returns-in-Err-clause-broken : goal.returns-in-Err-clause-broken
returns-in-Err-clause-broken g c =
    let w = g.D.Disk in
    let j = c.closed-journal.result in
    broken_fused w c.args.a c.args.b (fused_0 j) (fused_1 j) c.into_areas-a.result.0 c.into_areas-a.result.1 c.in-Err.why (c.closed-journal.ensures.first ∙ c.unfused-a.ensures) (c.closed-journal.ensures.second ∙ c.unfused-b.ensures)
    (subst (λ x. IsBroken w (fused_0 j) (fused_1 j) c.into_areas-a.result.0 x c.in-Err.why) (sym c.into_areas-a.ensures.second) (subst (λ x. IsBroken w (fused_0 j) (fused_1 j) x (fused_1 c.reopen.new.self) c.in-Err.why) (sym c.into_areas-a.ensures.first) c.in-Err.ensures.broken))
