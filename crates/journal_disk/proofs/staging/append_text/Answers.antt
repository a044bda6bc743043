-- What the four calls of an append leave.
use Rattle.std.proofs.Common.{ℕ, ◌+◌, List, length, IsTrue, sym, ◌∙◌, ap, subst, arith}
use Rattle.outside.specs.History.{History, Since, after_sync, written}
use Rattle.journal_disk.specs.Staging.{IsStage}
use Rattle.journal_disk.proofs.Append.{long, long_staged, first_stage, second_stage, rest_last}
use Rattle.journal_disk.proofs.staging.append_text.Goals as goal

pub write_synced-requires-clause-within : goal.write_synced-requires-clause-within
write_synced-requires-clause-within g c = λ tells. long _ c.requires.area.0 c.requires.area.1 c.args.gate (c.requires.area.2 tells)

pub returns-in_err-write_synced-clause-any_moment : goal.returns-in_err-write_synced-clause-any_moment
returns-in_err-write_synced-clause-any_moment g c = λ tells generation entries e p r.
    first_stage generation entries c.args.gate e _ r p.entry _
    (subst (λ (l : List ℕ). Since (g.D.Disk.history c.args.area.now.disk) (g.D.Disk.history c.write_synced.new.area.disk) (IsStage (c.args.gate + 1) l (g.D.Disk.history c.args.area.now.disk))) p.bytes (c.write_synced.ensures.any_moment tells))

pub write_synced-requires-2-clause-within : goal.write_synced-requires-2-clause-within
write_synced-requires-2-clause-within g c = λ still.
    let tells = subst IsTrue c.write_synced.ensures.tells still in
    let p = c.requires.entry.1 in
    let here = c.in_ok-write_synced.ensures.ok tells ∙ ap (λ (l : List ℕ). after_sync (written (c.args.gate + 1) l (g.D.Disk.history c.args.area.now.disk))) p.bytes in
    omega (arith, long_staged c.requires.area.0 c.requires.area.1 c.args.gate c.requires.entry.0 _ (c.requires.area.2 tells) p.entry, ap (λ (h : History). length h.now.held) here)

pub returns-clause-ok : goal.returns-clause-ok
returns-clause-ok g c = λ tells generation entries e p r.
    let still = subst IsTrue (sym c.write_synced.ensures.tells) tells in
    rest_last generation entries c.args.gate e _ r p.entry c.write_synced-2.result _ _
    (c.in_ok-write_synced.ensures.ok tells ∙ ap (λ (l : List ℕ). after_sync (written (c.args.gate + 1) l (g.D.Disk.history c.args.area.now.disk))) p.bytes)
    (c.write_synced-2.ensures.ok still)

pub returns-clause-any_moment : goal.returns-clause-any_moment
returns-clause-any_moment g c = λ tells generation entries e p r.
    let still = subst IsTrue (sym c.write_synced.ensures.tells) tells in
    second_stage generation entries c.args.gate e _ r p.entry _ _
    (subst (λ (l : List ℕ). Since (g.D.Disk.history c.args.area.now.disk) (g.D.Disk.history c.write_synced.new.area.disk) (IsStage (c.args.gate + 1) l (g.D.Disk.history c.args.area.now.disk))) p.bytes (c.write_synced.ensures.any_moment tells))
    (c.in_ok-write_synced.ensures.ok tells ∙ ap (λ (l : List ℕ). after_sync (written (c.args.gate + 1) l (g.D.Disk.history c.args.area.now.disk))) p.bytes)
    (c.write_synced-2.ensures.any_moment still)
