-- What closing a head gate leaves at every moment.
use Rattle.std.proofs.Common.{Bool, IsTrue, sym, subst}
use Rattle.journal_disk.specs.Closing.{IsKnown}
use Rattle.journal_disk.proofs.Anew.{close_stage, close_sync, close_syncs}
use Rattle.journal_disk.proofs.closing.close_head.Goals as goal

pub returns-in_err-sync-clause-any_moment : goal.returns-in_err-sync-clause-any_moment
returns-in_err-sync-clause-any_moment g c = λ tells.
    close_sync _ _ c.sync.result (subst (λ (b : Bool). IsKnown b (g.D.Disk.history c.args.area.now.disk).now) c.if-shut.true (c.requires.known tells)) (c.sync.ensures.ok tells) (c.sync.ensures.err tells)

pub returns-in_ok-sync-clause-any_moment : goal.returns-in_ok-sync-clause-any_moment
returns-in_ok-sync-clause-any_moment g c = λ tells.
    let still = subst IsTrue (sym c.sync.ensures.tells) tells in
    close_syncs _ _ _ c.sync-then-shut.result (subst (λ (b : Bool). IsKnown b (g.D.Disk.history c.args.area.now.disk).now) c.if-shut.true (c.requires.known tells)) (c.in_ok-sync.ensures.ok tells) (c.sync-then-shut.ensures.ok still) (c.sync-then-shut.ensures.err still)

pub returns-else-shut-clause-any_moment : goal.returns-else-shut-clause-any_moment
returns-else-shut-clause-any_moment g c = λ tells.
    close_stage _ _ (subst (λ (b : Bool). IsKnown b (g.D.Disk.history c.args.area.now.disk).now) c.if-shut.false (c.requires.known tells)) (c.write_synced.ensures.any_moment tells)
