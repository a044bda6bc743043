use Rattle.std.proofs.Common.{IsTrue, sym, subst}
use Rattle.journal_disk.proofs.Stage.{write_stage, sync_stage}
use Rattle.journal_disk.proofs.staging.write_synced.Goals as goal

pub returns-in_err-write_at-clause-any_moment : goal.returns-in_err-write_at-clause-any_moment
returns-in_err-write_at-clause-any_moment g c = λ tells. write_stage c.args.at c.args.piece.now _ _ c.write_at.result (c.write_at.ensures.ok tells) (c.write_at.ensures.err tells)

pub returns-clause-any_moment : goal.returns-clause-any_moment
returns-clause-any_moment g c = λ tells.
    let still = subst IsTrue (sym c.write_at.ensures.tells) tells in
    sync_stage c.args.at c.args.piece.now _ _ _ c.sync.result (c.in_ok-write_at.ensures.ok tells) (c.sync.ensures.ok still) (c.sync.ensures.err still)
