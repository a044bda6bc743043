-- What writing an area anew leaves at every moment.
use Rattle.std.proofs.Common.{IsTrue, refl, sym, subst}
use Rattle.journal_disk.proofs.Renewed.{kept, shut_run, synced_run, opened_run}
use Rattle.journal_disk.proofs.closing.replace.Goals as goal

pub returns-in_err-write_pieces-clause-any_moment : goal.returns-in_err-write_pieces-clause-any_moment
returns-in_err-write_pieces-clause-any_moment g c = λ tells.
    let second = subst IsTrue (sym c.close_head.ensures.tells) tells in
    shut_run c.args.text.now _ _ _ _ (kept c.args.text.now _ _ _ refl (c.close_head.ensures.any_moment tells)) (c.write_pieces.ensures.any_moment second)

pub returns-in_err-sync-clause-any_moment : goal.returns-in_err-sync-clause-any_moment
returns-in_err-sync-clause-any_moment g c = λ tells.
    let second = subst IsTrue (sym c.close_head.ensures.tells) tells in
    let third = subst IsTrue (sym c.write_pieces.ensures.tells) second in
    synced_run c.args.text.now _ _ _ _ _ c.sync.result (c.in_ok-close_head.ensures.ok tells)
    (shut_run c.args.text.now _ _ _ _ (kept c.args.text.now _ _ _ refl (c.close_head.ensures.any_moment tells)) (c.write_pieces.ensures.any_moment second))
    (c.in_ok-write_pieces.ensures.ok second) (c.sync.ensures.ok third) (c.sync.ensures.err third)

pub returns-clause-any_moment : goal.returns-clause-any_moment
returns-clause-any_moment g c = λ tells.
    let second = subst IsTrue (sym c.close_head.ensures.tells) tells in
    let third = subst IsTrue (sym c.write_pieces.ensures.tells) second in
    let fourth = subst IsTrue (sym c.sync.ensures.tells) third in
    opened_run c.args.text.now _ _ _ _ _ _ (c.in_ok-close_head.ensures.ok tells)
    (shut_run c.args.text.now _ _ _ _ (kept c.args.text.now _ _ _ refl (c.close_head.ensures.any_moment tells)) (c.write_pieces.ensures.any_moment second))
    (c.in_ok-write_pieces.ensures.ok second) (c.in_ok-sync.ensures.ok third) (c.write_synced.ensures.any_moment fourth)
