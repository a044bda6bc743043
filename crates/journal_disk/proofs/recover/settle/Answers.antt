use Rattle.std.proofs.Common.{◌∙◌, ap, arith}
use Rattle.journal_disk.proofs.Openings.{both_halves, still, synced_half}
use Rattle.journal_disk.proofs.recover.settle.Goals as goal

pub returns-in_err-sync-clause-areas : goal.returns-in_err-sync-clause-areas
returns-in_err-sync-clause-areas g c =
    let w = g.D.Disk in
    both_halves w _ _ _ _
    (synced_half w _ c.reserve.new.self _ c.sync.result g.met.D.Disk.read_is_image (c.reserve.ensures.tells ∙ ap (λ f. w.tells f.disk) c.set_fuse.ensures) (c.reserve.ensures.history ∙ ap (λ f. w.history f.disk) c.set_fuse.ensures)
    (omega (arith, c.reserve.ensures.own, ap (λ f. w.faults f.disk) c.set_fuse.ensures)) (c.reserve.ensures.fuse ∙ ap (λ f. f.fuse) c.set_fuse.ensures) c.sync.ensures.ok c.sync.ensures.err c.sync.ensures.tells c.sync.ensures.burns.later c.sync.ensures.burns.shorter)
    (still w _ c.reserve-2.new.self (c.reserve-2.ensures.tells ∙ ap (λ f. w.tells f.disk) c.set_fuse-2.ensures) (c.reserve-2.ensures.history ∙ ap (λ f. w.history f.disk) c.set_fuse-2.ensures)
    (omega (arith, c.reserve-2.ensures.own, ap (λ f. w.faults f.disk) c.set_fuse-2.ensures)) (c.reserve-2.ensures.fuse ∙ ap (λ f. f.fuse) c.set_fuse-2.ensures))

pub returns-in_err-sync-2-clause-areas : goal.returns-in_err-sync-2-clause-areas
returns-in_err-sync-2-clause-areas g c =
    let w = g.D.Disk in
    both_halves w _ _ _ _
    (synced_half w _ c.reserve.new.self _ c.sync.result g.met.D.Disk.read_is_image (c.reserve.ensures.tells ∙ ap (λ f. w.tells f.disk) c.set_fuse.ensures) (c.reserve.ensures.history ∙ ap (λ f. w.history f.disk) c.set_fuse.ensures)
    (omega (arith, c.reserve.ensures.own, ap (λ f. w.faults f.disk) c.set_fuse.ensures)) (c.reserve.ensures.fuse ∙ ap (λ f. f.fuse) c.set_fuse.ensures) c.sync.ensures.ok c.sync.ensures.err c.sync.ensures.tells c.sync.ensures.burns.later c.sync.ensures.burns.shorter)
    (synced_half w _ c.reserve-2.new.self _ c.sync-2.result g.met.D.Disk.read_is_image (c.reserve-2.ensures.tells ∙ ap (λ f. w.tells f.disk) c.set_fuse-2.ensures) (c.reserve-2.ensures.history ∙ ap (λ f. w.history f.disk) c.set_fuse-2.ensures)
    (omega (arith, c.reserve-2.ensures.own, ap (λ f. w.faults f.disk) c.set_fuse-2.ensures)) (c.reserve-2.ensures.fuse ∙ ap (λ f. f.fuse) c.set_fuse-2.ensures) c.sync-2.ensures.ok c.sync-2.ensures.err c.sync-2.ensures.tells c.sync-2.ensures.burns.later c.sync-2.ensures.burns.shorter)

pub returns-clause-areas : goal.returns-clause-areas
returns-clause-areas g c =
    let w = g.D.Disk in
    both_halves w _ _ _ _
    (synced_half w _ c.reserve.new.self _ c.sync.result g.met.D.Disk.read_is_image (c.reserve.ensures.tells ∙ ap (λ f. w.tells f.disk) c.set_fuse.ensures) (c.reserve.ensures.history ∙ ap (λ f. w.history f.disk) c.set_fuse.ensures)
    (omega (arith, c.reserve.ensures.own, ap (λ f. w.faults f.disk) c.set_fuse.ensures)) (c.reserve.ensures.fuse ∙ ap (λ f. f.fuse) c.set_fuse.ensures) c.sync.ensures.ok c.sync.ensures.err c.sync.ensures.tells c.sync.ensures.burns.later c.sync.ensures.burns.shorter)
    (synced_half w _ c.reserve-2.new.self _ c.sync-2.result g.met.D.Disk.read_is_image (c.reserve-2.ensures.tells ∙ ap (λ f. w.tells f.disk) c.set_fuse-2.ensures) (c.reserve-2.ensures.history ∙ ap (λ f. w.history f.disk) c.set_fuse-2.ensures)
    (omega (arith, c.reserve-2.ensures.own, ap (λ f. w.faults f.disk) c.set_fuse-2.ensures)) (c.reserve-2.ensures.fuse ∙ ap (λ f. f.fuse) c.set_fuse-2.ensures) c.sync-2.ensures.ok c.sync-2.ensures.err c.sync-2.ensures.tells c.sync-2.ensures.burns.later c.sync-2.ensures.burns.shorter)
