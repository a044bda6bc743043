use Rattle.std.proofs.lemmas.Result.{err_from_is_err_and}
use Rattle.journal_entry.specs.Reading.{workers_from}
use Rattle.journal_entry.proofs.Rising.{goes_on, ends, is_done}
use Rattle.journal_entry.proofs.workers.rising_at.Goals as goal

pub returns-in_err-worker : goal.returns-in_err-worker
returns-in_err-worker c =
    let p = err_from_is_err_and c.from_residual.result c.from_residual.ensures.1 in
    rw (p.1, p.2) (ends c.in_err-worker.field-0.0 c.loop.workers.items c.args.count c.loop.counter c.loop.last c.loop.rest.now (workers_from c.args.count 0 c.args.bytes.now) c.loop-test.true c.in_err-worker.ensures c.loop.invariant)

pub loop-preserved : goal.loop-preserved
loop-preserved c =
    rw c.in_ok-push.ensures.items (goes_on c.loop.workers.items c.args.count c.loop.counter c.loop.last c.loop.rest.now c.in_ok-worker.worker c.in_ok-worker.after.now (workers_from c.args.count 0 c.args.bytes.now) c.loop-test.true c.in_ok-worker.ensures c.loop.invariant)

pub returns : goal.returns
returns c = is_done c.loop.workers.items c.args.count c.loop.counter c.loop.last c.loop.rest.now (workers_from c.args.count 0 c.args.bytes.now) c.loop-test.false c.loop.invariant
