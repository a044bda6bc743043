use Rattle.std.proofs.Common.{sym, ◌∙◌}
use Rattle.outside_mem.proofs.DiskLogs.{not_empty, sync_kept, sync_len, sync_replayed}
use Rattle.outside_mem.proofs.disk_log.DiskLog.sync.Goals as goal

pub invariant_of-self-clause-replay : goal.invariant_of-self-clause-replay
invariant_of-self-clause-replay c =
    let log = c.args.self.now in
    rw c.keep.ensures.items (sync_replayed log.held.items log.first.items log.bytes.items log.calls.items log.sum (λ none. log.copied none c.requires.covered.call) log.replay)

pub invariant_of-self-clause-sum : goal.invariant_of-self-clause-sum
invariant_of-self-clause-sum c = rw c.keep.ensures.items (sync_len c.args.self.now.calls.items c.args.self.now.bytes.items c.args.self.now.sum)

pub invariant_of-self-clause-copied : goal.invariant_of-self-clause-copied
invariant_of-self-clause-copied c = λ none some. not_empty _ _ (sym c.keep.ensures.items ∙ none)

pub returns-clause-history : goal.returns-clause-history
returns-clause-history c =
    let log = c.args.self.now in
    rw c.keep.ensures.items (sync_kept log.held.items log.held.items log.first.items log.bytes.items log.calls.items log.sum (λ none. log.copied none c.requires.covered.call))
