use Rattle.std.proofs.Common.{not}
use Rattle.outside_mem.specs.Calls.{fails_next, is_last}
use Rattle.outside_mem.proofs.Fates.{thinned_if}
use Rattle.outside_mem.proofs.store.MemObjectsObjects.clear.Goals as goal

pub returns-clause-thinned : goal.returns-clause-thinned
returns-clause-thinned c =
    let store = c.args.self.now in
    thinned_if store.objects _ _ (not (is_last store.changes)) (fails_next store.calls.clears) c.try_clear.ensures.objects
