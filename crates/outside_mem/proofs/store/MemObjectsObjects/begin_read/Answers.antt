use Rattle.std.proofs.lemmas.Bool.{and_parts}
use Rattle.outside_mem.specs.Calls.{are_others_quiet, are_polls_quiet}
use Rattle.outside_mem.proofs.store.MemObjectsObjects.begin_read.Goals as goal

pub returns-clause-reads : goal.returns-clause-reads
returns-clause-reads c = λ h.
    let calls = c.args.self.now.calls in
    c.in_ok-reader_over.ensures.steady (and_parts (are_polls_quiet calls) (are_others_quiet calls) h).0
