use Rattle.std.proofs.Common.{ap, arith, replicate, sym, vec_capacity, vec_len, ◌∙◌}
use Rattle.std.proofs.lemmas.List.{length-replicate}
use Rattle.outside.specs.History.{overwritten}
use Rattle.outside_mem.proofs.DiskLogs.{not_empty, room_left, seam, write_kept, write_len, write_replayed}
use Rattle.outside_mem.proofs.disk_log.DiskLog.fill.Goals as goal

pub append_filler-requires : goal.append_filler-requires
append_filler-requires c =
    let log = c.args.self.now in
    let room = room_left log.left log.most (vec_len log.bytes) c.args.len (vec_capacity log.bytes) c.requires.covered.call c.requires.covered.fits log.bytes_room in
    omega (arith, room)

pub invariant_of-self-clause-replay : goal.invariant_of-self-clause-replay
invariant_of-self-clause-replay c =
    let log = c.args.self.now in
    let filler = replicate c.args.len c.args.byte in
    let last = seam log.bytes.items filler c.deref.result.now c.len-from.result (c.deref.ensures.value ∙ c.append_filler.ensures.items) (omega arith) in
    rw (c.append_filler.ensures.items, c.keep.ensures.items) (write_replayed log.held.items _ log.first.items log.bytes.items filler log.calls.items c.args.at c.args.len (length-replicate c.args.len c.args.byte) log.sum (λ none. log.copied none c.requires.covered.call) log.replay (c.overwrite.ensures.items ∙ ap (λ piece. overwritten c.args.at piece log.held.items) last))

pub invariant_of-self-clause-sum : goal.invariant_of-self-clause-sum
invariant_of-self-clause-sum c =
    let log = c.args.self.now in
    let filler = replicate c.args.len c.args.byte in
    rw (c.append_filler.ensures.items, c.keep.ensures.items) (write_len log.calls.items c.args.at c.args.len log.bytes.items filler (length-replicate c.args.len c.args.byte) log.sum)

pub invariant_of-self-clause-copied : goal.invariant_of-self-clause-copied
invariant_of-self-clause-copied c = λ none some. not_empty _ _ (sym c.keep.ensures.items ∙ none)

pub invariant_of-self-clause-bytes_room : goal.invariant_of-self-clause-bytes_room
invariant_of-self-clause-bytes_room c =
    let log = c.args.self.now in
    let room = room_left log.left log.most (vec_len log.bytes) c.args.len (vec_capacity log.bytes) c.requires.covered.call c.requires.covered.fits log.bytes_room in
    omega (arith, room, c.append_filler.ensures.len, c.append_filler.ensures.capacity)

pub returns-clause-history : goal.returns-clause-history
returns-clause-history c =
    let log = c.args.self.now in
    let filler = replicate c.args.len c.args.byte in
    rw (c.append_filler.ensures.items, c.keep.ensures.items) (write_kept log.held.items _ log.first.items log.bytes.items filler log.calls.items c.args.at c.args.len (length-replicate c.args.len c.args.byte) log.sum (λ none. log.copied none c.requires.covered.call))
