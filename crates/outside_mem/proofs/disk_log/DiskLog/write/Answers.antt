use Rattle.std.proofs.Common.{arith, length, refl, sym, vec_capacity, vec_len, ◌∙◌}
use Rattle.outside_mem.proofs.DiskLogs.{not_empty, room_left, write_kept, write_len, write_replayed}
use Rattle.outside_mem.proofs.disk_log.DiskLog.write.Goals as goal

pub append-requires : goal.append-requires
append-requires c =
    let log = c.args.self.now in
    let room = room_left log.left log.most (vec_len log.bytes) (length c.args.piece.now) (vec_capacity log.bytes) c.requires.covered.call c.requires.covered.fits log.bytes_room in
    omega (arith, room)

pub invariant_of-self-clause-replay : goal.invariant_of-self-clause-replay
invariant_of-self-clause-replay c =
    let log = c.args.self.now in
    rw (c.append.ensures.items, c.keep.ensures.items) (write_replayed log.held.items _ log.first.items log.bytes.items c.args.piece.now log.calls.items c.args.at (length c.args.piece.now) refl log.sum (λ none. log.copied none c.requires.covered.call) log.replay c.overwrite.ensures.items)

pub invariant_of-self-clause-sum : goal.invariant_of-self-clause-sum
invariant_of-self-clause-sum c =
    let log = c.args.self.now in
    rw (c.append.ensures.items, c.keep.ensures.items) (write_len log.calls.items c.args.at (length c.args.piece.now) log.bytes.items c.args.piece.now refl log.sum)

pub invariant_of-self-clause-copied : goal.invariant_of-self-clause-copied
invariant_of-self-clause-copied c = λ none some. not_empty _ _ (sym c.keep.ensures.items ∙ none)

pub invariant_of-self-clause-bytes_room : goal.invariant_of-self-clause-bytes_room
invariant_of-self-clause-bytes_room c =
    let log = c.args.self.now in
    let room = room_left log.left log.most (vec_len log.bytes) (length c.args.piece.now) (vec_capacity log.bytes) c.requires.covered.call c.requires.covered.fits log.bytes_room in
    omega (arith, room, c.append.ensures.len, c.append.ensures.capacity)

pub returns-clause-history : goal.returns-clause-history
returns-clause-history c =
    let log = c.args.self.now in
    rw (c.append.ensures.items, c.keep.ensures.items) (write_kept log.held.items _ log.first.items log.bytes.items c.args.piece.now log.calls.items c.args.at (length c.args.piece.now) refl log.sum (λ none. log.copied none c.requires.covered.call))
