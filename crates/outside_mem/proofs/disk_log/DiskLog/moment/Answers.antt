use Rattle.std.proofs.Common.{arith, inl, inr, length, ap, sym, ◌∙◌}
use Rattle.outside_mem.specs.DiskHistory.{first_of}
use Rattle.outside_mem.proofs.Moments.{front_is, moment_is, no_moment, take_fits}
use Rattle.outside_mem.proofs.disk_log.DiskLog.moment.Goals as goal

pub returns-in_default : goal.returns-in_default
returns-in_default c =
    let log = c.args.self.now in
    let len = ap length c.deref.ensures.value in
    sym (no_moment log.bytes.items (first_of log.held.items log.first.items log.calls.items) log.calls.items c.args.number (elim c.in_default.ensures.lookup.0 [ inl below ↦ absurd (omega (arith, below)) | inr above ↦ omega (arith, len, above) ]))

pub replay-requires : goal.replay-requires
replay-requires c =
    let log = c.args.self.now in
    let calls = front_is _ _ _ c.args.number c.deref.ensures.value c.in-Some.ensures.lookup.0.2 in
    rw (calls, c.deref-2.ensures.value) (take_fits log.calls.items log.bytes.items c.args.number log.sum)

pub returns : goal.returns
returns c =
    let log = c.args.self.now in
    let calls = front_is _ _ _ c.args.number c.deref.ensures.value c.in-Some.ensures.lookup.0.2 in
    let within = c.in-Some.ensures.lookup.0.1 in
    let moment = moment_is log.bytes.items (first_of log.held.items log.first.items log.calls.items) log.calls.items c.args.number (omega (arith, within, ap length c.deref.ensures.value)) in
    let first = c.in_ok-first.ensures.items ∙ c.first.ensures in
    sym (rw (c.in_ok-replay.ensures, calls, c.deref-2.ensures.value, first) moment)
