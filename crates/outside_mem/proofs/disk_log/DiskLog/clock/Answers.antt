use Rattle.std.proofs.Common.{arith}
use Rattle.outside.specs.History.{beginning}
use Rattle.outside_mem.specs.DiskHistory.{first_of}
use Rattle.outside_mem.proofs.Moments.{past_len}
use Rattle.outside_mem.proofs.disk_log.DiskLog.clock.Goals as goal

pub returns : goal.returns
returns c =
    let log = c.args.self.now in
    omega (arith, past_len log.bytes.items log.calls.items (beginning (first_of log.held.items log.first.items log.calls.items)))
