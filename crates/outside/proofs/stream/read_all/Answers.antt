use Rattle.std.proofs.Common.{◌≡◌, ◌≤◌, ◌++◌, ◌+◌, length, length-append, take, arith}
use Rattle.std.proofs.lemmas.List.{length-take}
use Rattle.outside.proofs.Known.{Gives-trans}
use Rattle.outside.proofs.stream.read_all.Goals as goal

-- the bytes of the pull that found no memory are lost with those before it
pub returns-in_err-extend_from_slice-clause-memory : goal.returns-in_err-extend_from_slice-clause-memory
returns-in_err-extend_from_slice-clause-memory g c memory =
    let pulled = c.in_ok-count.ensures.bytes in
    let before = c.pulling.bytes.items in
    let front = take c.in_ok-count.count c.pull.new.buf in
    let few = pulled.few in
    let room = length-take c.min-room.result c.pulling.buf in
    let fits : length (before ++ front) ≤ c.args.limit = omega (arith, length-append before front, length-take c.in_ok-count.count c.pull.new.buf, c.pull.auto.buf) in
    (before ++ front, fits, Gives-trans _ _ _ before front c.pulling.invariant.pulled pulled.given)

-- the one byte after `limit` bytes
pub returns-then-branch-gt0-clause-long : goal.returns-then-branch-gt0-clause-long
returns-then-branch-gt0-clause-long g c long =
    let pulled = c.in_ok-pull.ensures.bytes in
    let before = c.pulling.bytes.items in
    let front = take c.in_ok-pull.field-0 c.pull-2.new.buf in
    let few = pulled.few in
    let room = length-take 1 c.pulling.buf in
    let one : length (before ++ front) ≡ c.args.limit + 1 = omega (arith, length-append before front, length-take c.in_ok-pull.field-0 c.pull-2.new.buf, c.pull-2.auto.buf) in
    (before ++ front, one, Gives-trans _ _ _ before front c.pulling.invariant.pulled pulled.given)
