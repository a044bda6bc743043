use Rattle.std.proofs.Common.{arith}
use Rattle.fs_model.proofs.Paths.{goes_on, stops, is_done}
use Rattle.fs_model.proofs.path.names_of.Goals as goal

pub returns-in-None : goal.returns-in-None
returns-in-None c = stops c.loop-place.names.items c.args.parts.now c.loop-place.place _ _ (omega arith) (rw c.in-None.is at c.in_ok-name.ensures) c.loop-place.invariant

pub loop-place-preserved : goal.loop-place-preserved
loop-place-preserved c =
    let h = rw c.in-Some.is at c.in_ok-name.ensures in
    rw c.in_ok-push-in-Some.ensures.items (goes_on c.loop-place.names.items c.args.parts.now c.loop-place.place _ c.in-Some.name _ (omega arith) h.0 h.1 c.loop-place.invariant)

pub returns : goal.returns
returns c = is_done c.loop-place.names.items c.args.parts.now c.loop-place.place _ (omega arith) c.loop-place.invariant
