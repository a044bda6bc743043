use Rattle.std.proofs.Common.{◌≡◌, Bool, false, Some, sym, subst}
use Rattle.journal_disk.specs.Areas.{first_of}
use Rattle.journal_disk.specs.Opening.{IsHeaded}
use Rattle.journal_disk.proofs.Openings.{headed}
use Rattle.journal_disk.proofs.journal.Journal.reopen.Goals as goal

pub read_current-requires-clause-here : goal.read_current-requires-clause-here
read_current-requires-clause-here g c =
    let first = c.in_ok-first.first in
    let second = c.in_ok-first.second in
    let here = subst (λ (b : Bool). first_of b first.generation second.generation ≡ Some c.in-Some-true-default.generation) c.in-Some-true-default.field-0-0-test c.in-Some-true-default.ensures.here in
    subst (λ j. IsHeaded g.D.Disk j.here (Some c.in-Some-true-default.generation) false) (sym c.turn-in-Some-true-default.ensures) (headed g.D.Disk _ _ _ _ here c.in_ok-first.ensures.second)

pub read_current-requires-in-Some-false-default-clause-here : goal.read_current-requires-in-Some-false-default-clause-here
read_current-requires-in-Some-false-default-clause-here g c =
    let first = c.in_ok-first.first in
    let second = c.in_ok-first.second in
    let here = subst (λ (b : Bool). first_of b first.generation second.generation ≡ Some c.in-Some-false-default.generation) c.in-Some-false-default.field-0-0-test c.in-Some-false-default.ensures.here in
    headed g.D.Disk _ _ _ _ here c.in_ok-first.ensures.first
