use Rattle.std.proofs.Common.{◌≡◌}
use Rattle.fs_model.specs.PathText.{names_of, slices}
use Rattle.fs_model.proofs.Paths.{with_front, left}
use Rattle.fs_model.proofs.path.names_of.Given as goal

abbrev pub invariant-loop-place : goal.invariant-loop-place
invariant-loop-place l = with_front l.names.items (names_of l.place (left l.place l.parts)) ≡ names_of 0 (slices l.parts)
