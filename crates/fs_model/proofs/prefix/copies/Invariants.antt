use Rattle.std.proofs.Common.{◌≡◌, take}
use Rattle.fs_model.specs.PathText.{slices}
use Rattle.fs_model.proofs.prefix.copies.Given as goal

abbrev pub invariant-loop-part : goal.invariant-loop-part
invariant-loop-part l = l.names.items ≡ slices (take l.part-index l.parts)
