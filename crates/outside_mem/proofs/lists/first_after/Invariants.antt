use Rattle.std.proofs.Common.{◌≡◌}
use Rattle.std.specs.Prelude.{None}
use Rattle.std.specs.Option.{option_copied}
use Rattle.outside.specs.Contents.{is_after}
use Rattle.outside_mem.specs.Stored.{first_wanted}
use Rattle.outside_mem.proofs.lists.first_after.Given as goal

abbrev pub invariant-loop-object : goal.invariant-loop-object
invariant-loop-object l = first_wanted (is_after l.under (option_copied l.after)) (option_copied l.found) l.object-iterator ≡ first_wanted (is_after l.under (option_copied l.after)) None l.objects
