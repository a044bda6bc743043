use Rattle.std.proofs.Common.{◌≡◌, ◌++◌, drop, map}
use Rattle.std.specs.Fmt.{decimal}
use Rattle.script_text.specs.Words.{spaced}
use Rattle.script_text.proofs.line.push_plans.Given as goal

abbrev pub invariant-loop-plan : goal.invariant-loop-plan
invariant-loop-plan l = l.out.items ++ spaced (map decimal (drop l.plan-index l.plans)) ≡ l.fn.out.items ++ spaced (map decimal l.plans)
