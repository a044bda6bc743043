use Rattle.std.proofs.Common.{◌+◌, arith}
use Rattle.std.proofs.lemmas.List.{length-drop}
use Rattle.std.proofs.lemmas.Result.{err_from_is_err_and}
use Rattle.outside.proofs.Known.{Takes-on}
use Rattle.outside.proofs.stream.push_all.Goals as goal

pub returns-in_err-at-clause-partly : goal.returns-in_err-at-clause-partly
returns-in_err-at-clause-partly g c =
    let failed = err_from_is_err_and c.from_residual.result c.from_residual.ensures.1 in
    let more = c.in_err-at.ensures.bytes.partly in
    rw failed.1 (c.pushing.at + more.0, Takes-on _ _ _ c.args.text.now c.pushing.at more.0 c.pushing.invariant.taken more.1)

pub pushing-preserved : goal.pushing-preserved
pushing-preserved g c =
    let pushed = c.in_ok-at.ensures.bytes in
    record {
      within = omega (arith, pushed.some.1, length-drop c.pushing.at c.args.text.now);
      taken = Takes-on _ _ _ c.args.text.now c.pushing.at c.in_ok-at.field-0 c.pushing.invariant.taken pushed.taken;
      later = omega (arith, c.in_ok-at.ensures.cause.later);
      untouched = λ none. absurd (omega (arith, pushed.some.0, none));
    }
