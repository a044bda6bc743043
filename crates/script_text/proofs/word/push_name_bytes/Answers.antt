use Rattle.std.proofs.Common.{◌++◌, ap, sym, ◌∙◌, arith}
use Rattle.std.proofs.lemmas.List.{append-nil}
use Rattle.std.proofs.lemmas.List.Elements.{All-from_get_or}
use Rattle.percent_encoding.proofs.PercentLemmas.{IsByte}
use Rattle.script_text.proofs.Escapes.{encodes_name}
use Rattle.script_text.proofs.word.push_name_bytes.Goals as goal

pub returns : goal.returns
returns c =
    let small = All-from_get_or IsByte c.args.name.now 0 (λ i within. omega (arith, c.type_inv.name i)) in
    sym (append-nil c.loop-piece.out.items) ∙ (rw c.in-None.ensures.steps at c.loop-piece.invariant) ∙ ap (λ x. c.args.out.now.items ++ x) (encodes_name c.args.name.now small)
