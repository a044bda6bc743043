use Rattle.std.proofs.Common.{◌≡◌, ◌∙◌, true, sym, ap, arith, rules, slice_set, slice_index_or}
use Rattle.std.specs.Str.{bytes_eq}
use Rattle.std.specs.String.{string_bytes}
use Rattle.outside_mem.proofs.NamedItems.{with_item-at}
use Rattle.outside_mem.proofs.named.exchange.Goals as goal

pub returns-then-eq-clause-items : goal.returns-then-eq-clause-items
returns-then-eq-clause-items g c =
    let items = c.loop-one.one-items in
    let place = c.loop-one.one-index in
    let named : bytes_eq (string_bytes (slice_index_or items place c.one-item.result).name) c.args.name.now ≡ true = search rules in
    let at = with_item-at c.args.name.now c.args.item.now c.one-item.result items place (omega (arith, c.loop-one-test.true)) named in
    ap (λ item. slice_set items place (record (slice_index_or items place c.one-item.result) { item = item })) (c.swap.ensures.x_after ∙ c.loop-one.invariant.same) ∙ sym at ∙ c.loop-one.invariant.items
