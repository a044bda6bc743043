use Rattle.std.proofs.Common.{◌<◌, length, not, ap, subst, sym, ◌∙◌}
use Rattle.outside_mem.proofs.Stored.{some_of, with_key-some}
use Rattle.outside_mem.proofs.lists.rename.Goals as goal

pub take_first-object-requires : goal.take_first-object-requires
take_first-object-requires c =
    let there = some_of _ _ _ c.find.ensures (c.is_none.ensures ∙ ap not c.if-is_none.false) in
    subst (λ taken. 0 < length taken) (sym c.take_out-taken.ensures.taken) (with_key-some c.args.from.now c.args.objects.now there)
