use Rattle.std.proofs.Common.{drop, ap, ◌∙◌}
use Rattle.master_state.proofs.FirstMount.{plain_is_key, key_read, not_none}
use Rattle.master_state.proofs.fresh.key_of.Goals as goal

pub unreachable-requires : goal.unreachable-requires
unreachable-requires c =
    let found = c.in_ok-key.ensures.only c.args.names.now (plain_is_key c.args.names.now c.requires) (c.behind.ensures ∙ ap (drop 1) (c.deref.ensures.value ∙ c.in_ok-text.ensures)) in
    not_none c.in_ok-key.field-0 c.args.names.now found c.in-None.is

pub returns : goal.returns
returns c =
    let found = c.in_ok-key.ensures.only c.args.names.now (plain_is_key c.args.names.now c.requires) (c.behind.ensures ∙ ap (drop 1) (c.deref.ensures.value ∙ c.in_ok-text.ensures)) in
    key_read c.in_ok-key.field-0 c.in-Some.key c.args.names.now found c.in-Some.is
