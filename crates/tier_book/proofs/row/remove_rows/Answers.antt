use Rattle.std.proofs.Common.{map, not, ap, ◌∙◌, rules}
use Rattle.std.proofs.lemmas.Fn.{filter_same}
use Rattle.tier_book.specs.Rows.{copied_of, is_block}
use Rattle.tier_book.proofs.Changes.{filter-map}
use Rattle.tier_book.proofs.row.remove_rows.Goals as goal

pub returns-clause-items : goal.returns-clause-items
returns-clause-items c =
    ap (map copied_of) (filter_same _ (λ r. not (is_block c.args.file c.args.block (copied_of r))) _ (λ x b f' k. search rules) _ _ c.retain.ensures.filtered)
    ∙ filter-map copied_of (λ r. not (is_block c.args.file c.args.block r)) c.args.rows.now.items
