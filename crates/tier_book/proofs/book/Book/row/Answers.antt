use Rattle.std.proofs.Common.{map, ap, ◌∙◌, subst, length, ◌<◌}
use Rattle.std.specs.List.{All}
use Rattle.tier_book.specs.Rows.{copied_of, row_of}
use Rattle.tier_book.proofs.Changes.{found_row_at}
use Rattle.tier_book.proofs.book.Book.row.Goals as goal

pub returns-clause-tier : goal.returns-clause-tier
returns-clause-tier c = found_row_at c.find_row.result c.args.self.now.rows c.args.file c.args.block (length c.args.self.now.sizes)
    (c.find_row.ensures ∙ ap (row_of c.args.file c.args.block) (ap (map copied_of) c.deref.ensures.value ∙ ap (λ v. v.rows) c.self.view_is))
    (subst (λ v. All (λ r. r.tier < length v.sizes) v.rows) c.self.view_is c.self.invariant.0.rows_at)
