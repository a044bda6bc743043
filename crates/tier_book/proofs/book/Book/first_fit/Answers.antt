use Rattle.std.proofs.Common.{nat_le, length, sym, ap, ◌∙◌, arith}
use Rattle.tier_book.specs.Rows.{free_at}
use Rattle.tier_book.proofs.Order.{fits_here, fits_later, leb_yes, leb_no}
use Rattle.tier_book.proofs.book.Book.first_fit.Goals as goal

pub returns-then-free_bytes-n-clause-first : goal.returns-then-free_bytes-n-clause-first
returns-then-free_bytes-n-clause-first c =
    sym (fits_here (λ t. nat_le c.args.n (free_at c.args.self.now t)) c.loop-tier.tier (length c.args.self.now.sizes) (omega (arith, ap (λ v. length v.sizes) c.self.view_is))
    (ap (nat_le c.args.n) (sym c.free_bytes.ensures) ∙ leb_yes _ _ c.if-free_bytes-n.true)) ∙ c.loop-tier.invariant

pub loop-tier-preserved : goal.loop-tier-preserved
loop-tier-preserved c =
    sym (fits_later (λ t. nat_le c.args.n (free_at c.args.self.now t)) c.loop-tier.tier (length c.args.self.now.sizes) (omega (arith, ap (λ v. length v.sizes) c.self.view_is))
    (ap (nat_le c.args.n) (sym c.free_bytes.ensures) ∙ leb_no _ _ (omega arith))) ∙ c.loop-tier.invariant
