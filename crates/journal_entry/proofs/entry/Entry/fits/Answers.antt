use Rattle.std.proofs.Common.{sym, ◌∙◌}
use Rattle.journal_entry.proofs.BodyLengths.{fits_by_len}
use Rattle.journal_entry.proofs.entry.Entry.fits.Goals as goal

pub returns-then-has_bounds : goal.returns-then-has_bounds
returns-then-has_bounds c = fits_by_len c.args.self.now c.body_len.result (sym c.has_bounds.ensures ∙ c.if-has_bounds.true) c.body_len.ensures
