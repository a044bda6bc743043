use Rattle.std.proofs.Common.{◌+◌, sym, ap, ◌∙◌, arith}
use Rattle.journal_entry.proofs.BodyLengths.{short_len, length-entry_text}
use Rattle.journal_entry.proofs.entry.Entry.text_len.Goals as goal

pub overflow_add-result : goal.overflow_add-result
overflow_add-result c = omega (arith, c.body_len.ensures, short_len c.args.self.now c.requires)

pub returns-clause-len : goal.returns-clause-len
returns-clause-len c = ap (λ n. 4 + n) c.body_len.ensures ∙ sym (length-entry_text c.args.self.now)

pub returns-clause-short : goal.returns-clause-short
returns-clause-short c = omega (arith, c.body_len.ensures, short_len c.args.self.now c.requires)
