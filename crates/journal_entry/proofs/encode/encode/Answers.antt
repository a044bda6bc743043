use Rattle.std.proofs.Common.{List, ℕ, [], ◌∷◌, ◌++◌, ap, ◌∙◌, arith}
use Rattle.journal_entry.specs.EntryText.{fields}
use Rattle.journal_entry.proofs.BodyLengths.{short_len, in_order}
use Rattle.journal_entry.proofs.encode.encode.Goals as goal

pub overflow_cast-body_len : goal.overflow_cast-body_len
overflow_cast-body_len c = omega (arith, c.body_len.ensures, short_len c.args.entry.now c.requires.fits)

pub put_fields-requires-clause-room : goal.put_fields-requires-clause-room
put_fields-requires-clause-room c =
    omega (arith, short_len c.args.entry.now c.requires.fits, c.requires.spare, c.put_u32.ensures.len, c.put_u32.ensures.capacity, c.put_byte.ensures.len, c.put_byte.ensures.capacity)

pub returns-clause-text : goal.returns-clause-text
returns-clause-text c =
    let before = ap (λ (x : List ℕ). x ++ c.kind_byte.result ∷ []) c.put_u32.ensures.items in
    c.put_fields.ensures.items ∙ ap (λ (x : List ℕ). x ++ fields c.args.entry.now) (c.put_byte.ensures.items ∙ before)
    ∙ in_order c.args.out.now.items c.args.entry.now c.body_len.result c.kind_byte.result c.body_len.ensures c.kind_byte.ensures
