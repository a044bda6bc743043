use Rattle.std.proofs.Common.{length, ap, arith}
use Rattle.fs_model.specs.Changes.{key_len}
use Rattle.journal_entry.proofs.KeyParts.{key_len-parts}
use Rattle.journal_entry.proofs.put.put_key_text.Goals as goal

pub put-requires : goal.put-requires
put-requires c = omega (arith, c.requires, ap key_len c.as_slice.ensures.names, key_len-parts c.first-item.result c.as_slice.result.now c.in-len1-up.len_at_least, ap length c.first-item.is, ap length c.as_slice-in-len1-up.ensures)

pub put_key_names-requires : goal.put_key_names-requires
put_key_names-requires c = omega (arith, c.requires, ap key_len c.as_slice.ensures.names, key_len-parts c.first-item.result c.as_slice.result.now c.in-len1-up.len_at_least, ap length c.first-item.is, ap length c.as_slice-in-len1-up.ensures)

pub returns-in-len1-up-clause-len : goal.returns-in-len1-up-clause-len
returns-in-len1-up-clause-len c = omega (arith, ap key_len c.as_slice.ensures.names, key_len-parts c.first-item.result c.as_slice.result.now c.in-len1-up.len_at_least, ap length c.first-item.is, ap length c.as_slice-in-len1-up.ensures)
