use Rattle.std.proofs.Common.{◌≡◌, true, arith, subst, sym}
use Rattle.fs_model.specs.PathForm.{is_key}
use Rattle.fs_model.proofs.KeyGrammar.{key_bytes-short}
use Rattle.fs_model.proofs.prefix.Prefix.text_len.Goals as goal

pub names_len-requires : goal.names_len-requires
names_len-requires c = omega (arith, key_bytes-short c.as_slice-names.result.now (subst (λ k. is_key k ≡ true) (sym c.as_slice-names.ensures.names) c.as_slice-names.ensures.key))

pub returns-clause-short : goal.returns-clause-short
returns-clause-short c = omega (arith, c.names_len.ensures, key_bytes-short c.as_slice-names.result.now (subst (λ k. is_key k ≡ true) (sym c.as_slice-names.ensures.names) c.as_slice-names.ensures.key))
