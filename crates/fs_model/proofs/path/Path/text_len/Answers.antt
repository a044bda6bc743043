use Rattle.std.proofs.Common.{arith, subst, sym, ◌≡◌, true}
use Rattle.fs_model.specs.PathForm.{is_path}
use Rattle.fs_model.proofs.ShortPaths.{path_bytes-short}
use Rattle.fs_model.proofs.path.Path.text_len.Goals as goal

pub names_len-requires : goal.names_len-requires
names_len-requires c = omega (arith, path_bytes-short c.as_slice-names.result.now (subst (λ p. is_path p ≡ true) (sym c.as_slice-names.ensures.names) c.as_slice-names.ensures.path))

pub returns-clause-short : goal.returns-clause-short
returns-clause-short c = omega (arith, c.names_len.ensures, path_bytes-short c.as_slice-names.result.now (subst (λ p. is_path p ≡ true) (sym c.as_slice-names.ensures.names) c.as_slice-names.ensures.path))
