use Rattle.std.proofs.Common.{◌≡◌, vec_len}
use Rattle.std.specs.String.{string_bytes}
use Rattle.outside.proofs.Texts.{same_lists, same_texts}
use Rattle.outside.proofs.media.MediaNamesClone.clone.Goals as goal

pub returns : goal.returns
returns c =
    let stores = same_texts string_bytes _ _ c.in_ok-clone-2.ensures.cases.0 in
    let tiers = same_lists string_bytes (λ worker. worker.items) (λ worker copy. vec_len copy ≡ vec_len worker) c.args.self.now.tiers.items c.in_ok-clone-3.field-0.items c.in_ok-clone-3.ensures.cases.0 in
    let journal = c.in_ok-clone.ensures.cases in
    record { cases = λ i. record { journal = journal i; stores = stores i; tiers = tiers i } }
