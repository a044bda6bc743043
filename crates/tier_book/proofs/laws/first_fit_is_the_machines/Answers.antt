use Rattle.std.proofs.Common.{◌≡◌, ℕ, ◌-◌, get_or, length, nat_le, sym, ap, ◌∙◌}
use Rattle.std.specs.List.{range_with_len, find}
use Rattle.fs_model.specs.Lookups as machine
use Rattle.tier_book.specs.Rows.{free_at, room_sum, row_sum}
use Rattle.tier_book.proofs.Changes.{find_agree}
use Rattle.tier_book.proofs.laws.first_fit_is_the_machines.Goals as goal

pub returns : goal.returns
returns c = λ S A w n B same.
    let free : (t : ℕ) → machine.free_bytes S A w t ≡ free_at B t = λ t. sym (λ j. get_or (same.sizes j) t 0 - room_sum t (same.rooms j) - row_sum t (same.rows j)) in
    find_agree (λ t. nat_le n (machine.free_bytes S A w t)) (λ t. nat_le n (free_at B t)) (λ t. ap (nat_le n) (free t)) (range_with_len 0 (machine.tiers_of S w))
    ∙ ap (λ sizes. find (λ t. nat_le n (free_at B t)) (range_with_len 0 (length sizes))) (sym same.sizes)
