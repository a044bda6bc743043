-- The laws of equality and order of keys.
use Rattle.std.specs.Prelude.{ℕ, ◌≡◌, List, Some, refl}
use Rattle.std.specs.Ordering.{nat_cmp, eq_by_cmp}
use Rattle.std.specs.Cmp.{IsEquivalence, IsTotalOrder, IsPartialOrder, partial_order_from_agreeing_total}
use Rattle.std.specs.Cmp.Lexicographic.{slice_cmp, nat_list_eq_equiv, nat_list_cmp_total, lists_equiv, lists_total, lists_ties, texts_ties}
use Rattle.outside.specs.Keys.{key_eq}

pub key_equiv : IsEquivalence key_eq
key_equiv = lists_equiv nat_list_eq_equiv

pub key_total : IsTotalOrder (slice_cmp (slice_cmp nat_cmp))
key_total = lists_total nat_list_cmp_total

pub key_ties : (k l : List (List ℕ)) → key_eq k l ≡ eq_by_cmp (slice_cmp (slice_cmp nat_cmp)) k l
key_ties = lists_ties (slice_cmp nat_cmp) texts_ties

pub key_po : IsPartialOrder key_eq (λ k l. Some (slice_cmp (slice_cmp nat_cmp) k l))
key_po = partial_order_from_agreeing_total (slice_cmp (slice_cmp nat_cmp)) key_total (λ k l. refl) key_ties
