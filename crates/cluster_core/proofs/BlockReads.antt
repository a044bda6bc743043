-- What the object of a block says of a reader of the rest of it, and of its faults.
use Rattle.std.proofs.Common.{◌≡◌, ℕ, ◌+◌, ◌-◌, ◌*◌, ◌/◌, ◌%◌, ◌<◌, ◌≤◌, ◌^◌, min, Bool, true, false, cond, List, length, take, drop, nat_eq, Option, Some, None, inl, inr, refl, ap, ◌∙◌, arith}
use Rattle.std.specs.Prelude.{IsSomeAnd, IsTrue}
use Rattle.std.proofs.lemmas.List.{drop-drop, drop-take, take-take, length-take, length-drop}
use Rattle.std.proofs.lemmas.Nat.{div-add-mod', mod_below}
use Rattle.std.proofs.lemmas.Bool.{and_parts, eqb-true, le-ltb}
use Rattle.fs_model.specs.Words.{block_of}
use Rattle.fs_model.specs.State.{Copied}
use Rattle.fs_model.specs.BytesOutcomes.{block_end}
use Rattle.tier_book.specs.Rows.{row_of, is_block}
use Rattle.outside.specs.Causes.{Rose}
use Rattle.outside.specs.Contents.{Contents, IsRange, is_short}
use Rattle.outside.specs.declared.objects.Objects as objects
use Rattle.cluster_core.specs.Tiers.{IsFaultOrShort}
use Rattle.cluster_core.specs.Seeks.{copy_at}
use Rattle.cluster_core.specs.declared.node.Node.{Node}

-- ---- numbers

-- what is left of a block, in both ways of saying it
pub left_is : (bs len at : ℕ) → 0 < bs → at < len → min (len - at) (bs - at % bs) ≡ block_end bs len (at / bs) - at
left_is bs len at some inside =
    let split : at / bs * bs + at % bs ≡ at = div-add-mod' at bs in
    let low : at % bs < bs = mod_below at bs some in
    omega (arith, split, low, inside)

-- the block has these bytes
pub ends_within : (bs at : ℕ) (all : List ℕ) → 0 < bs → at < length all → at % bs + min (length all - at) (bs - at % bs) ≤ length (block_of all (at / bs) bs)
ends_within bs at all some inside =
    let split : at / bs * bs + at % bs ≡ at = div-add-mod' at bs in
    let low : at % bs < bs = mod_below at bs some in
    let whole : length (block_of all (at / bs) bs) ≡ min bs (length all - at / bs * bs) = length-take bs (drop (at / bs * bs) all) ∙ ap (min bs) (length-drop (at / bs * bs) all) in
    omega (arith, split, low, inside, whole)

-- the rest of a block is the rest of the file, as far as the block goes
pub rest_of_block : (bs at n : ℕ) (all : List ℕ) → 0 < bs → n ≤ bs - at % bs → take n (drop (at % bs) (block_of all (at / bs) bs)) ≡ take n (drop at all)
rest_of_block bs at n all some few =
    let split : at / bs * bs + at % bs ≡ at = div-add-mod' at bs in
    let low : at % bs < bs = mod_below at bs some in
    let whole : bs ≡ at % bs + (bs - at % bs) = omega (arith, low) in
    ap (λ k. take n (drop (at % bs) (take k (drop (at / bs * bs) all)))) whole
    ∙ ap (take n) (drop-take (at % bs) (bs - at % bs) (drop (at / bs * bs) all))
    ∙ take-take n (bs - at % bs) (drop (at % bs) (drop (at / bs * bs) all)) few
    ∙ ap (take n) (drop-drop (at % bs) (at / bs * bs) all ∙ ap (λ k. drop k all) split)

-- a number of 32 bits
pub number_is : (k : ℕ) → k < 65536 → min k (2 ^ 32 - 1) ≡ k
number_is k few = omega (arith, few)

-- ---- the copy

-- the copy that was found is of that file and block, and the worker runs
pub copy_there : {S : Type 0} (f i : ℕ) (n : Node S) (c : Copied) → copy_at f i (Some n) ≡ Some c → (n.running ≡ true) × (row_of f i n.book.rows ≡ Some c)
copy_there f i n c found = by_running n.running found
  where
    by_running : (b : Bool) → cond b (row_of f i n.book.rows) None ≡ Some c → (b ≡ true) × (row_of f i n.book.rows ≡ Some c)
    by_running true h = (refl, h)
    by_running false h = absurd (cc)

pub block_is : (f i : ℕ) (c : Copied) → is_block f i c ≡ true → (c.file ≡ f) × (c.block ≡ i)
block_is f i c h =
    let both = and_parts (nat_eq c.file f) (nat_eq c.block i) h in
    (eqb-true c.file f both.0, eqb-true c.block i both.1)

-- ---- the object

module _ {S R W : Type 0} (o : objects.Ghosts S R W) (key : List (List ℕ)) (P : List ℕ → Type 0) where
  -- the object at the key has P
  abbrev pub Object : Option Contents → Type 0
  Object told = IsSomeAnd told (λ (q : Contents). IsSomeAnd (q key) P)

  range_in : (at len : ℕ) (left : Option (List ℕ)) (told : Option Contents) → IsRange told key at len left → Object told → (bytes : List ℕ) × P bytes × (left ≡ Some (take len (drop at bytes)))
  range_in at len left None range p = absurd p
  range_in at len left (Some q) range p = by_bytes (q key) range p
    where
      by_bytes : (z : Option (List ℕ)) → IsSomeAnd z (λ bytes. (at + len ≤ length bytes) × (left ≡ Some (take len (drop at bytes)))) → IsSomeAnd z P → (bytes : List ℕ) × P bytes × (left ≡ Some (take len (drop at bytes)))
      by_bytes None h k = absurd k
      by_bytes (Some bytes) h k = (bytes, k, h.1)

  -- a range of it has its bytes
  pub range_left : (at len : ℕ) (left : Option (List ℕ)) (x : Option S) → IsSomeAnd x (λ s. IsRange (o.told s) key at len left) → IsSomeAnd x (λ s. Object (o.told s)) → (bytes : List ℕ) × P bytes × (left ≡ Some (take len (drop at bytes)))
  range_left at len left None range p = absurd p
  range_left at len left (Some s) range p = range_in at len left (o.told s) range p

  long_in : (end : ℕ) → ((bytes : List ℕ) → P bytes → end ≤ length bytes) → (told : Option Contents) → Object told → is_short told key end ≡ false
  long_in end long None p = absurd p
  long_in end long (Some q) p = by_bytes (q key) p
    where
      by_bytes : (z : Option (List ℕ)) → IsSomeAnd z P → Rattle.outside.specs.Contents.ends_before end z ≡ false
      by_bytes None k = absurd k
      by_bytes (Some bytes) k = le-ltb (length bytes) end (long bytes k)

  -- where it is long enough, the store failed
  pub then_rose : (end : ℕ) → ((bytes : List ℕ) → P bytes → end ≤ length bytes) → (x y : Option S) → IsSomeAnd x (λ s. Object (o.told s)) → IsSomeAnd x (λ s. IsSomeAnd y (λ u. IsFaultOrShort o key end s u)) → IsSomeAnd x (λ s. IsSomeAnd y (λ u. Rose (o.faults s) (o.faults u)))
  then_rose end long None y p h = absurd p
  then_rose end long (Some s) None p h = absurd h
  then_rose end long (Some s) (Some u) p h = elim h as (λ k. Rose (o.faults s) (o.faults u)) [
    | inl more ↦ more
    | inr missed ↦ absurd (let long_enough = long_in end long (o.told s) p in not_both (is_short (o.told s) key end) long_enough missed.1)
  ]
    where
      not_both : (b : Bool) → b ≡ false → IsTrue b → ⊥
      not_both b no_ yes_ = cc
