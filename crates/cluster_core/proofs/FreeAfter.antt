-- A commit leaves at least as many bytes free.
use Rattle.std.proofs.Common.{◌≡◌, ℕ, ◌+◌, ◌≤◌, true, false, not, ◌&&◌, cond, List, [], ◌∷◌, ◌++◌, get_or, nat_eq, nat_le, Option, Some, None, is_some, option_map, unwrap_or, find, refl, sym, ap, ◌∙◌, subst, arith}
use Rattle.std.specs.Prelude.{IsSomeAnd}
use Rattle.std.specs.List.{range_with_len}
use Rattle.std.proofs.lemmas.List.Sums.{sum_by-cons, sum_by_push}
use Rattle.std.specs.Prelude.{length}
use Rattle.fs_model.specs.State.{Copied, RoomRow, Worker}
use Rattle.fs_model.specs.Updates.{room_tier}
use Rattle.outside.specs.Keys.{KeyNames}
use Rattle.outside.specs.declared.objects.Objects as objects
use Rattle.outside.specs.declared.objects.ObjectWrite as writes
use Rattle.tier_book.specs.Rows.{fitting, free_at, room_numbered, rooms_without, room_sum, row_sum, row_of}
use Rattle.cluster_core.specs.Nodes.{commit_as, node_row}
use Rattle.cluster_core.specs.Writers.{Commits}
use Rattle.cluster_core.specs.declared.node.Node.{Node}
use Rattle.cluster_core.specs.declared.node.Finished.{Finished}

-- the bytes of a reservation at a tier
abbrev at_tier : ℕ → RoomRow → ℕ
at_tier t r = cond (nat_eq r.tier t) r.bytes 0

-- without more reservations no more is reserved
pub fewer : (t n : ℕ) (rooms : List RoomRow) → room_sum t (rooms_without n rooms) ≤ room_sum t rooms
fewer t n [] = omega arith
fewer t n (r ∷ rooms) = elim (nat_eq r.number n) as (λ b. room_sum t (cond (not b) (r ∷ rooms_without n rooms) (rooms_without n rooms)) ≤ room_sum t (r ∷ rooms)) [
  | true ↦ let s = sum_by-cons (at_tier t) r rooms in let k = fewer t n rooms in omega (arith, s, k)
  | false ↦ let s = sum_by-cons (at_tier t) r rooms in let u = sum_by-cons (at_tier t) r (rooms_without n rooms) in let k = fewer t n rooms in omega (arith, s, u, k)
]

-- without a reservation that is there its bytes aren't
freed : (t n : ℕ) (q : RoomRow) (rooms : List RoomRow) → room_numbered n rooms ≡ Some q → room_sum t (rooms_without n rooms) + at_tier t q ≤ room_sum t rooms
freed t n q [] found = absurd (cc)
freed t n q (r ∷ rooms) found = elim (nat_eq r.number n) as (λ b. cond b (Some r) (room_numbered n rooms) ≡ Some q → room_sum t (cond (not b) (r ∷ rooms_without n rooms) (rooms_without n rooms)) + at_tier t q ≤ room_sum t (r ∷ rooms)) [
  | true ↦ λ e. let same : r ≡ q = ap (λ o. unwrap_or o r) e in let s = sum_by-cons (at_tier t) r rooms in let k = fewer t n rooms in subst (λ p. room_sum t (rooms_without n rooms) + at_tier t p ≤ room_sum t (r ∷ rooms)) same (omega (arith, s, k))
  | false ↦ λ e. let s = sum_by-cons (at_tier t) r rooms in let u = sum_by-cons (at_tier t) r (rooms_without n rooms) in let k = freed t n q rooms e in omega (arith, s, u, k)
] found

-- a copy at the reservation's tier, no longer than it
no_longer : (t k len bytes : ℕ) → len ≤ bytes → cond (nat_eq k t && true) len 0 ≤ cond (nat_eq k t) bytes 0
no_longer t k len bytes fits = elim (nat_eq k t) as (λ b. cond (b && true) len 0 ≤ cond b bytes 0) [ true ↦ fits | false ↦ omega arith ]

-- where more is free a tier is found still
found_more : (f g : ℕ → ℕ) (n : ℕ) → ((t : ℕ) → f t ≤ g t) → (ts : List ℕ) → find (λ t. nat_le n (g t)) ts ≡ None → find (λ t. nat_le n (f t)) ts ≡ None
found_more f g n more [] none = refl
found_more f g n more (t ∷ ts) none =
    elim (nat_le n (f t)) as (λ b. nat_le n (f t) ≡ b → cond b (Some t) (find (λ t. nat_le n (f t)) ts) ≡ None) [
      | true ↦ λ h. let there : nat_le n (g t) ≡ true = enough n (f t) (g t) h (more t) in absurd (let k : ◌≡◌ {A = Option ℕ} (Some t) None = ap (λ b. cond b (Some t) (find (λ t. nat_le n (g t)) ts)) (sym there) ∙ none in cc)
      | false ↦ λ h. found_more f g n more ts (elim (nat_le n (g t)) as (λ b. cond b (Some t) (find (λ t. nat_le n (g t)) ts) ≡ None → find (λ t. nat_le n (g t)) ts ≡ None) [ true ↦ λ k. absurd (cc) | false ↦ λ k. k ] none)
    ] refl
  where
    enough : (n a b : ℕ) → nat_le n a ≡ true → a ≤ b → nat_le n b ≡ true
    enough n a b h less = grind (arith, h, less)

module _ {S R W : Type 0} (o : objects.Ghosts S R W) (w : writes.Ghosts W) (n : ℕ) (key : KeyNames) (pen : W) (b : Finished) (old new : Node S) (q : RoomRow) (found : room_numbered n old.book.rooms ≡ Some q) (fits : b.len ≤ q.bytes) (c : Commits o w n key pen b old new) where
  row : node_row new ≡ commit_as b.keep b.pin n b.file b.block b.len (node_row old)
  row = c.row (subst (λ x. IsSomeAnd x (λ r. b.len ≤ r.bytes)) (sym found) fits)

  tier_is : room_tier (node_row old) n ≡ q.tier
  tier_is = ap (λ x. unwrap_or (option_map (λ (r : RoomRow). r.tier) x) 0) found

  pub number_committed : new.book.next ≡ old.book.next
  number_committed = ap (λ (k : Worker). k.next) row

  rows_less : (t : ℕ) (x : Option Copied) → row_of b.file b.block old.book.rows ≡ x → row_sum t new.book.rows ≤ row_sum t old.book.rows + at_tier t q
  rows_less t x there =
      let rows : new.book.rows ≡ cond (is_some x) old.book.rows (old.book.rows ++ record { number = n; tier = room_tier (node_row old) n; file = b.file; block = b.block; len = b.len; keep = b.keep; pin = b.pin; free = false } ∷ []) = ap (λ (k : Worker). k.copies) row ∙ ap (λ y. cond (is_some y) old.book.rows (old.book.rows ++ record { number = n; tier = room_tier (node_row old) n; file = b.file; block = b.block; len = b.len; keep = b.keep; pin = b.pin; free = false } ∷ [])) there in
      by_found x rows
    where
      by_found : (x : Option Copied) → new.book.rows ≡ cond (is_some x) old.book.rows (old.book.rows ++ record { number = n; tier = room_tier (node_row old) n; file = b.file; block = b.block; len = b.len; keep = b.keep; pin = b.pin; free = false } ∷ []) → row_sum t new.book.rows ≤ row_sum t old.book.rows + at_tier t q
      by_found (Some d) rows = let k : row_sum t new.book.rows ≡ row_sum t old.book.rows = ap (row_sum t) rows in omega (arith, k)
      by_found None rows =
          let m : Copied = record { number = n; tier = room_tier (node_row old) n; file = b.file; block = b.block; len = b.len; keep = b.keep; pin = b.pin; free = false } in
          let k : row_sum t new.book.rows ≡ row_sum t (old.book.rows ++ m ∷ []) = ap (row_sum t) rows in
          let s = sum_by_push (λ (d : Copied). cond (nat_eq d.tier t && true) d.len 0) old.book.rows m in
          let less : cond (nat_eq (room_tier (node_row old) n) t && true) b.len 0 ≤ at_tier t q = subst (λ p. cond (nat_eq p t && true) b.len 0 ≤ at_tier t q) (sym tier_is) (no_longer t q.tier b.len q.bytes fits) in
          omega (arith, k, s, less)

  pub free_more : (t : ℕ) → free_at old.book t ≤ free_at new.book t
  free_more t =
      let rooms : room_sum t new.book.rooms ≡ room_sum t (rooms_without n old.book.rooms) = ap (λ (k : Worker). room_sum t k.rooms) row in
      let sizes : get_or new.book.sizes t 0 ≡ get_or old.book.sizes t 0 = ap (λ zs. get_or zs t 0) c.sizes in
      let one = freed t n q old.book.rooms found in
      let two = rows_less t (row_of b.file b.block old.book.rows) refl in
      omega (arith, rooms, sizes, one, two)

  -- where no tier has room after it, none had before
  pub none_before : (len : ℕ) → fitting new.book len ≡ None → fitting old.book len ≡ None
  none_before len none = found_more (free_at old.book) (free_at new.book) len free_more (range_with_len 0 (length old.book.sizes)) (ap (λ zs. find (λ t. nat_le len (free_at new.book t)) (range_with_len 0 (length zs))) (sym c.sizes) ∙ none)
