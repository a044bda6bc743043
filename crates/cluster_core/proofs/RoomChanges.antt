-- Reservations of other labels after an event at a worker.
use Rattle.std.proofs.Common.{◌≡◌, ℕ, zero, suc, pred, true, false, not, cond, List, [], ◌∷◌, ◌++◌, nat_eq, Option, Some, None, inl, inr, refl, sym, ap, ◌∙◌, subst, arith}
use Rattle.std.specs.Prelude.{IsSomeAnd, slice_get}
use Rattle.std.proofs.lemmas.Bool.{cases_eq, eqb-true}
use Rattle.fs_model.specs.State.{RoomRow}
use Rattle.fs_model.specs.Lookups.{at_number}
use Rattle.tier_book.specs.Rows.{room_numbered, rooms_without}
use Rattle.cluster_core.specs.declared.node.Node.{Node}
use Rattle.cluster_core.specs.Tiers.{ChangesAt}
use Rattle.cluster_core.specs.Knowledge.{Knowledge, Holder, HasRoomOf}

-- ---- searches

-- without other numbers the search finds the same
pub other_room : (n m : ℕ) (rooms : List RoomRow) → (m ≡ n → ⊥) → room_numbered m (rooms_without n rooms) ≡ room_numbered m rooms
other_room n m [] other = refl
other_room n m (r ∷ rooms) other =
    elim (nat_eq r.number n) as (λ b. nat_eq r.number n ≡ b → room_numbered m (cond (not b) (r ∷ rooms_without n rooms) (rooms_without n rooms)) ≡ cond (nat_eq r.number m) (Some r) (room_numbered m rooms)) [
      | true ↦ λ is. let differs : nat_eq r.number m ≡ false = not_that r.number (eqb-true r.number n is) in other_room n m rooms other ∙ ap (λ b. cond b (Some r) (room_numbered m rooms)) (sym differs)
      | false ↦ λ isnt. ap (cond (nat_eq r.number m) (Some r)) (other_room n m rooms other)
    ] refl
  where
    not_that : (k : ℕ) → k ≡ n → nat_eq k m ≡ false
    not_that k same = elim (nat_eq k m) as (λ b. nat_eq k m ≡ b → b ≡ false) [ true ↦ λ is. absurd (other (sym (eqb-true k m is) ∙ same)) | false ↦ λ isnt. refl ] refl

-- behind others it finds what it found
pub room_behind : (m : ℕ) (r : RoomRow) (rooms more : List RoomRow) → room_numbered m rooms ≡ Some r → room_numbered m (rooms ++ more) ≡ Some r
room_behind m r [] more found = absurd (cc)
room_behind m r (q ∷ rooms) more found = elim (nat_eq q.number m) as (λ b. cond b (Some q) (room_numbered m rooms) ≡ Some r → cond b (Some q) (room_numbered m (rooms ++ more)) ≡ Some r) [
  | true ↦ λ e. e
  | false ↦ λ e. room_behind m r rooms more e
] found

-- ---- workers

-- the worker's starts stay, and so does each reservation but one
pub record KeepsRooms {S : Type 0} (n : ℕ) (old new : Node S) : Type 0 where
  pub started : new.started ≡ old.started
  pub rooms : (m : ℕ) (r : RoomRow) → (m ≡ n → ⊥) → room_numbered m old.book.rooms ≡ Some r → room_numbered m new.book.rooms ≡ Some r

-- the number of the worker at this place
number_of : (w v : ℕ) → (w ≡ 0 → ⊥) → v ≡ pred w → suc v ≡ w
number_of zero v some here = absurd (some refl)
number_of (suc w) v some here = ap suc here

-- P of the reservation that is there
found_still : (m : ℕ) (P : RoomRow → Type 0) (new : Option RoomRow) (old : Option RoomRow) → ((r : RoomRow) → old ≡ Some r → new ≡ Some r) → IsSomeAnd old P → IsSomeAnd new P
found_still m P new None keeps p = absurd p
found_still m P new (Some r) keeps p = subst (λ o. IsSomeAnd o P) (sym (keeps r refl)) p

-- no number behind another is 0
pub not_zero : (v : ℕ) → nat_eq (suc v) 0 ≡ false
not_zero v = grind arith

-- the worker behind another number
pub at_suc : {X : Type 0} (xs : List X) (v : ℕ) → at_number xs (suc v) ≡ slice_get xs v
at_suc xs v = ap (λ b. cond b None (slice_get xs v)) (not_zero v)

module _ {S : Type 0} where
  kept_there : (n m started bytes : ℕ) (x y : Option (Node S)) → (m ≡ n → ⊥) → IsSomeAnd x (λ s. IsSomeAnd y (λ u. KeepsRooms n s u))
      → IsSomeAnd x (λ node. node.started ≡ started → IsSomeAnd (room_numbered m node.book.rooms) (λ r. r.bytes ≡ bytes)) → IsSomeAnd y (λ node. node.started ≡ started → IsSomeAnd (room_numbered m node.book.rooms) (λ r. r.bytes ≡ bytes))
  kept_there n m started bytes None y other k h = absurd k
  kept_there n m started bytes (Some s) None other k h = absurd k
  kept_there n m started bytes (Some s) (Some u) other k h = λ begun. found_still m (λ r. r.bytes ≡ bytes) (room_numbered m u.book.rooms) (room_numbered m s.book.rooms) (λ r found. k.rooms m r other found) (h (sym k.started ∙ begun))

  -- at the worker where one reservation changed, those of other holders stay; at others all do
  pub rooms_leave : (K : Knowledge) (a : Holder) (old new : List (Node S)) (w n : ℕ) → (w ≡ 0 → ⊥) → ChangesAt old new (pred w) (KeepsRooms n) → ((b : Holder) → K.owner w n ≡ Some b → (b ≡ a → ⊥) → ⊥)
      → (v started m bytes : ℕ) (b : Holder) → K.owner v m ≡ Some b → (b ≡ a → ⊥) → HasRoomOf old v started m bytes → HasRoomOf new v started m bytes
  rooms_leave K a old new w n some change mine zero started m bytes b owned other there = absurd there
  rooms_leave K a old new w n some change mine (suc v) started m bytes b owned other there =
      let P : Node S → Type 0 = λ node. node.started ≡ started → IsSomeAnd (room_numbered m node.book.rooms) (λ r. r.bytes ≡ bytes) in
      let was : IsSomeAnd (slice_get old v) P = subst (λ o. IsSomeAnd o P) (at_suc old v) there in
      subst (λ o. IsSomeAnd o P) (sym (at_suc new v)) (elim (cases_eq v (pred w)) [
        | inl here ↦
            let same : suc v ≡ w = number_of w v some here in
            let differs : m ≡ n → ⊥ = λ e. mine b (ap (λ k. K.owner k n) (sym same) ∙ ap (K.owner (suc v)) (sym e) ∙ owned) other in
            let at = subst (λ j. IsSomeAnd (slice_get old j) (λ s. IsSomeAnd (slice_get new j) (λ u. KeepsRooms n s u))) (sym here) change.at in
            kept_there n m started bytes (slice_get old v) (slice_get new v) differs at was
        | inr away ↦ subst (λ o. IsSomeAnd o P) (sym (change.others v away)) was
      ])
