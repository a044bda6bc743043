-- The first worker after its copy of a block was opened, or should have been.
use Rattle.std.proofs.Common.{◌≡◌, ℕ, suc, ◌<◌, not, List, length, filter, nat_eq, Option, Some, None, inl, inr, refl, sym, ap, ◌∙◌, subst, arith, ◌≤◌, ◌^◌}
use Rattle.std.specs.Prelude.{IsSome, IsSomeAnd, slice_get}
use Rattle.std.specs.List.{All}
use Rattle.std.proofs.lemmas.Bool.{cases_eq}
use Rattle.std.proofs.lemmas.List.Elements.{All-weaker, All-filter, All-append}
use Rattle.fs_model.specs.State.{Copied}
use Rattle.fs_model.specs.Updates.{used}
use Rattle.tier_book.specs.Rows.{room_numbered}
use Rattle.outside.specs.Contents.{Contents}
use Rattle.outside.specs.declared.objects.Objects as objects
use Rattle.cluster_core.specs.Tiers.{ChangesAt, Keeps, object_key}
use Rattle.cluster_core.specs.Nodes.{IsAsBefore, IsUsed}
use Rattle.cluster_core.specs.Knowledge.{Knowledge, Holder, Leaves}
use Rattle.cluster_core.specs.Stands.{ObjectFits, HasObject, CopyStands, TierTells, NodeStands, NodesStand}
use Rattle.cluster_core.specs.declared.node.Node.{Node}
use Rattle.cluster_core.proofs.NodeChanges.{both_there, RowChanges}
use Rattle.cluster_core.proofs.RoomChanges.{KeepsRooms, rooms_leave}

module _ {S R W : Type 0} (o : objects.Ghosts S R W) where
  -- ---- tiers that tell what they told

  -- what was told at a place is told there still
  told_still : (P : Option Contents → Type 0) (t j : ℕ) (old new : List S) → ChangesAt old new t (Keeps o) → IsSomeAnd (slice_get old j) (λ s. P (o.told s)) → IsSomeAnd (slice_get new j) (λ s. P (o.told s))
  told_still P t j old new change was = elim (cases_eq j t) as (λ c. IsSomeAnd (slice_get new j) (λ s. P (o.told s))) [
    | inl here ↦ subst (λ k. IsSomeAnd (slice_get new k) (λ s. P (o.told s))) (sym here) (same (slice_get old t) (slice_get new t) change.at (subst (λ k. IsSomeAnd (slice_get old k) (λ s. P (o.told s))) here was))
    | inr differs ↦ subst (λ x. IsSomeAnd x (λ s. P (o.told s))) (sym (change.others j differs)) was
  ]
    where
      same : (x y : Option S) → IsSomeAnd x (λ s. IsSomeAnd y (λ u. Keeps o s u)) → IsSomeAnd x (λ s. P (o.told s)) → IsSomeAnd y (λ s. P (o.told s))
      same None y k p = absurd k
      same (Some s) None k p = absurd k
      same (Some s) (Some u) k p = subst P (sym k.told) p

  -- each tier that is there was there, and told the same
  told_before : (P : S → Type 0) → ((s u : S) → o.told u ≡ o.told s → P s → P u) → (t : ℕ) (old new : List S) → ChangesAt old new t (Keeps o) → ((j : ℕ) (s : S) → slice_get old j ≡ Some s → P s) → (j : ℕ) (u : S) → slice_get new j ≡ Some u → P u
  told_before P passes t old new change all j u there = elim (cases_eq j t) as (λ c. P u) [
    | inl here ↦
        let both = both_there (slice_get old t) (slice_get new t) change.at in
        let is : Some both.1 ≡ Some u = sym both.3 ∙ ap (slice_get new) (sym here) ∙ there in
        subst P (some_is both.1 u is) (passes both.0 both.1 both.4.told (all t both.0 both.2))
    | inr differs ↦ all j u (sym (change.others j differs) ∙ there)
  ]
    where
      some_is : (a b : S) → Some a ≡ Some b → a ≡ b
      some_is a b e = cc

  module _ (K : Knowledge) (next bs v t : ℕ) (n m : Node S) (started : m.started ≡ n.started) (numbers : m.book.next ≡ n.book.next) (tiers : ChangesAt n.tiers.items m.tiers.items t (Keeps o)) where
    copy_told : (c : Copied) → CopyStands o K next bs v n c → CopyStands o K next bs v m c
    copy_told c s = record {
      keep = s.keep;
      number = subst (λ k. c.number < k) (sym numbers) s.number;
      owner = s.owner;
      file = s.file;
      object = subst (λ k. HasObject o m.tiers.items c.tier (object_key k c.number) (ObjectFits K bs c)) (sym started) (told_still (λ x. IsSomeAnd x (λ (q : Contents). IsSomeAnd (q (object_key n.started c.number)) (ObjectFits K bs c))) t c.tier n.tiers.items m.tiers.items tiers s.object);
    }

    tier_told : (s u : S) → o.told u ≡ o.told s → TierTells o s → TierTells o u
    tier_told s u same tells = subst (λ x. IsSomeAnd x (λ (q : Contents). (key : List (List ℕ)) → IsSome (q key) → length key ≡ 2)) (sym same) tells

    -- the worker stands with these rows
    pub told_stands : ((P : Copied → Type 0) → All P n.book.rows → All P m.book.rows) → m.book.rooms ≡ n.book.rooms → NodeStands o K next bs v n → NodeStands o K next bs v m
    told_stands rows rooms s = record {
      tells = told_before (TierTells o) tier_told t n.tiers.items m.tiers.items tiers s.tells;
      copies = rows (CopyStands o K next bs v m) (All-weaker _ _ copy_told n.book.rows s.copies);
      rooms = subst (λ k. All (λ r. r.number < k) m.book.rooms) (sym numbers) (subst (λ rs. All (λ r. r.number < n.book.next) rs) (sym rooms) s.rooms);
      few = subst (λ k. k ≤ 2 ^ 63) (sym numbers) s.few;
      fresh = λ k h. s.fresh k (subst (λ z. z ≤ k) numbers h);
    }

  -- ---- all workers

  -- where one worker changed, and stands
  pub nodes_changed : (G : Node S → Node S → Type 0) (K : Knowledge) (next bs i : ℕ) (old new : List (Node S)) → ChangesAt old new i G → ((n m : Node S) → G n m → NodeStands o K next bs (suc i) n → NodeStands o K next bs (suc i) m) → NodesStand o K next bs old → NodesStand o K next bs new
  nodes_changed G K next bs i old new change one all = λ j m there. elim (cases_eq j i) as (λ c. NodeStands o K next bs (suc j) m) [
    | inl here ↦
        let both = both_there (slice_get old i) (slice_get new i) change.at in
        let is : Some both.1 ≡ Some m = sym both.3 ∙ ap (slice_get new) (sym here) ∙ there in
        let same : both.1 ≡ m = cc in
        subst (λ k. NodeStands o K next bs (suc k) m) (sym here) (subst (NodeStands o K next bs (suc i)) same (one both.0 both.1 both.4 (all i both.0 both.2)))
    | inr differs ↦ all j m (sym (change.others j differs) ∙ there)
  ]

-- rows in another order
pub all_used : (P : Copied → Type 0) (number : ℕ) (rows : List Copied) → All P rows → All P (used number rows)
all_used P number rows all = All-append P (filter (λ c. not (nat_eq c.number number)) rows) (filter (λ c. nat_eq c.number number) rows) (All-filter (λ c. not (nat_eq c.number number)) P rows all) (All-filter (λ c. nat_eq c.number number) P rows all)

module _ {S : Type 0} where
  -- the row and the rest of a worker whose copy was used
  pub used_row : (number : ℕ) (n m : Node S) → IsUsed n m number → RowChanges (λ W. record W { copies = used number W.copies }) n m
  used_row number n m u = record { row = rw (u.running, u.started, u.litter, u.rooms, u.rows, u.next) refl; running = u.running; sizes = u.sizes }

  -- and of one that is as before
  pub same_row : (n m : Node S) → IsAsBefore n m → RowChanges (λ W. W) n m
  same_row n m b = record { row = rw (b.running, b.started, b.litter, b.book) refl; running = b.running; sizes = ap (λ k. k.sizes) b.book }

  pub used_rooms : (number : ℕ) (n m : Node S) → IsUsed n m number → KeepsRooms number n m
  used_rooms number n m u = record { started = u.started; rooms = λ k r other found. ap (room_numbered k) u.rooms ∙ found }

  pub same_rooms : (number : ℕ) (n m : Node S) → IsAsBefore n m → KeepsRooms number n m
  same_rooms number n m b = record { started = b.started; rooms = λ k r other found. ap (λ q. room_numbered k q.rooms) b.book ∙ found }

  -- what other labels rest on stays, where no reservation changed and this number belongs to no label
  pub leaves_rooms : (K : Knowledge) (a : Holder) (old new : List (Node S)) (next number : ℕ) → ChangesAt old new 0 (KeepsRooms number) → K.owner 1 number ≡ None → Leaves a K K old new next next
  leaves_rooms K a old new next number change free = record {
    later = omega arith;
    files = λ id few other. (refl, refl);
    owners = λ w n b h other. h;
    rooms = rooms_leave K a old new 1 number (λ e. absurd (cc)) change (λ b owned other. let e : None ≡ Some b = sym free ∙ owned in cc);
  }
