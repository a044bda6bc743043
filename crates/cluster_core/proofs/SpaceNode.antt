-- A worker stands still with a reservation more, and where it got none.
use Rattle.std.proofs.Common.{◌≡◌, ℕ, suc, ◌+◌, ◌<◌, ◌≤◌, ◌^◌, min, true, false, not, ◌&&◌, cond, List, [], ◌∷◌, ◌++◌, filter, nat_eq, Option, Some, None, inl, inr, refl, sym, ap, ◌∙◌, subst, arith}
use Rattle.std.specs.Prelude.{IsSome, IsSomeAnd, slice_get, length, ◌-◌}
use Rattle.std.specs.List.{All, list_any}
use Rattle.std.proofs.lemmas.Bool.{cases_eq, eqb-true}
use Rattle.std.proofs.lemmas.Option.{same_Some}
use Rattle.std.proofs.lemmas.List.{append-nil}
use Rattle.std.proofs.lemmas.List.Elements.{All-weaker, All-push}
use Rattle.fs_model.specs.State.{Copied}
use Rattle.fs_model.specs.Updates.{with_room}
use Rattle.outside.specs.declared.objects.Objects as objects
use Rattle.tier_book.specs.Rows.{fitting, room_numbered}
use Rattle.cluster_core.specs.Tiers.{ChangesAt, Keeps, object_key}
use Rattle.cluster_core.specs.Nodes.{HasSpace}
use Rattle.cluster_core.specs.Opened.{KeepsNode}
use Rattle.cluster_core.specs.Knowledge.{Knowledge, Holder, with_owner}
use Rattle.cluster_core.specs.Stands.{CopyStands, NodeStands, NodesStand, HasObject, ObjectFits, TierTells}
use Rattle.cluster_core.specs.declared.node.Node.{Node}
use Rattle.cluster_core.proofs.NodeChanges.{RowChanges, both_there}
use Rattle.cluster_core.proofs.RoomChanges.{KeepsRooms, room_behind}
use Rattle.cluster_core.proofs.Objects.{BothOr, each_both}
use Rattle.outside.specs.Keys.{KeyNames}
use Rattle.outside.specs.Contents.{Contents}

-- not both numbers are these
pub not_both : (v u n m : ℕ) → (u ≡ v → m ≡ n → ⊥) → (nat_eq v u && nat_eq n m) ≡ false
not_both v u n m never = elim (nat_eq v u) as (λ b. nat_eq v u ≡ b → (b && nat_eq n m) ≡ false) [
  | false ↦ λ h. refl
  | true ↦ λ first. elim (nat_eq n m) as (λ b. nat_eq n m ≡ b → b ≡ false) [
    | false ↦ λ h. refl
    | true ↦ λ second. absurd (never (sym (eqb-true v u first)) (sym (eqb-true n m second)))
  ] refl
] refl

-- all of a list are kept by a test that all pass
pub filter_all : {X : Type 0} (xs : List X) → filter (λ (x : X). not (list_any (λ (y : ℕ). true) [])) xs ≡ xs
filter_all [] = refl
filter_all (x ∷ xs) = ap (λ ys. x ∷ ys) (filter_all xs)

module _ {S R W : Type 0} (o : objects.Ghosts S R W) where
  -- both tiers tell the same
  abbrev pub SameTold : S → S → Type 0
  SameTold s u = o.told u ≡ o.told s

  pub told_same : (old new : List S) (t : ℕ) → ChangesAt old new t (Keeps o) → (j : ℕ) → BothOr SameTold (slice_get old j) (slice_get new j)
  told_same old new t change = each_both SameTold (Keeps o) old new t change (λ s u c. c.told) (λ s. refl)

  object_same : (Q : Contents → Type 0) (x y : Option S) → BothOr SameTold x y → IsSomeAnd x (λ s. IsSomeAnd (o.told s) Q) → IsSomeAnd y (λ s. IsSomeAnd (o.told s) Q)
  object_same Q None y same h = absurd h
  object_same Q (Some s) None same h = absurd same
  object_same Q (Some s) (Some u) same h = subst (λ x. IsSomeAnd x Q) (sym same) h

  tells_same : (x y : Option S) → BothOr SameTold x y → ((s : S) → x ≡ Some s → TierTells o s) → (u : S) → y ≡ Some u → TierTells o u
  tells_same None None same tells u is = absurd (cc)
  tells_same None (Some v) same tells u is = absurd same
  tells_same (Some s) None same tells u is = absurd (cc)
  tells_same (Some s) (Some v) same tells u is = subst (TierTells o) (same_Some v u is) (subst (λ x. IsSomeAnd x (λ m. (k : KeyNames) → IsSome (m k) → length k ≡ 2)) (sym same) (tells s refl))

  -- ---- a reservation more

  module _ (K : Knowledge) (next bs v n : ℕ) (a : Holder) where
    weaker : {X : Type 0} (P Q : X → Type 0) (x : Option X) → ((y : X) → P y → Q y) → IsSomeAnd x P → IsSomeAnd x Q
    weaker P Q None f h = h
    weaker P Q (Some y) f h = f y h

    object_owned : (node : Node S) (c : Copied) → HasObject o node.tiers.items c.tier (object_key node.started c.number) (ObjectFits K bs c) → HasObject o node.tiers.items c.tier (object_key node.started c.number) (ObjectFits (with_owner v n (Some a) K) bs c)
    object_owned node c h = weaker (λ s. IsSomeAnd (o.told s) (λ m. IsSomeAnd (m (object_key node.started c.number)) (ObjectFits K bs c))) (λ s. IsSomeAnd (o.told s) (λ m. IsSomeAnd (m (object_key node.started c.number)) (ObjectFits (with_owner v n (Some a) K) bs c))) (slice_get node.tiers.items c.tier) (λ s. weaker (λ m. IsSomeAnd (m (object_key node.started c.number)) (ObjectFits K bs c)) (λ m. IsSomeAnd (m (object_key node.started c.number)) (ObjectFits (with_owner v n (Some a) K) bs c)) (o.told s) (λ m. weaker (ObjectFits K bs c) (ObjectFits (with_owner v n (Some a) K) bs c) (m (object_key node.started c.number)) (λ bytes f. record { len = f.len; block = f.block; whole = f.whole }))) h

    -- a copy whose number isn't the reservation's
    copy_owned : (u : ℕ) (node : Node S) (c : Copied) → (u ≡ v → c.number ≡ n → ⊥) → CopyStands o K next bs u node c → CopyStands o (with_owner v n (Some a) K) next bs u node c
    copy_owned u node c never s = record { keep = s.keep; number = s.number; owner = ap (λ b. cond b (Some a) (K.owner u c.number)) (not_both v u n c.number never) ∙ s.owner; file = s.file; object = object_owned node c s.object }

    -- another worker
    pub node_owned : (u : ℕ) (node : Node S) → (u ≡ v → ⊥) → NodeStands o K next bs u node → NodeStands o (with_owner v n (Some a) K) next bs u node
    node_owned u node never s = record { tells = s.tells; copies = All-weaker (CopyStands o K next bs u node) (CopyStands o (with_owner v n (Some a) K) next bs u node) (λ c d. copy_owned u node c (λ e h. never e) d) node.book.rows s.copies; rooms = s.rooms; few = s.few; fresh = λ k h. ap (λ b. cond b (Some a) (K.owner u k)) (not_both v u n k (λ e d. never e)) ∙ s.fresh k h }

  -- a copy at the worker whose tiers tell the same, with a next number no less
  copy_still : (K : Knowledge) (next bs v : ℕ) (old new : Node S) → new.started ≡ old.started → old.book.next ≤ new.book.next → ((t : ℕ) → BothOr SameTold (slice_get old.tiers.items t) (slice_get new.tiers.items t)) → (c : Copied) → CopyStands o K next bs v old c → CopyStands o K next bs v new c
  copy_still K next bs v old new started more same c s = record {
    keep = s.keep;
    number = omega (arith, s.number, more);
    owner = s.owner;
    file = s.file;
    object = subst (λ k. HasObject o new.tiers.items c.tier (object_key k c.number) (ObjectFits K bs c)) (sym started) (object_same (λ m. IsSomeAnd (m (object_key old.started c.number)) (ObjectFits K bs c)) (slice_get old.tiers.items c.tier) (slice_get new.tiers.items c.tier) (same c.tier) s.object);
  }

  -- where it got none
  pub node_kept : (K : Knowledge) (next bs v len : ℕ) (old new : Node S) → KeepsNode o len old new → NodeStands o K next bs v old → NodeStands o K next bs v new
  node_kept K next bs v len old new c s = of_fit (fitting old.book len) c.1
    where
      of_fit : (x : Option ℕ) → IsSomeAnd x (λ t. ChangesAt old.tiers.items new.tiers.items t (Keeps o)) → NodeStands o K next bs v new
      of_fit None h = absurd h
      of_fit (Some t) h =
          let same = told_same old.tiers.items new.tiers.items t h in
          let number : new.book.next ≡ old.book.next = ap (λ k. k.next) c.0.book in
          record {
            tells = λ j u there. tells_same (slice_get old.tiers.items j) (slice_get new.tiers.items j) (same j) (s.tells j) u there;
            copies = subst (All (CopyStands o K next bs v new)) (ap (λ k. k.rows) (sym c.0.book)) (All-weaker (CopyStands o K next bs v old) (CopyStands o K next bs v new) (copy_still K next bs v old new c.0.started (omega (arith, number)) same) old.book.rows s.copies);
            rooms = subst (λ k. All (λ r. r.number < k.next) k.rooms) (sym c.0.book) s.rooms;
            few = subst (λ k. k ≤ 2 ^ 63) (sym number) s.few;
            fresh = λ k h. s.fresh k (subst (λ z. z ≤ k) number h);
          }

  pub row_kept : (len : ℕ) (old new : Node S) → KeepsNode o len old new → RowChanges (λ k. k) old new
  row_kept len old new c = record {
    row = λ j. record { running = c.0.running j; start = c.0.started j; next = (c.0.book j).next; copies = (c.0.book j).rows; rooms = (c.0.book j).rooms; litter = c.0.litter j };
    running = c.0.running;
    sizes = ap (λ k. k.sizes) c.0.book;
  }

  pub rooms_kept : (n len : ℕ) (old new : Node S) → KeepsNode o len old new → KeepsRooms n old new
  rooms_kept n len old new c = record { started = c.0.started; rooms = λ m r differs there. ap (λ k. room_numbered m k.rooms) c.0.book ∙ there }

  -- where it got one, at this tier
  module _ (n len t : ℕ) (old new : Node S) (c : HasSpace old new len n t) (tiers : ChangesAt old.tiers.items new.tiers.items t (Keeps o)) (few : old.book.next < 2 ^ 63) where
    next_is : new.book.next ≡ old.book.next + 1
    next_is = let k : new.book.next ≡ min (old.book.next + 1) (2 ^ 64 - 1) = c.next in omega (arith, k, few)

    pub row_spaced : RowChanges (with_room t [] len) old new
    row_spaced = record {
      row = λ j. record { running = c.running j; start = c.started j; next = next_is j; copies = (c.rows ∙ sym (filter_all old.book.rows)) j; rooms = (c.rooms ∙ ap (λ k. old.book.rooms ++ record { number = k; tier = t; bytes = len } ∷ []) c.number) j; litter = (c.litter ∙ sym (append-nil old.litter.items)) j };
      running = c.running;
      sizes = c.sizes;
    }

    pub rooms_spaced : KeepsRooms n old new
    rooms_spaced = record { started = c.started; rooms = λ m r differs there. ap (room_numbered m) c.rooms ∙ room_behind m r old.book.rooms (record { number = n; tier = t; bytes = len } ∷ []) there }

    pub node_spaced : (K : Knowledge) (next bs v : ℕ) (a : Holder) → NodeStands o K next bs v old → NodeStands o (with_owner v n (Some a) K) next bs v new
    node_spaced K next bs v a s =
        let N = with_owner v n (Some a) K in
        let same = told_same old.tiers.items new.tiers.items t tiers in
        record {
          tells = λ j u there. tells_same (slice_get old.tiers.items j) (slice_get new.tiers.items j) (same j) (s.tells j) u there;
          copies = subst (All (CopyStands o N next bs v new)) (sym c.rows) (All-weaker (CopyStands o K next bs v old) (CopyStands o N next bs v new) (λ d h. copy_still N next bs v old new c.started (omega (arith, next_is)) same d (copy_owned K next bs v n a v old d (λ e is. let k : d.number < old.book.next = h.number in omega (arith, k, is, c.number)) h)) old.book.rows s.copies);
          rooms = subst (All (λ r. r.number < new.book.next)) (sym c.rooms) (All-push (λ r. r.number < new.book.next) old.book.rooms (record { number = n; tier = t; bytes = len }) (All-weaker (λ r. r.number < old.book.next) (λ r. r.number < new.book.next) (λ r h. omega (arith, h, next_is)) old.book.rooms s.rooms) (omega (arith, next_is, c.number)));
          few = omega (arith, next_is, few);
          fresh = λ k h. ap (λ b. cond b (Some a) (K.owner v k)) (not_both v v n k (λ e d. omega (arith, h, next_is, c.number, d))) ∙ s.fresh k (omega (arith, h, next_is));
        }

  -- all workers, where one got a reservation
  pub nodes_spaced : (K : Knowledge) (next bs n i : ℕ) (a : Holder) (old new : List (Node S)) (G : Node S → Node S → Type 0) → ChangesAt old new i G → ((x y : Node S) → NodeStands o K next bs (suc i) x → G x y → NodeStands o (with_owner (suc i) n (Some a) K) next bs (suc i) y) → NodesStand o K next bs old → NodesStand o (with_owner (suc i) n (Some a) K) next bs new
  nodes_spaced K next bs n i a old new G change stands all j node there = elim (cases_eq j i) [
    | inl here ↦
        let found = both_there (slice_get old i) (slice_get new i) change.at in
        let same : node ≡ found.1 = same_Some node found.1 (sym there ∙ ap (slice_get new) here ∙ found.3) in
        subst (λ k. NodeStands o (with_owner (suc i) n (Some a) K) next bs (suc k) node) (sym here) (subst (NodeStands o (with_owner (suc i) n (Some a) K) next bs (suc i)) (sym same) (stands found.0 found.1 (all i found.0 found.2) found.4))
    | inr away ↦ node_owned K next bs (suc i) n a (suc j) node (λ e. away (omega (arith, e))) (all j node (sym (change.others j away) ∙ there))
  ]
