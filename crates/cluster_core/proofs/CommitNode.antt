-- A worker stands still after a commit, and after one that failed.
use Rattle.std.proofs.Common.{◌≡◌, ℕ, ◌<◌, ◌≤◌, ◌^◌, true, false, not, cond, List, [], ◌∷◌, ◌++◌, length, filter, nat_eq, Option, Some, None, is_some, option_map, unwrap_or, refl, sym, ap, ◌∙◌, subst, arith}
use Rattle.std.specs.Prelude.{IsSome, IsSomeAnd, IfSome, slice_get}
use Rattle.std.specs.List.{All}
use Rattle.std.proofs.lemmas.List.Elements.{All-weaker, All-filter, All-push}
use Rattle.fs_model.specs.State.{Copied, RoomRow, Worker}
use Rattle.fs_model.specs.Updates.{room_tier}
use Rattle.outside.specs.Keys.{KeyNames, key_eq}
use Rattle.outside.specs.Contents.{Contents, IsSame, put_at}
use Rattle.outside.specs.declared.objects.Objects as objects
use Rattle.outside.specs.declared.objects.ObjectWrite as writes
use Rattle.outside.proofs.Deciding.{key_self}
use Rattle.tier_book.specs.Rows.{room_numbered, row_of}
use Rattle.cluster_core.specs.Tiers.{ChangesAt, IsPut, IsPutOrNot, object_key}
use Rattle.cluster_core.specs.Nodes.{commit_as, node_row}
use Rattle.cluster_core.specs.Knowledge.{Knowledge, Holder}
use Rattle.cluster_core.specs.Stands.{CopyStands, NodeStands, HasObject, ObjectFits, TierTells}
use Rattle.cluster_core.specs.Writers.{Commits, Loses}
use Rattle.cluster_core.specs.declared.node.Node.{Node}
use Rattle.cluster_core.specs.declared.node.Finished.{Finished}
use Rattle.cluster_core.proofs.Frames.{KnownOn, copy_stays}
use Rattle.cluster_core.proofs.NodeChanges.{RowChanges, both_there}
use Rattle.cluster_core.proofs.RoomChanges.{KeepsRooms, other_room}
use Rattle.cluster_core.proofs.Rows.{found_of_all}
use Rattle.cluster_core.proofs.Objects.{BothOr, TierKeeps, each_both, keeps_itself, keeps_put, keeps_maybe, object_kept, other_key, same_as, tells_kept}
use Rattle.std.proofs.lemmas.Bool.{eqb-true}

module _ {S R W : Type 0} (o : objects.Ghosts S R W) (w : writes.Ghosts W) (K N : Knowledge) (next bs v n : ℕ) (on : KnownOn K N next next) (old new : Node S) (pen : W) (b : Finished) (bytes : List ℕ) (q : RoomRow) (found : room_numbered n old.book.rooms ≡ Some q) (stands : NodeStands o K next bs v old) (taken : w.taken pen ≡ Some bytes) (a : Holder) (owned : K.owner v n ≡ Some a) where
  -- the key of the reservation's object
  abbrev key : KeyNames
  key = object_key old.started n

  -- the reservation's number is below the next
  pub few : n < old.book.next
  few =
      let is = found_of_all (λ (r : RoomRow). r.number < old.book.next) (λ r. nat_eq r.number n) old.book.rooms q stands.rooms found in
      subst (λ k. k < old.book.next) (eqb-true q.number n is.1) is.0

  -- no copy has it
  not_copied : (c : Copied) → CopyStands o K next bs v old c → n ≡ c.number → ⊥
  not_copied c s same = let k : Some a ≡ None = sym owned ∙ ap (K.owner v) same ∙ s.owner in cc

  -- so its object has another key
  other : (c : Copied) → CopyStands o K next bs v old c → key_eq key (object_key old.started c.number) ≡ false
  other c s = other_key old.started n c.number (omega (arith, few, stands.few)) (omega (arith, s.number, stands.few)) (not_copied c s)

  -- a copy stands still at a worker with the same starts and next number, whose tiers keep what other keys have
  copy_after : (c : Copied) → new.started ≡ old.started → new.book.next ≡ old.book.next → ((t : ℕ) → BothOr (TierKeeps o key) (slice_get old.tiers.items t) (slice_get new.tiers.items t)) → CopyStands o K next bs v old c → CopyStands o N next bs v new c
  copy_after c started number keeps s =
      let moved : CopyStands o N next bs v old c = copy_stays K N next next bs on o v old c s in
      record {
        keep = moved.keep;
        number = subst (λ k. c.number < k) (sym number) moved.number;
        owner = moved.owner;
        file = moved.file;
        object = object_kept o key old.tiers.items new.tiers.items c.tier (object_key new.started c.number) (ObjectFits N bs c) (keeps c.tier) (ap (λ k. key_eq key (object_key k c.number)) started ∙ other c s) (subst (λ k. HasObject o old.tiers.items c.tier (object_key k c.number) (ObjectFits N bs c)) (sym started) moved.object);
      }

  -- the worker stands, where its rows are those or one more that stands
  node_after : new.started ≡ old.started → new.book.next ≡ old.book.next → new.book.rooms ≡ filter (λ r. not (nat_eq r.number n)) old.book.rooms → ((t : ℕ) → BothOr (TierKeeps o key) (slice_get old.tiers.items t) (slice_get new.tiers.items t)) → All (CopyStands o N next bs v new) new.book.rows → NodeStands o N next bs v new
  node_after started number rooms keeps copies = record {
    tells = λ t u there. tells_kept o key refl old.tiers.items new.tiers.items t (keeps t) (stands.tells t) u there;
    copies = copies;
    rooms = subst (All (λ r. r.number < new.book.next)) (sym rooms) (All-filter (λ r. not (nat_eq r.number n)) (λ r. r.number < new.book.next) old.book.rooms (subst (λ k. All (λ r. r.number < k) old.book.rooms) (sym number) stands.rooms));
    few = subst (λ k. k ≤ 2 ^ 63) (sym number) stands.few;
    fresh = λ k h. on.owners v k (stands.fresh k (subst (λ z. z ≤ k) number h));
  }

  -- the old copies stand
  copies_after : new.started ≡ old.started → new.book.next ≡ old.book.next → ((t : ℕ) → BothOr (TierKeeps o key) (slice_get old.tiers.items t) (slice_get new.tiers.items t)) → All (CopyStands o N next bs v new) old.book.rows
  copies_after started number keeps = All-weaker (CopyStands o K next bs v old) (CopyStands o N next bs v new) (λ c s. copy_after c started number keeps s) old.book.rows stands.copies

  -- ---- a commit

  module _ (c : Commits o w n key pen b old new) (fits : b.len ≤ q.bytes) where
    row : node_row new ≡ commit_as b.keep b.pin n b.file b.block b.len (node_row old)
    row = c.row (subst (λ x. IsSomeAnd x (λ r. b.len ≤ r.bytes)) (sym found) fits)

    -- what the row says, part by part
    started : new.started ≡ old.started
    started = ap (λ (k : Worker). k.start) row

    number : new.book.next ≡ old.book.next
    number = ap (λ (k : Worker). k.next) row

    rooms : new.book.rooms ≡ filter (λ r. not (nat_eq r.number n)) old.book.rooms
    rooms = ap (λ (k : Worker). k.rooms) row

    pub row_committed : RowChanges (commit_as b.keep b.pin n b.file b.block b.len) old new
    row_committed = record { row = row; running = ap (λ (k : Worker). k.running) row; sizes = c.sizes }

    pub rooms_committed : KeepsRooms n old new
    rooms_committed = record { started = started; rooms = λ m r differs there. ap (room_numbered m) rooms ∙ other_room n m old.book.rooms differs ∙ there }

    -- the copy that was made
    abbrev made : Copied
    made = record { number = n; tier = q.tier; file = b.file; block = b.block; len = b.len; keep = b.keep; pin = b.pin; free = false }

    tier_is : room_tier (node_row old) n ≡ q.tier
    tier_is = ap (λ x. unwrap_or (option_map (λ (r : RoomRow). r.tier) x) 0) found

    by_row : (x : Option Copied) → row_of b.file b.block old.book.rows ≡ x → b.keep ≡ true → b.file < next → N.owner v n ≡ None → ObjectFits N bs made bytes → NodeStands o N next bs v new
    by_row (Some d) there keep file owner object =
        let tiers : new.tiers ≡ old.tiers = c.there (subst IsSome (sym there) refl) in
        let same : (t : ℕ) → BothOr (TierKeeps o key) (slice_get old.tiers.items t) (slice_get new.tiers.items t) = λ t. subst (λ ts. BothOr (TierKeeps o key) (slice_get old.tiers.items t) (slice_get ts.items t)) (sym tiers) (itself (slice_get old.tiers.items t)) in
        let rows : new.book.rows ≡ old.book.rows = ap (λ (k : Worker). k.copies) row ∙ ap (λ x. cond (is_some x) old.book.rows (old.book.rows ++ record { number = n; tier = room_tier (node_row old) n; file = b.file; block = b.block; len = b.len; keep = b.keep; pin = b.pin; free = false } ∷ [])) there in
        node_after started number rooms same (subst (All (CopyStands o N next bs v new)) (sym rows) (copies_after started number same))
      where
        itself : (x : Option S) → BothOr (TierKeeps o key) x x
        itself None = tt
        itself (Some s) = keeps_itself o key s
    by_row None absent keep file owner object =
        let change : ChangesAt old.tiers.items new.tiers.items q.tier (IsPut o w pen key) = subst (λ x. IfSome x (λ r. b.len ≤ r.bytes → ChangesAt old.tiers.items new.tiers.items r.tier (IsPut o w pen key))) found (c.done absent) fits in
        let keeps : (t : ℕ) → BothOr (TierKeeps o key) (slice_get old.tiers.items t) (slice_get new.tiers.items t) = each_both (TierKeeps o key) (IsPut o w pen key) old.tiers.items new.tiers.items q.tier change (keeps_put o key w pen bytes taken) (keeps_itself o key) in
        let rows : new.book.rows ≡ old.book.rows ++ made ∷ [] = ap (λ (k : Worker). k.copies) row ∙ ap (λ x. cond (is_some x) old.book.rows (old.book.rows ++ record { number = n; tier = room_tier (node_row old) n; file = b.file; block = b.block; len = b.len; keep = b.keep; pin = b.pin; free = false } ∷ [])) absent ∙ ap (λ t. old.book.rows ++ record { number = n; tier = t; file = b.file; block = b.block; len = b.len; keep = b.keep; pin = b.pin; free = false } ∷ []) tier_is in
        node_after started number rooms keeps (subst (All (CopyStands o N next bs v new)) (sym rows) (All-push (CopyStands o N next bs v new) old.book.rows made (copies_after started number keeps) (record {
          keep = keep;
          number = subst (λ k. n < k) (sym number) few;
          owner = owner;
          file = file;
          object = subst (λ k. HasObject o new.tiers.items q.tier (object_key k n) (ObjectFits N bs made)) (sym started) (put_there object change);
        })))
      where
        at_key : (m : Contents) → put_at key (Some bytes) m key ≡ Some bytes
        at_key m = ap (λ t. cond t (Some bytes) (m key)) (key_self key)

        in_tier : (s u : S) (x : Option Contents) → o.told s ≡ x → TierTells o s → IsPut o w pen key s u → ObjectFits N bs made bytes → IsSomeAnd (o.told u) (λ m. IsSomeAnd (m key) (ObjectFits N bs made))
        in_tier s u None tell tells p fit = absurd (subst (λ y. IsSomeAnd y (λ m. (k : KeyNames) → IsSome (m k) → length k ≡ 2)) tell tells)
        in_tier s u (Some m) tell tells p fit =
            let same : IsSame (Some (put_at key (Some bytes) m)) (o.told u) = subst (λ x. IsSame (option_map (put_at key (Some bytes)) x) (o.told u)) tell (p.bytes bytes (taken ∙ ap (option_map (λ _. bytes)) (sym tell))) in
            let after = same_as o key (put_at key (Some bytes)) m (o.told u) same in
            subst (λ y. IsSomeAnd y (λ m. IsSomeAnd (m key) (ObjectFits N bs made))) (sym after.1) (subst (λ y. IsSomeAnd y (ObjectFits N bs made)) (sym (after.2 key ∙ at_key m)) fit)

        put_there : ObjectFits N bs made bytes → ChangesAt old.tiers.items new.tiers.items q.tier (IsPut o w pen key) → HasObject o new.tiers.items q.tier key (ObjectFits N bs made)
        put_there fit change =
            let at = both_there (slice_get old.tiers.items q.tier) (slice_get new.tiers.items q.tier) change.at in
            subst (λ y. IsSomeAnd y (λ s. IsSomeAnd (o.told s) (λ m. IsSomeAnd (m key) (ObjectFits N bs made)))) (sym at.3) (in_tier at.0 at.1 (o.told at.0) refl (stands.tells q.tier at.0 at.2) at.4 fit)

    pub node_committed : b.keep ≡ true → b.file < next → N.owner v n ≡ None → ObjectFits N bs made bytes → NodeStands o N next bs v new
    node_committed keep file owner object = by_row (row_of b.file b.block old.book.rows) refl keep file owner object

  -- ---- one that failed

  module _ (c : Loses o w n key pen b old new) where
    pub rooms_lost : KeepsRooms n old new
    rooms_lost = record { started = c.freed.started; rooms = λ m r differs there. ap (room_numbered m) c.freed.rooms ∙ other_room n m old.book.rooms differs ∙ there }

    pub node_lost : NodeStands o N next bs v new
    node_lost =
        let change = subst (λ x. IsSomeAnd x (λ r. ChangesAt old.tiers.items new.tiers.items r.tier (IsPutOrNot o w pen key))) found c.tiers in
        let keeps : (t : ℕ) → BothOr (TierKeeps o key) (slice_get old.tiers.items t) (slice_get new.tiers.items t) = each_both (TierKeeps o key) (IsPutOrNot o w pen key) old.tiers.items new.tiers.items q.tier change (keeps_maybe o key w pen bytes taken) (keeps_itself o key) in
        node_after c.freed.started c.freed.next c.freed.rooms keeps (subst (All (CopyStands o N next bs v new)) (sym c.freed.rows) (copies_after c.freed.started c.freed.next keeps))
