-- What calls leave of the stores and of the workers' tiers, whatever the core stands for: each event's answer is a line of these.
use Rattle.std.proofs.Common.{◌≡◌, ℕ, pred, ◌≤◌, true, false, List, length, get_or, Option, Some, None, inl, inr, refl, sym, ap, ◌∙◌, subst, arith}
use Rattle.std.specs.Prelude.{◌⊎◌, IsSomeAnd, slice_get}
use Rattle.std.proofs.lemmas.Bool.{cases_eq}
use Rattle.std.proofs.lemmas.Option.{same_Some, slice_get_within, slice_get-get_or}
use Rattle.fs_model.specs.State.{NodeRow}
use Rattle.outside.specs.declared.disk.Disk as disks
use Rattle.outside.specs.declared.objects.Objects as objects
use Rattle.outside.specs.declared.objects.ObjectRead as reads
use Rattle.outside.specs.declared.objects.ObjectWrite as writes
use Rattle.tier_book.specs.Rows.{fitting}
use Rattle.journal_disk.specs.Journaling.{GoesOn, Journaling, StaysAs, area_0, area_1}
use Rattle.master_node.specs.Mastering.{Mastering}
use Rattle.cluster_core.specs.Media.{AreasStay, TiersStay, NodesStay, MediaStays}
use Rattle.cluster_core.specs.Tiers.{ChangesAt, Keeps}
use Rattle.cluster_core.specs.Nodes.{FreesRoom}
use Rattle.cluster_core.specs.Here.{runs_here}
use Rattle.cluster_core.specs.Kept.{KeepsRest}
use Rattle.cluster_core.specs.Reserved.{room_in}
use Rattle.cluster_core.specs.Opened.{Spaces, IsFull, KeepsNode, FailsNode}
use Rattle.cluster_core.specs.Seeks.{HandSeeks, SeeksOf, OpensRow, TriesRow, copy_at}
use Rattle.cluster_core.specs.declared.node.Node.{Node}
use Rattle.cluster_core.specs.declared.hand.Hand.{Hand}
use Rattle.cluster_core.specs.declared.hand.Stream.{Stream}
use Rattle.cluster_core.specs.declared.reading.Found.{Found}
use Rattle.cluster_core.specs.declared.cluster.Core.{Core}
use Rattle.cluster_core.proofs.Sides.{same_sides}

-- ---- areas

module _ {D : Type 0} (d : disks.Ghosts D) where
  -- the same master
  pub areas_same : {old new : Mastering D} → new ≡ old → AreasStay d old.journal new.journal
  areas_same {old} {new} same = subst (λ m. AreasStay d old.journal m.journal) (sym same) (record { tells_0 = refl; tells_1 = refl; own_0 = omega arith; own_1 = omega arith; limit = refl })

  -- one call after another
  pub areas_then : {a b c : Journaling D} → AreasStay d a b → AreasStay d b c → AreasStay d a c
  areas_then {a} {b} {c} one two = record {
    tells_0 = two.tells_0 ∙ one.tells_0;
    tells_1 = two.tells_1 ∙ one.tells_1;
    own_0 = let x = one.own_0 in let y = two.own_0 in omega (arith, x, y);
    own_1 = let x = one.own_1 in let y = two.own_1 in omega (arith, x, y);
    limit = two.limit ∙ one.limit;
  }

  -- calls of the journal
  pub areas_go : {old new : Journaling D} → GoesOn d old new → AreasStay d old new
  areas_go h = record { tells_0 = h.tells_0; tells_1 = h.tells_1; own_0 = h.own_0; own_1 = h.own_1; limit = h.limit }

  -- none of them
  pub areas_stay : {old new : Journaling D} → StaysAs d old new → AreasStay d old new
  areas_stay {old} {new} h =
      let tells = same_sides d h d.tells h.tells_here h.tells_there in
      let own = same_sides d h d.faults h.own_here h.own_there in
      let x = own.0 in
      let y = own.1 in
      record { tells_0 = tells.0; tells_1 = tells.1; own_0 = omega (arith, x); own_1 = omega (arith, y); limit = ap (λ (j : Journaling D). j.limit) h.rest }

-- ---- lists

-- a list of the same length has something at the same place
pub still_there : {X : Type 0} (xs ys : List X) (i : ℕ) (x : X) → length ys ≡ length xs → slice_get xs i ≡ Some x → slice_get ys i ≡ Some (get_or ys i x)
still_there xs ys i x same was = let within = slice_get_within xs i x was in slice_get-get_or ys i x (omega (arith, same, within))

-- what is there has P
pub there : {X : Type 0} {P : X → Type 0} (x : Option X) → IsSomeAnd x P → (a : X) × P a
there None h = absurd h
there (Some a) h = (a, h)

-- what is there before and after has P
both_have : {X : Type 0} (P : X → X → Type 0) (x y : Option X) → IsSomeAnd x (λ s. IsSomeAnd y (λ u. P s u)) → (s u : X) → x ≡ Some s → y ≡ Some u → P s u
both_have P None y h s u was is = absurd h
both_have P (Some a) None h s u was is = absurd h
both_have P (Some a) (Some b) h s u was is = subst (λ p. P p u) (same_Some a s was) (subst (λ q. P a q) (same_Some b u is) h)

-- where one element of a list changes, each has Q
pub each_has : {X : Type 0} {P Q : X → X → Type 0} (old new : List X) (i : ℕ) → ChangesAt old new i P → ((s u : X) → P s u → Q s u) → ((s : X) → Q s s) → (j : ℕ) (s u : X) → slice_get old j ≡ Some s → slice_get new j ≡ Some u → Q s u
each_has {X} {P} {Q} old new i change gives stays j s u was is = elim (cases_eq j i) [
  | inl here ↦ gives s u (both_have P (slice_get old i) (slice_get new i) change.at s u (ap (slice_get old) (sym here) ∙ was) (ap (slice_get new) (sym here) ∙ is))
  | inr differs ↦ subst (λ q. Q s q) (same_Some s u (sym was ∙ sym (change.others j differs) ∙ is)) (stays s)
]

module _ {S R W : Type 0} (o : objects.Ghosts S R W) where
  -- ---- a worker

  -- no count fell, and it is steady as before
  abbrev Stays : S → S → Type 0
  Stays s u = (o.faults s ≤ o.faults u) × (o.steady u ≡ o.steady s)

  itself : (s : S) → Stays s s
  itself s = (omega arith, refl)

  -- the same tiers
  tiers_same : {n m : Node S} → m.tiers ≡ n.tiers → TiersStay o n m
  tiers_same {n} {m} same = record {
    same_length = ap (λ v. length v.items) same;
    faults = λ t s u was is. (still t s u was is).0;
    steady = λ t s u was is. (still t s u was is).1;
  }
    where
      still : (t : ℕ) (s u : S) → slice_get n.tiers.items t ≡ Some s → slice_get m.tiers.items t ≡ Some u → Stays s u
      still t s u was is = subst (Stays s) (same_Some s u (sym was ∙ sym (ap (λ v. slice_get v.items t) same) ∙ is)) (itself s)

  -- one tier changed, and its count didn't fall and it is steady as before
  tiers_at : {n m : Node S} {t : ℕ} {P : S → S → Type 0} → ChangesAt n.tiers.items m.tiers.items t P → ((s u : S) → P s u → Stays s u) → TiersStay o n m
  tiers_at {n} {m} {t} change gives = record {
    same_length = change.same_length;
    faults = λ j s u was is. (each_has n.tiers.items m.tiers.items t change gives itself j s u was is).0;
    steady = λ j s u was is. (each_has n.tiers.items m.tiers.items t change gives itself j s u was is).1;
  }

  -- one tier told what it told
  tiers_keep : {n m : Node S} {t : ℕ} → ChangesAt n.tiers.items m.tiers.items t (Keeps o) → TiersStay o n m
  tiers_keep change = tiers_at change (λ s u k. (k.faults, k.steady))

  -- one change after another
  tiers_then : {n m k : Node S} → TiersStay o n m → TiersStay o m k → TiersStay o n k
  tiers_then {n} {m} {k} a b = record {
    same_length = b.same_length ∙ a.same_length;
    faults = λ t s u was is.
        let mid = still_there n.tiers.items m.tiers.items t s a.same_length was in
        let first = a.faults t s (get_or m.tiers.items t s) was mid in
        let second = b.faults t (get_or m.tiers.items t s) u mid is in
        omega (arith, first, second);
    steady = λ t s u was is.
        let mid = still_there n.tiers.items m.tiers.items t s a.same_length was in
        b.steady t (get_or m.tiers.items t s) u mid is ∙ a.steady t s (get_or m.tiers.items t s) was mid;
  }

  -- whatever came of a reservation
  spaces_stay : (k len : ℕ) (n m : Node S) → Spaces o k len n m → TiersStay o n m
  spaces_stay k len n m h = let found = there (fitting n.book len) h in tiers_keep found.1.1

  full_stay : (len : ℕ) (n m : Node S) → IsFull o len n m → TiersStay o n m
  full_stay len n m h = tiers_same (ap (λ (k : Node S). k.tiers) h.1)

  keeps_stay : (len : ℕ) (n m : Node S) → KeepsNode o len n m → TiersStay o n m
  keeps_stay len n m h = let found = there (fitting n.book len) h.1 in tiers_keep found.1

  -- ---- workers

  -- the same workers
  nodes_same : {old new : List (Node S)} → new ≡ old → NodesStay o old new
  nodes_same {old} {new} same = record {
    same_length = ap length same;
    each = λ i n m was is. subst (λ q. TiersStay o n q) (same_Some n m (sym was ∙ sym (ap (λ ns. slice_get ns i) same) ∙ is)) (tiers_same refl);
  }

  -- one worker changed
  nodes_at : {old new : List (Node S)} {i : ℕ} {P : Node S → Node S → Type 0} → ChangesAt old new i P → ((n m : Node S) → P n m → TiersStay o n m) → NodesStay o old new
  nodes_at {old} {new} {i} change gives = record {
    same_length = change.same_length;
    each = each_has old new i change gives (λ n. tiers_same refl);
  }

  -- one change after another
  nodes_then : {a b c : List (Node S)} → NodesStay o a b → NodesStay o b c → NodesStay o a c
  nodes_then {a} {b} {c} one two = record {
    same_length = two.same_length ∙ one.same_length;
    each = λ i n m was is.
        let mid = still_there a b i n one.same_length was in
        tiers_then (one.each i n (get_or b i n) was mid) (two.each i (get_or b i n) m mid is);
  }

  -- whatever a search for a source gave
  module _ (r : reads.Ghosts R) where
    opens_stay : (f i at len : ℕ) (reader : R) (t : ℕ) (n m : Node S) → OpensRow o r f i at len reader t n m → TiersStay o n m
    opens_stay f i at len reader t n m h = let found = there (copy_at f i (Some n)) h in tiers_keep found.1.tiers

    tries_stay : (f i at len : ℕ) (n m : Node S) → TriesRow o r f i at len n m → TiersStay o n m
    tries_stay f i at len n m h = let found = there (copy_at f i (Some n)) h in tiers_keep found.1.tiers

    seek_stays : (rows : List NodeRow) (bs : ℕ) (old new : List (Node S)) (x y : Stream R) (gave : Found) → SeeksOf o r rows bs old new x y gave → NodesStay o old new
    seek_stays rows bs old new x y Found.BadLabel h = absurd h
    seek_stays rows bs old new x y Found.Stopped h = nodes_same h.1
    seek_stays rows bs old new x y Found.NotFound h = nodes_same h.2
    seek_stays rows bs old new x y Found.End h = nodes_same h.4
    seek_stays rows bs old new x y (Found.Still v t) h = nodes_same h.4
    seek_stays rows bs old new x y (Found.Opened t) h = let found = there y.source h.2 in nodes_at found.1.row (opens_stay _ _ _ _ _ t)
    seek_stays rows bs old new x y (Found.Unavailable b) h = nodes_same h.4
    seek_stays rows bs old new x y Found.Fault h = nodes_at h.1 (tries_stay _ _ _ _)
    seek_stays rows bs old new x y Found.Memory h = nodes_at h.1 (tries_stay _ _ _ _)

    hand_stays : (rows : List NodeRow) (bs : ℕ) (old new : List (Node S)) (h k : Hand R W) (gave : Found) → HandSeeks o r rows bs old new h k gave → NodesStay o old new
    hand_stays rows bs old new (Hand.Reading x) (Hand.Reading y) gave h = seek_stays rows bs old new x y gave h
    hand_stays rows bs old new (Hand.Reading x) (Hand.Writing y) gave h = absurd h
    hand_stays rows bs old new (Hand.Writing x) k gave h = nodes_same h.2

  -- ---- cores

  module _ {D : Type 0} {d : disks.Ghosts D} {w : writes.Ghosts W} where
    -- neither stores nor workers changed
    pub media_same : {old new : Core D S R W d w} → AreasStay d old.master.journal new.master.journal → new.stores ≡ old.stores → new.workers ≡ old.workers → MediaStays d o old new
    media_same areas stores workers = record { areas = areas; stores = stores; workers = nodes_same (ap (λ v. v.items) workers) }

    -- nothing changed
    pub media_itself : {old : Core D S R W d w} → MediaStays d o old old
    media_itself {old} = let same : old.master ≡ old.master = refl in media_same (areas_same d same) refl refl

    pub media_kept : {old new : Core D S R W d w} → KeepsRest old new → new.workers ≡ old.workers → MediaStays d o old new
    media_kept rest workers = media_same (areas_same d rest.master) rest.stores workers

    -- one call after another
    pub media_then : {a b c : Core D S R W d w} → MediaStays d o a b → MediaStays d o b c → MediaStays d o a c
    media_then one two = record { areas = areas_then d one.areas two.areas; stores = two.stores ∙ one.stores; workers = nodes_then one.workers two.workers }

    -- one worker changed
    media_by : {old new : Core D S R W d w} {i : ℕ} {P : Node S → Node S → Type 0} → KeepsRest old new → ChangesAt old.workers.items new.workers.items i P → ((n m : Node S) → P n m → TiersStay o n m) → MediaStays d o old new
    media_by rest change gives = record { areas = areas_same d rest.master; stores = rest.stores; workers = nodes_at change gives }

    -- a worker made a reservation
    pub media_opened : {old new : Core D S R W d w} (i len : ℕ) (room : Option ℕ) → KeepsRest old new → IsSomeAnd room (λ n. ChangesAt old.workers.items new.workers.items i (Spaces o n len)) → MediaStays d o old new
    media_opened i len room rest h = let found = there room h in media_by rest found.1 (spaces_stay found.0 len)

    -- a worker had no room
    pub media_full : {old new : Core D S R W d w} {i : ℕ} (len : ℕ) → KeepsRest old new → ChangesAt old.workers.items new.workers.items i (IsFull o len) → MediaStays d o old new
    media_full len rest change = media_by rest change (full_stay len)

    -- a worker failed to make a reservation
    pub media_failed : {old new : Core D S R W d w} {i : ℕ} (len : ℕ) → KeepsRest old new → ChangesAt old.workers.items new.workers.items i (FailsNode o len) → MediaStays d o old new
    media_failed len rest change = media_by rest change (λ n m h. keeps_stay len n m h.0)

    -- memory was short for a reservation
    pub media_short : {old new : Core D S R W d w} (i len : ℕ) → KeepsRest old new → (new.workers ≡ old.workers) ⊎ ChangesAt old.workers.items new.workers.items i (KeepsNode o len) → MediaStays d o old new
    media_short i len rest (inl same) = media_kept rest same
    media_short i len rest (inr change) = media_by rest change (keeps_stay len)

    -- a hand's reservation was freed, if it had one
    pub media_freed : {old new : Core D S R W d w} (h : Hand R W) → KeepsRest old new
        → ((worker started room : ℕ) → room_in h ≡ Some (worker, started, room) → runs_here old.workers.items worker started ≡ true → ChangesAt old.workers.items new.workers.items (pred worker) (FreesRoom room))
        → ((worker started room : ℕ) → room_in h ≡ Some (worker, started, room) → runs_here old.workers.items worker started ≡ false → new.workers ≡ old.workers)
        → (room_in h ≡ None → new.workers ≡ old.workers)
        → MediaStays d o old new
    media_freed {old} {new} h rest freed stopped none = by_room (room_in h) refl
      where
        by_room : (x : Option (ℕ × ℕ × ℕ)) → room_in h ≡ x → MediaStays d o old new
        by_room None is = media_kept rest (none is)
        by_room (Some (v, started, room)) is = elim (runs_here old.workers.items v started) as (λ b. runs_here old.workers.items v started ≡ b → MediaStays d o old new) [
          | true ↦ λ runs. media_by rest (freed v started room is runs) (λ n m f. tiers_same f.1)
          | false ↦ λ stands. media_kept rest (stopped v started room is stands)
        ] refl

    module _ (r : reads.Ghosts R) where
      -- a source was sought
      pub media_sought : {old new : Core D S R W d w} (rows : List NodeRow) (bs : ℕ) (h k : Hand R W) (gave : Found) → KeepsRest old new → HandSeeks o r rows bs old.workers.items new.workers.items h k gave → MediaStays d o old new
      media_sought {old} {new} rows bs h k gave rest found = record { areas = areas_same d rest.master; stores = rest.stores; workers = hand_stays r rows bs old.workers.items new.workers.items h k gave found }
