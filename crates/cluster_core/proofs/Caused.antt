-- Why events answer faults and waits, whatever the core stands for: each event's answer is a line of these.
use Rattle.std.proofs.Common.{◌≡◌, ℕ, ◌<◌, ◌+◌, arith, pred, Bool, true, false, not, ◌&&◌, List, [], ◌∷◌, get_or, Option, Some, None, inl, inr, refl, sym, ap, subst}
use Rattle.std.specs.Prelude.{IfSome, IsSomeAnd, is_none, is_some, nat_eq, nat_le, nat_lt, slice_get}
use Rattle.fs_model.specs.declared.event.Event.{Event}
use Rattle.fs_model.specs.declared.event.Fill.{Fill}
use Rattle.fs_model.specs.declared.reply.Reply.{Reply}
use Rattle.fs_model.specs.declared.reply.Refusal.{Refusal}
use Rattle.fs_model.specs.declared.path.Path.{Path}
use Rattle.fs_model.specs.Lookups.{Walk, has_node, walk_above, walk_nodes}
use Rattle.fs_model.specs.State.{NodeRow, Names}
use Rattle.fs_model.specs.Tests.{walk_fault, ◌only_if◌}
use Rattle.fs_model.specs.Words.{block_count, first, path_len, ◌when◌}
use Rattle.outside.specs.Keys.{KeyNames}
use Rattle.outside.specs.declared.disk.Disk as disks
use Rattle.outside.specs.declared.objects.Objects as objects
use Rattle.outside.specs.declared.objects.ObjectRead as reads
use Rattle.outside.specs.declared.objects.ObjectWrite as writes
use Rattle.tier_book.specs.Rows.{fitting, room_numbered}
use Rattle.cluster_core.specs.Causes.{JournalCaused, OnlyFrom, OnlyTier, NodeCounted, TierCounted, UnderRose, IsCaused}
use Rattle.cluster_core.specs.Committed.{closed_writer}
use Rattle.cluster_core.specs.Goes.{AtLabel, HandRose, HandWaited}
use Rattle.cluster_core.specs.HandChanges.{AddsHand, EndsHand}
use Rattle.cluster_core.specs.Media.{TiersStay, MediaStays}
use Rattle.master_state.specs.Places.{is_full, is_numbered_out, place_test}
use Rattle.master_node.specs.Mastering.{Mastering}
use Rattle.cluster_core.specs.Names.{is_short, stop_test}
use Rattle.cluster_core.specs.Opened.{FailsNode}
use Rattle.cluster_core.specs.Polls.{reply_of, Waited, Lost, SourcePolls, PollOf, HandPolls}
use Rattle.cluster_core.specs.Putting.{put_reply, DidPut, DidIn}
use Rattle.cluster_core.specs.Seeks.{HandSeeks, SeeksOf, FailsRow, copy_at, found_reply}
use Rattle.cluster_core.specs.Tiers.{At, ChangesAt, Counts, IsFaultOrCrossed, IsFaultOrShort}
use Rattle.cluster_core.specs.Tests.{Circumstance, mkdir_test, create_test, done_test, file_there, open_test, passes_file}
use Rattle.cluster_core.specs.Writers.{Loses}
use Rattle.cluster_core.specs.declared.cluster.Core.{Core}
use Rattle.cluster_core.specs.declared.hand.Hand.{Hand}
use Rattle.cluster_core.specs.declared.hand.Stream.{Stream}
use Rattle.cluster_core.specs.declared.hand.Writer.{Writer}
use Rattle.cluster_core.specs.declared.node.Finished.{Finished}
use Rattle.cluster_core.specs.declared.node.Node.{Node}
use Rattle.cluster_core.specs.declared.polling.Gave.{Gave}
use Rattle.cluster_core.specs.declared.putting.PutEnd.{PutEnd}
use Rattle.cluster_core.specs.declared.reading.Found.{Found}
use Rattle.cluster_core.proofs.Faulty.{rose_later}
use Rattle.cluster_core.proofs.Labelled.{sets_hand}
use Rattle.cluster_core.proofs.MediaStay.{there, still_there}
use Rattle.cluster_core.proofs.NodeChanges.{both_there}
use Rattle.cluster_core.proofs.PollGo.{rose_both}
use Rattle.cluster_core.proofs.StreamsGo.{at_set, there_is}

-- ---- replies

-- another P will do where it follows
only_more : {P Q : ℕ → Type 0} {J K : Type 0} (reply : Reply) → ((v : ℕ) → P v → Q v) → (J → K) → OnlyFrom P J reply → OnlyFrom Q K reply
only_more (Reply.Refused (Refusal.TierFault v)) gives more h = gives v h
only_more (Reply.Refused (Refusal.UnderFault s)) gives more h = absurd h
only_more (Reply.Refused Refusal.JournalFault) gives more h = more h
only_more Reply.NotReady gives more h = absurd h
only_more reply gives more h = tt

-- no device gave the answer
abbrev IsCalm : Reply → Type 0
IsCalm = OnlyTier (λ v. ⊥)

first_calm : (t : Option Reply) (ts : List (Option Reply)) → IfSome t IsCalm → IfSome (first ts) IsCalm → IfSome (first (t ∷ ts)) IsCalm
first_calm None ts h more = more
first_calm (Some x) ts h more = h

when_calm : (x : Reply) (b : Bool) → IsCalm x → IfSome (x when b) IsCalm
when_calm x true h = h
when_calm x false h = tt

only_calm : (t : Option Reply) (b : Bool) → IfSome t IsCalm → IfSome (t only_if b) IsCalm
only_calm t true h = h
only_calm t false h = tt

walk_calm : (k : Walk) → IfSome (walk_fault k) IsCalm
walk_calm (Walk.Found n) = tt
walk_calm Walk.Absent = tt
walk_calm Walk.Blocked = tt

place_calm : (N : Names) (p : Path) → IfSome (place_test N p) IsCalm
place_calm N p = first_calm (walk_fault (walk_above N.nodes p)) _ (walk_calm (walk_above N.nodes p)) (first_calm _ [] (when_calm _ (has_node N p) tt) tt)

module _ {D : Type 0} (m : Mastering D) where
  stop_calm : IfSome (stop_test m) IsCalm
  stop_calm = when_calm _ m.journal.failed tt

  pub mkdir_calm : (p : Path) → IfSome (mkdir_test m p) IsCalm
  mkdir_calm p =
      first_calm (stop_test m) _ stop_calm
      (first_calm (place_test m.kept.names p) _ (place_calm m.kept.names p)
      (first_calm _ _ (when_calm _ (is_full m.kept.names) tt)
      (first_calm _ [] (when_calm _ (is_short m (7 + path_len p)) tt) tt)))

  pub create_calm : (c : Circumstance) (p : Path) → IfSome (create_test m c p) IsCalm
  create_calm c p =
      first_calm _ _ (when_calm _ c.taken tt)
      (first_calm (stop_test m) _ stop_calm
      (first_calm (place_test m.kept.names p) _ (place_calm m.kept.names p)
      (first_calm _ _ (when_calm _ (not (nat_eq c.worker 0) && not c.configured) tt)
      (first_calm _ _ (when_calm _ (is_full m.kept.names) tt)
      (first_calm _ _ (when_calm _ (nat_le 64 c.labels) tt)
      (first_calm _ _ (when_calm _ (is_numbered_out m.kept.names) tt)
      (first_calm _ _ (when_calm _ (is_short m (15 + path_len p)) tt)
      (first_calm _ [] (only_calm _ (not (nat_eq c.worker 0)) (when_calm _ (not c.live) tt)) tt))))))))

  done_calm : (p : Path) → IfSome (done_test m p) IsCalm
  done_calm p =
      first_calm (walk_fault (walk_nodes m.kept.names.nodes p)) _ (walk_calm (walk_nodes m.kept.names.nodes p))
      (first_calm _ _ (when_calm _ (is_none (file_there m p)) tt)
      (first_calm _ [] (when_calm _ (passes_file (λ f. not f.done) (file_there m p)) tt) tt))

  pub open_calm : (bs : ℕ) (c : Circumstance) (p : Path) → IfSome (open_test bs m c p) IsCalm
  open_calm bs c p =
      first_calm _ _ (when_calm _ c.taken tt)
      (first_calm (stop_test m) _ stop_calm
      (first_calm (done_test m p) _ (done_calm p)
      (first_calm _ _ (when_calm _ (not (nat_eq c.worker 0) && not c.configured) tt)
      (first_calm _ _ (when_calm _ (nat_le 64 c.labels) tt)
      (first_calm _ [] (when_calm _ (passes_file (λ f. nat_lt 65536 (block_count f.len bs)) (file_there m p)) tt) tt)))))

-- ---- tiers

-- another relation will do where it follows
at_more : {X : Type 0} {P Q : X → X → Type 0} (old new : List X) (i : ℕ) → ((s u : X) → P s u → Q s u) → At old new i P → At old new i Q
at_more {X} {P} {Q} old new i gives h = by_both (slice_get old i) (slice_get new i) h
  where
    by_both : (x y : Option X) → IsSomeAnd x (λ s. IsSomeAnd y (λ u. P s u)) → IsSomeAnd x (λ s. IsSomeAnd y (λ u. Q s u))
    by_both None y h = absurd h
    by_both (Some s) None h = absurd h
    by_both (Some s) (Some u) h = gives s u h

module _ {S R W : Type 0} (o : objects.Ghosts S R W) where
  crossed_counts : (key : KeyNames) (s u : S) → IsFaultOrCrossed o key s u → Counts o s u
  crossed_counts key s u h = elim h [ inl rose ↦ inl rose | inr missed ↦ inr missed.0 ]

  short_counts : (key : KeyNames) (end : ℕ) (s u : S) → IsFaultOrShort o key end s u → Counts o s u
  short_counts key end s u h = elim h [ inl rose ↦ inl rose | inr missed ↦ inr missed.0 ]

  -- a commit failed
  lost_counted : (w : writes.Ghosts W) (n : ℕ) (key : KeyNames) (pen : W) (b : Finished) (old new : Node S) → Loses o w n key pen b old new → NodeCounted o old new
  lost_counted w n key pen b old new h = let found = there (room_numbered n old.book.rooms) h.failed in (found.0.tier, at_more old.tiers.items new.tiers.items found.0.tier (crossed_counts key) found.1.at)

  pub lost_at : {w : writes.Ghosts W} {n : ℕ} {key : KeyNames} {pen : W} {b : Finished} {i : ℕ} {old new : List (Node S)} → ChangesAt old new i (Loses o w n key pen b) → At old new i (NodeCounted o)
  lost_at {w} {n} {key} {pen} {b} {i} {old} {new} change = at_more old new i (lost_counted w n key pen b) change.at

  -- a tier failed after it was at most so often before
  counted_after : (k n m : Node S) (len : ℕ) → TiersStay o k n → FailsNode o len n m → NodeCounted o k m
  counted_after k n m len stay h = let found = there (fitting n.book len) h.1 in (found.0, at_more k.tiers.items m.tiers.items found.0 (λ s u rose. inl rose) (rose_later o found.0 k n m stay.same_length stay.faults found.1.at))

  -- a worker failed to make a reservation, after calls in which no count fell
  failed_after : {D : Type 0} {d : disks.Ghosts D} {w : writes.Ghosts W} (a b c : Core D S R W d w) (v len : ℕ) → 0 < v → MediaStays d o a b → ChangesAt b.workers.items c.workers.items (pred v) (FailsNode o len) → TierCounted o a c v
  failed_after a b c v len some stays change =
      let i = pred v in
      let both = both_there (slice_get b.workers.items i) (slice_get c.workers.items i) change.at in
      let k = get_or a.workers.items i both.0 in
      let was : slice_get a.workers.items i ≡ Some k = still_there b.workers.items a.workers.items i both.0 (sym stays.workers.same_length) both.2 in
      let counted = counted_after k both.0 both.1 len (stays.workers.each i k both.0 was both.2) both.4 in
      (some, subst (λ x. IsSomeAnd x (λ n. IsSomeAnd (slice_get c.workers.items i) (λ m. NodeCounted o n m))) (sym was) (subst (λ x. IsSomeAnd x (λ m. NodeCounted o k m)) (sym both.3) counted))

  -- so it is between cores with the same workers
  counted_within : {D : Type 0} {d : disks.Ghosts D} {w : writes.Ghosts W} (a b c z : Core D S R W d w) (v : ℕ) → b.workers ≡ a.workers → z.workers ≡ c.workers → TierCounted o b c v → TierCounted o a z v
  counted_within a b c z v before after h = (h.0, subst (λ x. At x.items z.workers.items (pred v) (NodeCounted o)) before (subst (λ x. At b.workers.items x.items (pred v) (NodeCounted o)) (sym after) h.1))

  -- so is the answer of a writer that was put back then, after the commit of its block
  pub room_caused : {D : Type 0} {d : disks.Ghosts D} {w : writes.Ghosts W} (a b c z : Core D S R W d w) (x y : Writer W) → 0 < x.worker → y ≡ closed_writer false x → MediaStays d o a b → (len : ℕ) → ChangesAt b.workers.items c.workers.items (pred y.worker) (FailsNode o len) → z.workers ≡ c.workers → (reply : Reply) → reply ≡ Reply.Refused (Refusal.TierFault x.worker) → OnlyTier (TierCounted o a z) reply
  room_caused a b c z x y some closed stays len change after reply is =
      let same : y.worker ≡ x.worker = ap (λ z. z.worker) closed in
      let here = subst (λ k. ChangesAt b.workers.items c.workers.items (pred k) (FailsNode o len)) same change in
      subst (OnlyTier (TierCounted o a z)) (sym is) (counted_within a a c z x.worker refl after (failed_after a b c x.worker len some stays here))

  -- ---- a search for a source

  module _ (r : reads.Ghosts R) where
    row_counted : (f i at len : ℕ) (n m : Node S) → FailsRow o r f i at len n m → NodeCounted o n m
    row_counted f i at len n m h = let found = there (copy_at f i (Some n)) h in (found.0.tier, at_more n.tiers.items m.tiers.items found.0.tier (short_counts _ _) found.1.at)

    stream_sought : (rows : List NodeRow) (bs : ℕ) (old new : List (Node S)) (x y : Stream R) (gave : Found) → SeeksOf o r rows bs old new x y gave → OnlyTier (λ v. (0 < v) × At old new (pred v) (NodeCounted o)) (found_reply gave)
    stream_sought rows bs old new x y Found.Fault h = (omega arith, at_more old new 0 (row_counted _ _ _ _) h.2.at)
    stream_sought rows bs old new x y gave h = tt

    hand_sought : (rows : List NodeRow) (bs : ℕ) (old new : List (Node S)) (h k : Hand R W) (gave : Found) → HandSeeks o r rows bs old new h k gave → OnlyTier (λ v. (0 < v) × At old new (pred v) (NodeCounted o)) (found_reply gave)
    hand_sought rows bs old new (Hand.Reading x) (Hand.Reading y) gave h = stream_sought rows bs old new x y gave h
    hand_sought rows bs old new (Hand.Reading x) (Hand.Writing y) gave h = absurd h
    hand_sought rows bs old new (Hand.Writing x) k gave h = subst (λ g. OnlyTier (λ v. (0 < v) × At old new (pred v) (NodeCounted o)) (found_reply g)) (sym h.1) tt

-- ---- events

module _ {D S R W : Type 0} {d : disks.Ghosts D} (o : objects.Ghosts S R W) (r : reads.Ghosts R) (w : writes.Ghosts W) where
  -- an event that can only answer the fault of a tier or of the journal
  pub caused_from : (old new : Core D S R W d w) (who : ℕ) (e : Event) (reply : Reply) → OnlyFrom (TierCounted o old new) (JournalCaused d old.master new.master e) reply → IsCaused d o r w old new who e reply
  caused_from old new who e (Reply.Refused (Refusal.TierFault v)) h = inl h
  caused_from old new who e (Reply.Refused (Refusal.UnderFault s)) h = absurd h
  caused_from old new who e (Reply.Refused Refusal.JournalFault) h = h
  caused_from old new who e Reply.NotReady h = absurd h
  caused_from old new who e reply h = tt

  -- one that can only answer the fault of a tier
  caused_by : (old new : Core D S R W d w) (who : ℕ) (e : Event) (reply : Reply) → OnlyTier (TierCounted o old new) reply → IsCaused d o r w old new who e reply
  caused_by old new who e reply h = caused_from old new who e reply (only_more reply (λ v k. k) (λ never. absurd never) h)

  -- a refusal by a test whose refusals no device gave
  pub refused_caused : (old new : Core D S R W d w) (who : ℕ) (e : Event) (t : Option Reply) (why : Refusal) → IfSome t IsCalm → t ≡ Some (Reply.Refused why) → IsCaused d o r w old new who e (Reply.Refused why)
  refused_caused old new who e t why calm is = caused_by old new who e (Reply.Refused why) (only_more (Reply.Refused why) (λ v h. absurd h) (λ never. never) (subst (λ q. IfSome q IsCalm) is calm))

  -- so it is after a hand was taken out, and before it is put back
  caused_within : (a b c z : Core D S R W d w) (who : ℕ) (e : Event) (reply : Reply) → b.workers ≡ a.workers → z.workers ≡ c.workers → OnlyTier (TierCounted o b c) reply → IsCaused d o r w a z who e reply
  caused_within a b c z who e reply before after h = caused_by a z who e reply (only_more reply (λ v. counted_within o a b c z v before after) (λ never. never) h)

  -- a source was sought
  pub next_caused : (a b c z : Core D S R W d w) (who : ℕ) (e : Event) → b.workers ≡ a.workers → z.workers ≡ c.workers → (rows : List NodeRow) (bs : ℕ) (h k : Hand R W) (gave : Found) → HandSeeks o r rows bs b.workers.items c.workers.items h k gave → (reply : Reply) → reply ≡ found_reply gave → IsCaused d o r w a z who e reply
  next_caused a b c z who e before after rows bs h k gave found reply is = subst (IsCaused d o r w a z who e) (sym is) (caused_within a b c z who e (found_reply gave) before after (hand_sought o r rows bs b.workers.items c.workers.items h k gave found))

  -- ---- a hand that was taken out of its label and put back

  module _ (old mid new : Core D S R W d w) (who : ℕ) (l k : List ℕ) (t u : Hand R W) (same : k ≡ l) (ended : ChangesAt old.hands.items mid.hands.items (pred who) (EndsHand l t)) (added : ChangesAt mid.hands.items new.hands.items (pred who) (AddsHand k u)) where
    at_label : (P : Hand R W → Hand R W → Type 0) → P t u → AtLabel o r w old new who l P
    at_label P holds = at_set P (pred who) l t u old.hands.items new.hands.items (sets_hand (pred who) l k t u old.hands.items mid.hands.items new.hands.items same ended added) holds

  -- a poll, by what it gave
  stream_polled : (old new : Core D S R W d w) (who : ℕ) (l : List ℕ) (block max : ℕ) (x y : Stream R) (gave : Gave) → PollOf r block max x y gave → ((P : Hand R W → Hand R W → Type 0) → P (Hand.Reading x) (Hand.Reading y) → AtLabel o r w old new who l P) → IsCaused d o r w old new who (Event.Poll l max) (reply_of gave)
  stream_polled old new who l block max x y Gave.NotReady reads at =
      let found = there_is (λ b. (b.failed ≡ false) × SourcePolls r max b y.source Gave.NotReady) x.source reads.source in
      let then_ = there_is (Waited r found.0) y.source found.2.1 in
      (found.0.worker, l, refl, at (HandWaited o r w found.0.worker) (rose_both o r w r.waits x.source y.source found.0 then_.0 found.1 then_.1 then_.2.unsteady then_.2.rose))
  stream_polled old new who l block max x y (Gave.Fault v) reads at =
      let found = there_is (λ b. (b.failed ≡ false) × SourcePolls r max b y.source (Gave.Fault v)) x.source reads.source in
      let then_ = there_is (Lost r found.0) y.source found.2.1.1 in
      inr (l, refl, at (HandRose o r w v) (subst (λ q. HandRose o r w q (Hand.Reading x) (Hand.Reading y)) (sym found.2.1.0) (rose_both o r w r.faults x.source y.source found.0 then_.0 found.1 then_.1 then_.2.unsteady then_.2.rose)))
  stream_polled old new who l block max x y gave reads at = tt

  hand_polled : (old new : Core D S R W d w) (who : ℕ) (l : List ℕ) (block max : ℕ) (t u : Hand R W) (gave : Gave) → HandPolls r block max t u gave → ((P : Hand R W → Hand R W → Type 0) → P t u → AtLabel o r w old new who l P) → IsCaused d o r w old new who (Event.Poll l max) (reply_of gave)
  hand_polled old new who l block max (Hand.Reading x) (Hand.Reading y) gave h at = stream_polled old new who l block max x y gave h at
  hand_polled old new who l block max (Hand.Reading x) (Hand.Writing y) gave h at = absurd h
  hand_polled old new who l block max (Hand.Writing x) u gave h at = subst (λ g. IsCaused d o r w old new who (Event.Poll l max) (reply_of g)) (sym h.1) tt

  pub poll_caused : (old mid new : Core D S R W d w) (who : ℕ) (l k : List ℕ) (t u : Hand R W) → k ≡ l → ChangesAt old.hands.items mid.hands.items (pred who) (EndsHand l t) → ChangesAt mid.hands.items new.hands.items (pred who) (AddsHand k u) → (block max : ℕ) (gave : Gave) → HandPolls r block max t u gave → (reply : Reply) → reply ≡ reply_of gave → IsCaused d o r w old new who (Event.Poll l max) reply
  poll_caused old mid new who l k t u same ended added block max gave h reply is = subst (IsCaused d o r w old new who (Event.Poll l max)) (sym is) (hand_polled old new who l block max t u gave h (at_label old mid new who l k t u same ended added))

  -- a put, by how it ended
  writer_put : (old new : Core D S R W d w) (who : ℕ) (l : List ℕ) (block : ℕ) (fill : Fill) (x y : Writer W) (end : PutEnd) → DidPut w block fill end x y → ((P : Hand R W → Hand R W → Type 0) → P (Hand.Writing x) (Hand.Writing y) → AtLabel o r w old new who l P) → IsCaused d o r w old new who (Event.Put l fill) (put_reply end)
  writer_put old new who l block fill x y (PutEnd.TierFault v) did at = inr (l, refl, at (HandRose o r w v) (sym did.1, did.2.unsteady, did.2.rose))
  writer_put old new who l block fill x y (PutEnd.UnderFault s) did at = (l, refl, at (UnderRose o r w s) did.1)
  writer_put old new who l block fill x y end did at = tt

  hand_put : (old new : Core D S R W d w) (who : ℕ) (l : List ℕ) (block : ℕ) (fill : Fill) (t u : Hand R W) (end : PutEnd) → DidIn w block fill end t u → ((P : Hand R W → Hand R W → Type 0) → P t u → AtLabel o r w old new who l P) → IsCaused d o r w old new who (Event.Put l fill) (put_reply end)
  hand_put old new who l block fill (Hand.Reading x) u end did at = subst (λ g. IsCaused d o r w old new who (Event.Put l fill) (put_reply g)) (sym did.0) tt
  hand_put old new who l block fill (Hand.Writing x) (Hand.Reading y) end did at = absurd did
  hand_put old new who l block fill (Hand.Writing x) (Hand.Writing y) end did at = writer_put old new who l block fill x y end did at

  pub put_caused : (old mid new : Core D S R W d w) (who : ℕ) (l k : List ℕ) (t u : Hand R W) → k ≡ l → ChangesAt old.hands.items mid.hands.items (pred who) (EndsHand l t) → ChangesAt mid.hands.items new.hands.items (pred who) (AddsHand k u) → (block : ℕ) (fill : Fill) (end : PutEnd) → DidIn w block fill end t u → (reply : Reply) → reply ≡ put_reply end → IsCaused d o r w old new who (Event.Put l fill) reply
  put_caused old mid new who l k t u same ended added block fill end did reply is = subst (IsCaused d o r w old new who (Event.Put l fill)) (sym is) (hand_put old new who l block fill t u end did (at_label old mid new who l k t u same ended added))
