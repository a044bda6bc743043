-- Over media that tell that they are steady what is under labels stays steady: each event's answer is a line of these.
use Rattle.std.proofs.Common.{◌≡◌, ℕ, arith, true, false, Bool, List, length, map, pred, get_or, Option, Some, None, inl, inr, refl, sym, ap, ◌∙◌, subst}
use Rattle.std.specs.Prelude.{IfSome, IsSomeAnd, option_and_then, option_map, slice_get, if◌then◌else◌}
use Rattle.std.proofs.lemmas.Bool.{cases_lt}
use Rattle.std.specs.Global.{Vec}
use Rattle.std.specs.List.{All}
use Rattle.std.proofs.lemmas.Option.{same_Some, slice_get-map}
use Rattle.fs_model.specs.declared.event.Event.{Event}
use Rattle.fs_model.specs.declared.event.Fill.{Fill}
use Rattle.fs_model.specs.declared.reply.Reply.{Reply}
use Rattle.fs_model.specs.declared.reply.Refusal.{Refusal}
use Rattle.fs_model.specs.State.{NodeRow}
use Rattle.fs_model.specs.Words.{name_eq}
use Rattle.outside.specs.Causes.{Rose}
use Rattle.outside.specs.declared.media.Media.{Media}
use Rattle.outside.specs.declared.disk.Disk as disks
use Rattle.outside.specs.declared.objects.Objects as objects
use Rattle.outside.specs.declared.objects.ObjectRead as reads
use Rattle.outside.specs.declared.objects.ObjectWrite as writes
use Rattle.file_writer.specs.declared.parts.Block.{Block}
use Rattle.file_writer.specs.Parts.{is_block_steady, is_object_steady}
use Rattle.file_writer.specs.Pens.{is_pen_steady, writer_of}
use Rattle.file_writer.specs.declared.pen.Pen.{Pen}
use Rattle.file_writer.specs.Writing.{Writing, block_writer, without_writer}
use Rattle.tier_book.specs.Rows.{fitting}
use Rattle.cluster_core.specs.Begun.{HasNone}
use Rattle.cluster_core.specs.Causes.{IsCaused, JournalCaused, OnlyFrom, TierCounted, UnderRose}
use Rattle.cluster_core.specs.Committed.{closed_bytes, closed_writer}
use Rattle.cluster_core.specs.Goes.{AtLabel, HandRose, HandWaited, SourceRose}
use Rattle.cluster_core.specs.HandChanges.{AddsHand, EndsHand, KeepsHands}
use Rattle.cluster_core.specs.LabelsView.{LabelsView, hand_in}
use Rattle.cluster_core.specs.Kept.{KeepsRest}
use Rattle.cluster_core.specs.Media.{MediaStays, NodesStay}
use Rattle.cluster_core.specs.Opened.{OpensBlock, SameBytes, WritesAt}
use Rattle.cluster_core.specs.Polls.{HandPolls, PollOf, Reads, SourcePolls}
use Rattle.cluster_core.specs.Putting.{DidIn, DidPut}
use Rattle.cluster_core.specs.Seeks.{HandSeeks, NewSource, SeeksOf, copy_at, wanted}
use Rattle.cluster_core.specs.Steady.{HandsSteady, IsHandSteady, IsSteady, MediaSteady, TiersSteady}
use Rattle.cluster_core.specs.Tiers.{ChangesAt}
use Rattle.cluster_core.specs.declared.cluster.Core.{Core}
use Rattle.cluster_core.specs.declared.hand.BlockSource.{BlockSource}
use Rattle.cluster_core.specs.declared.hand.Hand.{Hand}
use Rattle.cluster_core.specs.declared.hand.Stream.{Stream}
use Rattle.cluster_core.specs.declared.hand.Writer.{Writer}
use Rattle.cluster_core.specs.declared.node.Node.{Node}
use Rattle.cluster_core.specs.declared.polling.Gave.{Gave}
use Rattle.cluster_core.specs.declared.putting.PutEnd.{PutEnd}
use Rattle.cluster_core.specs.declared.reading.Found.{Found}
use Rattle.cluster_core.proofs.FirstState.{all_got}
use Rattle.cluster_core.proofs.MediaStay.{each_has, media_kept, still_there, there}
use Rattle.cluster_core.proofs.NodeChanges.{both_there}
use Rattle.cluster_core.proofs.StreamsGo.{there_is}

-- what is and isn't so
both_ways : {P : Type 0} (b : Bool) → b ≡ true → b ≡ false → P
both_ways b is not_so = absurd (never (sym is ∙ not_so))
  where
    never : true ≡ false → ⊥
    never e = cc

-- ---- tiers

module _ {S R W : Type 0} (o : objects.Ghosts S R W) where
  -- tiers that were steady are, where media stay
  pub tiers_after : (old new : List (Node S)) → NodesStay o old new → TiersSteady o old → TiersSteady o new
  tiers_after old new stay steady i t m u at in_tier =
      let n = get_or old i m in
      let was = still_there new old i m (sym stay.same_length) at in
      let stays = stay.each i n m was at in
      let s = get_or n.tiers.items t u in
      let held = still_there m.tiers.items n.tiers.items t u (sym stays.same_length) in_tier in
      stays.steady t s u held in_tier ∙ steady i t n s was held

-- ---- labels

module _ {R W : Type 0} (r : reads.Ghosts R) (w : writes.Ghosts W) where
  -- the hands of one actor are steady
  abbrev RowSteady : LabelsView (Hand R W) → Type 0
  RowSteady s = (l : List ℕ) (h : Hand R W) → hand_in s l ≡ Some h → IsHandSteady r w h

  -- where one actor's labels change so that they stay steady, all do
  row_after : {P : LabelsView (Hand R W) → LabelsView (Hand R W) → Type 0} (old new : List (LabelsView (Hand R W))) (i : ℕ) → ChangesAt old new i P → ((s u : LabelsView (Hand R W)) → P s u → RowSteady s → RowSteady u) → HandsSteady r w old → HandsSteady r w new
  row_after old new i change gives steady j l u h at in_row =
      let s = get_or old j u in
      let was = still_there new old j u (sym change.same_length) at in
      each_has old new i change gives (λ s same. same) j s u was at (λ m k is. steady j m s k was is) l h in_row

  -- each label has what it had
  pub hands_kept : (old new : List (LabelsView (Hand R W))) (i : ℕ) → ChangesAt old new i KeepsHands → HandsSteady r w old → HandsSteady r w new
  hands_kept old new i change = row_after old new i change (λ s u kept same l h is. same l h (sym (kept.hands l) ∙ is))

  -- a label was ended
  pub hands_ended : (old new : List (LabelsView (Hand R W))) (i : ℕ) (l : List ℕ) (t : Hand R W) → ChangesAt old new i (EndsHand l t) → HandsSteady r w old → HandsSteady r w new
  hands_ended old new i l t change = row_after old new i change (λ s u ends same m h is. by_name s u ends same m h (name_eq l m) refl is)
    where
      by_name : (s u : LabelsView (Hand R W)) → EndsHand l t s u → RowSteady s → (m : List ℕ) (h : Hand R W) (b : Bool) → name_eq l m ≡ b → hand_in u m ≡ Some h → IsHandSteady r w h
      by_name s u ends same m h true mine is = absurd (never (sym (ends.hands m ∙ ap (λ b. if b then None else hand_in s m) mine) ∙ is))
        where
          never : None ≡ Some h → ⊥
          never e = cc
      by_name s u ends same m h false other is = same m h (sym (ends.hands m ∙ ap (λ b. if b then None else hand_in s m) other) ∙ is)

  -- what was ended was steady
  pub ended_was : (old new : List (LabelsView (Hand R W))) (i : ℕ) (l : List ℕ) (t : Hand R W) → ChangesAt old new i (EndsHand l t) → HandsSteady r w old → IsHandSteady r w t
  ended_was old new i l t change steady = by_old (slice_get old i) refl change.at
    where
      by_old : (x : Option (LabelsView (Hand R W))) → slice_get old i ≡ x → IsSomeAnd x (λ s. IsSomeAnd (slice_get new i) (λ u. EndsHand l t s u)) → IsHandSteady r w t
      by_old None is h = absurd h
      by_old (Some s) is h = let ends = there (slice_get new i) h in steady i l s t is ends.1.there

  -- a label has something steady
  pub hands_added : (old new : List (LabelsView (Hand R W))) (i : ℕ) (l : List ℕ) (t : Hand R W) → ChangesAt old new i (AddsHand l t) → IsHandSteady r w t → HandsSteady r w old → HandsSteady r w new
  hands_added old new i l t change good = row_after old new i change (λ s u adds same m h is. by_name s u adds same m h (name_eq l m) refl is)
    where
      by_name : (s u : LabelsView (Hand R W)) → AddsHand l t s u → RowSteady s → (m : List ℕ) (h : Hand R W) (b : Bool) → name_eq l m ≡ b → hand_in u m ≡ Some h → IsHandSteady r w h
      by_name s u adds same m h true mine is = subst (IsHandSteady r w) (same_Some t h (sym (adds.hands m ∙ ap (λ b. if b then Some t else hand_in s m) mine) ∙ is)) good
      by_name s u adds same m h false other is = same m h (sym (adds.hands m ∙ ap (λ b. if b then Some t else hand_in s m) other) ∙ is)

  -- ---- a poll

  source_polled : (room : ℕ) (b : BlockSource R) (after : Option (BlockSource R)) (gave : Gave) → SourcePolls r room b after gave → r.steady b.stream.reader ≡ true → IfSome after (λ z. r.steady z.stream.reader ≡ true)
  source_polled room b None gave h steady = tt
  source_polled room b (Some z) (Gave.Given bytes) h steady = elim (cases_lt (length bytes) (r.to_give b.stream.reader)) [
    | inl part ↦ (h.goes part).steady ∙ steady
    | inr all ↦ absurd (never (h.ends (omega (arith, all, h.due))))
  ]
    where
      never : Some z ≡ None → ⊥
      never e = cc
  source_polled room b (Some z) Gave.NotReady h steady = both_ways (r.steady b.stream.reader) steady h.unsteady
  source_polled room b (Some z) (Gave.Fault v) h steady = both_ways (r.steady b.stream.reader) steady h.1.unsteady
  source_polled room b (Some z) Gave.BadLabel h steady = absurd h
  source_polled room b (Some z) Gave.End h steady = absurd h
  source_polled room b (Some z) (Gave.NeedsBlock n) h steady = absurd h
  source_polled room b (Some z) Gave.Memory h steady = absurd h

  same_stream : (x y : Stream R) → y ≡ x → IsHandSteady r w (Hand.Reading x) → IsHandSteady r w (Hand.Reading y)
  same_stream x y same steady = subst (λ q. IsHandSteady r w (Hand.Reading q)) (sym same) steady

  stream_read : (max moved : ℕ) (x y : Stream R) (gave : Gave) → Reads r max x y gave moved → IsHandSteady r w (Hand.Reading x) → IsHandSteady r w (Hand.Reading y)
  stream_read max moved x y gave reads steady =
      let found = there_is (λ b. (b.failed ≡ false) × SourcePolls r max b y.source gave) x.source reads.source in
      source_polled max found.0 y.source gave found.2.1 (subst (λ q. IfSome q (λ b. r.steady b.stream.reader ≡ true)) found.1 steady)

  stream_polled : (block max : ℕ) (x y : Stream R) (gave : Gave) → PollOf r block max x y gave → IsHandSteady r w (Hand.Reading x) → IsHandSteady r w (Hand.Reading y)
  stream_polled block max x y Gave.BadLabel h steady = absurd h
  stream_polled block max x y Gave.End h steady = same_stream x y h.1 steady
  stream_polled block max x y (Gave.NeedsBlock n) h steady = same_stream x y h.2 steady
  stream_polled block max x y (Gave.Given bytes) h steady = stream_read max (length bytes) x y (Gave.Given bytes) h steady
  stream_polled block max x y Gave.NotReady h steady = stream_read max 0 x y Gave.NotReady h steady
  stream_polled block max x y (Gave.Fault v) h steady = stream_read max 0 x y (Gave.Fault v) h steady
  stream_polled block max x y Gave.Memory h steady = same_stream x y h steady

  pub hand_polled : (block max : ℕ) (t u : Hand R W) (gave : Gave) → HandPolls r block max t u gave → IsHandSteady r w t → IsHandSteady r w u
  hand_polled block max (Hand.Reading x) (Hand.Reading y) gave h steady = stream_polled block max x y gave h steady
  hand_polled block max (Hand.Reading x) (Hand.Writing y) gave h steady = absurd h
  hand_polled block max (Hand.Writing x) u gave h steady = subst (IsHandSteady r w) (sym h.0) steady

  -- ---- a put

  pub writer_same : (x y : Writer W) → y ≡ x → IsHandSteady r w (Hand.Writing x) → IsHandSteady r w (Hand.Writing y)
  writer_same x y same steady = subst (λ q. IsHandSteady r w (Hand.Writing q)) (sym same) steady

  writer_put : (bs : ℕ) (fill : Fill) (end : PutEnd) (x y : Writer W) → DidPut w bs fill end x y → IsHandSteady r w (Hand.Writing x) → IsHandSteady r w (Hand.Writing y)
  writer_put bs fill PutEnd.BadLabel x y did steady = writer_same x y did.1 steady
  writer_put bs fill PutEnd.NeedsRoom x y did steady = writer_same x y did.2 steady
  writer_put bs fill PutEnd.Short x y did steady = writer_same x y did.3 steady
  writer_put bs fill (PutEnd.Taken n) x y did steady = (did.2.block_steady ∙ steady.0, did.2.object_steady ∙ steady.1)
  writer_put bs fill (PutEnd.TierFault v) x y did steady = both_ways (is_block_steady w x.bytes.block) steady.0 did.2.unsteady
  writer_put bs fill (PutEnd.UnderFault s) x y did steady = both_ways (is_object_steady w x.bytes.object) steady.1 did.1.1

  pub hand_put : (bs : ℕ) (fill : Fill) (end : PutEnd) (t u : Hand R W) → DidIn w bs fill end t u → IsHandSteady r w t → IsHandSteady r w u
  hand_put bs fill end (Hand.Reading x) u did steady = subst (IsHandSteady r w) (sym did.1) steady
  hand_put bs fill end (Hand.Writing x) (Hand.Reading y) did steady = absurd did
  hand_put bs fill end (Hand.Writing x) (Hand.Writing y) did steady = writer_put bs fill end x y did steady

  -- ---- a new block

  no_writer : (b : Option (Block W)) → is_block_steady w (option_map without_writer b) ≡ true
  no_writer None = refl
  no_writer (Some b) = refl

  closed_bytes_steady : (room : Option ℕ) (x : Writing W) → is_block_steady w x.block ≡ true → is_object_steady w x.object ≡ true → (is_block_steady w (closed_bytes room x).block ≡ true) × (is_object_steady w (closed_bytes room x).object ≡ true)
  closed_bytes_steady None x block object = (block, object)
  closed_bytes_steady (Some n) x block object = (no_writer x.block, object)

  -- the block of a writer was committed
  pub writer_closed : (broken : Bool) (x y : Writer W) → y ≡ closed_writer broken x → IsHandSteady r w (Hand.Writing x) → IsHandSteady r w (Hand.Writing y)
  writer_closed broken x y is steady = writer_same (closed_writer broken x) y is (closed_bytes_steady x.room x.bytes steady.0 steady.1)

  -- a writer is as it was, but for room that its object may have got
  pub same_steady : (x y : Writer W) → SameBytes w x y → IsHandSteady r w (Hand.Writing x) → IsHandSteady r w (Hand.Writing y)
  same_steady x y same steady = (ap (λ (z : Writing W). is_block_steady w z.block) same.bytes ∙ steady.0, same.steady ∙ steady.1)

  pen_steady : (pen : Pen W) (p : W) → writer_of pen ≡ Some p → w.steady p ≡ true → is_pen_steady w pen ≡ true
  pen_steady (Pen.Open q) p is steady = ap w.steady (same_Some q p is) ∙ steady
  pen_steady (Pen.Broken q) p is steady = ap w.steady (same_Some q p is) ∙ steady
  pen_steady Pen.Gone p is steady = refl

  block_steady : (b : Option (Block W)) (p : W) → option_and_then (λ q. writer_of q.pen) b ≡ Some p → w.steady p ≡ true → is_block_steady w b ≡ true
  block_steady None p is steady = refl
  block_steady (Some b) p is steady = pen_steady b.pen p is steady

  module _ {S : Type 0} (o : objects.Ghosts S R W) where
    -- a block was opened at a worker
    pub opened_steady : (nodes : List (Node S)) (i len : ℕ) (x y : Writer W) → OpensBlock w x y → IsSomeAnd (slice_get nodes i) (WritesAt o len (block_writer y.bytes) w) → TiersSteady o nodes → IsHandSteady r w (Hand.Writing x) → IsHandSteady r w (Hand.Writing y)
    opened_steady nodes i len x y opens writes tiers steady =
        let node = there_is (WritesAt o len (block_writer y.bytes) w) (slice_get nodes i) writes in
        let n = node.0 in
        let fits = there_is (λ t. IsSomeAnd (slice_get n.tiers.items t) (λ s. IsSomeAnd (block_writer y.bytes) (λ p. o.steady s ≡ true → w.steady p ≡ true))) (fitting n.book len) node.2 in
        let tier = there_is (λ s. IsSomeAnd (block_writer y.bytes) (λ p. o.steady s ≡ true → w.steady p ≡ true)) (slice_get n.tiers.items fits.0) fits.2 in
        let pen = there_is (λ p. o.steady tier.0 ≡ true → w.steady p ≡ true) (block_writer y.bytes) tier.2 in
        (block_steady y.bytes.block pen.0 pen.1 (pen.2 (tiers i fits.0 n tier.0 node.1 tier.1)), opens.steady ∙ steady.1)

    -- ---- a search for a source

    new_source : (bs : ℕ) (old new : List (Node S)) (x y : Stream R) (t : ℕ) → IsSomeAnd y.source (NewSource o r bs x old new t) → TiersSteady o old → IsHandSteady r w (Hand.Reading y)
    new_source bs old new x y t h tiers =
        let source = there_is (NewSource o r bs x old new t) y.source h in
        let z = source.0 in
        let both = both_there (slice_get old 0) (slice_get new 0) source.2.row.at in
        let n = both.0 in
        let copy = there (copy_at x.file (wanted o r bs x) (Some n)) both.4 in
        let tier = there_is (λ s. o.steady s ≡ true → r.steady z.stream.reader ≡ true) (slice_get n.tiers.items copy.0.tier) copy.1.reads in
        subst (λ q. IfSome q (λ b. r.steady b.stream.reader ≡ true)) (sym source.1) (tier.2 (tiers 0 copy.0.tier n tier.0 both.2 tier.1))

    stream_sought : (rows : List NodeRow) (bs : ℕ) (old new : List (Node S)) (x y : Stream R) (gave : Found) → SeeksOf o r rows bs old new x y gave → TiersSteady o old → IsHandSteady r w (Hand.Reading x) → IsHandSteady r w (Hand.Reading y)
    stream_sought rows bs old new x y Found.BadLabel h tiers steady = absurd h
    stream_sought rows bs old new x y Found.Stopped h tiers steady = same_stream x y h.0 steady
    stream_sought rows bs old new x y Found.NotFound h tiers steady = same_stream x y h.1 steady
    stream_sought rows bs old new x y Found.End h tiers steady = subst (λ q. IfSome q (λ b. r.steady b.stream.reader ≡ true)) (sym h.3) tt
    stream_sought rows bs old new x y (Found.Still v t) h tiers steady = same_stream x y h.3 steady
    stream_sought rows bs old new x y (Found.Opened t) h tiers steady = new_source bs old new x y t h.2 tiers
    stream_sought rows bs old new x y (Found.Unavailable b) h tiers steady = same_stream x y h.3 steady
    stream_sought rows bs old new x y Found.Fault h tiers steady = same_stream x y h.3 steady
    stream_sought rows bs old new x y Found.Memory h tiers steady = same_stream x y h.2 steady

    pub hand_sought : (rows : List NodeRow) (bs : ℕ) (old new : List (Node S)) (t u : Hand R W) (gave : Found) → HandSeeks o r rows bs old new t u gave → TiersSteady o old → IsHandSteady r w t → IsHandSteady r w u
    hand_sought rows bs old new (Hand.Reading x) (Hand.Reading y) gave h tiers steady = stream_sought rows bs old new x y gave h tiers steady
    hand_sought rows bs old new (Hand.Reading x) (Hand.Writing y) gave h tiers steady = absurd h
    hand_sought rows bs old new (Hand.Writing x) u gave h tiers steady = subst (IsHandSteady r w) (sym h.0) steady

-- ---- cores

module _ {D S R W : Type 0} {d : disks.Ghosts D} (o : objects.Ghosts S R W) (r : reads.Ghosts R) (w : writes.Ghosts W) where
  -- neither workers nor labels changed
  pub steady_same : {a b : Core D S R W d w} → b.workers ≡ a.workers → b.hands ≡ a.hands → IsSteady d o r w a → IsSteady d o r w b
  steady_same {a} {b} workers hands steady = record {
    tiers = subst (λ v. TiersSteady o v.items) (sym workers) steady.tiers;
    hands = subst (λ v. HandsSteady r w v.items) (sym hands) steady.hands;
  }

  -- media stay, and what is under labels stays steady
  pub steady_by : {a b : Core D S R W d w} → MediaStays d o a b → (HandsSteady r w a.hands.items → HandsSteady r w b.hands.items) → IsSteady d o r w a → IsSteady d o r w b
  steady_by {a} {b} media hands steady = record {
    tiers = tiers_after o a.workers.items b.workers.items media.workers steady.tiers;
    hands = hands steady.hands;
  }

  -- so it is where no label changed
  pub steady_still : {a b : Core D S R W d w} → MediaStays d o a b → b.hands ≡ a.hands → IsSteady d o r w a → IsSteady d o r w b
  steady_still {a} {b} media same = steady_by media (subst (λ v. HandsSteady r w v.items) (sym same))

  -- a label kept what it had, got something, or lost it; and the workers are as they were
  pub steady_kept : {a b : Core D S R W d w} (i : ℕ) → KeepsRest a b → b.workers ≡ a.workers → ChangesAt a.hands.items b.hands.items i KeepsHands → IsSteady d o r w a → IsSteady d o r w b
  steady_kept {a} {b} i rest workers change = steady_by (media_kept o rest workers) (hands_kept r w a.hands.items b.hands.items i change)

  pub steady_ended : {a b : Core D S R W d w} (i : ℕ) (l : List ℕ) (t : Hand R W) → KeepsRest a b → b.workers ≡ a.workers → ChangesAt a.hands.items b.hands.items i (EndsHand l t) → IsSteady d o r w a → IsSteady d o r w b
  steady_ended {a} {b} i l t rest workers change = steady_by (media_kept o rest workers) (hands_ended r w a.hands.items b.hands.items i l t change)

  pub steady_added : {a b : Core D S R W d w} (i : ℕ) (l : List ℕ) (t : Hand R W) → KeepsRest a b → b.workers ≡ a.workers → ChangesAt a.hands.items b.hands.items i (AddsHand l t) → IsHandSteady r w t → IsSteady d o r w a → IsSteady d o r w b
  steady_added {a} {b} i l t rest workers change good = steady_by (media_kept o rest workers) (hands_added r w a.hands.items b.hands.items i l t change good)

  -- a core without labels over steady tiers
  pub first_steady : (core : Core D S R W d w) (m : Media D S) → map (λ n. n.tiers) core.workers.items ≡ m.tiers.items → All HasNone core.hands.items → MediaSteady o m → IsSteady d o r w core
  first_steady core m over none good = record {
    tiers = λ i t n s at in_tier.
        let held : slice_get m.tiers.items i ≡ Some n.tiers = ap (λ l. slice_get l i) (sym over) ∙ slice_get-map (λ (n : Node S). n.tiers) core.workers.items i ∙ ap (option_map (λ (n : Node S). n.tiers)) at in
        all_got (λ s. o.steady s ≡ true) n.tiers.items t s (all_got (λ (v : Vec S). All (λ s. o.steady s ≡ true) v.items) m.tiers.items i n.tiers good held) in_tier;
    hands = λ i l s h at in_row.
        let empty : HasNone s = all_got HasNone core.hands.items i s none at in
        absurd (never h (sym (empty.hands l) ∙ in_row));
  }
    where
      never : (h : Hand R W) → None ≡ Some h → ⊥
      never h e = cc

-- ---- causes

module _ {S R W : Type 0} (o : objects.Ghosts S R W) (r : reads.Ghosts R) (w : writes.Ghosts W) where
  -- what a count that isn't steady belongs to isn't steady
  source_not : (count : R → ℕ) (v : ℕ) (p q : Option (BlockSource R)) → SourceRose o r w count v p q → IfSome p (λ b. r.steady b.stream.reader ≡ true) → ⊥
  source_not count v p q rose steady =
      let was = there_is (λ b. IsSomeAnd q (λ z. (b.worker ≡ v) × (r.steady b.stream.reader ≡ false) × Rose (count b.stream.reader) (count z.stream.reader))) p rose in
      let now = there q was.2 in
      let good : r.steady was.0.stream.reader ≡ true = subst (λ x. IfSome x (λ b. r.steady b.stream.reader ≡ true)) was.1 steady in
      both_ways (r.steady was.0.stream.reader) good now.1.1

  rose_not : (v : ℕ) (h k : Hand R W) → HandRose o r w v h k → IsHandSteady r w h → ⊥
  rose_not v (Hand.Reading x) (Hand.Reading y) rose steady = source_not r.faults v x.source y.source rose steady
  rose_not v (Hand.Writing x) (Hand.Writing y) rose steady = both_ways (is_block_steady w x.bytes.block) steady.0 rose.1
  rose_not v (Hand.Reading x) (Hand.Writing y) rose steady = absurd rose
  rose_not v (Hand.Writing x) (Hand.Reading y) rose steady = absurd rose

  waited_not : (v : ℕ) (h k : Hand R W) → HandWaited o r w v h k → IsHandSteady r w h → ⊥
  waited_not v (Hand.Reading x) (Hand.Reading y) rose steady = source_not r.waits v x.source y.source rose steady
  waited_not v (Hand.Reading x) (Hand.Writing y) rose steady = absurd rose
  waited_not v (Hand.Writing x) k rose steady = absurd rose

  under_not : (s : ℕ) (h k : Hand R W) → UnderRose o r w s h k → IsHandSteady r w h → ⊥
  under_not s (Hand.Writing x) (Hand.Writing y) rose steady = both_ways (is_object_steady w x.bytes.object) steady.1 rose.1
  under_not s (Hand.Writing x) (Hand.Reading y) rose steady = absurd rose
  under_not s (Hand.Reading x) k rose steady = absurd rose

module _ {D S R W : Type 0} {d : disks.Ghosts D} (o : objects.Ghosts S R W) (r : reads.Ghosts R) (w : writes.Ghosts W) where
  -- so it is under a label
  label_not : (P : Hand R W → Hand R W → Type 0) → ((h k : Hand R W) → P h k → IsHandSteady r w h → ⊥) → (old new : Core D S R W d w) (who : ℕ) (l : List ℕ) → AtLabel o r w old new who l P → IsSteady d o r w old → ⊥
  label_not P gives old new who l at steady =
      let rows = both_there (slice_get old.hands.items (pred who)) (slice_get new.hands.items (pred who)) at in
      let was = there_is (λ h. IsSomeAnd (hand_in rows.1 l) (λ k. P h k)) (hand_in rows.0 l) rows.4 in
      let now = there (hand_in rows.1 l) was.2 in
      gives was.0 now.0 now.1 (steady.hands (pred who) l rows.0 was.0 rows.2 was.1)

  pub hand_rose_not : (old new : Core D S R W d w) (who v : ℕ) (l : List ℕ) → AtLabel o r w old new who l (HandRose o r w v) → IsSteady d o r w old → ⊥
  hand_rose_not old new who v l = label_not (HandRose o r w v) (rose_not o r w v) old new who l

  pub hand_waited_not : (old new : Core D S R W d w) (who v : ℕ) (l : List ℕ) → AtLabel o r w old new who l (HandWaited o r w v) → IsSteady d o r w old → ⊥
  hand_waited_not old new who v l = label_not (HandWaited o r w v) (waited_not o r w v) old new who l

  -- over steady media nothing but a tier's own count, or what makes the journal fail, is the cause of a fault, and nothing waits
  pub caused_by_tier : (old new : Core D S R W d w) (who : ℕ) (e : Event) (reply : Reply) → IsSteady d o r w old → IsCaused d o r w old new who e reply → OnlyFrom (TierCounted o old new) (JournalCaused d old.master new.master e) reply
  caused_by_tier old new who e (Reply.Refused (Refusal.TierFault v)) steady (inl counted) = counted
  caused_by_tier old new who e (Reply.Refused (Refusal.TierFault v)) steady (inr h) = absurd (hand_rose_not old new who v h.0 h.2 steady)
  caused_by_tier old new who e (Reply.Refused (Refusal.UnderFault s)) steady h = absurd (label_not (UnderRose o r w s) (under_not o r w s) old new who h.0 h.2 steady)
  caused_by_tier old new who e (Reply.Refused Refusal.JournalFault) steady h = h
  caused_by_tier old new who e Reply.NotReady steady h = absurd (hand_waited_not old new who h.0 h.1 h.3 steady)
  caused_by_tier old new who e reply steady h = tt
