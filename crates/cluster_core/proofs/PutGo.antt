-- Bytes into the file of a writer as a step of the file machine.
use Rattle.std.proofs.Common.{◌≡◌, ℕ, suc, pred, ◌+◌, ◌*◌, ◌<◌, ◌≤◌, min, Bool, true, false, not, ◌&&◌, ◌||◌, cond, List, ◌++◌, length, take, map, nat_eq, Option, Some, None, is_some, option_map, inl, inr, refl, sym, ap, ◌∙◌, subst, arith}
use Rattle.std.specs.Prelude.{IsSomeAnd, IfSome, slice_get, option_and_then, ◌⊎◌}
use Rattle.std.specs.List.{range_with_len}
use Rattle.std.proofs.lemmas.List.{length-take, length-append}
use Rattle.std.proofs.lemmas.List.FromFn.{take-map-range_with_len, length-map-range_with_len}
use Rattle.std.proofs.lemmas.Bool.{eqb-true}
use Rattle.fs_model.specs.Words.{name_eq}
use Rattle.fs_model.specs.Spelled.{is_actor}
use Rattle.fs_model.specs.declared.setup.Setup.{Setup}
use Rattle.fs_model.specs.declared.label.Label.{Label}
use Rattle.fs_model.specs.declared.event.Event.{Event}
use Rattle.fs_model.specs.declared.event.Fill.{Fill}
use Rattle.fs_model.specs.declared.reply.Reply.{Reply}
use Rattle.fs_model.specs.declared.reply.Refusal.{Refusal}
use Rattle.fs_model.specs.State as machine
use Rattle.fs_model.specs.State.{State, Whole, NodeRow, Content, Hands, OpenBlock}
use Rattle.fs_model.specs.Lookups.{hand_at}
use Rattle.fs_model.specs.Updates.{set_hand}
use Rattle.fs_model.specs.BytesEvents.{writer_at, unbroken_writer, block_wanted, put_refusal, bad_label}
use Rattle.fs_model.specs.BytesOutcomes.{Outcome, BodyAndHands, fill_bytes, fill_len, made_byte, lacks, longer, put_in, put_if, put_by}
use Rattle.fs_model.specs.Faults.{Device, Remains, BlockFate, rose, put_calls, is_store, has_room, publishes, by_writer, put_after_fault, may_fail}
use Rattle.fs_model.specs.Choices.{fault_free}
use Rattle.fs_model.specs.Journaling.{fuse_serves}
use Rattle.fs_model.specs.Machine.{refusal, accepted, own, hands_of, put_back}
use Rattle.fs_model.specs.Step.{Step}
use Rattle.outside.specs.declared.disk.Disk as disks
use Rattle.outside.specs.declared.objects.Objects as objects
use Rattle.outside.specs.declared.objects.ObjectRead as reads
use Rattle.outside.specs.declared.objects.ObjectWrite as writes
use Rattle.file_writer.specs.declared.parts.Block.{Block}
use Rattle.file_writer.specs.Parts.{BlockTakes, ObjectTakes, open_block}
use Rattle.file_writer.specs.Writing.{Writing, OnBlocks, wants_room}
use Rattle.cluster_core.proofs.Named.{serves_none, writes_whole}
use Rattle.cluster_core.specs.Tiers.{ChangesAt}
use Rattle.cluster_core.specs.LabelsView.{LabelsView, hand_in}
use Rattle.cluster_core.specs.HandChanges.{KeepsHands, AddsHand, SetsHand, EndsHand}
use Rattle.cluster_core.specs.HandFits.{Fits, WriterFits, open_of}
use Rattle.cluster_core.specs.Knowledge.{Knowledge, Holder, HasRoomOf, Leaves, with_bytes}
use Rattle.cluster_core.specs.Kept.{KeepsRest}
use Rattle.cluster_core.specs.Putting.{Took, Broke, SameWriter, DidPiece, DidPut, DidIn, ObjectRose, lacking, missing, put_reply}
use Rattle.cluster_core.specs.Stands.{Stands, FilesStand}
use Rattle.cluster_core.specs.Goes.{Goes, Steps, Rises, AtLabel, HandRose, no_rise, tier_rise}
use Rattle.cluster_core.specs.declared.cluster.Core.{Core}
use Rattle.cluster_core.specs.declared.hand.Hand.{Hand}
use Rattle.cluster_core.specs.declared.hand.Writer.{Writer}
use Rattle.cluster_core.specs.declared.node.Node.{Node}
use Rattle.cluster_core.specs.declared.putting.PutEnd.{PutEnd}
use Rattle.cluster_core.proofs.SameLabels.{alike, like_itself}
use Rattle.cluster_core.proofs.Standing.{put_same, stands_by, goes_refused, goes_short}
use Rattle.cluster_core.proofs.Labelled.{fits_at, absent_at, set_there, sets_hand, hands_set, leaves_all}
use Rattle.cluster_core.proofs.Frames.{KnownOn, DoneOn, nodes_stay, files_stay}
use Rattle.cluster_core.proofs.NodeChanges.{changes_by}
use Rattle.cluster_core.proofs.KeptHands.{hands_kept}
use Rattle.cluster_core.proofs.RoomTests.{wanted_by}
use Rattle.cluster_core.proofs.StreamsGo.{tier_rose}
use Rattle.cluster_core.proofs.CloseGo.{by_actor}
use Rattle.cluster_core.proofs.AreaFacts.{areas_known}
use Rattle.cluster_core.proofs.Named.{next_id_is}

-- ---- made bytes

-- what an open block lacks, by its length
missing_is : {W : Type 0} (bs : ℕ) (b : Option (Block W)) → missing bs (option_map (λ (x : Block W). x.len) b) ≡ lacks bs (open_block b)
missing_is bs None = refl
missing_is bs (Some b) = refl

module _ {W : Type 0} (w : writes.Ghosts W) (bs num at len count : ℕ) (old new : Writer W) (piece : List ℕ) (are : piece ≡ map (made_byte num) (range_with_len at count)) (counts : count ≡ min len (missing bs (option_map (λ (b : Block W). b.len) old.bytes.block))) where
  piece_len : length piece ≡ count
  piece_len = ap length are ∙ length-map-range_with_len (made_byte num) at count

  -- the first of the made bytes are the first of the fill's
  same_front : (n : ℕ) → n ≤ count → take n piece ≡ take n (fill_bytes (Fill.Made num at len))
  same_front n few =
      ap (take n) are
      ∙ take-map-range_with_len (made_byte num) at count n few
      ∙ sym (take-map-range_with_len (made_byte num) at len n (omega (arith, few, counts)))

  -- so a put of these bytes is one of the fill
  pub made_did : (end : PutEnd) → DidPiece w piece end old new → old.broken ≡ false → DidPut w bs (Fill.Made num at len) end old new
  made_did PutEnd.BadLabel d whole = absurd d
  made_did PutEnd.NeedsRoom d whole = (whole, d.0, d.1)
  made_did PutEnd.Short d whole = absurd d
  made_did (PutEnd.Taken n) d whole = (
    whole,
    λ size. let most : missing bs (option_map (λ (b : Block W). b.len) old.bytes.block) ≡ lacking old.bytes = missing_is bs old.bytes.block ∙ ap (λ k. lacks k (open_block old.bytes.block)) (sym size) in omega (arith, d.0, piece_len, counts, most),
    subst (λ bytes. Took w bytes old new) (same_front n (omega (arith, d.0, piece_len))) d.1,
  )
  made_did (PutEnd.TierFault v) d whole = (whole, d.0, d.1)
  made_did (PutEnd.UnderFault s) d whole = (whole, d)

-- ---- what is known of the file's bytes

module _ (K : Knowledge) (id next : ℕ) (a : Holder) (bytes more : List ℕ) (mine : K.author id ≡ Some a) (had : K.bytes_of id ≡ Some bytes) where
  bytes_here : (with_bytes id (bytes ++ more) K).bytes_of id ≡ Some (bytes ++ more)
  bytes_here = ap (λ b. cond b (Some (bytes ++ more)) (K.bytes_of id)) (itself id)
    where
      itself : (n : ℕ) → nat_eq n n ≡ true
      itself n = grind arith

  -- a file that isn't this label's keeps its bytes
  bytes_other : (n : ℕ) → (K.author n ≡ Some a → ⊥) → (with_bytes id (bytes ++ more) K).bytes_of n ≡ K.bytes_of n
  bytes_other n other = elim (nat_eq id n) as (λ b. nat_eq id n ≡ b → cond b (Some (bytes ++ more)) (K.bytes_of n) ≡ K.bytes_of n) [
    | true ↦ λ is. absurd (other (ap K.author (sym (eqb-true id n is)) ∙ mine))
    | false ↦ λ isnt. refl
  ] refl

  leaves_put : {S : Type 0} (nodes : List (Node S)) → Leaves a K (with_bytes id (bytes ++ more) K) nodes nodes next next
  leaves_put nodes = record {
    later = omega arith;
    files = λ n few other. (bytes_other n other, refl);
    owners = λ w n b h other. h;
    rooms = λ w started n len b h other there. there;
  }

  known_put : KnownOn K (with_bytes id (bytes ++ more) K) next next
  known_put = record {
    later = omega arith;
    files = λ n few. record { bytes = goes_on n; author = λ h. h };
    owners = λ w n h. h;
  }
    where
      goes_on : (n : ℕ) → ((with_bytes id (bytes ++ more) K).bytes_of n ≡ K.bytes_of n) ⊎ ((extra : List ℕ) × (is_some (K.author n) ≡ true) × ((with_bytes id (bytes ++ more) K).bytes_of n ≡ option_map (λ b. b ++ extra) (K.bytes_of n)))
      goes_on n = elim (nat_eq id n) as (λ b. nat_eq id n ≡ b → (cond b (Some (bytes ++ more)) (K.bytes_of n) ≡ K.bytes_of n) ⊎ ((extra : List ℕ) × (is_some (K.author n) ≡ true) × (cond b (Some (bytes ++ more)) (K.bytes_of n) ≡ option_map (λ b. b ++ extra) (K.bytes_of n)))) [
        | true ↦ λ is. let same : n ≡ id = sym (eqb-true id n is) in inr (more, ap is_some (ap K.author same ∙ mine), sym (ap (option_map (λ b. b ++ more)) (ap K.bytes_of same ∙ had)))
        | false ↦ λ isnt. inl refl
      ] refl

  done_put : DoneOn K (with_bytes id (bytes ++ more) K) next next
  done_put = record {
    later = omega arith;
    files = λ n few none. (bytes_other n (λ mine. let k : None ≡ Some a = sym none ∙ mine in cc), none);
  }

  files_put : (bs : ℕ) (nodes : List NodeRow) (contents : List Content) → FilesStand K next bs nodes contents → FilesStand (with_bytes id (bytes ++ more) K) next bs nodes contents
  files_put bs nodes contents s = record {
    each = files_stay K (with_bytes id (bytes ++ more) K) next next bs done_put contents nodes s.each;
    written = s.written;
    fresh = s.fresh;
  }

-- ---- open blocks on both sides

module _ {W : Type 0} (w : writes.Ghosts W) where
  -- where none is wanted, the open one lacks as much and has a reservation
  lacks_by : (k : ℕ) (n : Option ℕ) (b : Option (Block W)) → block_wanted k (open_block b) ≡ false → (n ≡ None → block_wanted k (open_block b) ≡ true) → lacks k (open_of n b) ≡ lacks k (open_block b)
  lacks_by k None b wanted h = absurd (let t = h refl in cc)
  lacks_by k (Some n) None wanted h = refl
  lacks_by k (Some n) (Some b) wanted h = refl

  room_by : (k : ℕ) (n : Option ℕ) (b : Option (Block W)) → block_wanted k (open_block b) ≡ false → (n ≡ None → block_wanted k (open_block b) ≡ true) → has_room (open_of n b) ≡ true
  room_by k None b wanted h = absurd (let t = h refl in cc)
  room_by k (Some n) None wanted h = absurd (cc)
  room_by k (Some n) (Some b) wanted h = refl

  -- the open block took bytes
  open_more : (piece : List ℕ) (n : Option ℕ) (b c : Option (Block W)) → OnBlocks b c (BlockTakes w piece) → option_map (longer (length piece)) (open_of n b) ≡ open_of n c
  open_more piece None b c h = refl
  open_more piece (Some n) None c h = absurd h
  open_more piece (Some n) (Some b) None h = absurd h
  open_more piece (Some n) (Some b) (Some c) h = sym (ap (λ len. let x : Option OpenBlock = Some (record { room = Some n; len = len }) in x) h.len)

  room_longer : (k : ℕ) (b : Option OpenBlock) → option_and_then (λ (x : OpenBlock). x.room) (option_map (longer k) b) ≡ option_and_then (λ (x : OpenBlock). x.room) b
  room_longer k None = refl
  room_longer k (Some b) = refl

  short_still : (bs : ℕ) (taken piece : List ℕ) (b : Option OpenBlock) → length piece ≤ lacks bs b → length taken + lacks bs b ≤ 65536 * bs → length (taken ++ piece) + lacks bs (option_map (longer (length piece)) b) ≤ 65536 * bs
  short_still bs taken piece None few h = omega (arith, few, h, length-append taken piece)
  short_still bs taken piece (Some b) few h = omega (arith, few, h, length-append taken piece)

  within_by : (piece : List ℕ) (k : ℕ) (b c : Option (Block W)) → OnBlocks b c (BlockTakes w piece) → length piece ≤ lacks k (open_block b) → IfSome b (λ q. q.len ≤ k) → IfSome c (λ q. q.len ≤ k)
  within_by piece k None c h few within = absurd h
  within_by piece k (Some b) None h few within = absurd h
  within_by piece k (Some b) (Some c) h few within = omega (arith, h.len, few, within)

  alone_still : (piece : List ℕ) (x y : Writing W) → x.object ≡ None → ObjectTakes w piece x.object y.object → y.object ≡ None
  alone_still piece x y none t = subst (λ o. ObjectTakes w piece o y.object) none t

-- ---- the writer on both sides

module _ {S W : Type 0} (w : writes.Ghosts W) (K : Knowledge) (nodes : List (Node S)) (next bs : ℕ) (a : Holder) (m : machine.Writer) (x y : Writer W) (fits : WriterFits w K nodes next bs a m x) where
  wanted_is : x.broken ≡ false → block_wanted m.bs m.block ≡ wants_room x.bytes
  wanted_is whole =
      let on = fits.on whole in
      ap (λ k. block_wanted k m.block) (fits.bs ∙ sym fits.blocks) ∙ ap (block_wanted x.bytes.bs) on.block ∙ wanted_by x.bytes.bs x.room x.bytes.block on.wants

  lacks_is : x.broken ≡ false → wants_room x.bytes ≡ false → lacks m.bs m.block ≡ lacking x.bytes
  lacks_is whole wanted =
      let on = fits.on whole in
      ap (λ k. lacks k m.block) (fits.bs ∙ sym fits.blocks) ∙ ap (lacks x.bytes.bs) on.block ∙ lacks_by w x.bytes.bs x.room x.bytes.block wanted on.wants

  room_is : x.broken ≡ false → wants_room x.bytes ≡ false → has_room m.block ≡ true
  room_is whole wanted = let on = fits.on whole in ap has_room on.block ∙ room_by w x.bytes.bs x.room x.bytes.block wanted on.wants

  reserved_same : SameWriter w x y → IfSome y.room (λ n. (K.owner y.worker n ≡ Some a) × HasRoomOf nodes y.worker y.started n bs)
  reserved_same same =
      subst (λ q. IfSome q (λ n. (K.owner y.worker n ≡ Some a) × HasRoomOf nodes y.worker y.started n bs)) (sym same.room)
      (subst (λ v. IfSome x.room (λ n. (K.owner v n ≡ Some a) × HasRoomOf nodes v y.started n bs)) (sym same.worker)
      (subst (λ b. IfSome x.room (λ n. (K.owner x.worker n ≡ Some a) × HasRoomOf nodes x.worker b n bs)) (sym same.started) fits.reserved))

  -- the writer's worker is one still
  placed_still : (SameWriter w x y) → 0 < y.worker
  placed_still same = subst (λ v. 0 < v) (sym same.worker) fits.placed

  -- and the open block isn't longer than a block
  within_still : (piece : List ℕ) → length piece ≤ lacks m.bs m.block → x.broken ≡ false → Took w piece x y → IfSome y.bytes.block (λ q. q.len ≤ y.bytes.bs)
  within_still piece few whole t =
      subst (λ k. IfSome y.bytes.block (λ q. q.len ≤ k)) (sym t.takes.bs) (within_by w piece x.bytes.bs x.bytes.block y.bytes.block t.takes.block (subst (λ k. length piece ≤ k) (lacks_is whole t.wanted) few) (fits.on whole).within)

  -- it took a piece
  took_fits : (piece : List ℕ) → length piece ≤ lacks m.bs m.block → x.broken ≡ false → Took w piece x y → WriterFits w (with_bytes m.file (m.taken ++ piece) K) nodes next bs a (record m { taken = m.taken ++ piece; block = option_map (longer (length piece)) m.block }) y
  took_fits piece few whole t =
      let on = fits.on whole in
      record {
        file = fits.file ∙ sym t.same.file;
        bs = fits.bs;
        blocks = t.takes.bs ∙ fits.blocks;
        placed = placed_still t.same;
        kind = fits.kind;
        worker = fits.worker ∙ sym t.same.worker;
        start = fits.start ∙ sym t.same.started;
        broken = fits.broken ∙ sym t.broken;
        room = room_longer w (length piece) m.block ∙ fits.room ∙ sym t.same.room;
        short = short_still w bs m.taken piece m.block (subst (λ k. length piece ≤ lacks k m.block) fits.bs few) fits.short;
        on = λ _. record {
          block = ap (option_map (longer (length piece))) on.block ∙ open_more w piece x.room x.bytes.block y.bytes.block t.takes.block ∙ ap (λ n. open_of n y.bytes.block) (sym t.same.room);
          taken = t.taken m.taken on.taken;
          tells = t.tells ∙ on.tells ∙ ap is_some (sym t.same.room);
          wants = λ none. absurd (let wanted = on.wants (sym t.same.room ∙ none) in let isnt = t.wanted in cc);
          within = within_still piece few whole t;
          alone = alone_still w piece x.bytes y.bytes on.alone t.takes.object;
        };
        reserved = reserved_same t.same;
        old = fits.old;
        bytes = bytes_here K m.file next a m.taken piece (writes_whole K m.file a x.broken fits.author whole) fits.bytes;
        author = inl (writes_whole K m.file a x.broken fits.author whole);
      }

  -- it broke
  broke_fits : Broke w x y → WriterFits w K nodes next bs a (record m { broken = true }) y
  broke_fits b = record {
    file = fits.file ∙ sym b.same.file;
    bs = fits.bs;
    blocks = b.stops.bs ∙ fits.blocks;
    placed = placed_still b.same;
    kind = fits.kind;
    worker = fits.worker ∙ sym b.same.worker;
    start = fits.start ∙ sym b.same.started;
    broken = sym b.broken;
    room = fits.room ∙ sym b.same.room;
    short = fits.short;
    on = λ whole. absurd (let broken = b.broken in cc);
    reserved = reserved_same b.same;
    old = fits.old;
    bytes = fits.bytes;
    author = elim fits.author [ inl mine ↦ inl mine | inr none ↦ inr (b.broken, none.1) ];
  }

-- ---- the worker of an open block

-- the worker of an open block with a reservation is called
calls_true : (a b c d : Bool) → a ≡ false → b ≡ true → c ≡ true → not a && ((b && c) || d) ≡ true
calls_true true b c d p q r = absurd (cc)
calls_true false false c d p q r = absurd (cc)
calls_true false true false d p q r = absurd (cc)
calls_true false true true d p q r = refl

same_number : (n : ℕ) → nat_eq n n ≡ true
same_number n = grind arith

called : (m : machine.Writer) (v : ℕ) → block_wanted m.bs m.block ≡ false → m.worker ≡ v → has_room m.block ≡ true → put_calls m (Device.TiersOf v) ≡ true
called m v wanted at room = calls_true (block_wanted m.bs m.block) (nat_eq m.worker v) (has_room m.block) (is_store m.store (Device.TiersOf v) && publishes m.kind) wanted (ap (λ u. nat_eq u v) at ∙ same_number v) room

-- either call, with neither a clash
either : (a b : Bool) → a ≡ true → b ≡ true → (a && b) || false ≡ true
either true true p q = refl
either false b p q = absurd (cc)
either true false p q = absurd (cc)

-- nothing is chosen of what a fault leaves
nothing_left : Remains
nothing_left = record { begun = false; fate = BlockFate.IsGone; keeps_room = false; parks = false; acted = false; breaks = false }

-- ---- the label's writer in the machine

-- the test of the writer that a put wants
abbrev put_test : Option machine.Writer → Option Reply
put_test None = bad_label
put_test (Some m) = None

put_test_is : (H : Hands) (l : Label) (o : Option machine.Writer) → writer_at H l ≡ o → put_refusal H l ≡ put_test o
put_test_is H l None h = rw (h, put_refusal) refl
put_test_is H l (Some m) h = rw (h, put_refusal) refl

module _ (H : Hands) (l : Label) (m : machine.Writer) (at : hand_at H l ≡ Some (machine.Hand.Writing m)) where
  writer_there : m.broken ≡ false → writer_at H l ≡ Some m
  writer_there whole = ap (option_and_then unbroken_writer) at ∙ ap (λ b. cond b None (Some m)) whole

  writer_broken : m.broken ≡ true → writer_at H l ≡ None
  writer_broken broken = ap (option_and_then unbroken_writer) at ∙ ap (λ b. cond b None (Some m)) broken

-- ---- labels that keep what they had

module _ {T : Type 0} where
  keeps_by : (l : List ℕ) (t : T) (old new : LabelsView T) → SetsHand l t t old new → KeepsHands old new
  keeps_by l t old new s = record {
    hands = λ m. s.hands m ∙ elim (name_eq l m) as (λ b. name_eq l m ≡ b → cond b (Some t) (hand_in old m) ≡ hand_in old m) [
      | true ↦ λ is. sym s.there ∙ ap (hand_in old) (alike l m is)
      | false ↦ λ isnt. refl
    ] refl;
    count = s.count;
  }

  pub keeps_same : (i : ℕ) (l : List ℕ) (t u : T) (old new : List (LabelsView T)) → u ≡ t → ChangesAt old new i (SetsHand l t u) → ChangesAt old new i KeepsHands
  keeps_same i l t u old new same change = changes_by old new i change (λ a b s. keeps_by l t a b (subst (λ z. SetsHand l t z a b) same s))

-- ---- the event

module _ {D S R W : Type 0} {d : disks.Ghosts D} (o : objects.Ghosts S R W) (r : reads.Ghosts R) (w : writes.Ghosts W) (old new : Core D S R W d w) (l : Label) (fill : Fill) (i : ℕ) (within : i < 64) (rest : KeepsRest old new) (workers : new.workers ≡ old.workers) (U : Setup) (V : Whole) (s : Stands d o r w U old V) where
  -- where the event goes
  abbrev Leads : Reply → Type 0
  Leads reply = Goes d o r w U old new V (suc i) (Event.Put l fill) reply

  stands_still : ChangesAt old.hands.items new.hands.items i KeepsHands → Stands d o r w U new V
  stands_still kept = stands_by o r w U new V s.known old.block old.master.journal.limit old.master old.workers.items new.hands.items rest.block (ap (λ k. k.journal.limit) rest.master) rest.master (ap (λ x. x.items) workers) refl (record {
    setup = s.setup;
    named = s.names;
    areas = s.areas;
    workers = s.workers;
    hands = hands_kept r w s.known old.workers.items old.master.kept.names.next_id old.block i V.hands old.hands.items new.hands.items s.hands within kept;
    files = s.files;
    objects = s.objects;
  })

  put_refused : ChangesAt old.hands.items new.hands.items i KeepsHands → writer_at (hands_of V (suc i)) l ≡ None → Leads (Reply.Refused Refusal.BadLabel)
  put_refused kept none = goes_refused o r w U old new V (suc i) (Event.Put l fill) (Reply.Refused Refusal.BadLabel) (stands_still kept) (put_test_is (hands_of V (suc i)) l None none) refl refl

  put_short : ChangesAt old.hands.items new.hands.items i KeepsHands → Leads (Reply.Refused Refusal.Memory)
  put_short kept = goes_short o r w U old new V (suc i) (Event.Put l fill) (stands_still kept) refl

  -- no such label
  pub put_absent : IsSomeAnd (slice_get old.hands.items i) (λ a. hand_in a l ≡ None) → ChangesAt old.hands.items new.hands.items i KeepsHands → Leads (Reply.Refused Refusal.BadLabel)
  put_absent none kept = put_refused kept (ap (option_and_then unbroken_writer) (absent_at r w s.known old.workers.items old.master.kept.names.next_id old.block V.hands old.hands.items s.hands i within l none))

  -- ---- a writer

  module _ (x y : Writer W) (hands : ChangesAt old.hands.items new.hands.items i (SetsHand l (Hand.Writing x) (Hand.Writing y))) (m : machine.Writer) (at : hand_at (hands_of V (suc i)) l ≡ Some (machine.Hand.Writing m)) (fits : WriterFits w s.known old.workers.items old.master.kept.names.next_id old.block (suc i, l) m x) where
    kept_if : y ≡ x → ChangesAt old.hands.items new.hands.items i KeepsHands
    kept_if same = keeps_same i l (Hand.Writing x) (Hand.Writing y) old.hands.items new.hands.items (ap (λ z. let k : Hand R W = Hand.Writing z in k) same) hands

    -- nothing refuses it
    put_passes : x.broken ≡ false → refusal U V.body (hands_of V (suc i)) (Event.Put l fill) ≡ None
    put_passes whole = put_test_is (hands_of V (suc i)) l (Some m) (writer_there (hands_of V (suc i)) l m at (fits.broken ∙ whole))

    -- what it does, by whether a block is wanted
    put_does : (b : Bool) → x.broken ≡ false → wants_room x.bytes ≡ b → accepted U (fault_free 0) V.body (hands_of V (suc i)) (suc i) (Event.Put l fill) ≡ own V.body (put_if b U (hands_of V (suc i)) l fill m)
    put_does b whole wanted =
        ap (λ h. own V.body (put_by U (hands_of V (suc i)) l fill h)) (writer_there (hands_of V (suc i)) l m at (fits.broken ∙ whole))
        ∙ ap (λ q. own V.body (put_if q U (hands_of V (suc i)) l fill m)) (wanted_is w s.known old.workers.items old.master.kept.names.next_id old.block (suc i, l) m x y fits whole ∙ wanted)

    put_wanting : x.broken ≡ false → wants_room x.bytes ≡ true → y ≡ x → Leads Reply.NeedsRoom
    put_wanting whole wanted same = record {
      after = V;
      rise = no_rise;
      made = None;
      stands = stands_still (kept_if same);
      rises = Rises.Nothing;
      step = record {
        body = V.body;
        hands = hands_of V (suc i);
        step = Step.Accepted (fault_free 0) (put_passes whole) refl (serves_none V.body.master.fuse) refl (sym (put_does true whole wanted)) refl;
        after = sym (put_same V (suc i));
      };
    }

    put_taken : (n : ℕ) → x.broken ≡ false → n ≡ min (fill_len fill) (lacking x.bytes) → Took w (take n (fill_bytes fill)) x y → Leads (Reply.Taken n)
    put_taken n whole count t =
        let H = hands_of V (suc i) in
        let piece = take n (fill_bytes fill) in
        let k : machine.Writer = record m { taken = m.taken ++ piece; block = option_map (longer (length piece)) m.block } in
        let G = put_in H l m piece in
        let after = put_back V (suc i) V.body G in
        let holder : Holder = (suc i, l) in
        let next = old.master.kept.names.next_id in
        let nodes = old.workers.items in
        let N = with_bytes m.file (m.taken ++ piece) s.known in
        let same : min (fill_len fill) (lacks m.bs m.block) ≡ n = ap (min (fill_len fill)) (lacks_is w s.known nodes next old.block holder m x y fits whole t.wanted) ∙ sym count in
        let few : length piece ≤ lacks m.bs m.block = omega (arith, same, length-take n (fill_bytes fill)) in
        let done : ◌≡◌ {A = Outcome} (Reply.Taken n, V.body, G) (accepted U (fault_free 0) V.body H (suc i) (Event.Put l fill)) = sym (put_does false whole t.wanted ∙ ap (λ q. let z : Outcome = (Reply.Taken q, V.body, put_in H l m (take q (fill_bytes fill))) in z) same) in
        record {
          after = after;
          rise = no_rise;
          made = None;
          stands = stands_by o r w U new after N old.block old.master.journal.limit old.master nodes new.hands.items rest.block (ap (λ k. k.journal.limit) rest.master) rest.master (ap (λ v. v.items) workers) refl (record {
            setup = s.setup;
            named = s.names;
            areas = areas_known d s.known N V.body.contents old.block old.master V.body.names V.body.master (λ id few. (done_put s.known m.file next holder m.taken piece (writes_whole s.known m.file (suc i, l) x.broken fits.author whole) fits.bytes).files id (subst (λ k. id < k) (next_id_is s.names) few)) s.areas;
            workers = s.workers;
            hands = hands_set r w s.known N nodes nodes next next old.block i l (leaves_put s.known m.file next holder m.taken piece (writes_whole s.known m.file (suc i, l) x.broken fits.author whole) fits.bytes nodes) V.hands old.hands.items new.hands.items s.hands within (Hand.Writing x) (Hand.Writing y) (machine.Hand.Writing m) (machine.Hand.Writing k) at hands
                (took_fits w s.known nodes next old.block holder m x y fits piece few whole t);
            files = files_put s.known m.file next holder m.taken piece (writes_whole s.known m.file (suc i, l) x.broken fits.author whole) fits.bytes old.block old.master.kept.names.nodes V.body.contents s.files;
            objects = nodes_stay s.known N next next old.block (known_put s.known m.file next holder m.taken piece (writes_whole s.known m.file (suc i, l) x.broken fits.author whole) fits.bytes) o nodes s.objects;
          });
          rises = Rises.Nothing;
          step = record {
            body = V.body;
            hands = G;
            step = Step.Accepted (fault_free 0) (put_passes whole) refl (serves_none V.body.master.fuse) refl done refl;
            after = refl;
          };
        }

    -- the count of the open block's writer rose
    hand_rose : (v : ℕ) → x.worker ≡ v → Broke w x y → AtLabel o r w old new (suc i) l (HandRose o r w v)
    hand_rose v here b = (changes_by old.hands.items new.hands.items i hands (λ a c g.
        subst (λ h. IsSomeAnd h (λ p. IsSomeAnd (hand_in c l) (λ q. HandRose o r w v p q))) (sym g.there)
        (subst (λ h. IsSomeAnd h (λ q. HandRose o r w v (Hand.Writing x) q)) (sym (g.hands l ∙ ap (λ z. cond z (Some (let k : Hand R W = Hand.Writing y in k)) (hand_in a l)) (like_itself l))) (here, b.unsteady, b.rose)))).at

    put_failed : (v : ℕ) → x.broken ≡ false → v ≡ x.worker → Broke w x y → Leads (Reply.Refused (Refusal.TierFault v))
    put_failed v whole here b =
        let H = hands_of V (suc i) in
        let k : machine.Writer = record m { broken = true } in
        let G = set_hand l (machine.Hand.Writing k) H in
        let after = put_back V (suc i) V.body G in
        let holder : Holder = (suc i, l) in
        let next = old.master.kept.names.next_id in
        let nodes = old.workers.items in
        let there = writer_there H l m at (fits.broken ∙ whole) in
        let calls : put_calls m (Device.TiersOf v) ≡ true = called m v (wanted_is w s.known nodes next old.block holder m x y fits whole ∙ b.wanted) (fits.worker ∙ sym here) (room_is w s.known nodes next old.block holder m x y fits whole b.wanted) in
        let fails : may_fail U nothing_left V.body H (Event.Put l fill) (tier_rise v) (Reply.Refused (Refusal.TierFault v)) ≡ true = either (rose (tier_rise v) (Device.TiersOf v)) (by_writer (λ z. put_calls z (Device.TiersOf v)) (writer_at H l)) (tier_rose v) (ap (by_writer (λ z. put_calls z (Device.TiersOf v))) there ∙ calls) in
        let left : ◌≡◌ {A = BodyAndHands} (V.body, G) (V.body, put_after_fault H l (writer_at H l)) = ap (λ h. let z : BodyAndHands = (V.body, put_after_fault H l h) in z) (sym there) in
        record {
          after = after;
          rise = tier_rise v;
          made = None;
          stands = stands_by o r w U new after s.known old.block old.master.journal.limit old.master nodes new.hands.items rest.block (ap (λ k. k.journal.limit) rest.master) rest.master (ap (λ z. z.items) workers) refl (record {
            setup = s.setup;
            named = s.names;
            areas = s.areas;
            workers = s.workers;
            hands = hands_set r w s.known s.known nodes nodes next next old.block i l (leaves_all holder s.known nodes next) V.hands old.hands.items new.hands.items s.hands within (Hand.Writing x) (Hand.Writing y) (machine.Hand.Writing m) (machine.Hand.Writing k) at hands
                (broke_fits w s.known nodes next old.block holder m x y fits b);
            files = s.files;
            objects = s.objects;
          });
          rises = Rises.OfHand v l refl (hand_rose v (sym here) b);
          step = record {
            body = V.body;
            hands = G;
            step = Step.Failed nothing_left (put_passes whole) fails left refl;
            after = refl;
          };
        }

    -- an unbroken writer has no object
    no_object : (u : ℕ) → x.broken ≡ false → ObjectRose w u x y → ⊥
    no_object u whole has = subst (λ q. IsSomeAnd q (λ z. u ≡ z.store)) (fits.on whole).alone has.0

    put_writer : (end : PutEnd) → DidPut w old.block fill end x y → Leads (put_reply end)
    put_writer PutEnd.BadLabel d = put_refused (kept_if d.1) (writer_broken (hands_of V (suc i)) l m at (fits.broken ∙ d.0))
    put_writer PutEnd.NeedsRoom d = put_wanting d.0 d.1 d.2
    put_writer PutEnd.Short d = put_short (kept_if d.3)
    put_writer (PutEnd.Taken n) d = put_taken n d.0 (d.1 fits.blocks) d.2
    put_writer (PutEnd.TierFault v) d = put_failed v d.0 d.1 d.2
    put_writer (PutEnd.UnderFault u) d = absurd (no_object u d.0 d.1)

  -- ---- what is under the label

  put_by_kind : (h t : Hand R W) (end : PutEnd) → ChangesAt old.hands.items new.hands.items i (SetsHand l h t) → DidIn w old.block fill end h t → (k : machine.Hand) → hand_at (hands_of V (suc i)) l ≡ Some k → Fits r w s.known old.workers.items old.master.kept.names.next_id old.block (suc i, l) k h → Leads (put_reply end)
  put_by_kind (Hand.Writing x) (Hand.Writing y) end change d (machine.Hand.Writing m) at fits = put_writer x y change m at fits end d
  put_by_kind (Hand.Writing x) (Hand.Reading y) end change d k at fits = absurd d
  put_by_kind (Hand.Writing x) (Hand.Writing y) end change d (machine.Hand.Reading m) at fits = absurd fits
  put_by_kind (Hand.Writing x) (Hand.Writing y) end change d (machine.Hand.Moving m) at fits = absurd fits
  put_by_kind (Hand.Writing x) (Hand.Writing y) end change d (machine.Hand.Storing m) at fits = absurd fits
  put_by_kind (Hand.Reading x) t end change d (machine.Hand.Reading m) at fits = subst (λ q. Leads (put_reply q)) (sym d.0) (put_refused (keeps_same i l (Hand.Reading x) t old.hands.items new.hands.items d.1 change) (ap (option_and_then unbroken_writer) at))
  put_by_kind (Hand.Reading x) t end change d (machine.Hand.Writing m) at fits = absurd fits
  put_by_kind (Hand.Reading x) t end change d (machine.Hand.Moving m) at fits = absurd fits
  put_by_kind (Hand.Reading x) t end change d (machine.Hand.Storing m) at fits = absurd fits

  pub put_goes : (h t : Hand R W) (end : PutEnd) → ChangesAt old.hands.items new.hands.items i (SetsHand l h t) → DidIn w old.block fill end h t → Leads (put_reply end)
  put_goes h t end change d =
      let found = fits_at r w s.known old.workers.items old.master.kept.names.next_id old.block V.hands old.hands.items s.hands i within l h (set_there i l h t old.hands.items new.hands.items change) in
      put_by_kind h t end change d found.0 found.1 found.2

-- ---- for an actor

module _ {D S R W : Type 0} {d : disks.Ghosts D} (o : objects.Ghosts S R W) (r : reads.Ghosts R) (w : writes.Ghosts W) (old mid : Core D S R W d w) (l : Label) (fill : Fill) (who : ℕ) (actor : is_actor who ≡ true) (rest : KeepsRest old mid) (workers : mid.workers ≡ old.workers) where
  -- nothing was taken out
  pub absent_by : IsSomeAnd (slice_get old.hands.items (pred who)) (λ a. hand_in a l ≡ None) → ChangesAt old.hands.items mid.hands.items (pred who) KeepsHands → Steps d o r w old mid who (Event.Put l fill) (Reply.Refused Refusal.BadLabel)
  absent_by none kept = by_actor (λ v. IsSomeAnd (slice_get old.hands.items (pred v)) (λ a. hand_in a l ≡ None) → ChangesAt old.hands.items mid.hands.items (pred v) KeepsHands → Steps d o r w old mid v (Event.Put l fill) (Reply.Refused Refusal.BadLabel))
      (λ i within absent same U V s. put_absent o r w old mid l fill i within rest workers U V s absent same) who actor none kept

  -- a hand was taken out, and put back after a put
  pub put_back_by : (new : Core D S R W d w) → KeepsRest mid new → new.workers ≡ mid.workers → (k : Label) (h t : Hand R W) → k ≡ l → ChangesAt old.hands.items mid.hands.items (pred who) (EndsHand l h) → ChangesAt mid.hands.items new.hands.items (pred who) (AddsHand k t)
      → (end : PutEnd) → DidIn w mid.block fill end h t → (reply : Reply) → reply ≡ put_reply end → Steps d o r w old new who (Event.Put l fill) reply
  put_back_by new more still k h t same ended added end did reply is =
      let both : KeepsRest old new = record { block = more.block ∙ rest.block; master = more.master ∙ rest.master; stores = more.stores ∙ rest.stores } in
      let here : DidIn w old.block fill end h t = subst (λ b. DidIn w b fill end h t) rest.block did in
      subst (λ q. Steps d o r w old new who (Event.Put l fill) q) (sym is)
      (by_actor (λ v. ChangesAt old.hands.items new.hands.items (pred v) (SetsHand l h t) → Steps d o r w old new v (Event.Put l fill) (put_reply end))
      (λ i within change U V s. put_goes o r w old new l fill i within both (still ∙ workers) U V s h t end change here) who actor
      (sets_hand (pred who) l k h t old.hands.items mid.hands.items new.hands.items same ended added))
