-- The source of a stream as a step of the file machine.
use Rattle.std.proofs.Common.{◌≡◌, ℕ, suc, pred, ◌+◌, ◌-◌, ◌/◌, ◌%◌, ◌<◌, ◌≤◌, ◌^◌, min, Bool, true, false, cond, ◌&&◌, List, [], ◌∷◌, length, take, drop, get_or, nat_eq, nat_lt, nat_le, Option, Some, None, is_some, is_none, refl, sym, ap, ◌∙◌, subst, arith}
use Rattle.std.specs.Prelude.{IsSomeAnd, IfSome, slice_get, option_and_then}
use Rattle.std.proofs.lemmas.List.{set-get_or}
use Rattle.std.proofs.lemmas.Bool.{le-leb, lt-leb, le-ltb, lt-ltb, and_from, and_left, and_right}
use Rattle.fs_model.specs.declared.setup.Setup.{Setup}
use Rattle.fs_model.specs.declared.label.Label.{Label}
use Rattle.fs_model.specs.declared.event.Event.{Event}
use Rattle.fs_model.specs.declared.event.ReadType.{ReadType}
use Rattle.fs_model.specs.declared.reply.Reply.{Reply}
use Rattle.fs_model.specs.declared.reply.Refusal.{Refusal}
use Rattle.fs_model.specs.declared.reply.Stored.{Stored}
use Rattle.fs_model.specs.Spelled.{is_actor}
use Rattle.fs_model.specs.Words.{block_len, block_of}
use Rattle.std.specs.List.{All}
use Rattle.fs_model.specs.Tests.{refuse}
use Rattle.fs_model.specs.State as machine
use Rattle.fs_model.specs.State.{State, Whole, Hands, Source, Copied, Worker, Hold}
use Rattle.fs_model.specs.Lookups.{hand_at, file_of, worker, no_worker, is_live, copy_of}
use Rattle.fs_model.specs.Updates.{set_hand, release, used, change_worker, take_room}
use Rattle.fs_model.specs.BytesEvents.{bad_label, unbroken, next_refusal_in, next_refusal_of}
use Rattle.fs_model.specs.BytesOutcomes.{Outcome, Candidate, Caching, bare, settle_workers, next_by, next_at_end, next_within, next_among, next_from, at_worker, sources, moved_on, use_hold, caching, cache_place, cache_room, new_cache, promoted_by, may_cache, is_promoting, own_copy_below, held_number}
use Rattle.fs_model.specs.Choices.{fault_free}
use Rattle.fs_model.specs.Journaling.{fuse_serves}
use Rattle.fs_model.specs.Faults.{by_hand, seeks_source, next_may_fail, sources_for, Device, Remains, BlockFate}
use Rattle.fs_model.specs.Machine.{refusal, accepted, hands_of, put_back}
use Rattle.fs_model.specs.Step.{Step, label_choices, passed_rose}
use Rattle.inode_tree.specs.Rows.{file_row}
use Rattle.tier_book.specs.Rows.{is_block}
use Rattle.outside.specs.Causes.{Rose}
use Rattle.outside.specs.declared.disk.Disk as disks
use Rattle.outside.specs.declared.objects.Objects as objects
use Rattle.outside.specs.declared.objects.ObjectRead as reads
use Rattle.outside.specs.declared.objects.ObjectWrite as writes
use Rattle.cluster_core.proofs.Named.{serves_none}
use Rattle.cluster_core.specs.NamesStand.{NamesStand}
use Rattle.cluster_core.specs.Tiers.{ChangesAt, At, IsFaultOrShort, object_key}
use Rattle.cluster_core.specs.LabelsView.{LabelsView, hand_in}
use Rattle.cluster_core.specs.HandChanges.{SetsHand, KeepsHands, EndsHand, AddsHand}
use Rattle.cluster_core.specs.HandFits.{Fits, StreamFits, ReaderFits, source_of, rest_len}
use Rattle.cluster_core.specs.Knowledge.{Knowledge, Holder, Leaves}
use Rattle.cluster_core.specs.Kept.{KeepsRest}
use Rattle.cluster_core.specs.Polls.{SameFile}
use Rattle.cluster_core.specs.Seeks.{Halts, found_reply, copy_at, first_copy, Opens, Tried, TriesRow, FailsRow, wanted, place_in, left_of, NewSource, Sought, SeeksOf, HandSeeks}
use Rattle.cluster_core.specs.Stands.{Stands, SetupFits, WorkersStand, HandsStand, NodeStands, NodesStand, CopyStands, ObjectFits}
use Rattle.cluster_core.specs.Goes.{Goes, Steps, Rises, no_rise, tier_rise}
use Rattle.cluster_core.specs.declared.cluster.Core.{Core}
use Rattle.cluster_core.specs.declared.hand.Hand.{Hand}
use Rattle.cluster_core.specs.declared.hand.BlockSource.{BlockSource}
use Rattle.cluster_core.specs.declared.hand.Stream.{Stream}
use Rattle.cluster_core.specs.declared.node.Node.{Node}
use Rattle.cluster_core.specs.declared.reading.Found.{Found}
use Rattle.cluster_core.proofs.Standing.{stands_by, goes_refused, goes_short, put_same}
use Rattle.cluster_core.proofs.LabelLaws.{matches_kept}
use Rattle.cluster_core.proofs.HandStays.{hand_stays, other_actor}
use Rattle.cluster_core.proofs.Actors.{hands_change, weaken_at}
use Rattle.cluster_core.proofs.Labelled.{fits_at, absent_at, set_there, sets_hand, hands_set, leaves_all}
use Rattle.cluster_core.proofs.NodeChanges.{both_there, RowChanges, workers_change, setup_stays}
use Rattle.cluster_core.proofs.RoomChanges.{KeepsRooms}
use Rattle.cluster_core.proofs.Rows.{found_of_all}
use Rattle.cluster_core.proofs.CloseGo.{by_actor}
use Rattle.cluster_core.proofs.OpenGo.{rest_both}
use Rattle.cluster_core.proofs.StreamsGo.{sets_same, stays_kept, block_number, good_source, there_is, fits_in_place}
use Rattle.cluster_core.proofs.SourceFacts.{file_kept, missing_file, stopped_first, next_refusal_is, unwanted, wanted_one, refusal_at, sources_are}
use Rattle.cluster_core.proofs.TierReads.{told_stands, nodes_changed, all_used, used_row, same_row, used_rooms, same_rooms, leaves_rooms}
use Rattle.cluster_core.proofs.BlockReads.{left_is, ends_within, rest_of_block, number_is, copy_there, block_is, Object, range_left, then_rose}
use Rattle.cluster_core.specs.AreasStand.{AreasStand}

-- ---- a core that stands

-- the workers stand for another state with the same rows of them
workers_as : {S : Type 0} (nodes : List (Node S)) (A B : State) → B.workers ≡ A.workers → B.registrations ≡ A.registrations → WorkersStand nodes A → WorkersStand nodes B
workers_as nodes A B rows registrations s = record {
  rows = rows ∙ s.rows;
  registrations = registrations ∙ s.registrations;
  first = λ v runs. s.first v (ap (λ ws. nat_lt 0 v && (get_or ws (pred v) no_worker).running) (sym rows) ∙ runs);
  one = λ some. ap (λ ws. (get_or ws 0 no_worker).running) rows ∙ s.one (subst (λ ws. 0 < length ws) rows some);
}

-- no label changes, at workers that leave what labels rest on
hands_still : {S R W : Type 0} (r : reads.Ghosts R) (w : writes.Ghosts W) (K : Knowledge) (old new : List (Node S)) (next bs i : ℕ) (l : List ℕ) → ((a : Holder) → Leaves a K K old new next next) → (all : List Hands) (labels changed : List (LabelsView (Hand R W))) → HandsStand r w K old next bs all labels → i < 64 → ChangesAt labels changed i KeepsHands → HandsStand r w K new next bs all changed
hands_still r w K old new next bs i l left all labels changed was within kept =
    subst (λ hs. HandsStand r w K new next bs hs changed) (set-get_or all i []) (hands_change r w K K old new next next bs i l (left (suc i, l)) all labels changed KeepsHands was within kept (get_or all i []) (λ s u m k. matches_kept u m k (λ n h t f. hand_stays r w K K old new next next bs (0, l) (left (0, l)) (suc i, n) (other_actor 0 (suc i) l n (λ e. absurd (cc))) h t f)))

-- ---- a place that is known

-- what is at a place before and after
at_these : {X : Type 0} (G : X → X → Type 0) (x y : Option X) (n m : X) → x ≡ Some n → y ≡ Some m → IsSomeAnd x (λ s. IsSomeAnd y (λ u. G s u)) → G n m
at_these G x y n m was is h = subst (λ k. IsSomeAnd k (λ u. G n u)) is (subst (λ k. IsSomeAnd k (λ s. IsSomeAnd y (λ u. G s u))) was h)

-- another change there
fixed : {X : Type 0} {G : X → X → Type 0} (Q : X → X → Type 0) (old new : List X) (i : ℕ) (n m : X) → slice_get old i ≡ Some n → slice_get new i ≡ Some m → ChangesAt old new i G → Q n m → ChangesAt old new i Q
fixed Q old new i n m was is change q = record {
  same_length = change.same_length;
  at = subst (λ k. IsSomeAnd k (λ s. IsSomeAnd (slice_get new i) (λ u. Q s u))) (sym was) (subst (λ k. IsSomeAnd k (λ u. Q n u)) (sym is) q);
  others = change.others;
}

-- ---- a stream that caches nothing

same_either : {X : Type 0} (b : Bool) (z : X) → cond b z z ≡ z
same_either true z = refl
same_either false z = refl

caches_nowhere : (U : Setup) (A : State) (m : machine.Stream) (c : Candidate) → m.kind ≡ ReadType.NoCache → caching U (fault_free 0) A m c ≡ Caching.Nowhere
caches_nowhere U A m c kind = ap (λ kd. cond (true && may_cache kd && is_live A m.worker && nat_eq (m.at % m.bs) 0)
    (cond (is_none (copy_of (worker A m.worker) m.file (m.at / m.bs))) Caching.Anywhere
    (cond (is_promoting m.kind && own_copy_below m.worker c.0) (Caching.Promoting (held_number c.1)) Caching.Nowhere))
    Caching.Nowhere) kind

no_place : (U : Setup) (A : State) (m : machine.Stream) (c : Candidate) → m.kind ≡ ReadType.NoCache → cache_room U (fault_free 0) A m c ≡ None
no_place U A m c kind = ap (λ g. cond (nat_lt (worker A m.worker).next (2 ^ 63)) (cache_place U A m g) None) (caches_nowhere U A m c kind) ∙ same_either (nat_lt (worker A m.worker).next (2 ^ 63)) None

module _ {D S R W : Type 0} {d : disks.Ghosts D} (o : objects.Ghosts S R W) (r : reads.Ghosts R) (w : writes.Ghosts W) (old new : Core D S R W d w) (l : Label) (i : ℕ) (within : i < 64) (rest : KeepsRest old new) (U : Setup) (V : Whole) (s : Stands d o r w U old V) where
  -- what is asked of a label
  abbrev pub next_test : Option machine.Hand → Option Reply
  next_test h = elim (option_and_then unbroken h) [ None ↦ bad_label | Some k ↦ next_refusal_in U V.body k ]

  -- what may be chosen of it
  abbrev pub next_chosen : Option machine.Hand → Bool
  next_chosen h = label_choices no_rise (fault_free 0) h && elim (option_and_then unbroken h) [ None ↦ true | Some k ↦ passed_rose no_rise 0 (sources_for U V.body k) ]

  pub next_missing : new.workers.items ≡ old.workers.items → hand_at (hands_of V (suc i)) l ≡ None → ChangesAt old.hands.items new.hands.items i KeepsHands → Goes d o r w U old new V (suc i) (Event.Next l) (Reply.Refused Refusal.BadLabel)
  next_missing workers at hands = goes_refused o r w U old new V (suc i) (Event.Next l) (Reply.Refused Refusal.BadLabel) (stays_kept o r w old new l i within rest workers U V s hands) (ap next_test at) refl refl

  -- where the label has a writer
  pub next_writer : (t : Hand R W) (m : machine.Writer) → new.workers.items ≡ old.workers.items → hand_at (hands_of V (suc i)) l ≡ Some (machine.Hand.Writing m) → ChangesAt old.hands.items new.hands.items i (SetsHand l t t) → Goes d o r w U old new V (suc i) (Event.Next l) (Reply.Refused Refusal.BadLabel)
  next_writer t m workers at hands = goes_refused o r w U old new V (suc i) (Event.Next l) (Reply.Refused Refusal.BadLabel) (stays_kept o r w old new l i within rest workers U V s (sets_same i l t old.hands.items new.hands.items hands)) (ap next_test at ∙ by_broken m.broken) refl refl
    where
      by_broken : (b : Bool) → elim (cond b None (Some (machine.Hand.Writing m))) as (λ x. Option Reply) [ None ↦ bad_label | Some k ↦ next_refusal_in U V.body k ] ≡ bad_label
      by_broken true = refl
      by_broken false = refl

  -- the core with another hand of the label, and perhaps other workers
  stands_with : (B : State) (t u : Hand R W) (k h : machine.Hand) → SetupFits U old.block old.master.journal.limit new.workers.items → NamesStand old.master B → AreasStand d s.known V.body.contents old.block old.master B.names B.master → WorkersStand new.workers.items B → B.contents ≡ V.body.contents → Leaves (suc i, l) s.known s.known old.workers.items new.workers.items old.master.kept.names.next_id old.master.kept.names.next_id → NodesStand o s.known old.master.kept.names.next_id old.block new.workers.items
      → hand_at (hands_of V (suc i)) l ≡ Some k → ChangesAt old.hands.items new.hands.items i (SetsHand l t u) → Fits r w s.known new.workers.items old.master.kept.names.next_id old.block (suc i, l) h u → Stands d o r w U new (put_back V (suc i) B (set_hand l h (hands_of V (suc i))))
  stands_with B t u k h setup named areas workers contents left nodes at hands fits = stands_by o r w U new (put_back V (suc i) B (set_hand l h (hands_of V (suc i)))) s.known old.block old.master.journal.limit old.master new.workers.items new.hands.items rest.block (ap (λ k. k.journal.limit) rest.master) rest.master refl refl (record {
    setup = setup;
    named = named;
    areas = subst (λ cs. AreasStand d s.known cs old.block old.master B.names B.master) (sym contents) areas;
    workers = workers;
    hands = hands_set r w s.known s.known old.workers.items new.workers.items old.master.kept.names.next_id old.master.kept.names.next_id old.block i l left V.hands old.hands.items new.hands.items s.hands within t u k h at hands fits;
    files = subst (λ cs. Rattle.cluster_core.specs.Stands.FilesStand s.known old.master.kept.names.next_id old.block old.master.kept.names.nodes cs) (sym contents) s.files;
    objects = nodes;
  })

  module _ (x y : Stream R) (hands : ChangesAt old.hands.items new.hands.items i (SetsHand l (Hand.Reading x) (Hand.Reading y))) (m : machine.Stream) (at : hand_at (hands_of V (suc i)) l ≡ Some (machine.Hand.Reading m)) (fits : StreamFits r s.known old.master.kept.names.next_id old.block m x) where
    abbrev H : Hands
    H = hands_of V (suc i)

    some_b : 0 < m.bs
    some_b = subst (λ k. 0 < k) (sym fits.bs) old.blocks

    -- the stream stays as it was
    kept_hands : y ≡ x → ChangesAt old.hands.items new.hands.items i KeepsHands
    kept_hands same = sets_same i l (Hand.Reading x) old.hands.items new.hands.items (subst (λ z. ChangesAt old.hands.items new.hands.items i (SetsHand l (Hand.Reading x) (Hand.Reading z))) same hands)

    kept : new.workers.items ≡ old.workers.items → y ≡ x → Stands d o r w U new V
    kept workers same = stays_kept o r w old new l i within rest workers U V s (kept_hands same)

    refuse_is : refusal U V.body H (Event.Next l) ≡ next_refusal_of V.body m.file m.bs m.at (length m.bytes) m.source
    refuse_is = ap next_test at

    there_m : (b : Bool) → is_some (file_row old.master.kept.names.nodes x.file) ≡ b → is_some (file_row old.master.kept.names.nodes m.file) ≡ b
    there_m b there = ap (λ f. is_some (file_row old.master.kept.names.nodes f)) fits.file ∙ there

    pub next_stopped : old.master.journal.failed ≡ true → new.workers.items ≡ old.workers.items → y ≡ x → Goes d o r w U old new V (suc i) (Event.Next l) (Reply.Refused Refusal.Stopped)
    next_stopped down workers same = goes_refused o r w U old new V (suc i) (Event.Next l) (Reply.Refused Refusal.Stopped) (kept workers same) (refuse_is ∙ stopped_first old.master V.body s.names m.file m.bs m.at (length m.bytes) m.source down) refl refl

    pub next_lost : old.master.journal.failed ≡ false → is_some (file_row old.master.kept.names.nodes x.file) ≡ false → new.workers.items ≡ old.workers.items → y ≡ x → Goes d o r w U old new V (suc i) (Event.Next l) (Reply.Refused Refusal.NotFound)
    next_lost up gone workers same = goes_refused o r w U old new V (suc i) (Event.Next l) (Reply.Refused Refusal.NotFound) (kept workers same) (refuse_is ∙ missing_file old.master V.body s.names m.file m.bs m.at (length m.bytes) m.source up (there_m false gone)) refl refl

    -- what the machine does with the stream
    abbrev does_with : Option machine.Hand → Outcome
    does_with h = next_by U (fault_free 0) V.body (suc i) H l (option_and_then unbroken h)

    abbrev at_end_if : Bool → Outcome
    at_end_if b = next_at_end b U (fault_free 0) V.body (suc i) H l m

    does : (b : Bool) → nat_le (length m.bytes) m.at ≡ b → accepted U (fault_free 0) V.body H (suc i) (Event.Next l) ≡ at_end_if b
    does b is = ap does_with at ∙ ap at_end_if is

    pub next_ended : old.master.journal.failed ≡ false → is_some (file_row old.master.kept.names.nodes x.file) ≡ true → x.len ≤ x.at → SameFile r x y x.at → y.source ≡ None → new.workers.items ≡ old.workers.items → Goes d o r w U old new V (suc i) (Event.Next l) Reply.End
    next_ended up there ended same gone workers =
        let B = release (suc i) l V.body in
        let G = set_hand l (machine.Hand.Reading (bare m)) H in
        let past : length m.bytes ≤ m.at = omega (arith, ended, fits.len, fits.at) in
        let shown : ◌≡◌ {A = Outcome} (Reply.End, B, G) (accepted U (fault_free 0) V.body H (suc i) (Event.Next l)) =
        sym (does true (le-leb (length m.bytes) m.at past) ∙ ap (λ c. let q : Outcome = (Reply.End, release (suc i) l (record V.body { workers = settle_workers U (fault_free 0) V.body m c V.body.workers }), G) in q) fits.cache) in
        record {
          after = put_back V (suc i) B G;
          rise = no_rise;
          made = None;
          stands = stands_with B (Hand.Reading x) (Hand.Reading y) (machine.Hand.Reading m) (machine.Hand.Reading (bare m))
              (subst (λ ns. SetupFits U old.block old.master.journal.limit ns) (sym workers) s.setup)
              (record { names = s.names.names; gate = s.names.gate; generation = s.names.generation; fuse = s.names.fuse; down = s.names.down; unlocked = s.names.unlocked; unseen = s.names.unseen })
              s.areas
              (workers_as new.workers.items V.body B refl refl (subst (λ ns. WorkersStand ns V.body) (sym workers) s.workers))
              refl
              (subst (λ ns. Leaves (suc i, l) s.known s.known old.workers.items ns old.master.kept.names.next_id old.master.kept.names.next_id) (sym workers) (leaves_all (suc i, l) s.known old.workers.items old.master.kept.names.next_id))
              (subst (λ ns. NodesStand o s.known old.master.kept.names.next_id old.block ns) (sym workers) s.objects)
              at hands
              (fits_in_place r s.known old.master.kept.names.next_id old.block m x y fits (bare m) refl refl refl refl refl refl refl same (sym (ap source_of gone)) (subst (λ q. IfSome q (λ z. z.failed ≡ false → ReaderFits r (bare m) z)) (sym gone) tt));
          rises = Rises.Nothing;
          step = record {
            body = B;
            hands = G;
            step = Step.Accepted (fault_free 0) (refuse_is ∙ next_refusal_is old.master V.body s.names m.file m.bs m.at (length m.bytes) m.source up (there_m true there) ∙ unwanted old.master V.body s.names m.file m.bs m.at (length m.bytes) m.source (and_left (nat_lt m.at (length m.bytes)) (is_none m.source) (le-ltb m.at (length m.bytes) past))) refl (serves_none V.body.master.fuse) (ap next_chosen at) shown refl;
            after = refl;
          };
        }

    before : x.at < x.len → nat_le (length m.bytes) m.at ≡ false
    before inside = lt-leb (length m.bytes) m.at (omega (arith, inside, fits.len, fits.at))

    pub next_still : (v t : ℕ) → old.master.journal.failed ≡ false → is_some (file_row old.master.kept.names.nodes x.file) ≡ true → x.at < x.len → source_of x.source ≡ Some (Source.AtWorker v t) → y ≡ x → new.workers.items ≡ old.workers.items → Goes d o r w U old new V (suc i) (Event.Next l) (Reply.FromWorker v t)
    next_still v t up there inside has same workers =
        let source : m.source ≡ Some (Source.AtWorker v t) = fits.source ∙ has in
        record {
          after = V;
          rise = no_rise;
          made = None;
          stands = kept workers same;
          rises = Rises.Nothing;
          step = record {
            body = V.body;
            hands = H;
            step = Step.Accepted (fault_free 0) (refuse_is ∙ next_refusal_is old.master V.body s.names m.file m.bs m.at (length m.bytes) m.source up (there_m true there) ∙ unwanted old.master V.body s.names m.file m.bs m.at (length m.bytes) m.source (and_right (nat_lt m.at (length m.bytes)) (is_none m.source) (ap is_none source))) refl (serves_none V.body.master.fuse) (ap next_chosen at)
                (sym (does false (before inside) ∙ ap (next_within U (fault_free 0) V.body (suc i) H l m) source)) refl;
            after = sym (put_same V (suc i));
          };
        }

    -- ---- a source is sought

    module _ (up : old.master.journal.failed ≡ false) (sought : Sought o r old.master.kept.names.nodes x) where
      none_m : m.source ≡ None
      none_m = fits.source ∙ sought.none

      inside_m : m.at < length m.bytes
      inside_m = omega (arith, sought.inside, fits.len, fits.at)

      wants : (nat_lt m.at (length m.bytes) && is_none m.source) ≡ true
      wants = and_from (nat_lt m.at (length m.bytes)) (is_none m.source) (lt-ltb m.at (length m.bytes) inside_m) (ap is_none none_m)

      -- the block in the machine's words
      number_m : wanted o r old.block x ≡ m.at / m.bs
      number_m =
          let same : x.at / old.block ≡ m.at / m.bs = ap (λ a. a / old.block) (sym fits.at) ∙ ap (λ b. m.at / b) (sym fits.bs) in
          ap (λ k. min k (2 ^ 32 - 1)) same ∙ number_is (m.at / m.bs) (block_number m.bs (length m.bytes) m.at some_b (omega (arith, fits.short, fits.bs)) inside_m)

      kept_m : IfSome (file_of V.body.names m.file) (λ g. g.stored ≡ Stored.No)
      kept_m = file_kept old.master V.body s.names m.file s.known V.body.contents old.master.kept.names.next_id old.block s.files.each

      -- the first worker's copy in the machine's words
      copy_m : (c : Option Copied) → first_copy old.workers.items x.file (wanted o r old.block x) ≡ c → first_copy old.workers.items m.file (m.at / m.bs) ≡ c
      copy_m c is = ap (λ f. first_copy old.workers.items f (m.at / m.bs)) fits.file ∙ ap (first_copy old.workers.items x.file) (sym number_m) ∙ is

      -- the refusal, by that copy
      refused_by : (c : Option Copied) → first_copy old.workers.items x.file (wanted o r old.block x) ≡ c → refusal U V.body H (Event.Next l) ≡ refuse (Refusal.Unavailable (m.at / m.bs)) (is_none c)
      refused_by c is =
          refuse_is ∙ next_refusal_is old.master V.body s.names m.file m.bs m.at (length m.bytes) m.source up (there_m true sought.there)
          ∙ wanted_one old.master V.body s.names m.file m.bs m.at (length m.bytes) m.source wants (refuse (Refusal.Unavailable (m.at / m.bs)) (is_none c))
          (refusal_at old.workers.items V.body s.workers m.file (m.at / m.bs) kept_m ∙ ap (λ k. refuse (Refusal.Unavailable (m.at / m.bs)) (is_none k)) (copy_m c is))

      pub next_unavailable : (b : ℕ) → b ≡ wanted o r old.block x → first_copy old.workers.items x.file (wanted o r old.block x) ≡ None → y ≡ x → new.workers.items ≡ old.workers.items → Goes d o r w U old new V (suc i) (Event.Next l) (Reply.Refused (Refusal.Unavailable b))
      next_unavailable b is none same workers = goes_refused o r w U old new V (suc i) (Event.Next l) (Reply.Refused (Refusal.Unavailable b)) (kept workers same)
          (refused_by None none ∙ ap (λ k. Some (Reply.Refused (Refusal.Unavailable k))) (sym (is ∙ number_m))) refl refl

      -- the first worker before and after, and its copy
      module _ (n n' : Node S) (c : Copied) (was : slice_get old.workers.items 0 ≡ Some n) (is : slice_get new.workers.items 0 ≡ Some n') (found : copy_at x.file (wanted o r old.block x) (Some n) ≡ Some c) where
        first_is : first_copy old.workers.items x.file (wanted o r old.block x) ≡ Some c
        first_is = ap (copy_at x.file (wanted o r old.block x)) was ∙ found

        copy_stood : CopyStands o s.known old.master.kept.names.next_id old.block 1 n c × (is_block x.file (wanted o r old.block x) c ≡ true)
        copy_stood = found_of_all (CopyStands o s.known old.master.kept.names.next_id old.block 1 n) (is_block x.file (wanted o r old.block x)) n.book.rows c (s.objects 0 n was).copies (copy_there x.file (wanted o r old.block x) n c found).1

        file_c : c.file ≡ m.file
        file_c = (block_is x.file (wanted o r old.block x) c copy_stood.1).0 ∙ sym fits.file

        block_c : c.block ≡ m.at / m.bs
        block_c = (block_is x.file (wanted o r old.block x) c copy_stood.1).1 ∙ number_m

        place_m : place_in o r old.block x ≡ m.at % m.bs
        place_m = ap (λ a. a % old.block) (sym fits.at) ∙ ap (λ b. m.at % b) (sym fits.bs)

        left_m : left_of o r old.block x ≡ min (length m.bytes - m.at) (m.bs - m.at % m.bs)
        left_m = ap (λ a. min (a - x.at) (old.block - place_in o r old.block x)) (sym fits.len) ∙ ap (λ a. min (length m.bytes - a) (old.block - place_in o r old.block x)) (sym fits.at) ∙ ap (λ b. min (length m.bytes - m.at) (b - place_in o r old.block x)) (sym fits.bs) ∙ ap (λ p. min (length m.bytes - m.at) (m.bs - p)) place_m

        -- the copy's object has the block's bytes
        abbrev IsBlock : List ℕ → Type 0
        IsBlock bytes = bytes ≡ block_of m.bytes (m.at / m.bs) m.bs

        block_bytes : (bytes : List ℕ) → ObjectFits s.known old.block c bytes → IsBlock bytes
        block_bytes bytes f =
            let known : s.known.bytes_of c.file ≡ Some m.bytes = ap s.known.bytes_of file_c ∙ fits.bytes in
            let here : bytes ≡ block_of m.bytes c.block old.block = subst (λ a. IfSome a (λ all. bytes ≡ block_of all c.block old.block)) known f.block in
            here ∙ ap (λ b. block_of m.bytes b old.block) block_c ∙ ap (block_of m.bytes (m.at / m.bs)) (sym fits.bs)

        abbrev key : List (List ℕ)
        key = object_key n.started c.number

        object_is : IsSomeAnd (slice_get n.tiers.items c.tier) (λ t. Object o key IsBlock (o.told t))
        object_is = weaken_at _ _ (slice_get n.tiers.items c.tier) copy_stood.0.object (λ t told. weaken_at _ _ (o.told t) told (λ q at_key. weaken_at _ _ (q key) at_key block_bytes))

        -- it is long enough
        long : (bytes : List ℕ) → IsBlock bytes → place_in o r old.block x + left_of o r old.block x ≤ length bytes
        long bytes b = let more = ends_within m.bs m.at m.bytes some_b inside_m in omega (arith, more, place_m, left_m, ap length b)

        -- the machine's candidate
        abbrev candidate : Candidate
        candidate = at_worker V.body (1, c)

        only_one : sources V.body m.worker m.file (m.at / m.bs) ≡ candidate ∷ []
        only_one = sources_are old.workers.items V.body s.workers m.file (m.at / m.bs) m.worker c kept_m (copy_m (Some c) first_is)

        passes : refusal U V.body H (Event.Next l) ≡ None
        passes = refused_by (Some c) first_is

        -- the labels rest on what they rested on
        leaves_from : ChangesAt old.workers.items new.workers.items 0 (KeepsRooms c.number) → (a : Holder) → Leaves a s.known s.known old.workers.items new.workers.items old.master.kept.names.next_id old.master.kept.names.next_id
        leaves_from change a = leaves_rooms s.known a old.workers.items new.workers.items old.master.kept.names.next_id c.number change copy_stood.0.owner

        -- ---- nothing but tiers that may have failed

        module _ {G : Node S → Node S → Type 0} (change : ChangesAt old.workers.items new.workers.items 0 G) (tried : Tried o r x.file (wanted o r old.block x) (place_in o r old.block x) (left_of o r old.block x) n n' c) (same : y ≡ x) where
          abbrev Q : Node S → Node S → Type 0
          Q a b = Tried o r x.file (wanted o r old.block x) (place_in o r old.block x) (left_of o r old.block x) a b c

          rows_same : ChangesAt old.workers.items new.workers.items (pred 1) (RowChanges (λ W. W))
          rows_same = fixed (RowChanges (λ W. W)) old.workers.items new.workers.items 0 n n' was is change (same_row n n' tried.same)

          tried_stands : Stands d o r w U new V
          tried_stands = stands_by o r w U new V s.known old.block old.master.journal.limit old.master new.workers.items new.hands.items rest.block (ap (λ k. k.journal.limit) rest.master) rest.master refl refl (record {
            setup = setup_stays (λ W. W) old.workers.items new.workers.items 1 rows_same s.setup;
            named = s.names;
            areas = s.areas;
            workers = workers_as new.workers.items (change_worker 1 (λ W. W) V.body) V.body (sym (set-get_or V.body.workers 0 no_worker)) refl (workers_change (λ W. W) old.workers.items new.workers.items 1 rows_same V.body s.workers);
            hands = hands_still r w s.known old.workers.items new.workers.items old.master.kept.names.next_id old.block i l (leaves_from (fixed (KeepsRooms c.number) old.workers.items new.workers.items 0 n n' was is change (same_rooms c.number n n' tried.same))) V.hands old.hands.items new.hands.items s.hands within (kept_hands same);
            files = s.files;
            objects = nodes_changed o Q s.known old.master.kept.names.next_id old.block 0 old.workers.items new.workers.items (fixed Q old.workers.items new.workers.items 0 n n' was is change tried)
                (λ a b g. told_stands o s.known old.master.kept.names.next_id old.block 1 c.tier a b g.same.started (ap (λ k. k.next) g.same.book) g.tiers (λ P all. subst (All P) (sym (ap (λ k. k.rows) g.same.book)) all) (ap (λ k. k.rooms) g.same.book)) s.objects;
          })

          pub next_short : Goes d o r w U old new V (suc i) (Event.Next l) (Reply.Refused Refusal.Memory)
          next_short = goes_short o r w U old new V (suc i) (Event.Next l) tried_stands refl

          abbrev remains : Remains
          remains = record { begun = false; fate = BlockFate.IsGone; keeps_room = false; parks = false; acted = false; breaks = false }

          abbrev fault_test : Option machine.Hand → Bool
          fault_test h = by_hand (λ k. seeks_source k && next_may_fail (tier_rise 1) (Device.TiersOf 1) (sources_for U V.body k)) (option_and_then unbroken h)

          pub next_fault : ChangesAt n.tiers.items n'.tiers.items c.tier (IsFaultOrShort o key (place_in o r old.block x + left_of o r old.block x)) → Goes d o r w U old new V (suc i) (Event.Next l) (Reply.Refused (Refusal.TierFault 1))
          next_fault failed =
              let rose : At n.tiers.items n'.tiers.items c.tier (λ a b. Rose (o.faults a) (o.faults b)) = then_rose o key IsBlock (place_in o r old.block x + left_of o r old.block x) long (slice_get n.tiers.items c.tier) (slice_get n'.tiers.items c.tier) object_is failed.at in
              let tier : At old.workers.items new.workers.items 0 (λ a b. At a.tiers.items b.tiers.items c.tier (λ p q. Rose (o.faults p) (o.faults q))) = (fixed (λ a b. At a.tiers.items b.tiers.items c.tier (λ p q. Rose (o.faults p) (o.faults q))) old.workers.items new.workers.items 0 n n' was is change rose).at in
              record {
                after = V;
                rise = tier_rise 1;
                made = None;
                stands = tried_stands;
                rises = Rises.OfTier 1 c.tier tier;
                step = record {
                  body = V.body;
                  hands = H;
                  step = Step.Failed remains passes
                      (ap fault_test at ∙ ap (λ b. b && next_may_fail (tier_rise 1) (Device.TiersOf 1) (sources V.body m.worker m.file (m.at / m.bs))) wants ∙ ap (next_may_fail (tier_rise 1) (Device.TiersOf 1)) only_one)
                      refl refl;
                  after = sym (put_same V (suc i));
                };
              }

        -- ---- the copy was opened

        module _ {G : Node S → Node S → Type 0} (change : ChangesAt old.workers.items new.workers.items 0 G) (z : BlockSource R) (opens : Opens o r x.file (wanted o r old.block x) (place_in o r old.block x) (left_of o r old.block x) z.stream.reader z.tier n n' c) (good : z.failed ≡ false) (mine : z.worker ≡ 1) (due : r.to_give z.stream.reader ≡ left_of o r old.block x) (there : y.source ≡ Some z) (same : SameFile r x y x.at) where
          abbrev uses : Worker → Worker
          uses W = record W { copies = used c.number W.copies }

          abbrev Q2 : Node S → Node S → Type 0
          Q2 a b = Opens o r x.file (wanted o r old.block x) (place_in o r old.block x) (left_of o r old.block x) z.stream.reader z.tier a b c

          rows_used : ChangesAt old.workers.items new.workers.items (pred 1) (RowChanges uses)
          rows_used = fixed (RowChanges uses) old.workers.items new.workers.items 0 n n' was is change (used_row c.number n n' opens.used)

          -- what the machine does
          abbrev B0 : State
          B0 = moved_on U (fault_free 0) V.body (suc i) l m candidate

          abbrev B : State
          B = (next_from U (fault_free 0) V.body (suc i) H l m candidate).1

          abbrev k_on : machine.Stream
          k_on = record m { source = Some candidate.0; cache = new_cache U B0 m (promoted_by (caching U (fault_free 0) B0 m candidate)) (cache_room U (fault_free 0) B0 m candidate) }

          place_none : cache_room U (fault_free 0) B0 m candidate ≡ None
          place_none = no_place U B0 m candidate fits.kind

          workers_b : B.workers ≡ (change_worker 1 uses V.body).workers
          workers_b =
              ap (λ q. (take_room q m.worker (block_len (length m.bytes) (m.at / m.bs) m.bs) B0).workers) place_none
              ∙ set-get_or B0.workers (pred m.worker) no_worker
              ∙ ap (λ q. settle_workers U (fault_free 0) (use_hold candidate.1 V.body) m q (use_hold candidate.1 V.body).workers) fits.cache

          range : (bytes : List ℕ) × IsBlock bytes × (r.left z.stream.reader ≡ Some (take (left_of o r old.block x) (drop (place_in o r old.block x) bytes)))
          range = range_left o key IsBlock (place_in o r old.block x) (left_of o r old.block x) (r.left z.stream.reader) (slice_get n.tiers.items c.tier) opens.range object_is

          due_m : left_of o r old.block x ≡ rest_len k_on
          due_m = left_m ∙ left_is m.bs (length m.bytes) m.at some_b inside_m

          few : rest_len k_on ≤ m.bs - m.at % m.bs
          few = omega (arith, left_m, due_m)

          reads_on : ReaderFits r k_on z
          reads_on = record {
            inside = inside_m;
            due = due ∙ due_m;
            left = range.2 ∙ ap (λ k. Some (take k (drop (place_in o r old.block x) range.0))) due_m ∙ ap (λ p. Some (take (rest_len k_on) (drop p range.0))) place_m ∙ ap (λ bs. Some (take (rest_len k_on) (drop (m.at % m.bs) bs))) range.1
                ∙ ap Some (rest_of_block m.bs m.at (rest_len k_on) m.bytes some_b few);
          }

          source_z : Some candidate.0 ≡ source_of y.source
          source_z = ap (λ t. Some (Source.AtWorker 1 t)) (sym opens.tier) ∙ ap (λ v. Some (Source.AtWorker v z.tier)) (sym mine) ∙ sym (good_source z good) ∙ sym (ap source_of there)

          opened_stands : Stands d o r w U new (put_back V (suc i) B (set_hand l (machine.Hand.Reading k_on) H))
          opened_stands = stands_with B (Hand.Reading x) (Hand.Reading y) (machine.Hand.Reading m) (machine.Hand.Reading k_on)
              (setup_stays uses old.workers.items new.workers.items 1 rows_used s.setup)
              (record { names = s.names.names; gate = s.names.gate; generation = s.names.generation; fuse = s.names.fuse; down = s.names.down; unlocked = s.names.unlocked; unseen = s.names.unseen })
              s.areas
              (workers_as new.workers.items (change_worker 1 uses V.body) B workers_b refl (workers_change uses old.workers.items new.workers.items 1 rows_used V.body s.workers))
              refl
              (leaves_from (fixed (KeepsRooms c.number) old.workers.items new.workers.items 0 n n' was is change (used_rooms c.number n n' opens.used)) (suc i, l))
              (nodes_changed o Q2 s.known old.master.kept.names.next_id old.block 0 old.workers.items new.workers.items (fixed Q2 old.workers.items new.workers.items 0 n n' was is change opens)
              (λ a b g. told_stands o s.known old.master.kept.names.next_id old.block 1 c.tier a b g.used.started g.used.next g.tiers (λ P all. subst (All P) (sym g.used.rows) (all_used P c.number a.book.rows all)) g.used.rooms) s.objects)
              at hands
              (fits_in_place r s.known old.master.kept.names.next_id old.block m x y fits k_on refl refl refl refl refl refl (ap (new_cache U B0 m (promoted_by (caching U (fault_free 0) B0 m candidate))) place_none) same source_z (subst (λ q. IfSome q (λ b. b.failed ≡ false → ReaderFits r k_on b)) (sym there) (λ still. reads_on)))

          pub next_opened : Goes d o r w U old new V (suc i) (Event.Next l) (Reply.FromWorker 1 c.tier)
          next_opened = record {
            after = put_back V (suc i) B (set_hand l (machine.Hand.Reading k_on) H);
            rise = no_rise;
            made = None;
            stands = opened_stands;
            rises = Rises.Nothing;
            step = record {
              body = B;
              hands = set_hand l (machine.Hand.Reading k_on) H;
              step = Step.Accepted (fault_free 0) passes refl (serves_none V.body.master.fuse) (ap next_chosen at)
                  (sym (does false (before sought.inside) ∙ ap (next_within U (fault_free 0) V.body (suc i) H l m) none_m ∙ ap (next_among U (fault_free 0) V.body (suc i) H l m) only_one)) refl;
              after = refl;
            };
          }

    -- ---- by what the search gave

    -- where the first worker's tiers may have failed
    abbrev Tries : Node S → Node S → Type 0
    Tries = TriesRow o r x.file (wanted o r old.block x) (place_in o r old.block x) (left_of o r old.block x)

    abbrev Fails : Node S → Node S → Type 0
    Fails = FailsRow o r x.file (wanted o r old.block x) (place_in o r old.block x) (left_of o r old.block x)

    seek_short : old.master.journal.failed ≡ false → Sought o r old.master.kept.names.nodes x → ChangesAt old.workers.items new.workers.items 0 Tries → y ≡ x → Goes d o r w U old new V (suc i) (Event.Next l) (Reply.Refused Refusal.Memory)
    seek_short up sought change same =
        let both = both_there (slice_get old.workers.items 0) (slice_get new.workers.items 0) change.at in
        let copy = there_is (Tried o r x.file (wanted o r old.block x) (place_in o r old.block x) (left_of o r old.block x) both.0 both.1) (copy_at x.file (wanted o r old.block x) (Some both.0)) both.4 in
        next_short up sought both.0 both.1 copy.0 both.2 both.3 copy.1 change copy.2 same

    seek_fault : old.master.journal.failed ≡ false → Sought o r old.master.kept.names.nodes x → ChangesAt old.workers.items new.workers.items 0 Tries → ChangesAt old.workers.items new.workers.items 0 Fails → y ≡ x → Goes d o r w U old new V (suc i) (Event.Next l) (Reply.Refused (Refusal.TierFault 1))
    seek_fault up sought change fails same =
        let both = both_there (slice_get old.workers.items 0) (slice_get new.workers.items 0) change.at in
        let copy = there_is (Tried o r x.file (wanted o r old.block x) (place_in o r old.block x) (left_of o r old.block x) both.0 both.1) (copy_at x.file (wanted o r old.block x) (Some both.0)) both.4 in
        let failed : Fails both.0 both.1 = at_these Fails (slice_get old.workers.items 0) (slice_get new.workers.items 0) both.0 both.1 both.2 both.3 fails.at in
        let tier : IsSomeAnd (Some copy.0) (λ c. ChangesAt both.0.tiers.items both.1.tiers.items c.tier (IsFaultOrShort o (object_key both.0.started c.number) (place_in o r old.block x + left_of o r old.block x))) =
        subst (λ q. IsSomeAnd q (λ c. ChangesAt both.0.tiers.items both.1.tiers.items c.tier (IsFaultOrShort o (object_key both.0.started c.number) (place_in o r old.block x + left_of o r old.block x)))) copy.1 failed in
        next_fault up sought both.0 both.1 copy.0 both.2 both.3 copy.1 change copy.2 same tier

    seek_opened : (t : ℕ) → old.master.journal.failed ≡ false → Sought o r old.master.kept.names.nodes x → SameFile r x y x.at → IsSomeAnd y.source (NewSource o r old.block x old.workers.items new.workers.items t) → Goes d o r w U old new V (suc i) (Event.Next l) (Reply.FromWorker 1 t)
    seek_opened t up sought same source =
        let given = there_is (NewSource o r old.block x old.workers.items new.workers.items t) y.source source in
        let z = given.0 in
        let is_new = given.2 in
        let both = both_there (slice_get old.workers.items 0) (slice_get new.workers.items 0) is_new.row.at in
        let copy = there_is (Opens o r x.file (wanted o r old.block x) (place_in o r old.block x) (left_of o r old.block x) z.stream.reader t both.0 both.1) (copy_at x.file (wanted o r old.block x) (Some both.0)) both.4 in
        let opens : Opens o r x.file (wanted o r old.block x) (place_in o r old.block x) (left_of o r old.block x) z.stream.reader z.tier both.0 both.1 copy.0 = subst (λ q. Opens o r x.file (wanted o r old.block x) (place_in o r old.block x) (left_of o r old.block x) z.stream.reader q both.0 both.1 copy.0) (sym is_new.tier) copy.2 in
        subst (λ q. Goes d o r w U old new V (suc i) (Event.Next l) (Reply.FromWorker 1 q)) (sym copy.2.tier)
        (next_opened up sought both.0 both.1 copy.0 both.2 both.3 copy.1 is_new.row z opens is_new.good is_new.worker is_new.due given.1 same)

  by_found : (x y : Stream R) (found : Found) → ChangesAt old.hands.items new.hands.items i (SetsHand l (Hand.Reading x) (Hand.Reading y)) → (m : machine.Stream) → hand_at (hands_of V (suc i)) l ≡ Some (machine.Hand.Reading m) → StreamFits r s.known old.master.kept.names.next_id old.block m x → Halts old.master.journal.failed found → SeeksOf o r old.master.kept.names.nodes old.block old.workers.items new.workers.items x y found → Goes d o r w U old new V (suc i) (Event.Next l) (found_reply found)
  by_found x y Found.BadLabel hands m at fits h p = absurd p
  by_found x y Found.Stopped hands m at fits h p = next_stopped x y hands m at fits h p.1 p.0
  by_found x y Found.NotFound hands m at fits h p = next_lost x y hands m at fits h p.0 p.2 p.1
  by_found x y Found.End hands m at fits h p = next_ended x y hands m at fits h p.0 p.1 p.2 p.3 p.4
  by_found x y (Found.Still v t) hands m at fits h p = next_still x y hands m at fits v t h p.0 p.1 p.2 p.3 p.4
  by_found x y (Found.Opened t) hands m at fits h p = seek_opened x y hands m at fits t h p.0 p.1 p.2
  by_found x y (Found.Unavailable b) hands m at fits h p = next_unavailable x y hands m at fits h p.0 b p.1 p.2 p.3 p.4
  by_found x y Found.Fault hands m at fits h p = seek_fault x y hands m at fits h p.0 p.1 p.2 p.3
  by_found x y Found.Memory hands m at fits h p = seek_short x y hands m at fits h p.0 p.1 p.2

  by_hands : (t u : Hand R W) (found : Found) → ChangesAt old.hands.items new.hands.items i (SetsHand l t u) → (k : machine.Hand) → hand_at (hands_of V (suc i)) l ≡ Some k → Fits r w s.known old.workers.items old.master.kept.names.next_id old.block (suc i, l) k t → Halts old.master.journal.failed found → HandSeeks o r old.master.kept.names.nodes old.block old.workers.items new.workers.items t u found → Goes d o r w U old new V (suc i) (Event.Next l) (found_reply found)
  by_hands (Hand.Reading x) (Hand.Reading y) found hands (machine.Hand.Reading m) at fits h p = by_found x y found hands m at fits h p
  by_hands (Hand.Reading x) (Hand.Reading y) found hands (machine.Hand.Writing m) at fits h p = absurd fits
  by_hands (Hand.Reading x) (Hand.Reading y) found hands (machine.Hand.Moving m) at fits h p = absurd fits
  by_hands (Hand.Reading x) (Hand.Reading y) found hands (machine.Hand.Storing m) at fits h p = absurd fits
  by_hands (Hand.Reading x) (Hand.Writing y) found hands k at fits h p = absurd p
  by_hands (Hand.Writing x) u found hands (machine.Hand.Reading m) at fits h p = absurd fits
  by_hands (Hand.Writing x) u found hands (machine.Hand.Writing m) at fits h p =
      subst (λ g. Goes d o r w U old new V (suc i) (Event.Next l) (found_reply g)) (sym p.1) (next_writer (Hand.Writing x) m p.2 at (subst (λ k. ChangesAt old.hands.items new.hands.items i (SetsHand l (Hand.Writing x) k)) p.0 hands))
  by_hands (Hand.Writing x) u found hands (machine.Hand.Moving m) at fits h p = absurd fits
  by_hands (Hand.Writing x) u found hands (machine.Hand.Storing m) at fits h p = absurd fits

  pub sought_goes : (t u : Hand R W) (found : Found) → ChangesAt old.hands.items new.hands.items i (SetsHand l t u) → Halts old.master.journal.failed found → HandSeeks o r old.master.kept.names.nodes old.block old.workers.items new.workers.items t u found → Goes d o r w U old new V (suc i) (Event.Next l) (found_reply found)
  sought_goes t u found hands h p =
      let there = fits_at r w s.known old.workers.items old.master.kept.names.next_id old.block V.hands old.hands.items s.hands i within l t (set_there i l t u old.hands.items new.hands.items hands) in
      by_hands t u found hands there.0 there.1 there.2 h p

-- ---- for any actor

module _ {D S R W : Type 0} {d : disks.Ghosts D} (o : objects.Ghosts S R W) (r : reads.Ghosts R) (w : writes.Ghosts W) (old mid : Core D S R W d w) (who : ℕ) (actor : is_actor who ≡ true) (l : Label) (rest : KeepsRest old mid) (workers : mid.workers ≡ old.workers) where
  pub next_no_label : IsSomeAnd (slice_get old.hands.items (pred who)) (λ s. hand_in s l ≡ None) → ChangesAt old.hands.items mid.hands.items (pred who) KeepsHands → Steps d o r w old mid who (Event.Next l) (Reply.Refused Refusal.BadLabel)
  next_no_label absent hands = by_actor (λ k. IsSomeAnd (slice_get old.hands.items (pred k)) (λ s. hand_in s l ≡ None) → ChangesAt old.hands.items mid.hands.items (pred k) KeepsHands → Steps d o r w old mid k (Event.Next l) (Reply.Refused Refusal.BadLabel))
      (λ i within absent hands. λ U V s. next_missing o r w old mid l i within rest U V s (ap (λ x. x.items) workers) (absent_at r w s.known old.workers.items old.master.kept.names.next_id old.block V.hands old.hands.items s.hands i within l absent) hands) who actor absent hands

  module _ (found_in new : Core D S R W d w) (t u : Hand R W) (found : Found) (rest2 : KeepsRest mid found_in) (hands2 : found_in.hands ≡ mid.hands) (rest3 : KeepsRest found_in new) (workers3 : new.workers ≡ found_in.workers) (h : Halts mid.master.journal.failed found) (p : HandSeeks o r mid.master.kept.names.nodes mid.block mid.workers.items found_in.workers.items t u found) where
    -- the search between the core before and the core afterwards
    seeks_whole : HandSeeks o r old.master.kept.names.nodes old.block old.workers.items new.workers.items t u found
    seeks_whole =
        subst (λ q. HandSeeks o r old.master.kept.names.nodes old.block old.workers.items q.items t u found) (sym workers3)
        (subst (λ q. HandSeeks o r old.master.kept.names.nodes old.block q.items found_in.workers.items t u found) workers
        (subst (λ q. HandSeeks o r old.master.kept.names.nodes q mid.workers.items found_in.workers.items t u found) rest.block
        (subst (λ q. HandSeeks o r q.kept.names.nodes mid.block mid.workers.items found_in.workers.items t u found) rest.master p)))

    pub next_label : (k : Label) (reply : Reply) → reply ≡ found_reply found → k ≡ l → ChangesAt old.hands.items mid.hands.items (pred who) (EndsHand l t) → ChangesAt found_in.hands.items new.hands.items (pred who) (AddsHand k u) → Steps d o r w old new who (Event.Next l) reply
    next_label k reply is same ended added = by_actor (λ j. ChangesAt old.hands.items mid.hands.items (pred j) (EndsHand l t) → ChangesAt found_in.hands.items new.hands.items (pred j) (AddsHand k u) → Steps d o r w old new j (Event.Next l) reply)
        (λ i within ended added. λ U V s. subst (λ a. Goes d o r w U old new V (suc i) (Event.Next l) a) (sym is)
        (sought_goes o r w old new l i within (rest_both rest (rest_both rest2 rest3)) U V s t u found (sets_hand i l k t u old.hands.items mid.hands.items new.hands.items same ended (subst (λ hs. ChangesAt hs.items new.hands.items i (AddsHand k u)) hands2 added)) (subst (λ m. Halts m.journal.failed found) rest.master h) seeks_whole)) who actor ended added
