-- A new file with its writer as a step of the file machine.
use Rattle.std.proofs.Common.{◌≡◌, ℕ, suc, pred, ◌+◌, ◌*◌, ◌<◌, ◌≤◌, true, false, cond, List, [], length, get_or, nat_eq, Option, Some, None, is_some, option_map, inl, refl, sym, ap, ◌∙◌, subst, arith}
use Rattle.std.specs.Prelude.{IsTrue, Result, Ok, Err, OnOk, OnErr, max, IsSomeAnd, slice_get, option_and_then, unwrap_or}
use Rattle.std.proofs.lemmas.Bool.{eqb-true}
use Rattle.std.proofs.Math.Nat.{zero-div}
use Rattle.fs_model.specs.Spelled.{is_actor}
use Rattle.fs_model.specs.BytesOutcomes.{lacks}
use Rattle.fs_model.specs.declared.setup.Setup.{Setup}
use Rattle.fs_model.specs.declared.path.Path.{Path}
use Rattle.fs_model.specs.declared.label.Label.{Label}
use Rattle.fs_model.specs.declared.event.Event.{Event}
use Rattle.fs_model.specs.declared.event.WriteType.{WriteType}
use Rattle.fs_model.specs.declared.reply.Reply.{Reply}
use Rattle.fs_model.specs.declared.reply.Refusal.{Refusal}
use Rattle.fs_model.specs.State as machine
use Rattle.fs_model.specs.State.{State, Whole, Node as machineNode, NodeRow, Content, Hands, OpenBlock}
use Rattle.fs_model.specs.Lookups.{hand_at, has_label, is_configured, is_live, worker, store_of}
use Rattle.fs_model.specs.Updates.{add_hand, journal_if}
use Rattle.fs_model.specs.NamesEvents.{create_change}
use Rattle.fs_model.specs.Changes.{put_node}
use Rattle.fs_model.specs.Choices.{fault_free}
use Rattle.fs_model.specs.Journaling.{fuse_serves}
use Rattle.fs_model.specs.Machine.{refusal, hands_of, put_back}
use Rattle.fs_model.specs.Step.{Step}
use Rattle.outside.specs.declared.disk.Disk as disks
use Rattle.outside.specs.declared.objects.Objects as objects
use Rattle.outside.specs.declared.objects.ObjectRead as reads
use Rattle.outside.specs.declared.objects.ObjectWrite as writes
use Rattle.file_writer.specs.Taken.{HasTaken}
use Rattle.fs_model.specs.declared.change.Change.{Change}
use Rattle.fs_model.specs.State.{Doubt, Names}
use Rattle.fs_model.specs.Words.{path_len}
use Rattle.fs_model.specs.Changes.{apply}
use Rattle.fs_model.specs.Updates.{journal}
use Rattle.fs_model.specs.Step.{stopped_with}
use Rattle.journal_entry.specs.declared.entry.Entry.{Entry}
use Rattle.journal_entry.specs.EntryText.{entry_text}
use Rattle.journal_entry.proofs.BodyLengths.{length-change}
use Rattle.journal_disk.specs.declared.fault.AppendFault.{AppendFault}
use Rattle.journal_disk.specs.declared.fault.AppendFault.TheVariants as faults
use Rattle.master_state.specs.Effect.{counts_in}
use Rattle.master_node.specs.Mastering.{entered, names_of, standing_of}
use Rattle.cluster_core.specs.Entering.{Entered, Enters, HasStopped, Stays, done_or}
use Rattle.cluster_core.specs.Names.{new_file}
use Rattle.cluster_core.specs.NamesStand.{NamesStand}
use Rattle.cluster_core.specs.Tests.{create_test}
use Rattle.cluster_core.specs.Tiers.{ChangesAt}
use Rattle.cluster_core.specs.LabelsView.{LabelsView, hand_in, count}
use Rattle.cluster_core.specs.Hands.{Matches}
use Rattle.cluster_core.specs.HandChanges.{AddsHand, KeepsHands}
use Rattle.cluster_core.specs.HandFits.{HandFits, WriterFits}
use Rattle.cluster_core.specs.Knowledge.{Knowledge, Holder, Leaves, with_author, with_bytes}
use Rattle.cluster_core.specs.Here.{started_here, configured_here}
use Rattle.cluster_core.specs.Creating.{no_bytes, new_writer}
use Rattle.cluster_core.specs.Openings.{has_here, count_here, here}
use Rattle.cluster_core.specs.Stands.{Stands, HandsStand, NodesStand, FilesStand, FileFits}
use Rattle.cluster_core.specs.Goes.{Steps, Rises, no_rise}
use Rattle.cluster_core.specs.declared.cluster.Core.{Core}
use Rattle.cluster_core.specs.declared.hand.Hand.{Hand}
use Rattle.cluster_core.specs.declared.hand.Writer.{Writer}
use Rattle.cluster_core.specs.declared.node.Node.{Node}
use Rattle.cluster_core.proofs.Named.{next_id_is}
use Rattle.cluster_core.proofs.Journaled.{entered_stand, goes_stopped, serves, stopped_stand}
use Rattle.cluster_core.proofs.NamesSteps.{create_refusal}
use Rattle.cluster_core.proofs.Entries.{create_room}
use Rattle.cluster_core.proofs.NamesGo.{file_anywhere, noted_as}
use Rattle.cluster_core.proofs.Rows.{all_put}
use Rattle.cluster_core.proofs.Standing.{stands_by, stands_master_by, stands_stays_by, goes_refused, goes_short}
use Rattle.cluster_core.proofs.Labelled.{absent_at, hands_added, there_at}
use Rattle.cluster_core.proofs.Frames.{KnownOn, DoneOn, nodes_stay, files_stay}
use Rattle.cluster_core.proofs.CloseGo.{by_actor}
use Rattle.cluster_core.proofs.HereIs.{configured_is, live_is, started_is}
use Rattle.cluster_core.proofs.KeptHands.{hands_kept}
use Rattle.std.specs.Prelude.{IsErrOf}
use Rattle.journal_disk.specs.Journaling.{Journaling}
use Rattle.cluster_core.specs.AreasStand.{with_doubt}
use Rattle.cluster_core.proofs.AreaFacts.{areas_entered, areas_stopped, standing_is, up_is}
use Rattle.cluster_core.proofs.Journaled.{change_in_doubt}
use Rattle.cluster_core.proofs.Entries.{create_up}
use Rattle.cluster_core.specs.AreasStand.{content_row}

-- ---- labels

module _ {T : Type 0} where
  -- what wasn't there, where a label was added
  pub add_absent : (i : ℕ) (l : List ℕ) (t : T) (old new : List (LabelsView T)) → ChangesAt old new i (AddsHand l t) → IsSomeAnd (slice_get old i) (λ s. hand_in s l ≡ None)
  add_absent i l t old new c = there_at (λ s. hand_in s l ≡ None) (slice_get old i) (slice_get new i) c.at (λ a b h. h.absent)

-- a label that is there on neither side or on both
both_or_none : {S R W : Type 0} (r : reads.Ghosts R) (w : writes.Ghosts W) (K : Knowledge) (nodes : List (Node S)) (next bs : ℕ) (a : Holder) (h : Option machine.Hand) (t : Option (Hand R W)) → HandFits r w K nodes next bs a h t → is_some h ≡ is_some t
both_or_none r w K nodes next bs a None None f = refl
both_or_none r w K nodes next bs a None (Some t) f = absurd f
both_or_none r w K nodes next bs a (Some h) None f = absurd f
both_or_none r w K nodes next bs a (Some h) (Some t) f = refl

module _ {S R W : Type 0} (r : reads.Ghosts R) (w : writes.Ghosts W) (K : Knowledge) (nodes : List (Node S)) (next bs : ℕ) (all : List Hands) (labels : List (LabelsView (Hand R W))) (was : HandsStand r w K nodes next bs all labels) (i : ℕ) (within : i < 64) where
  -- the actor has the label on both sides or on neither
  taken_by : (l : List ℕ) (H : Hands) (x : Option (LabelsView (Hand R W))) → IsSomeAnd x (Matches (λ m. HandFits r w K nodes next bs (suc i, m)) H) → has_label H l ≡ is_some (option_and_then (λ (s : LabelsView (Hand R W)). hand_in s l) x)
  taken_by l H None m = absurd m
  taken_by l H (Some s) m = both_or_none r w K nodes next bs (suc i, l) (hand_at H l) (hand_in s l) (m.hands l)

  pub taken_is : (l : List ℕ) → has_label (get_or all i []) l ≡ has_here labels (suc i) l
  taken_is l = taken_by l (get_or all i []) (slice_get labels i) (was.each i within)

  -- and as many labels
  counted_by : (H : Hands) (x : Option (LabelsView (Hand R W))) → IsSomeAnd x (Matches (λ m. HandFits r w K nodes next bs (suc i, m)) H) → length H ≡ unwrap_or (option_map (λ (s : LabelsView (Hand R W)). count s) x) 0
  counted_by H None m = absurd m
  counted_by H (Some s) m = m.counts

  pub labels_is : length (get_or all i []) ≡ count_here labels (suc i)
  labels_is = counted_by (get_or all i []) (slice_get labels i) (was.each i within)

-- ---- what is known of a new file

-- a number below another isn't it
below_differs : (next id : ℕ) → id < next → nat_eq next id ≡ false
below_differs next id few = elim (nat_eq next id) as (λ b. nat_eq next id ≡ b → b ≡ false) [ true ↦ λ is. absurd (let same = eqb-true next id is in omega (arith, same, few)) | false ↦ λ isnt. refl ] refl

above_differs : (next id : ℕ) → next + 1 ≤ id → nat_eq next id ≡ false
above_differs next id more = elim (nat_eq next id) as (λ b. nat_eq next id ≡ b → b ≡ false) [ true ↦ λ is. absurd (let same = eqb-true next id is in omega (arith, same, more)) | false ↦ λ isnt. refl ] refl

same_number : (n : ℕ) → nat_eq n n ≡ true
same_number n = grind arith

-- the file with the next number is this label's, and has no bytes
abbrev pub with_new : ℕ → Holder → Knowledge → Knowledge
with_new next a K = with_author next (Some a) (with_bytes next [] K)

module _ (K : Knowledge) (next : ℕ) (a : Holder) where
  bytes_before : (id : ℕ) → id < next → (with_new next a K).bytes_of id ≡ K.bytes_of id
  bytes_before id few = ap (λ b. cond b (Some []) (K.bytes_of id)) (below_differs next id few)

  author_before : (id : ℕ) → id < next → (with_new next a K).author id ≡ K.author id
  author_before id few = ap (λ b. cond b (Some a) (K.author id)) (below_differs next id few)

  leaves_new : {S : Type 0} (nodes : List (Node S)) → Leaves a K (with_new next a K) nodes nodes next (next + 1)
  leaves_new nodes = record {
    later = omega arith;
    files = λ id few other. (bytes_before id few, author_before id few);
    owners = λ w n b h other. h;
    rooms = λ w started n bytes b h other there. there;
  }

  known_new : KnownOn K (with_new next a K) next (next + 1)
  known_new = record {
    later = omega arith;
    files = λ id few. record { bytes = inl (bytes_before id few); author = λ h. sym (ap is_some (author_before id few)) ∙ h };
    owners = λ w n h. h;
  }

  done_new : DoneOn K (with_new next a K) next (next + 1)
  done_new = record {
    later = omega arith;
    files = λ id few none. (bytes_before id few, author_before id few ∙ none);
  }

  module _ (bs : ℕ) (nodes : List NodeRow) (contents : List Content) (s : FilesStand K next bs nodes contents) (p : Path) where
    written_new : (id : ℕ) → is_some ((with_new next a K).author id) ≡ true → content_row contents id ≡ None
    written_new id h = elim (nat_eq next id) as (λ b. nat_eq next id ≡ b → is_some (cond b (Some a) (K.author id)) ≡ true → content_row contents id ≡ None) [
      | true ↦ λ is h. (s.fresh id (let same = eqb-true next id is in omega (arith, same))).0
      | false ↦ λ isnt h. s.written id h
    ] refl h

    fresh_new : (id : ℕ) → next + 1 ≤ id → (content_row contents id ≡ None) × ((with_new next a K).author id ≡ None)
    fresh_new id more =
        let was = s.fresh id (omega (arith, more)) in
        (was.0, ap (λ b. cond b (Some a) (K.author id)) (above_differs next id more) ∙ was.1)

    pub files_new : FilesStand (with_new next a K) (next + 1) bs (put_node p (machineNode.IsFile (new_file next)) nodes) contents
    files_new = record {
      each = all_put (FileFits (with_new next a K) contents (next + 1) bs) p (machineNode.IsFile (new_file next)) nodes (omega arith, refl, λ done. absurd (cc)) (file_anywhere (with_new next a K) contents (next + 1) bs p) (files_stay K (with_new next a K) next (next + 1) bs done_new contents nodes s.each);
      written = written_new;
      fresh = fresh_new;
    }

-- ---- its writer

module _ {S W : Type 0} (w : writes.Ghosts W) (K : Knowledge) (nodes : List (Node S)) (next bs : ℕ) (a : Holder) (worker started : ℕ) where
  none_of : (n : ℕ) → 0 * n + 0 ≡ 0
  none_of n = omega arith

  -- it has taken no bytes
  none_taken : HasTaken w (no_bytes bs worker) []
  none_taken = record {
    len = refl;
    block = ap (λ n. n * bs + 0) (zero-div bs) ∙ none_of bs;
    object = tt;
  }

  pub new_fits : (m : machine.Writer) → 0 < worker → m.file ≡ next → m.bs ≡ bs → m.kind ≡ WriteType.MustCache → m.worker ≡ worker → m.start ≡ started → m.broken ≡ false → m.block ≡ None → m.taken ≡ []
      → WriterFits w (with_new next a K) nodes (next + 1) bs a m (new_writer next worker started bs)
  new_fits m some file size kind at start whole none empty = record {
    file = file;
    bs = size;
    blocks = refl;
    placed = some;
    kind = kind;
    worker = at;
    start = start;
    broken = whole;
    room = ap (option_and_then (λ (b : OpenBlock). b.room)) none;
    short = few m.taken m.block empty none;
    on = λ _. record {
      block = none;
      taken = subst (HasTaken w (no_bytes bs worker)) (sym empty) none_taken;
      tells = refl;
      wants = λ _. refl;
      alone = refl;
      within = tt;
    };
    reserved = tt;
    old = omega (arith, file);
    bytes = ap (λ n. (with_new next a K).bytes_of n) file ∙ ap (λ b. cond b (Some []) (K.bytes_of next)) (same_number next) ∙ ap Some (sym empty);
    author = inl (ap (λ n. (with_new next a K).author n) file ∙ ap (λ b. cond b (Some a) (K.author next)) (same_number next));
  }
    where
      few : (bytes : List ℕ) (b : Option OpenBlock) → bytes ≡ [] → b ≡ None → length bytes + lacks bs b ≤ 65536 * bs
      few bytes b e n = subst (λ x. length x + lacks bs b ≤ 65536 * bs) (sym e) (subst (λ x. length {A = ℕ} [] + lacks bs x ≤ 65536 * bs) (sym n) (omega arith))

-- ---- the event

module _ {D S R W : Type 0} {d : disks.Ghosts D} (o : objects.Ghosts S R W) (r : reads.Ghosts R) (w : writes.Ghosts W) (old : Core D S R W d w) (i : ℕ) (within : i < 64) (l : Label) (p : Path) (at : ℕ) where
  -- the tests are the machine's
  tests_are : (U : Setup) (V : Whole) (s : Stands d o r w U old V) → refusal U V.body (hands_of V (suc i)) (Event.Create l p WriteType.MustCache at) ≡ create_test old.master (here old.workers.items old.hands.items (suc i) l at) p
  tests_are U V s =
      let H = hands_of V (suc i) in
      create_refusal U old.master V.body H s.names l p WriteType.MustCache at s.setup.area
      ∙ ap (λ b. create_test old.master (record { taken = b; labels = length H; worker = at; configured = is_configured U at; live = is_live V.body at }) p) (taken_is r w s.known old.workers.items old.master.kept.names.next_id old.block V.hands old.hands.items s.hands i within l)
      ∙ ap (λ n. create_test old.master (record { taken = has_here old.hands.items (suc i) l; labels = n; worker = at; configured = is_configured U at; live = is_live V.body at }) p) (labels_is r w s.known old.workers.items old.master.kept.names.next_id old.block V.hands old.hands.items s.hands i within)
      ∙ ap (λ b. create_test old.master (record { taken = has_here old.hands.items (suc i) l; labels = count_here old.hands.items (suc i); worker = at; configured = b; live = is_live V.body at }) p) (configured_is old.workers.items at s.setup)
      ∙ ap (λ b. create_test old.master (record { taken = has_here old.hands.items (suc i) l; labels = count_here old.hands.items (suc i); worker = at; configured = configured_here old.workers.items at; live = b }) p) (live_is old.workers.items V.body s.workers at)

  pub create_refused : (why : Refusal) → Some (Reply.Refused why) ≡ create_test old.master (here old.workers.items old.hands.items (suc i) l at) p → Steps d o r w old old (suc i) (Event.Create l p WriteType.MustCache at) (Reply.Refused why)
  create_refused why h = λ U V s. goes_refused o r w U old old V (suc i) (Event.Create l p WriteType.MustCache at) (Reply.Refused why) s (tests_are U V s ∙ sym h) refl refl

  module _ (new : Core D S R W d w) (b : new.block ≡ old.block) (k : new.workers ≡ old.workers) where
    kept_hands : (U : Setup) (V : Whole) (s : Stands d o r w U old V) → ChangesAt old.hands.items new.hands.items i KeepsHands → HandsStand r w s.known old.workers.items old.master.kept.names.next_id old.block V.hands new.hands.items
    kept_hands U V s kept = hands_kept r w s.known old.workers.items old.master.kept.names.next_id old.block i V.hands old.hands.items new.hands.items s.hands within kept

    pub create_short : Stays d old.master new.master → ChangesAt old.hands.items new.hands.items i KeepsHands → Steps d o r w old new (suc i) (Event.Create l p WriteType.MustCache at) (Reply.Refused Refusal.Memory)
    create_short stays kept = λ U V s. goes_short o r w U old new V (suc i) (Event.Create l p WriteType.MustCache at) (stands_stays_by o r w U old new V s b k (kept_hands U V s kept) stays) refl

    -- the entry with the next number of the state
    abbrev entry : Entry
    entry = Entry.Create old.master.kept.names.next_id p

    pub create_stops : counts_in entry (names_of old.master) ≡ true → create_test old.master (here old.workers.items old.hands.items (suc i) l at) p ≡ None → HasStopped d 4 (entered entry (standing_of old.master)) old.master new.master → ChangesAt old.hands.items new.hands.items i KeepsHands → Steps d o r w old new (suc i) (Event.Create l p WriteType.MustCache at) (Reply.Refused Refusal.JournalFault)
    create_stops counts passes h kept = λ U V s.
        let doubt : Option Doubt = Some (Doubt.InChange (Change.Create V.body.names.next_id p) []) in
        let up = create_up old.master p (here old.workers.items old.hands.items (suc i) l at) (sym passes) in
        goes_stopped o r w U old new V (suc i) (Event.Create l p WriteType.MustCache at) noted_as 4 (stopped_with doubt new.master.journal.here.fuse V.body) (hands_of V (suc i)) (tests_are U V s ∙ passes) refl refl refl refl s.names h.cause h.goes_on.fuse refl refl
        (stands_master_by o r w U old new V (suc i) (stopped_with doubt new.master.journal.here.fuse V.body).master s b k (kept_hands U V s kept) h.goes_on.limit h.names (stopped_stand d old.master new.master V.body s.names 4 (entered entry (standing_of old.master)) doubt h)
        (areas_stopped d s.known V.body.contents old.block 4 (entered entry (standing_of old.master)) old.master new.master V.body.names (stopped_with doubt new.master.journal.here.fuse V.body).master s.areas.tell h (standing_is old.master V.body s.names up)
        (subst (λ n. entered entry (standing_of old.master) ≡ with_doubt (Some (Doubt.InChange (Change.Create n p) [])) V.body.names V.body.master.gate V.body.master.generation) (sym (next_id_is s.names)) (change_in_doubt old.master V.body (Change.Create old.master.kept.names.next_id p) [] s.names up counts refl)) refl refl))

    pub create_done : 0 < at → create_test old.master (here old.workers.items old.hands.items (suc i) l at) p ≡ None → Entered d entry old.master new.master → counts_in entry (names_of old.master) ≡ true
        → ChangesAt old.hands.items new.hands.items i (AddsHand l (Hand.Writing (new_writer old.master.kept.names.next_id at (started_here old.workers.items at) old.block))) → Steps d o r w old new (suc i) (Event.Create l p WriteType.MustCache at) Reply.Done
    create_done some passes h counts added = λ U V s.
        let H = hands_of V (suc i) in
        let B = journal_if (create_change V.body p) V.body in
        let holder : Holder = (suc i, l) in
        let next = old.master.kept.names.next_id in
        let nodes = old.workers.items in
        let x : Writer W = new_writer next at (started_here nodes at) old.block in
        let m : machine.Writer = record { file = V.body.names.next_id; bs = U.block; store = store_of V.body.names p; taken = []; kind = WriteType.MustCache; worker = at; start = (worker V.body at).start; block = None; broken = false } in
        let G = add_hand l (machine.Hand.Writing m) H in
        let after = put_back V (suc i) B G in
        let N = with_new next holder s.known in
        let up = create_up old.master p (here old.workers.items old.hands.items (suc i) l at) (sym passes) in
        let stood = entered_stand d old.master new.master V.body s.names (Change.Create next p) up h counts refl s.names.unlocked s.names.unseen in
        let named : NamesStand new.master B = subst (λ (n : ℕ). NamesStand new.master (journal (Change.Create n p) V.body)) (sym (next_id_is s.names)) stood in
        let is : names_of new.master ≡ apply (Change.Create next p) (names_of old.master) = sym stood.names ∙ ap (apply (Change.Create next p)) s.names.names in
        let more : new.master.kept.names.next_id ≡ next + 1 = let e : new.master.kept.names.next_id ≡ max next (next + 1) = ap (λ (n : Names). n.next_id) is in omega (arith, e) in
        let rows : new.master.kept.names.nodes ≡ put_node p (machineNode.IsFile (new_file next)) old.master.kept.names.nodes = ap (λ (n : Names). n.nodes) is in
        record {
          after = after;
          rise = no_rise;
          made = create_change V.body p;
          stands = stands_by o r w U new after N old.block old.master.journal.limit new.master nodes new.hands.items b h.goes_on.limit refl (ap (λ x. x.items) k) refl (record {
            setup = s.setup;
            named = named;
            areas = areas_entered d N B.contents old.block old.master new.master B.names B.master s.areas.tell h.goes_on h.later (standing_is new.master B named (ap (λ (j : Journaling D). j.failed) h.moved ∙ up)) (s.areas.certain (up_is old.master V.body s.names up));
            workers = record { rows = s.workers.rows; registrations = s.workers.registrations; first = s.workers.first; one = s.workers.one };
            hands = subst (λ (n : ℕ). HandsStand r w N nodes n old.block after.hands new.hands.items) (sym more)
                (hands_added r w s.known N nodes nodes next (next + 1) old.block i l (leaves_new s.known next holder nodes) V.hands old.hands.items new.hands.items s.hands within (Hand.Writing x) (machine.Hand.Writing m)
                (absent_at r w s.known nodes next old.block V.hands old.hands.items s.hands i within l (add_absent i l (Hand.Writing x) old.hands.items new.hands.items added)) added
                (new_fits w s.known nodes next old.block holder at (started_here nodes at) m some (next_id_is s.names) s.setup.block refl refl (started_is nodes V.body s.workers at) refl refl refl));
            files = subst (λ (n : ℕ). FilesStand N n old.block new.master.kept.names.nodes V.body.contents) (sym more) (subst (λ (k : List NodeRow). FilesStand N (next + 1) old.block k V.body.contents) (sym rows) (files_new s.known next holder old.block old.master.kept.names.nodes V.body.contents s.files p));
            objects = subst (λ (n : ℕ). NodesStand o N n old.block nodes) (sym more) (nodes_stay s.known N next (next + 1) old.block (known_new s.known next holder) o nodes s.objects);
          });
          rises = Rises.Nothing;
          step = record {
            body = B;
            hands = G;
            step = Step.Accepted (fault_free 0) (tests_are U V s ∙ passes) refl (subst (λ f. IsTrue (fuse_serves f 4)) (sym s.names.fuse) (serves 4 old.master.journal.here.fuse h.enough)) refl refl refl;
            after = refl;
          };
        }

-- ---- for an actor

module _ {D S R W : Type 0} {d : disks.Ghosts D} (o : objects.Ghosts S R W) (r : reads.Ghosts R) (w : writes.Ghosts W) (old : Core D S R W d w) (who : ℕ) (actor : is_actor who ≡ true) (l : Label) (p : Path) (at : ℕ) where
  -- what the tests answer, and where an event goes
  abbrev Tested : ℕ → Option Reply → Type 0
  Tested v reply = create_test old.master (here old.workers.items old.hands.items v l at) p ≡ reply

  abbrev Leads : Core D S R W d w → Reply → ℕ → Type 0
  Leads new reply v = Steps d o r w old new v (Event.Create l p WriteType.MustCache at) reply

  pub refused_by : (why : Refusal) → Some (Reply.Refused why) ≡ create_test old.master (here old.workers.items old.hands.items who l at) p → Leads old (Reply.Refused why) who
  refused_by why h = by_actor (λ v. Tested v (Some (Reply.Refused why)) → Leads old (Reply.Refused why) v) (λ i within k. create_refused o r w old i within l p at why (sym k)) who actor (sym h)

  module _ (new : Core D S R W d w) (b : new.block ≡ old.block) (k : new.workers ≡ old.workers) (some : 0 < at) (passes : None ≡ create_test old.master (here old.workers.items old.hands.items who l at) p) where
    -- whatever came of the entry
    pub create_steps : {T : Type 0} (result : Result T AppendFault) → Enters d (Entry.Create old.master.kept.names.next_id p) old.master new.master result → OnOk result (counts_in (Entry.Create old.master.kept.names.next_id p) (names_of old.master) ≡ true)
        → (IsErrOf result faults.Failed → counts_in (Entry.Create old.master.kept.names.next_id p) (names_of old.master) ≡ true) → OnOk result (ChangesAt old.hands.items new.hands.items (pred who) (AddsHand l (Hand.Writing (new_writer old.master.kept.names.next_id at (started_here old.workers.items at) old.block)))) → OnErr result (ChangesAt old.hands.items new.hands.items (pred who) KeepsHands) → Leads new (done_or result) who
    create_steps (Ok x) h counts counted added kept = by_actor (λ v. Tested v None → ChangesAt old.hands.items new.hands.items (pred v) (AddsHand l (Hand.Writing (new_writer old.master.kept.names.next_id at (started_here old.workers.items at) old.block))) → Leads new Reply.Done v)
        (λ i within passed. create_done o r w old i within l p at new b k some passed h.done counts) who actor (sym passes) added
    create_steps (Err faults.Failed) h counts counted added kept = by_actor (λ v. Tested v None → ChangesAt old.hands.items new.hands.items (pred v) KeepsHands → Leads new (Reply.Refused Refusal.JournalFault) v)
        (λ i within passed. create_stops o r w old i within l p at new b k (counted refl) passed (h.stopped refl)) who actor (sym passes) kept
    create_steps (Err faults.Memory) h counts counted added kept = by_actor (λ v. ChangesAt old.hands.items new.hands.items (pred v) KeepsHands → Leads new (Reply.Refused Refusal.Memory) v)
        (λ i within. create_short o r w old i within l p at new b k (h.short refl)) who actor kept
    create_steps (Err faults.Full) h counts counted added kept = absurd (create_room old.master p (here old.workers.items old.hands.items who l at) passes (h.full refl))
