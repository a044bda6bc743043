-- The end of a writer as a step of the file machine.
use Rattle.std.proofs.Common.{◌≡◌, inr, ℕ, suc, pred, ◌<◌, Bool, true, false, not, ◌&&◌, ◌||◌, cond, List, [], ◌∷◌, length, nat_eq, Option, Some, None, is_none, is_some, refl, sym, ap, ap₂, ◌∙◌, subst, arith}
use Rattle.std.specs.Prelude.{IsTrue, option_map, IsSome, option_and_then, IfSome}
use Rattle.std.proofs.lemmas.Bool.{eq-eqb}
use Rattle.fs_model.specs.declared.setup.Setup.{Setup}
use Rattle.fs_model.specs.declared.label.Label.{Label}
use Rattle.fs_model.specs.declared.event.Event.{Event}
use Rattle.fs_model.specs.declared.reply.Reply.{Reply}
use Rattle.fs_model.specs.declared.reply.Refusal.{Refusal}
use Rattle.fs_model.specs.declared.reply.Which.{Which}
use Rattle.fs_model.specs.declared.reply.Stored.{Stored}
use Rattle.fs_model.specs.declared.change.Change.{Change}
use Rattle.fs_model.specs.Words.{first}
use Rattle.fs_model.specs.State as machine
use Rattle.fs_model.specs.State.{State, Whole, Hands}
use Rattle.fs_model.specs.Lookups.{file_of, hand_at, stored_is_yes}
use Rattle.fs_model.specs.Tests.{refuse, past}
use Rattle.fs_model.specs.Updates.{journal, end_hand, set_hand, change_worker, unpark_if}
use Rattle.fs_model.specs.BytesEvents.{unbroken, unbroken_at, bad_label, finish_refusal_of, writer_stands, stored_by, plan_of_stored}
use Rattle.fs_model.specs.BytesOutcomes.{Outcome, BodyAndHands, close_block, keep_bytes, begun_by, finish_by, room_to_litter}
use Rattle.fs_model.specs.Choices.{fault_free}
use Rattle.fs_model.specs.Journaling.{fuse_serves, calls_needed, finish_change}
use Rattle.fs_model.specs.Faults.{BlockFate, Device, clash, clash_at, waiting_place, calls, by_hand, finish_calls, has_room, is_store, publishes, is_clash_at, finish_after_fault, finish_place}
use Rattle.fs_model.specs.Machine.{refusal, accepted, hands_of, put_back}
use Rattle.fs_model.specs.Step.{Step}
use Rattle.inode_tree.specs.Rows.{file_row}
use Rattle.outside.specs.declared.disk.Disk as disks
use Rattle.outside.specs.declared.objects.Objects as objects
use Rattle.outside.specs.declared.objects.ObjectRead as reads
use Rattle.outside.specs.declared.objects.ObjectWrite as writes
use Rattle.file_writer.specs.Writing.{block_writer}
use Rattle.fs_model.specs.State.{Doubt, Names}
use Rattle.fs_model.specs.Changes.{apply}
use Rattle.fs_model.specs.Faults.{block_lost_by, broken_writer, clear_place, parked_if}
use Rattle.fs_model.specs.Journaling.{calls_of_change, doubt_bytes, doubt_of}
use Rattle.fs_model.specs.Step.{stopped_with}
use Rattle.journal_entry.specs.declared.entry.Entry.{Entry}
use Rattle.journal_entry.specs.Meaning.{entry_of_change}
use Rattle.master_state.specs.Effect.{counts_in}
use Rattle.master_node.specs.Mastering.{Mastering, entered, names_of, standing_of}
use Rattle.cluster_core.specs.Crashes.{done_entry}
use Rattle.cluster_core.specs.Entering.{Entered, HasStopped}
use Rattle.cluster_core.specs.NamesStand.{NamesStand}
use Rattle.cluster_core.proofs.Named.{writes_whole}
use Rattle.cluster_core.specs.Tiers.{ChangesAt}
use Rattle.cluster_core.specs.Here.{runs_here}
use Rattle.cluster_core.specs.Names.{done_nodes, is_short, stop_test}
use Rattle.cluster_core.specs.HandChanges.{SetsHand, EndsHand}
use Rattle.cluster_core.specs.HandFits.{WriterFits}
use Rattle.cluster_core.specs.Kept.{KeepsRest}
use Rattle.cluster_core.specs.Knowledge.{Holder, Knowledge, HasRoomOf, with_author, with_owner}
use Rattle.cluster_core.specs.Stands.{Stands, FilesStand, HandsStand, NodesStand}
use Rattle.cluster_core.specs.Goes.{Goes, Rises, no_rise, tier_rise}
use Rattle.cluster_core.specs.Writers.{Commits, Loses}
use Rattle.cluster_core.specs.Committed.{finished_of, key_at, closed_writer}
use Rattle.cluster_core.specs.declared.cluster.Core.{Core}
use Rattle.cluster_core.specs.declared.hand.Hand.{Hand}
use Rattle.cluster_core.specs.declared.hand.Writer.{Writer}
use Rattle.cluster_core.specs.declared.node.Node.{Node}
use Rattle.cluster_core.proofs.HandStays.{some_same}
use Rattle.cluster_core.proofs.Standing.{stands_by, goes_refused, goes_short}
use Rattle.cluster_core.proofs.KeptHands.{stands_kept}
use Rattle.cluster_core.proofs.PutGo.{keeps_same}
use Rattle.cluster_core.proofs.Frames.{files_stay, nodes_stay}
use Rattle.cluster_core.proofs.Labelled.{hands_set, hands_ended}
use Rattle.cluster_core.proofs.NodeChanges.{workers_change, setup_stays}
use Rattle.cluster_core.proofs.RoomTests.{stands_same, len_is}
use Rattle.cluster_core.proofs.RoomGo.{not_refused, is_true}
use Rattle.cluster_core.proofs.SpaceNode.{not_both}
use Rattle.cluster_core.proofs.CommitGo.{known, open_is}
use Rattle.cluster_core.proofs.CommitParts.{without_owner, workers_committed, setup_committed, nodes_committed, leaves_committed}
use Rattle.cluster_core.proofs.ClosedBlock.{AfterCommit, closed_bs, none_committed, no_owner, broken_fits}
use Rattle.cluster_core.proofs.RoomEnds.{same_files, files_owned, begun_as, copy_left, litter_left, left_by}
use Rattle.cluster_core.proofs.StreamsGo.{tier_rose}
use Rattle.cluster_core.proofs.LostBlock.{lost_known, lost_rows, lost_leaves, lost_nodes, lost_rose, lost_tier}
use Rattle.cluster_core.proofs.DoneFiles.{known_done, known_gone, author_left, no_author, files_done}
use Rattle.cluster_core.specs.Writers.{finish_test}
use Rattle.master_state.specs.Fits.{file_passes}
use Rattle.cluster_core.proofs.DoneTests.{finish_tests_are, there_by}
use Rattle.cluster_core.proofs.NamesSteps.{NoneHolds, none_holds}
use Rattle.cluster_core.proofs.NamesGo.{noted_as}
use Rattle.cluster_core.proofs.SourceFacts.{found_file}
use Rattle.cluster_core.proofs.Journaled.{entered_stand, goes_stopped, serves, stopped_stand}
use Rattle.fs_model.specs.BytesEvents.{unbroken_writer, writer_at}
use Rattle.cluster_core.proofs.Named.{next_id_is}
use Rattle.journal_disk.specs.Journaling.{Journaling}
use Rattle.cluster_core.specs.AreasStand.{DoubtFits, with_doubt}
use Rattle.cluster_core.proofs.AreaFacts.{areas_entered, areas_known, areas_stopped, standing_is, up_is}
use Rattle.cluster_core.proofs.Journaled.{change_in_doubt}

not_none : {X : Type 0} (y : Option X) → is_some y ≡ true → is_none y ≡ false
not_none None h = absurd (cc)
not_none (Some x) h = refl

-- the tests of the end of a writer
abbrev pub finish_list : {D S W : Type 0} → Mastering D → List (Node S) → Writer W → List (Option Reply)
finish_list m nodes x =
    stop_test m
    ∷ refuse Refusal.NotFound (not (file_passes (λ f. not f.done) (file_of m.kept.names x.file)))
    ∷ past Which.Area (is_short m 30)
    ∷ refuse (Refusal.NoWorker x.worker) (not (runs_here nodes x.worker x.started))
    ∷ []

-- where it may be done none holds
pub finish_tests : {D S W : Type 0} (m : Mastering D) (nodes : List (Node S)) (x : Writer W) → finish_test m nodes x ≡ None → NoneHolds (finish_list m nodes x)
finish_tests m nodes x passes = none_holds (finish_list m nodes x) passes

module _ {D S R W : Type 0} {d : disks.Ghosts D} (o : objects.Ghosts S R W) (r : reads.Ghosts R) (w : writes.Ghosts W) (was : Core D S R W d w) (l : Label) (i : ℕ) (within : i < 64) (x : Writer W) (whole : x.broken ≡ false) (U : Setup) (V : Whole) (s : Stands d o r w U was V) (m : machine.Writer) (at : hand_at (hands_of V (suc i)) l ≡ Some (machine.Hand.Writing m)) (f : WriterFits w s.known was.workers.items was.master.kept.names.next_id was.block (suc i, l) m x) where
  -- the label's writer on the machine's side
  pub unbroken_is : unbroken_at (hands_of V (suc i)) l ≡ Some (machine.Hand.Writing m)
  unbroken_is = ap (option_and_then unbroken) at ∙ ap (λ b. cond b None (Some (machine.Hand.Writing m))) (f.broken ∙ whole)

  -- the label writes its file
  author : x.broken ≡ false → s.known.author m.file ≡ Some (suc i, l)
  author = writes_whole s.known m.file (suc i, l) x.broken f.author

  pub refusal_is : refusal U V.body (hands_of V (suc i)) (Event.Finish l) ≡ finish_test was.master was.workers.items x
  refusal_is =
      ap (λ (y : Option machine.Hand). elim y as (λ t. Option Reply) [ None ↦ bad_label | Some k ↦ finish_refusal_of U V.body k ]) unbroken_is
      ∙ finish_tests_are o w U V.body was.master was.workers.items was.block was.master.journal.limit was.master.kept.names.next_id s.known (suc i, l) s.names s.workers s.setup refl s.objects was.small m x f whole V.body.contents s.files.each

  -- ---- nothing happens

  module _ (new : Core D S R W d w) (rest : KeepsRest was new) (workers : new.workers ≡ was.workers) (hands : ChangesAt was.hands.items new.hands.items i (SetsHand l (Hand.Writing x) (Hand.Writing x))) where
    still : Stands d o r w U new V
    still = stands_kept o r w U V was new i within rest workers (keeps_same i l (Hand.Writing x) (Hand.Writing x) was.hands.items new.hands.items refl hands) s

    pub done_refused : (why : Refusal) → refusal U V.body (hands_of V (suc i)) (Event.Finish l) ≡ Some (Reply.Refused why) → Goes d o r w U was new V (suc i) (Event.Finish l) (Reply.Refused why)
    done_refused why h = goes_refused o r w U was new V (suc i) (Event.Finish l) (Reply.Refused why) still h refl refl

    pub done_short : Goes d o r w U was new V (suc i) (Event.Finish l) (Reply.Refused Refusal.Memory)
    done_short = goes_short o r w U was new V (suc i) (Event.Finish l) still refl

  -- ---- the tests pass

  module _ (new : Core D S R W d w) (passes : finish_test was.master was.workers.items x ≡ None) where
    pass : NoneHolds (finish_list was.master was.workers.items x)
    pass = finish_tests was.master was.workers.items x passes

    -- the file is there
    file : IsSome (file_row was.master.kept.names.nodes x.file)
    file = sym (found_file was.master.kept.names.nodes x.file) ∙ there_by (λ f. not f.done) (file_of was.master.kept.names x.file) (is_true (file_passes (λ f. not f.done) (file_of was.master.kept.names x.file)) (not_refused Refusal.NotFound (not (file_passes (λ f. not f.done) (file_of was.master.kept.names x.file))) pass.1.0))

    runs : runs_here was.workers.items x.worker x.started ≡ true
    runs = is_true (runs_here was.workers.items x.worker x.started) (not_refused (Refusal.NoWorker x.worker) (not (runs_here was.workers.items x.worker x.started)) pass.1.1.1.0)

    stands : writer_stands V.body m ≡ true
    stands = stands_same o w U V.body was.master was.workers.items was.block was.master.journal.limit was.master.kept.names.next_id s.known (suc i, l) s.names s.workers s.setup s.objects was.small m x f whole ∙ runs

    no_refusal : refusal U V.body (hands_of V (suc i)) (Event.Finish l) ≡ None
    no_refusal = refusal_is ∙ passes

    -- the master is up
    up : was.master.journal.failed ≡ false
    up = not_refused Refusal.Stopped was.master.journal.failed pass.0

    -- ---- the file is done

    module _ (commits : (n : ℕ) (pen : W) → x.room ≡ Some n → block_writer x.bytes ≡ Some pen → ChangesAt was.workers.items new.workers.items (pred x.worker) (Commits o w n (key_at was.workers.items x.worker n) pen (finished_of was.master.kept.names.nodes was.block x))) (kept : x.room ≡ None → new.workers.items ≡ was.workers.items) where
      abbrev done_known : Knowledge
      done_known = with_author m.file None (without_owner x.worker x.room s.known)

      -- the parts after the commit of the last block
      parts_by : (e : Option ℕ) → x.room ≡ e → AfterCommit o U V.body m s.known (with_author m.file None (without_owner x.worker e s.known)) (suc i, l) was.workers.items new.workers.items was.master.kept.names.next_id was.block was.master.journal.limit
      parts_by None none =
          let q = none_committed o w s.known was.master was.workers.items new.workers.items was.block was.master.journal.limit i l m x f whole was.blocks was.small U V.body s.names s.workers s.setup s.objects V.body.contents s.files.each stands runs file none (kept none) in
          record {
            workers = q.workers;
            setup = q.setup;
            nodes_stand = nodes_stay s.known (with_author m.file None s.known) was.master.kept.names.next_id was.master.kept.names.next_id was.block (known_done s.known was.master.kept.names.next_id m.file) o new.workers.items q.nodes_stand;
            leaves = record {
              later = q.leaves.later;
              files = λ id few other. (refl, author_left s.known (suc i, l) m.file id (author whole) other);
              owners = q.leaves.owners;
              rooms = q.leaves.rooms;
            };
          }
      parts_by (Some n) reserved =
          let k = known o w s.known was.master was.workers.items was.block (suc i, l) m x f whole was.blocks was.small n reserved in
          let change = commits n k.3 reserved k.4 in
          let N = with_author m.file None (with_owner x.worker n None s.known) in
          let on = known_gone s.known was.master.kept.names.next_id x.worker n m.file in
          let gone = no_owner s.known x.worker n in
          record {
            workers = workers_committed o w s.known N was.master was.workers.items new.workers.items was.block was.master.journal.limit i l m x f whole was.blocks was.small U V.body s.names s.workers s.setup s.objects V.body.contents s.files.each stands runs file n reserved k.3 k.4 change on gone f.bytes;
            setup = setup_committed o w s.known N was.master was.workers.items new.workers.items was.block was.master.journal.limit i l m x f whole was.blocks was.small U V.body s.names s.workers s.setup s.objects V.body.contents s.files.each stands runs file n reserved k.3 k.4 change on gone f.bytes;
            nodes_stand = nodes_committed o w s.known N was.master was.workers.items new.workers.items was.block was.master.journal.limit i l m x f whole was.blocks was.small U V.body s.names s.workers s.setup s.objects V.body.contents s.files.each stands runs file n reserved k.3 k.4 change on gone f.bytes (λ written. let never : false ≡ true = sym (ap is_some (no_author s.known m.file)) ∙ written in absurd (cc));
            leaves = leaves_committed o w s.known N was.master was.workers.items new.workers.items was.block was.master.journal.limit i l m x f whole was.blocks was.small U V.body s.names s.workers s.setup s.objects V.body.contents s.files.each stands runs file n reserved k.3 k.4 change on gone f.bytes (λ id few other. (refl, author_left s.known (suc i, l) m.file id (author whole) other)) (λ v j b h other. ap (λ c. cond c None (s.known.owner v j)) (not_both x.worker v n j (λ e d. other (some_same b (suc i, l) (sym h ∙ ap₂ s.known.owner e d ∙ (subst (λ y. IfSome y (λ q. (s.known.owner x.worker q ≡ Some (suc i, l)) × HasRoomOf was.workers.items x.worker x.started q was.block)) reserved f.reserved).0)))) ∙ h);
          }

      parts : AfterCommit o U V.body m s.known done_known (suc i, l) was.workers.items new.workers.items was.master.kept.names.next_id was.block was.master.journal.limit
      parts = parts_by x.room refl

      -- the change of the journal
      abbrev change : Change
      change = Change.Done m.file (length m.taken) Stored.No 0

      files_after : FilesStand done_known was.master.kept.names.next_id was.block (done_nodes m.file (length m.taken) was.master.kept.names.nodes) (keep_bytes m.file m.taken (journal change (close_block U V.body m))).contents
      files_after = files_done s.known done_known was.master.kept.names.next_id was.block was.master.kept.names.nodes V.body.contents s.files m.file m.taken (suc i, l) (author whole) f.bytes (let q = f.short in omega (arith, q)) f.old
          (λ n. (same_files s.known x.room x.worker n).0) (λ n. ap (cond (nat_eq m.file n) None) (same_files s.known x.room x.worker n).1)

      -- the entry is that of the change
      len : length m.taken ≡ x.bytes.len
      len = len_is o w U V.body was.master was.workers.items was.block was.master.journal.limit was.master.kept.names.next_id s.known (suc i, l) s.names s.workers s.setup s.objects was.small m x f whole

      entry_is : done_entry x ≡ entry_of_change change
      entry_is = λ j. Entry.Done (sym f.file j) (sym len j) Stored.No 0

      made : Some change ≡ option_and_then (finish_change V.body) (unbroken_at (hands_of V (suc i)) l)
      made = sym (ap (option_and_then (finish_change V.body)) unbroken_is ∙ ap (λ t. Some (Change.Done m.file (length m.taken) (stored_by t) (plan_of_stored V.body (stored_by t)))) f.kind)

      clear : clash V.body (hands_of V (suc i)) (Event.Finish l) ≡ None
      clear = ap (option_and_then (λ h. clash_at V.body (finish_place V.body h))) unbroken_is ∙ ap (λ t. clash_at V.body (cond (stored_is_yes (stored_by t)) (waiting_place V.body m.file) None)) f.kind

      needs : calls_needed U V.body (hands_of V (suc i)) (Event.Finish l) ≡ 4
      needs = ap calls_of_change (sym made)

      -- the names after the commit stand
      closed_stand : NamesStand was.master (close_block U V.body m)
      closed_stand = record { names = s.names.names; gate = s.names.gate; generation = s.names.generation; fuse = s.names.fuse; down = s.names.down; unlocked = s.names.unlocked; unseen = s.names.unseen }

      module _ (block : new.block ≡ was.block) (counts : counts_in (done_entry x) (names_of was.master) ≡ true) where
        pub done_goes : Entered d (done_entry x) was.master new.master → ChangesAt was.hands.items new.hands.items i (EndsHand l (Hand.Writing x)) → Goes d o r w U was new V (suc i) (Event.Finish l) Reply.Done
        done_goes entered hands =
            let H = hands_of V (suc i) in
            let A = V.body in
            let C = close_block U A m in
            let B = keep_bytes m.file m.taken (journal change C) in
            let G = end_hand l H in
            let after = put_back V (suc i) B G in
            let h = subst (λ (e : Entry). Entered d e was.master new.master) entry_is entered in
            let stood = entered_stand d was.master new.master C closed_stand change up h (subst (λ (e : Entry). counts_in e (names_of was.master) ≡ true) entry_is counts) refl s.names.unlocked s.names.unseen in
            let is : names_of new.master ≡ apply change (names_of was.master) = sym stood.names ∙ ap (apply change) s.names.names in
            let done : ◌≡◌ {A = Outcome} (Reply.Done, B, G) (accepted U (fault_free 0) A H (suc i) (Event.Finish l)) =
            sym (ap (finish_by U A (suc i) H l) unbroken_is ∙ ap (λ t. let q : Outcome = (begun_by (stored_by t) A, keep_bytes m.file m.taken (unpark_if (stored_by t) A.names.next_plan A m.file (journal (Change.Done m.file (length m.taken) (stored_by t) (plan_of_stored A (stored_by t))) C)), end_hand l H) in q) f.kind) in
            record {
              after = after;
              rise = no_rise;
              made = Some change;
              stands = stands_by o r w U new after done_known was.block was.master.journal.limit new.master new.workers.items new.hands.items block entered.goes_on.limit refl refl refl (record {
                setup = parts.setup;
                named = record { names = stood.names; gate = stood.gate; generation = stood.generation; fuse = stood.fuse; down = stood.down; unlocked = stood.unlocked; unseen = stood.unseen };
                areas = areas_entered d done_known B.contents was.block was.master new.master B.names B.master s.areas.tell entered.goes_on entered.later (standing_is new.master B (record { names = stood.names; gate = stood.gate; generation = stood.generation; fuse = stood.fuse; down = stood.down; unlocked = stood.unlocked; unseen = stood.unseen }) (ap (λ (j : Journaling D). j.failed) entered.moved ∙ up)) (s.areas.certain (up_is was.master A s.names up));
                workers = record { rows = parts.workers.rows; registrations = parts.workers.registrations; first = parts.workers.first; one = parts.workers.one };
                hands = subst (λ (N : Names). HandsStand r w done_known new.workers.items N.next_id was.block after.hands new.hands.items) (sym is)
                    (hands_ended r w s.known done_known was.workers.items new.workers.items was.master.kept.names.next_id was.master.kept.names.next_id was.block i l parts.leaves V.hands was.hands.items new.hands.items s.hands within (Hand.Writing x) (machine.Hand.Writing m) at hands);
                files = subst (λ (N : Names). FilesStand done_known N.next_id was.block N.nodes B.contents) (sym is) files_after;
                objects = subst (λ (N : Names). NodesStand o done_known N.next_id was.block new.workers.items) (sym is) parts.nodes_stand;
              });
              rises = Rises.Nothing;
              step = record {
                body = B;
                hands = G;
                step = Step.Accepted (fault_free 0) no_refusal clear (subst (λ n. IsTrue (fuse_serves A.master.fuse n)) (sym needs) (subst (λ k. IsTrue (fuse_serves k 4)) (sym s.names.fuse) (serves 4 was.master.journal.here.fuse entered.enough))) refl done made;
                after = refl;
              };
            }

        -- ---- the journal failed after the commit

        -- nobody writes the file any more, and its bytes are known
        files_known : FilesStand done_known was.master.kept.names.next_id was.block was.master.kept.names.nodes V.body.contents
        files_known =
            let t = files_owned s.known x.room x.worker was.master.kept.names.next_id was.block was.master.kept.names.nodes V.body.contents s.files in
            let K = without_owner x.worker x.room s.known in
            record {
              each = files_stay K done_known was.master.kept.names.next_id was.master.kept.names.next_id was.block (record { later = omega arith; files = λ id few none. (refl, none_still (nat_eq m.file id) (K.author id) none) }) V.body.contents was.master.kept.names.nodes t.each;
              written = λ id h. t.written id (some_before (nat_eq m.file id) (K.author id) h);
              fresh = λ id late. ((t.fresh id late).0, none_still (nat_eq m.file id) (K.author id) (t.fresh id late).1);
            }
          where
            none_still : (b : Bool) (q : Option Holder) → q ≡ None → cond b None q ≡ None
            none_still true q h = refl
            none_still false q h = h

            some_before : (b : Bool) (q : Option Holder) → is_some (cond b None q) ≡ true → is_some q ≡ true
            some_before true q h = absurd (cc)
            some_before false q h = h

        writer_is : writer_at (hands_of V (suc i)) l ≡ Some m
        writer_is = ap (option_and_then unbroken_writer) at ∙ ap (λ b. cond b None (Some m)) (f.broken ∙ whole)

        -- the bytes that may be the file's are the writer's
        doubt_is : doubt_of U V.body (hands_of V (suc i)) (Event.Finish l) ≡ Some (Doubt.InChange change m.taken)
        doubt_is = ap (option_map (λ c. Doubt.InChange c (doubt_bytes (hands_of V (suc i)) (Event.Finish l)))) (sym made) ∙ ap (λ y. Some (Doubt.InChange change (elim y as (λ t. List ℕ) [ None ↦ [] | Some k ↦ k.taken ]))) writer_is

        -- the change that may have been made
        in_doubt : entered (done_entry x) (standing_of was.master) ≡ with_doubt (doubt_of U V.body (hands_of V (suc i)) (Event.Finish l)) V.body.names V.body.master.gate V.body.master.generation
        in_doubt = ap (λ e. entered e (standing_of was.master)) entry_is ∙ change_in_doubt was.master V.body change m.taken s.names up (subst (λ (e : Entry). counts_in e (names_of was.master) ≡ true) entry_is counts) refl ∙ ap (λ o. with_doubt o V.body.names V.body.master.gate V.body.master.generation) (sym doubt_is)

        -- it fits what is known
        doubt_fits : DoubtFits done_known V.body.contents V.body.names.next_id was.block (doubt_of U V.body (hands_of V (suc i)) (Event.Finish l))
        doubt_fits = subst (DoubtFits done_known V.body.contents V.body.names.next_id was.block) (sym doubt_is) (record {
          old = subst (λ n. m.file < n) (sym (next_id_is s.names)) f.old;
          unstored = refl;
          planless = refl;
          bytes = (same_files s.known x.room x.worker m.file).0 ∙ f.bytes;
          len = refl;
          short = let q = f.short in omega (arith, q);
          written = ap (cond (nat_eq m.file m.file) None) (same_files s.known x.room x.worker m.file).1 ∙ no_author s.known m.file;
          unkept = s.files.written m.file (ap is_some (author whole));
        })

        pub done_stops : HasStopped d 4 (entered (done_entry x) (standing_of was.master)) was.master new.master → ChangesAt was.hands.items new.hands.items i (SetsHand l (Hand.Writing x) (Hand.Writing (closed_writer true x))) → Goes d o r w U was new V (suc i) (Event.Finish l) (Reply.Refused Refusal.JournalFault)
        done_stops h hands =
            let H = hands_of V (suc i) in
            let A = V.body in
            let doubt = doubt_of U A H (Event.Finish l) in
            let C = close_block U A m in
            let B = stopped_with doubt new.master.journal.here.fuse C in
            let k : machine.Writer = record m { broken = true; block = None } in
            let G = set_hand l (machine.Hand.Writing k) H in
            let after = put_back V (suc i) B G in
            let left : ◌≡◌ {A = BodyAndHands} (finish_after_fault U noted_as A (suc i) H l (unbroken_at H l)) (C, G) =
            ap (finish_after_fault U noted_as A (suc i) H l) unbroken_is
            ∙ ap (λ t. let q : BodyAndHands = (parked_if true A (clear_place A (cond (stored_is_yes (stored_by t)) (waiting_place A m.file) None)) m.taken (block_lost_by U noted_as A m m.block), broken_writer noted_as A H l m) in q) f.kind
            ∙ (λ j. let q : BodyAndHands = (copy_left U A m stands m.block j, set_hand l (machine.Hand.Writing (left_by U A m stands BlockFate.IsCopy j)) H) in q) in
            let stood = stopped_stand d was.master new.master C closed_stand 4 (entered (done_entry x) (standing_of was.master)) doubt h in
            let stands_now : Stands d o r w U new after = stands_by o r w U new after done_known was.block was.master.journal.limit new.master new.workers.items new.hands.items block h.goes_on.limit refl refl refl (record {
              setup = parts.setup;
              named = record { names = stood.names; gate = stood.gate; generation = stood.generation; fuse = stood.fuse; down = stood.down; unlocked = stood.unlocked; unseen = stood.unseen };
              areas = areas_stopped d done_known A.contents was.block 4 (entered (done_entry x) (standing_of was.master)) was.master new.master B.names B.master s.areas.tell h (standing_is was.master A s.names up) in_doubt refl doubt_fits;
              workers = record { rows = parts.workers.rows; registrations = parts.workers.registrations; first = parts.workers.first; one = parts.workers.one };
              hands = subst (λ (N : Names). HandsStand r w done_known new.workers.items N.next_id was.block after.hands new.hands.items) (sym h.names)
                  (hands_set r w s.known done_known was.workers.items new.workers.items was.master.kept.names.next_id was.master.kept.names.next_id was.block i l parts.leaves V.hands was.hands.items new.hands.items s.hands within (Hand.Writing x) (Hand.Writing (closed_writer true x)) (machine.Hand.Writing m) (machine.Hand.Writing k) at hands broken_done);
              files = subst (λ (N : Names). FilesStand done_known N.next_id was.block N.nodes A.contents) (sym h.names) files_known;
              objects = subst (λ (N : Names). NodesStand o done_known N.next_id was.block new.workers.items) (sym h.names) parts.nodes_stand;
            }) in
            goes_stopped o r w U was new V (suc i) (Event.Finish l) noted_as 4 B G no_refusal clear refl (ap (λ c. is_some (option_map (λ c. Doubt.InChange c (doubt_bytes H (Event.Finish l))) c)) (sym made)) needs s.names h.cause h.goes_on.fuse
            (ap (λ (q : BodyAndHands). stopped_with doubt new.master.journal.here.fuse q.0) (sym left)) (ap (λ (q : BodyAndHands). q.1) (sym left)) stands_now
          where
            broken_done : WriterFits w done_known new.workers.items was.master.kept.names.next_id was.block (suc i, l) (record m { broken = true; block = None }) (closed_writer true x)
            broken_done = record {
              file = f.file;
              bs = f.bs;
              blocks = closed_bs w x.room x.bytes ∙ f.blocks;
              placed = f.placed;
              kind = f.kind;
              worker = f.worker;
              start = f.start;
              broken = refl;
              room = refl;
              short = let k = f.short in omega (arith, k);
              on = λ not. absurd (cc);
              reserved = tt;
              old = f.old;
              bytes = (same_files s.known x.room x.worker m.file).0 ∙ f.bytes;
              author = inr (refl, no_author (without_owner x.worker x.room s.known) m.file);
            }

    -- ---- the commit failed

    module _ (n : ℕ) (reserved : x.room ≡ Some n) (lost : (pen : W) → block_writer x.bytes ≡ Some pen → ChangesAt was.workers.items new.workers.items (pred x.worker) (Loses o w n (key_at was.workers.items x.worker n) pen (finished_of was.master.kept.names.nodes was.block x))) (rest : KeepsRest was new) where
      -- the worker's tiers are called
      calls_it : (len : ℕ) → m.block ≡ Some (record { room = Some n; len = len }) → calls V.body (hands_of V (suc i)) (Event.Finish l) (Device.TiersOf x.worker) ≡ true
      calls_it len shut =
          ap (by_hand (λ h. finish_calls V.body h (Device.TiersOf x.worker))) unbroken_is
          ∙ (λ j. (nat_eq (f.worker j) x.worker && has_room (shut j) && stands j) || (is_store m.store (Device.TiersOf x.worker) && publishes m.kind))
          ∙ ap (λ b. (b && true && true) || (is_store m.store (Device.TiersOf x.worker) && publishes m.kind)) (eq-eqb x.worker x.worker refl)

      pub done_lost : ChangesAt was.hands.items new.hands.items i (SetsHand l (Hand.Writing x) (Hand.Writing (closed_writer true x))) → Goes d o r w U was new V (suc i) (Event.Finish l) (Reply.Refused (Refusal.TierFault x.worker))
      done_lost hands =
          let H = hands_of V (suc i) in
          let A = V.body in
          let B = change_worker m.worker (room_to_litter n) A in
          let k : machine.Writer = record m { broken = true; block = None } in
          let G = set_hand l (machine.Hand.Writing k) H in
          let after = put_back V (suc i) B G in
          let N = lost_known o r w was new l i x whole U V s m f stands runs file n reserved lost in
          let rows = lost_rows o r w was new l i x whole U V s m f stands runs file n reserved lost in
          let workers = workers_change (room_to_litter n) was.workers.items new.workers.items m.worker rows A s.workers in
          let shut = open_is o w s.known was.master was.workers.items was.block (suc i, l) m x f whole was.blocks was.small n reserved in
          let called = calls_it (known o w s.known was.master was.workers.items was.block (suc i, l) m x f whole was.blocks was.small n reserved).0.len shut in
          let litter = begun_as BlockFate.IsLitter in
          let left : ◌≡◌ {A = BodyAndHands} (B, G) (finish_after_fault U litter A (suc i) H l (unbroken_at H l)) =
          sym (ap (finish_after_fault U litter A (suc i) H l) unbroken_is ∙ (λ j. let q : BodyAndHands = (litter_left U A m stands n (known o w s.known was.master was.workers.items was.block (suc i, l) m x f whole was.blocks was.small n reserved).0.len shut j, set_hand l (machine.Hand.Writing (left_by U A m stands BlockFate.IsLitter j)) H) in q)) in
          record {
            after = after;
            rise = tier_rise x.worker;
            made = None;
            stands = stands_by o r w U new after N was.block was.master.journal.limit was.master new.workers.items new.hands.items rest.block (ap (λ k. k.journal.limit) rest.master) rest.master refl refl (record {
              setup = setup_stays (room_to_litter n) was.workers.items new.workers.items m.worker rows s.setup;
              named = record { names = s.names.names; gate = s.names.gate; generation = s.names.generation; fuse = s.names.fuse; down = s.names.down; unlocked = s.names.unlocked; unseen = s.names.unseen };
              areas = areas_known d s.known N V.body.contents was.block was.master V.body.names V.body.master (λ id few none. (refl, none)) s.areas;
              workers = record { rows = workers.rows; registrations = workers.registrations; first = workers.first; one = workers.one };
              hands = hands_set r w s.known N was.workers.items new.workers.items was.master.kept.names.next_id was.master.kept.names.next_id was.block i l (lost_leaves o r w was new l i x whole U V s m f stands runs file n reserved lost) V.hands was.hands.items new.hands.items s.hands within (Hand.Writing x) (Hand.Writing (closed_writer true x)) (machine.Hand.Writing m) (machine.Hand.Writing k) at hands (broken_fits w s.known N was.workers.items new.workers.items was.master.kept.names.next_id was.block (suc i, l) m x f whole refl refl);
              files = files_owned s.known (Some n) x.worker was.master.kept.names.next_id was.block was.master.kept.names.nodes A.contents s.files;
              objects = lost_nodes o r w was new l i x whole U V s m f stands runs file n reserved lost;
            });
            rises = Rises.OfTier x.worker (lost_tier o r w was new l i x whole U V s m f stands runs file n reserved lost) (lost_rose o r w was new l i x whole U V s m f stands runs file n reserved lost);
            step = record {
              body = B;
              hands = G;
              step = Step.Failed litter no_refusal (λ j. (tier_rose x.worker j && called j) || is_clash_at (clash A H (Event.Finish l)) (Device.TiersOf x.worker)) left refl;
              after = refl;
            };
          }
