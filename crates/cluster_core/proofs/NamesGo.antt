-- The events on names as steps of the file machine.
use Rattle.std.proofs.Common.{◌≡◌, ℕ, ◌+◌, ◌<◌, pred, set, length, arith, IsTrue, Bool, true, false, not, List, [], ◌∷◌, Option, Some, None, refl, sym, ap, ◌∙◌, subst}
use Rattle.std.proofs.lemmas.List.{set-get_or}
use Rattle.fs_model.specs.declared.path.Path.{Path}
use Rattle.fs_model.specs.declared.name.Name.{Name}
use Rattle.fs_model.specs.declared.event.Event.{Event}
use Rattle.fs_model.specs.declared.change.Change.{Change}
use Rattle.fs_model.specs.declared.reply.Reply.{Reply}
use Rattle.fs_model.specs.declared.reply.Refusal.{Refusal}
use Rattle.fs_model.specs.State.{Node, Content}
use Rattle.cluster_core.specs.Knowledge.{Knowledge}
use Rattle.fs_model.specs.Lookups as machine
use Rattle.fs_model.specs.Lookups.{walk_nodes, find_node, names_in, file_in}
use Rattle.fs_model.specs.Tests.{refuse, walk_fault}
use Rattle.fs_model.specs.Words.{first}
use Rattle.fs_model.specs.NamesOutcomes.{mkdir_outcome}
use Rattle.fs_model.specs.BytesOutcomes.{Outcome}
use Rattle.fs_model.specs.Journaling.{fuse_serves}
use Rattle.fs_model.specs.Choices.{fault_free}
use Rattle.fs_model.specs.Machine.{accepted, hands_of, put_back}
use Rattle.fs_model.specs.Step.{Step}
use Rattle.inode_tree.specs.declared.row.Row.{Row}
use Rattle.inode_tree.specs.Rows.{node_of, node_if, file_in_row}
use Rattle.outside.specs.declared.disk.Disk as disks
use Rattle.outside.specs.declared.objects.Objects as objects
use Rattle.outside.specs.declared.objects.ObjectRead as reads
use Rattle.outside.specs.declared.objects.ObjectWrite as writes
use Rattle.fs_model.specs.State.{Doubt, Names, Whole}
use Rattle.fs_model.specs.Words.{path_len}
use Rattle.fs_model.specs.Changes.{apply}
use Rattle.fs_model.specs.Step.{stopped_with}
use Rattle.journal_entry.specs.declared.entry.Entry.{Entry}
use Rattle.journal_entry.specs.EntryText.{entry_text}
use Rattle.journal_entry.proofs.BodyLengths.{length-change}
use Rattle.journal_disk.specs.declared.fault.AppendFault.{AppendFault}
use Rattle.journal_disk.specs.declared.fault.AppendFault.TheVariants as faults
use Rattle.master_state.specs.Effect.{counts_in}
use Rattle.master_node.specs.Mastering.{entered, names_of, standing_of}
use Rattle.cluster_core.specs.Entering.{Entered, Enters, HasStopped, Stays, done_or}
use Rattle.fs_model.specs.Faults.{BlockFate, Remains}
use Rattle.fs_model.specs.declared.setup.Setup.{Setup}
use Rattle.fs_model.specs.Machine.{refusal}
use Rattle.cluster_core.specs.NamesStand.{NamesStand}
use Rattle.cluster_core.specs.Tests.{mkdir_test, list_test}
use Rattle.cluster_core.specs.Stands.{Stands, HandsStand, FileFits, FilesStand, NodesStand}
use Rattle.cluster_core.specs.Goes.{Steps, Rises, no_rise}
use Rattle.cluster_core.specs.declared.cluster.Core.{Core}
use Rattle.cluster_core.proofs.Named.{nodes_are, serves_none}
use Rattle.cluster_core.proofs.Journaled.{entered_stand, goes_stopped, serves, stopped_stand}
use Rattle.cluster_core.proofs.NamesSteps.{mkdir_refusal, list_refusal}
use Rattle.cluster_core.proofs.Entries.{mkdir_room}
use Rattle.cluster_core.proofs.Standing.{put_same, stands_by, stands_master, stands_stays, goes_refused, goes_short}
use Rattle.cluster_core.proofs.Rows.{all_put}
use Rattle.std.specs.Option.{option_and_then}
use Rattle.std.specs.Prelude.{is_some, Result, Ok, Err, OnOk}
use Rattle.std.specs.Prelude.{IsErrOf}
use Rattle.journal_disk.specs.Journaling.{Journaling}
use Rattle.cluster_core.proofs.AreaFacts.{areas_entered, areas_stopped, standing_is, up_is}
use Rattle.cluster_core.proofs.Journaled.{change_in_doubt}
use Rattle.cluster_core.proofs.Entries.{mkdir_up}

-- a file fits at any path
pub file_anywhere : (K : Knowledge) (contents : List Content) (next bs : ℕ) (p q : Path) (k : Node) → FileFits K contents next bs (p, k) → FileFits K contents next bs (q, k)
file_anywhere K contents next bs p q Node.Directory f = f
file_anywhere K contents next bs p q (Node.IsFile g) f = f

-- a fault of the journal leaves a commit that was begun, and the doubt
abbrev pub noted_as : Remains
noted_as = record { begun = true; fate = BlockFate.IsCopy; keeps_room = false; parks = true; acted = false; breaks = false }

module _ {D S R W : Type 0} {d : disks.Ghosts D} (o : objects.Ghosts S R W) (r : reads.Ghosts R) (w : writes.Ghosts W) (old : Core D S R W d w) (who : ℕ) (p : Path) where
  -- ---- mkdir

  -- the tests are alike
  tests_are : (U : Setup) (V : Whole) → Stands d o r w U old V → refusal U V.body (hands_of V who) (Event.Mkdir p) ≡ mkdir_test old.master p
  tests_are U V s = mkdir_refusal U old.master V.body (hands_of V who) s.names p s.setup.area

  pub mkdir_refused : (why : Refusal) → Some (Reply.Refused why) ≡ mkdir_test old.master p → Steps d o r w old old who (Event.Mkdir p) (Reply.Refused why)
  mkdir_refused why h = λ U V s. goes_refused o r w U old old V who (Event.Mkdir p) (Reply.Refused why) s (tests_are U V s ∙ sym h) refl refl

  module _ (new : Core D S R W d w) (passes : None ≡ mkdir_test old.master p) (b : new.block ≡ old.block) (k : new.workers ≡ old.workers) (l : new.hands ≡ old.hands) where
    mkdir_short : Stays d old.master new.master → Steps d o r w old new who (Event.Mkdir p) (Reply.Refused Refusal.Memory)
    mkdir_short stays = λ U V s. goes_short o r w U old new V who (Event.Mkdir p) (stands_stays o r w U old new V s b k l stays) refl

    mkdir_stops : counts_in (Entry.Mkdir p) (names_of old.master) ≡ true → HasStopped d 4 (entered (Entry.Mkdir p) (standing_of old.master)) old.master new.master → Steps d o r w old new who (Event.Mkdir p) (Reply.Refused Refusal.JournalFault)
    mkdir_stops counts h = λ U V s.
        let up = mkdir_up old.master p passes in
        let doubt : Option Doubt = Some (Doubt.InChange (Change.Mkdir p) []) in
        goes_stopped o r w U old new V who (Event.Mkdir p) noted_as 4 (stopped_with doubt new.master.journal.here.fuse V.body) (hands_of V who) (tests_are U V s ∙ sym passes) refl refl refl refl s.names h.cause h.goes_on.fuse refl refl
        (stands_master o r w U old new V who (stopped_with doubt new.master.journal.here.fuse V.body).master s b k l h.goes_on.limit h.names (stopped_stand d old.master new.master V.body s.names 4 (entered (Entry.Mkdir p) (standing_of old.master)) doubt h)
        (areas_stopped d s.known V.body.contents old.block 4 (entered (Entry.Mkdir p) (standing_of old.master)) old.master new.master V.body.names (stopped_with doubt new.master.journal.here.fuse V.body).master s.areas.tell h (standing_is old.master V.body s.names up) (change_in_doubt old.master V.body (Change.Mkdir p) [] s.names up counts refl) refl tt))

    mkdir_done : Entered d (Entry.Mkdir p) old.master new.master → counts_in (Entry.Mkdir p) (names_of old.master) ≡ true → Steps d o r w old new who (Event.Mkdir p) Reply.Done
    mkdir_done h counts = λ U V s.
        let H = hands_of V who in
        let B = (mkdir_outcome V.body p).1 in
        let named : NamesStand new.master B = entered_stand d old.master new.master V.body s.names (Change.Mkdir p) (mkdir_up old.master p passes) h counts refl s.names.unlocked s.names.unseen in
        let is : names_of new.master ≡ apply (Change.Mkdir p) (names_of old.master) = sym named.names ∙ ap (apply (Change.Mkdir p)) s.names.names in
        record {
          after = put_back V who B H;
          rise = no_rise;
          made = Some (Change.Mkdir p);
          stands = stands_by o r w U new (put_back V who B H) s.known old.block old.master.journal.limit new.master old.workers.items old.hands.items b h.goes_on.limit refl (ap (λ x. x.items) k) (ap (λ x. x.items) l) (record {
            setup = s.setup;
            named = named;
            areas = areas_entered d s.known B.contents old.block old.master new.master B.names B.master s.areas.tell h.goes_on h.later (standing_is new.master B named (ap (λ (j : Journaling D). j.failed) h.moved ∙ mkdir_up old.master p passes)) (s.areas.certain (up_is old.master V.body s.names (mkdir_up old.master p passes)));
            workers = record { rows = s.workers.rows; registrations = s.workers.registrations; first = s.workers.first; one = s.workers.one };
            hands = subst (λ (N : Names). HandsStand r w s.known old.workers.items N.next_id old.block (set V.hands (pred who) H) old.hands.items) (sym is)
                (subst (λ all. HandsStand r w s.known old.workers.items old.master.kept.names.next_id old.block all old.hands.items) (sym (set-get_or V.hands (pred who) [])) s.hands);
            files = subst (λ (N : Names). FilesStand s.known N.next_id old.block N.nodes V.body.contents) (sym is) (record {
              each = all_put (FileFits s.known V.body.contents old.master.kept.names.next_id old.block) p Node.Directory old.master.kept.names.nodes tt (file_anywhere s.known V.body.contents old.master.kept.names.next_id old.block p) s.files.each;
              written = s.files.written;
              fresh = s.files.fresh;
            });
            objects = subst (λ (N : Names). NodesStand o s.known N.next_id old.block old.workers.items) (sym is) s.objects;
          });
          rises = Rises.Nothing;
          step = record {
            body = B;
            hands = H;
            step = Step.Accepted (fault_free 0) (tests_are U V s ∙ sym passes) refl (subst (λ f. IsTrue (fuse_serves f 4)) (sym s.names.fuse) (serves 4 old.master.journal.here.fuse h.enough)) refl refl refl;
            after = refl;
          };
        }

    -- whatever came of the entry
    pub mkdir_steps : {T : Type 0} (result : Result T AppendFault) → Enters d (Entry.Mkdir p) old.master new.master result → OnOk result (counts_in (Entry.Mkdir p) (names_of old.master) ≡ true) → (IsErrOf result faults.Failed → counts_in (Entry.Mkdir p) (names_of old.master) ≡ true) → Steps d o r w old new who (Event.Mkdir p) (done_or result)
    mkdir_steps (Ok u) h counts counted = mkdir_done h.done counts
    mkdir_steps (Err faults.Failed) h counts counted = mkdir_stops (counted refl) (h.stopped refl)
    mkdir_steps (Err faults.Memory) h counts counted = mkdir_short (h.short refl)
    mkdir_steps (Err faults.Full) h counts counted = absurd (mkdir_room old.master p passes (h.full refl))

  -- ---- ls

  pub list_refused : (why : Refusal) → list_test old.master p ≡ Some (Reply.Refused why) → Steps d o r w old old who (Event.List p) (Reply.Refused why)
  list_refused why h = λ U V s. goes_refused o r w U old old V who (Event.List p) (Reply.Refused why) s (list_refusal U old.master V.body (hands_of V who) s.names p ∙ h) refl refl

  pub list_stopped : old.master.journal.failed ≡ true → Steps d o r w old old who (Event.List p) (Reply.Refused Refusal.Stopped)
  list_stopped down = list_refused Refusal.Stopped (rw down refl)

  row_refused : (d : Bool) (n : Node) (row : Row) → n ≡ node_if d (file_in_row row) → not d ≡ true → refuse Refusal.NotDirectory (is_some (file_in n)) ≡ Some (Reply.Refused Refusal.NotDirectory)
  row_refused true n row is h = absurd (cc)
  row_refused false n row is h = rw is refl

  row_passes : (d : Bool) (n : Node) (row : Row) → n ≡ node_if d (file_in_row row) → not d ≡ false → refuse Refusal.NotDirectory (is_some (file_in n)) ≡ None
  row_passes true n row is h = rw is refl
  row_passes false n row is h = absurd (cc)

  pub list_short : Steps d o r w old old who (Event.List p) (Reply.Refused Refusal.Memory)
  list_short = λ U V s. goes_short o r w U old old V who (Event.List p) s refl

  module _ (up : old.master.journal.failed ≡ false) where
    -- where the walk leads to no node
    list_missing : (k : machine.Walk) (reply : Reply) → k ≡ walk_nodes old.master.kept.names.nodes p → walk_fault k ≡ Some reply → list_test old.master p ≡ Some reply
    list_missing k reply leads fault = (λ j. first (refuse Refusal.Stopped (up j) ∷ (ap walk_fault (sym leads) ∙ fault) j ∷ refuse Refusal.NotDirectory (is_some (option_and_then file_in (find_node old.master.kept.names.nodes p))) ∷ []))

    pub list_lost : (k : machine.Walk) (why : Refusal) → k ≡ walk_nodes old.master.kept.names.nodes p → walk_fault k ≡ Some (Reply.Refused why) → Steps d o r w old old who (Event.List p) (Reply.Refused why)
    list_lost k why leads fault = list_refused why (list_missing k (Reply.Refused why) leads fault)

    -- where it leads to a node
    list_found : (n : Node) → machine.Walk.Found n ≡ walk_nodes old.master.kept.names.nodes p → find_node old.master.kept.names.nodes p ≡ Some n → list_test old.master p ≡ refuse Refusal.NotDirectory (is_some (file_in n))
    list_found n leads found = rw (up, sym leads, found) (alone (refuse Refusal.NotDirectory (is_some (file_in n))))
      where
        alone : {X : Type 0} (x : Option X) → first (None ∷ x ∷ []) ≡ x
        alone None = refl
        alone (Some x) = refl

    pub list_file : (row : Row) → machine.Walk.Found (node_of row) ≡ walk_nodes old.master.kept.names.nodes p → find_node old.master.kept.names.nodes p ≡ Some (node_of row) → not row.dir ≡ true → Steps d o r w old old who (Event.List p) (Reply.Refused Refusal.NotDirectory)
    list_file row leads found file = list_refused Refusal.NotDirectory (list_found (node_of row) leads found ∙ row_refused row.dir (node_of row) row refl file)

    pub list_shown : (row : Row) (names : List Name) → machine.Walk.Found (node_of row) ≡ walk_nodes old.master.kept.names.nodes p → find_node old.master.kept.names.nodes p ≡ Some (node_of row) → not row.dir ≡ false → names ≡ names_in old.master.kept.names.nodes p → Steps d o r w old old who (Event.List p) (Reply.Names names)
    list_shown row names leads found directory are = λ U V s.
        let H = hands_of V who in
        let passes : list_test old.master p ≡ None = list_found (node_of row) leads found ∙ row_passes row.dir (node_of row) row refl directory in
        let shown : ◌≡◌ {A = Outcome} (Reply.Names names, V.body, H) (accepted U (fault_free 0) V.body H who (Event.List p)) = ap (λ (ns : List Name). let x : Outcome = (Reply.Names ns, V.body, H) in x) (are ∙ ap (λ rows. names_in rows p) (sym (nodes_are s.names))) in
        record {
          after = V;
          rise = no_rise;
          made = None;
          stands = s;
          rises = Rises.Nothing;
          step = record {
            body = V.body;
            hands = H;
            step = Step.Accepted (fault_free 0) (list_refusal U old.master V.body H s.names p ∙ passes) refl (serves_none V.body.master.fuse) refl shown refl;
            after = sym (put_same V who);
          };
        }
