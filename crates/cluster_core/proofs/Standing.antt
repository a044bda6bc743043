-- A core stands for a state, part by part; and events that leave the state.
use Rattle.std.proofs.Common.{◌≡◌, ℕ, pred, set, not, IsTrue, List, [], Some, None, refl, sym, ap, subst}
use Rattle.std.proofs.lemmas.List.{set-get_or}
use Rattle.fs_model.specs.declared.setup.Setup.{Setup}
use Rattle.fs_model.specs.declared.event.Event.{Event}
use Rattle.fs_model.specs.declared.reply.Reply.{Reply}
use Rattle.fs_model.specs.declared.reply.Refusal.{Refusal}
use Rattle.fs_model.specs.State.{Whole, Master, Names}
use Rattle.fs_model.specs.Machine.{refusal, idle_body, idle_hands, hands_of, put_back}
use Rattle.fs_model.specs.Step.{Step, ShortOf, is_restart}
use Rattle.outside.specs.declared.disk.Disk as disks
use Rattle.outside.specs.declared.objects.Objects as objects
use Rattle.outside.specs.declared.objects.ObjectRead as reads
use Rattle.outside.specs.declared.objects.ObjectWrite as writes
use Rattle.cluster_core.specs.LabelsView.{LabelsView}
use Rattle.master_node.specs.Mastering.{Mastering}
use Rattle.journal_disk.specs.Journaling.{Journaling}
use Rattle.master_node.specs.Mastering.{names_of}
use Rattle.cluster_core.specs.Entering.{Stays}
use Rattle.cluster_core.specs.NamesStand.{NamesStand}
use Rattle.cluster_core.specs.AreasStand.{AreasStand}
use Rattle.cluster_core.proofs.AreaFacts.{areas_stay}
use Rattle.cluster_core.proofs.Journaled.{stays_stand}
use Rattle.cluster_core.specs.Knowledge.{Knowledge}
use Rattle.cluster_core.specs.Stands.{Stands, SetupFits, WorkersStand, HandsStand, FilesStand, NodesStand}
use Rattle.cluster_core.specs.Goes.{Goes, Rises, no_rise}
use Rattle.cluster_core.specs.declared.cluster.Core.{Core}
use Rattle.cluster_core.specs.declared.node.Node.{Node}
use Rattle.cluster_core.specs.declared.hand.Hand.{Hand}

-- the same body and labels put back leave the whole
pub put_same : (V : Whole) (who : ℕ) → put_back V who V.body (hands_of V who) ≡ V
put_same V who = λ i. record { body = V.body; hands = set-get_or V.hands (pred who) [] i }

module _ {D S R W : Type 0} (d : disks.Ghosts D) (o : objects.Ghosts S R W) (r : reads.Ghosts R) (w : writes.Ghosts W) (U : Setup) where
  -- what a core stands by, for its parts
  pub record Parts (K : Knowledge) (block area : ℕ) (master : Mastering D) (nodes : List (Node S)) (labels : List (LabelsView (Hand R W))) (V : Whole) : Type 0 where
    pub setup : SetupFits U block area nodes
    pub named : NamesStand master V.body
    pub areas : AreasStand d K V.body.contents block master V.body.names V.body.master
    pub workers : WorkersStand nodes V.body
    pub hands : HandsStand r w K nodes master.kept.names.next_id block V.hands labels
    pub files : FilesStand K master.kept.names.next_id block master.kept.names.nodes V.body.contents
    pub objects : NodesStand o K master.kept.names.next_id block nodes

module _ {D S R W : Type 0} {d : disks.Ghosts D} (o : objects.Ghosts S R W) (r : reads.Ghosts R) (w : writes.Ghosts W) (U : Setup) where
  -- the parts of a core that stands
  pub parts_of : (C : Core D S R W d w) (V : Whole) (s : Stands d o r w U C V) → Parts d o r w U s.known C.block C.master.journal.limit C.master C.workers.items C.hands.items V
  parts_of C V s = record { setup = s.setup; named = s.names; areas = s.areas; workers = s.workers; hands = s.hands; files = s.files; objects = s.objects }

  -- a core with these parts stands
  pub stands_by : (C : Core D S R W d w) (V : Whole) (K : Knowledge) (block area : ℕ) (master : Mastering D) (nodes : List (Node S)) (labels : List (LabelsView (Hand R W)))
      → C.block ≡ block → C.master.journal.limit ≡ area → C.master ≡ master → C.workers.items ≡ nodes → C.hands.items ≡ labels → Parts d o r w U K block area master nodes labels V → Stands d o r w U C V
  stands_by C V K block area master nodes labels b a n k l p =
      let q : Parts d o r w U K C.block C.master.journal.limit C.master C.workers.items C.hands.items V = these in
      record { known = K; setup = q.setup; names = q.named; areas = q.areas; workers = q.workers; hands = q.hands; files = q.files; objects = q.objects }
    where
      these : Parts d o r w U K C.block C.master.journal.limit C.master C.workers.items C.hands.items V
      these = subst (λ x. Parts d o r w U K x C.master.journal.limit C.master C.workers.items C.hands.items V) (sym b) (subst (λ x. Parts d o r w U K block x C.master C.workers.items C.hands.items V) (sym a) (subst (λ x. Parts d o r w U K block area x C.workers.items C.hands.items V) (sym n) (subst (λ x. Parts d o r w U K block area master x C.hands.items V) (sym k) (subst (λ x. Parts d o r w U K block area master nodes x V) (sym l) p))))

  -- a refusal leaves the state
  pub goes_refused : (old new : Core D S R W d w) (V : Whole) (who : ℕ) (e : Event) (reply : Reply) → Stands d o r w U new V → refusal U V.body (hands_of V who) e ≡ Some reply → V.body ≡ idle_body who e reply V.body → hands_of V who ≡ idle_hands e reply (hands_of V who)
      → Goes d o r w U old new V who e reply
  goes_refused old new V who e reply s h body hands = record {
    after = V;
    rise = no_rise;
    made = None;
    stands = s;
    rises = Rises.Nothing;
    step = record { body = V.body; hands = hands_of V who; step = Step.Refused h body hands refl; after = sym (put_same V who) };
  }

  -- want of memory leaves the state
  pub goes_short : (old new : Core D S R W d w) (V : Whole) (who : ℕ) (e : Event) → Stands d o r w U new V → IsTrue (not (is_restart e)) → Goes d o r w U old new V who e (Reply.Refused Refusal.Memory)
  goes_short old new V who e s no_restart = record {
    after = V;
    rise = no_rise;
    made = None;
    stands = s;
    rises = Rises.Nothing;
    step = record { body = V.body; hands = hands_of V who; step = Step.Short refl (ShortOf.Unchanged e no_restart refl refl) refl; after = sym (put_same V who) };
  }

  -- where the master has changed, and its names are the same, the core stands for the state with a master that this one stands for
  pub stands_master_by : (old new : Core D S R W d w) (V : Whole) (who : ℕ) (M : Master) (s : Stands d o r w U old V) → new.block ≡ old.block → new.workers ≡ old.workers → HandsStand r w s.known old.workers.items old.master.kept.names.next_id old.block V.hands new.hands.items → new.master.journal.limit ≡ old.master.journal.limit → names_of new.master ≡ names_of old.master
      → NamesStand new.master (record V.body { master = M }) → AreasStand d s.known V.body.contents old.block new.master V.body.names M → Stands d o r w U new (put_back V who (record V.body { master = M }) (hands_of V who))
  stands_master_by old new V who M s block workers hands limit names named areas =
      stands_by new (put_back V who (record V.body { master = M }) (hands_of V who)) s.known old.block old.master.journal.limit new.master old.workers.items new.hands.items block limit refl (ap (λ v. v.items) workers) refl (record {
        setup = s.setup;
        named = named;
        areas = areas;
        workers = record { rows = s.workers.rows; registrations = s.workers.registrations; first = s.workers.first; one = s.workers.one };
        hands = subst (λ (N : Names). HandsStand r w s.known old.workers.items N.next_id old.block (set V.hands (pred who) (hands_of V who)) new.hands.items) (sym names)
            (subst (λ all. HandsStand r w s.known old.workers.items old.master.kept.names.next_id old.block all new.hands.items) (sym (set-get_or V.hands (pred who) [])) hands);
        files = subst (λ (N : Names). FilesStand s.known N.next_id old.block N.nodes V.body.contents) (sym names) s.files;
        objects = subst (λ (N : Names). NodesStand o s.known N.next_id old.block old.workers.items) (sym names) s.objects;
      })

  -- so it is where each actor has the labels that it had
  pub stands_master : (old new : Core D S R W d w) (V : Whole) (who : ℕ) (M : Master) (s : Stands d o r w U old V) → new.block ≡ old.block → new.workers ≡ old.workers → new.hands ≡ old.hands → new.master.journal.limit ≡ old.master.journal.limit → names_of new.master ≡ names_of old.master
      → NamesStand new.master (record V.body { master = M }) → AreasStand d s.known V.body.contents old.block new.master V.body.names M → Stands d o r w U new (put_back V who (record V.body { master = M }) (hands_of V who))
  stands_master old new V who M s block workers hands limit names named areas =
      stands_master_by old new V who M s block workers (subst (λ v. HandsStand r w s.known old.workers.items old.master.kept.names.next_id old.block V.hands v.items) (sym hands) s.hands) limit names named areas

  -- so it is where no area was called
  pub stands_stays_by : (old new : Core D S R W d w) (V : Whole) (s : Stands d o r w U old V) → new.block ≡ old.block → new.workers ≡ old.workers → HandsStand r w s.known old.workers.items old.master.kept.names.next_id old.block V.hands new.hands.items → Stays d old.master new.master → Stands d o r w U new V
  stands_stays_by old new V s block workers hands stays =
      subst (Stands d o r w U new) (put_same V 1) (stands_master_by old new V 1 V.body.master s block workers hands (ap (λ (j : Journaling D). j.limit) stays.journal.rest) stays.names (stays_stand d old.master new.master V.body s.names stays) (areas_stay d s.known V.body.contents old.block old.master new.master V.body.names V.body.master stays s.areas))

  pub stands_stays : (old new : Core D S R W d w) (V : Whole) → Stands d o r w U old V → new.block ≡ old.block → new.workers ≡ old.workers → new.hands ≡ old.hands → Stays d old.master new.master → Stands d o r w U new V
  stands_stays old new V s block workers hands stays =
      subst (Stands d o r w U new) (put_same V 1) (stands_master old new V 1 V.body.master s block workers hands (ap (λ (j : Journaling D). j.limit) stays.journal.rest) stays.names (stays_stand d old.master new.master V.body s.names stays) (areas_stay d s.known V.body.contents old.block old.master new.master V.body.names V.body.master stays s.areas))
