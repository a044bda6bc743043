-- The end of a writer by what became of its entry.
use Rattle.std.proofs.Common.{◌≡◌, ℕ, pred, List, ◌+◌, ◌<◌, false, true, length, None, refl, sym, ap, ◌∙◌, subst, arith}
use Rattle.std.specs.Prelude.{Err, IfSome}
use Rattle.fs_model.specs.Spelled.{is_actor}
use Rattle.fs_model.specs.declared.label.Label.{Label}
use Rattle.fs_model.specs.declared.event.Event.{Event}
use Rattle.fs_model.specs.declared.change.Change.{Change}
use Rattle.fs_model.specs.declared.reply.Reply.{Reply}
use Rattle.fs_model.specs.declared.reply.Stored.{Stored}
use Rattle.fs_model.specs.declared.reply.Refusal.{Refusal}
use Rattle.outside.specs.declared.disk.Disk as disks
use Rattle.outside.specs.declared.objects.Objects as objects
use Rattle.outside.specs.declared.objects.ObjectRead as reads
use Rattle.outside.specs.declared.objects.ObjectWrite as writes
use Rattle.file_writer.specs.Writing.{block_writer}
use Rattle.journal_entry.specs.EntryText.{entry_text}
use Rattle.journal_entry.proofs.BodyLengths.{length-change}
use Rattle.journal_disk.specs.declared.fault.AppendFault.{AppendFault}
use Rattle.journal_disk.specs.declared.fault.AppendFault.TheVariants as faults
use Rattle.master_node.specs.Mastering.{IsUp, Mastering, entered, names_of, standing_of}
use Rattle.cluster_core.specs.Committed.{closed_writer, finished_of, key_at}
use Rattle.cluster_core.specs.Crashes.{Leads, done_entry}
use Rattle.cluster_core.specs.Entering.{Entered, HasStopped, Stays, fault_reply}
use Rattle.cluster_core.specs.HandChanges.{AddsHand}
use Rattle.cluster_core.specs.Kept.{KeepsRest}
use Rattle.cluster_core.specs.Media.{MediaStays}
use Rattle.cluster_core.specs.Steady.{IsHandSteady, IsSteady}
use Rattle.cluster_core.specs.Tiers.{ChangesAt}
use Rattle.cluster_core.specs.Writers.{Commits, StepsFrom, finish_test}
use Rattle.cluster_core.specs.declared.cluster.Core.{Core}
use Rattle.cluster_core.specs.declared.hand.Hand.{Hand}
use Rattle.cluster_core.specs.declared.hand.Writer.{Writer}
use Rattle.cluster_core.specs.declared.node.Node.{Node}
use Rattle.cluster_core.proofs.Crashed.{leads_refused, leads_stopped, rests_stays}
use Rattle.cluster_core.proofs.DoneGo.{finish_tests}
use Rattle.cluster_core.proofs.DoneSteps.{after_stops, ends_short, from_ready}
use Rattle.cluster_core.proofs.Entries.{IsFullFor}
use Rattle.cluster_core.proofs.MediaStay.{areas_go, areas_stay, media_kept, media_same, media_then}
use Rattle.cluster_core.proofs.NamesSteps.{has_room, not_refused}
use Rattle.cluster_core.proofs.SteadyStay.{steady_added, steady_by, steady_same}
use Rattle.master_state.specs.Effect.{counts_in}

-- where neither memory nor room is missing, a call failed
only_failed : (fault : AppendFault) → (fault ≡ faults.Memory → ⊥) → (fault ≡ faults.Full → ⊥) → fault ≡ faults.Failed
only_failed faults.Failed memory full = refl
only_failed faults.Memory memory full = absurd (memory refl)
only_failed faults.Full memory full = absurd (full refl)

-- where no call failed and room isn't missing, memory is
only_short : (fault : AppendFault) → (fault ≡ faults.Failed → ⊥) → (fault ≡ faults.Full → ⊥) → fault ≡ faults.Memory
only_short faults.Failed failed full = absurd (failed refl)
only_short faults.Memory failed full = refl
only_short faults.Full failed full = absurd (full refl)

-- a writer that is set broken after its block was committed
pub set_broken : {W : Type 0} (x z : Writer W) → z ≡ closed_writer false x → (let y : Writer W = record z { broken = true } in y) ≡ closed_writer true x
set_broken {W} x z closed = ap (λ (q : Writer W). let y : Writer W = record q { broken = true } in y) closed

-- the master is up where a file may be done
pub finish_up : {D S W : Type 0} (m : Mastering D) (nodes : List (Node S)) (x : Writer W) → finish_test m nodes x ≡ None → IsUp m
finish_up m nodes x passes = not_refused Refusal.Stopped m.journal.failed (finish_tests m nodes x passes).0

-- the entry of a file that may be done finds room
pub done_room : {D S W : Type 0} (m : Mastering D) (nodes : List (Node S)) (x : Writer W) → finish_test m nodes x ≡ None → IsFullFor (done_entry x) m → ⊥
done_room m nodes x passes long =
    let e : length (entry_text (done_entry x)) ≡ 30 = length-change (Change.Done x.file x.bytes.len Stored.No 0) in
    let room = has_room m 30 (finish_tests m nodes x passes).1.1.0 in
    omega (arith, long, e, room)

module _ {D S R W : Type 0} {d : disks.Ghosts D} (o : objects.Ghosts S R W) (r : reads.Ghosts R) (w : writes.Ghosts W) (now mid new : Core D S R W d w) (l : Label) (who : ℕ) (actor : is_actor who ≡ true) (x z y : Writer W) (m : Mastering D) (rest : KeepsRest now mid) (hands : mid.hands ≡ now.hands)
    (passes : finish_test now.master now.workers.items x ≡ None)
    (fault : AppendFault) (reply : Reply) (is : reply ≡ fault_reply fault)
    (spared : fault ≡ faults.Memory → ⊥) (full : fault ≡ faults.Full → IsFullFor (done_entry x) mid.master) (stopped : fault ≡ faults.Failed → HasStopped d 4 (entered (done_entry x) (standing_of mid.master)) mid.master m)
    (put_block : new.block ≡ mid.block) (put_master : new.master ≡ m) (put_stores : new.stores ≡ mid.stores) (workers : new.workers ≡ mid.workers) (puts : ChangesAt mid.hands.items new.hands.items (pred who) (AddsHand l (Hand.Writing y))) (closed : z ≡ closed_writer false x) (broken : y ≡ (let k : Writer W = record z { broken = true } in k)) where
  -- the fault is that of a call
  failed : fault ≡ faults.Failed
  failed = only_failed fault spared (λ e. done_room mid.master now.workers.items x (ap (λ k. finish_test k now.workers.items x) rest.master ∙ passes) (full e))

  stops : HasStopped d 4 (entered (done_entry x) (standing_of mid.master)) mid.master new.master
  stops = subst (HasStopped d 4 (entered (done_entry x) (standing_of mid.master)) mid.master) (sym put_master) (stopped failed)

  answered : reply ≡ Reply.Refused Refusal.JournalFault
  answered = is ∙ ap fault_reply failed

  y_is : y ≡ closed_writer true x
  y_is = broken ∙ set_broken x z closed

  pub stops_steps : counts_in (done_entry x) (names_of mid.master) ≡ true → IfSome x.room (λ n. IfSome (block_writer x.bytes) (λ pen. ChangesAt now.workers.items mid.workers.items (pred x.worker) (Commits o w n (key_at now.workers.items x.worker n) pen (finished_of now.master.kept.names.nodes now.block x)))) → (x.room ≡ None → mid.workers ≡ now.workers) → StepsFrom d o r w now new who l x (Event.Finish l) reply
  stops_steps counts done kept = subst (StepsFrom d o r w now new who l x (Event.Finish l)) (sym answered) (after_stops o r w now mid new l who actor x rest hands put_block workers passes done kept counts y y_is puts stops)

  pub stops_media : MediaStays d o now mid → MediaStays d o now new
  stops_media media = media_then o media (media_same o (areas_go d stops.goes_on) put_stores workers)

  pub stops_leads : IsUp now.master → Leads d now.master new.master (entered (done_entry x) (standing_of now.master)) reply
  stops_leads up =
      subst (λ k. Leads d k new.master (entered (done_entry x) (standing_of k)) reply) rest.master
      (subst (Leads d mid.master new.master (entered (done_entry x) (standing_of mid.master))) (sym answered) (leads_stopped d 4 (entered (done_entry x) (standing_of mid.master)) mid.master new.master (ap (λ k. k.journal.failed) rest.master ∙ up) stops))

-- ---- the entry wasn't made ready

module _ {D S R W : Type 0} {d : disks.Ghosts D} (o : objects.Ghosts S R W) (r : reads.Ghosts R) (w : writes.Ghosts W) (now ready new : Core D S R W d w) (l : Label) (who : ℕ) (actor : is_actor who ≡ true) (x : Writer W) (stays : Stays d now.master ready.master) (block : ready.block ≡ now.block) (same_workers : ready.workers ≡ now.workers) (hands : ready.hands ≡ now.hands) (stores : ready.stores ≡ now.stores)
    (passes : finish_test now.master now.workers.items x ≡ None)
    (fault : AppendFault) (reply : Reply) (is : reply ≡ fault_reply fault)
    (never : fault ≡ faults.Failed → ⊥) (full : fault ≡ faults.Full → IsFullFor (done_entry x) now.master)
    (rest : KeepsRest ready new) (workers : new.workers ≡ ready.workers) (puts : ChangesAt ready.hands.items new.hands.items (pred who) (AddsHand l (Hand.Writing x))) where
  short : reply ≡ Reply.Refused Refusal.Memory
  short = is ∙ ap fault_reply (only_short fault never (λ e. done_room now.master now.workers.items x passes (full e)))

  pub unready_steps : StepsFrom d o r w now new who l x (Event.Finish l) reply
  unready_steps = subst (StepsFrom d o r w now new who l x (Event.Finish l)) (sym short)
      (from_ready o r w now ready new l who x stays block same_workers hands stores (Reply.Refused Refusal.Memory) (ends_short o r w ready new l who actor x x rest puts workers refl))

  pub unready_media : MediaStays d o now new
  unready_media = media_then o (media_same o (areas_stay d stays.journal) stores same_workers) (media_kept o rest workers)

  pub unready_steady : IsSteady d o r w now → IsHandSteady r w (Hand.Writing x) → IsSteady d o r w new
  unready_steady steady good = steady_added o r w (pred who) l (Hand.Writing x) rest workers puts good (steady_same o r w same_workers hands steady)

  pub unready_leads : Leads d now.master new.master (entered (done_entry x) (standing_of now.master)) reply
  unready_leads = leads_refused d (entered (done_entry x) (standing_of now.master)) reply (rests_stays d now.master new.master (subst (Stays d now.master) (sym rest.master) stays)) (λ e. let no = sym short ∙ e in absurd (cc))
