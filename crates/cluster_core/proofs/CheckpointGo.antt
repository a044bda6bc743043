-- A checkpoint and a fuse as steps of the file machine.
use Rattle.std.proofs.Common.{◌≡◌, inl, inr, ℕ, ◌+◌, ◌-◌, ◌<◌, ◌≤◌, ◌^◌, Bool, true, false, not, ◌||◌, nat_le, nat_lt, IsTrue, List, [], ◌∷◌, length, Option, Some, None, refl, sym, ap, ◌∙◌, subst, arith}
use Rattle.std.specs.Prelude.{⊤, Result, Ok, Err}
use Rattle.std.proofs.lemmas.Bool.{cases_lt, lt-ltb, le-ltb, le-leb, lt-leb}
use Rattle.fs_model.specs.declared.setup.Setup.{Setup}
use Rattle.fs_model.specs.declared.event.Event.{Event}
use Rattle.fs_model.specs.declared.reply.Reply.{Reply}
use Rattle.fs_model.specs.declared.reply.Refusal.{Refusal}
use Rattle.fs_model.specs.declared.reply.Which.{Which}
use Rattle.fs_model.specs.Words.{first}
use Rattle.fs_model.specs.State.{Whole, State, Names, Doubt}
use Rattle.fs_model.specs.Tests.{refuse, past}
use Rattle.fs_model.specs.Updates.{spend}
use Rattle.fs_model.specs.Choices.{fault_free}
use Rattle.fs_model.specs.Journaling.{fuse_serves}
use Rattle.fs_model.specs.NodesEvents.{checkpoint_calls, checkpoint_gate, checkpoint_outcome, fuse_outcome}
use Rattle.fs_model.specs.Machine.{refusal, hands_of, put_back}
use Rattle.fs_model.specs.Step.{Step, stopped_with}
use Rattle.outside.specs.declared.disk.Disk as disks
use Rattle.outside.specs.declared.objects.Objects as objects
use Rattle.outside.specs.declared.objects.ObjectRead as reads
use Rattle.outside.specs.declared.objects.ObjectWrite as writes
use Rattle.journal_entry.specs.Meaning.{checkpoint_entries}
use Rattle.journal_entry.proofs.CheckpointLengths.{length-checkpoint}
use Rattle.journal_disk.specs.AreaText.{gate_behind}
use Rattle.journal_disk.specs.Journaling.{HadCause, IsFull, Journaling, area_0, area_1}
use Rattle.journal_disk.specs.Journaling as journals
use Rattle.journal_disk.specs.declared.fault.AppendFault.{AppendFault}
use Rattle.journal_disk.specs.declared.fault.AppendFault.TheVariants as faults
use Rattle.master_node.specs.Mastering.{IsUp, Mastering, names_of, renewed, standing_of}
use Rattle.cluster_core.specs.Entering.{Renews, Renewed, done_or, fault_reply}
use Rattle.cluster_core.specs.Causes.{IsCaused}
use Rattle.cluster_core.specs.Media.{AreasStay, MediaStays}
use Rattle.cluster_core.specs.Goes.{Steps, Rises, no_rise}
use Rattle.cluster_core.specs.NamesStand.{NamesStand}
use Rattle.cluster_core.specs.AreasStand.{with_doubt}
use Rattle.cluster_core.specs.Stands.{Stands}
use Rattle.cluster_core.specs.declared.cluster.Core.{Core}
use Rattle.cluster_core.proofs.AreaFacts.{areas_entered, areas_fused, areas_same, areas_stopped, standing_is, up_is}
use Rattle.cluster_core.proofs.Journaled.{burnt_is, goes_stopped, serves, stopped_stand}
use Rattle.cluster_core.proofs.MediaStay.{areas_go, areas_stay, media_same}
use Rattle.cluster_core.proofs.Named.{serves_none, stopped_is}
use Rattle.cluster_core.proofs.NamesGo.{noted_as}
use Rattle.cluster_core.proofs.Standing.{goes_refused, goes_short, stands_master, stands_stays}

-- the lengths that the machine counts
gate_is : (N : Names) → gate_behind (checkpoint_entries N) ≡ checkpoint_gate N
gate_is N = length-checkpoint N

calls_are : (N : Names) → journals.checkpoint_calls (checkpoint_entries N) ≡ checkpoint_calls N
calls_are N = ap (λ n. 5 + journals.pieces_of n) (gate_is N)

module _ {D S R W : Type 0} {d : disks.Ghosts D} (o : objects.Ghosts S R W) (r : reads.Ghosts R) (w : writes.Ghosts W) (old : Core D S R W d w) (who : ℕ) where
  -- why no checkpoint is made, if none is
  abbrev Full : Bool
  Full = nat_lt old.master.journal.limit (checkpoint_gate (names_of old.master) + 1) || nat_le (2 ^ 64 - 1) old.master.journal.generation

  tests_are : (U : Setup) (V : Whole) (s : Stands d o r w U old V) → refusal U V.body (hands_of V who) Event.Checkpoint ≡ first (refuse Refusal.Stopped old.master.journal.failed ∷ past Which.Area Full ∷ [])
  tests_are U V s = by old.master.journal.failed refl
    where
      by : (b : Bool) → old.master.journal.failed ≡ b → refusal U V.body (hands_of V who) Event.Checkpoint ≡ first (refuse Refusal.Stopped old.master.journal.failed ∷ past Which.Area Full ∷ [])
      by true down = rw (s.names.down, down) refl
      by false up = λ j. first (refuse Refusal.Stopped (s.names.down j) ∷ past Which.Area (nat_lt (s.setup.area j) (checkpoint_gate (s.names.names j) + 1) || nat_le (2 ^ 64 - 1) (s.names.generation up j)) ∷ [])

  pub checkpoint_refused : old.master.journal.failed ≡ true → Steps d o r w old old who Event.Checkpoint (Reply.Refused Refusal.Stopped)
  checkpoint_refused down = λ U V s. goes_refused o r w U old old V who Event.Checkpoint (Reply.Refused Refusal.Stopped) s (tests_are U V s ∙ ap (λ b. first (refuse Refusal.Stopped b ∷ past Which.Area Full ∷ [])) down) refl refl

  -- the journal says of a checkpoint that is too long what the machine does
  full_is : IsFull old.master.journal (checkpoint_entries (names_of old.master)) → Full ≡ true
  full_is (inl long) = ap (λ b. b || nat_le (2 ^ 64 - 1) old.master.journal.generation) (lt-ltb old.master.journal.limit (checkpoint_gate (names_of old.master) + 1) (subst (λ n. old.master.journal.limit < n + 1) (gate_is (names_of old.master)) long))
  full_is (inr last) = ap (λ b. nat_lt old.master.journal.limit (checkpoint_gate (names_of old.master) + 1) || b) (le-leb (2 ^ 64 - 1) old.master.journal.generation last) ∙ or_true (nat_lt old.master.journal.limit (checkpoint_gate (names_of old.master) + 1))
    where
      or_true : (b : Bool) → (b || true) ≡ true
      or_true true = refl
      or_true false = refl

  not_full : (IsFull old.master.journal (checkpoint_entries (names_of old.master)) → ⊥) → Full ≡ false
  not_full none = elim (cases_lt old.master.journal.limit (checkpoint_gate (names_of old.master) + 1)) [
    | inl long ↦ absurd (none (inl (subst (λ n. old.master.journal.limit < n + 1) (sym (gate_is (names_of old.master))) long)))
    | inr fits ↦ elim (cases_lt old.master.journal.generation (2 ^ 64 - 1)) [
      | inl early ↦ (λ j. le-ltb old.master.journal.limit (checkpoint_gate (names_of old.master) + 1) fits j || lt-leb (2 ^ 64 - 1) old.master.journal.generation early j)
      | inr last ↦ absurd (none (inr last))
    ]
  ]

  module _ (up : old.master.journal.failed ≡ false) (new : Core D S R W d w) (b : new.block ≡ old.block) (k : new.workers ≡ old.workers) (l : new.hands ≡ old.hands) where
    passes : (U : Setup) (V : Whole) (s : Stands d o r w U old V) → Full ≡ false → refusal U V.body (hands_of V who) Event.Checkpoint ≡ None
    passes U V s fits = tests_are U V s ∙ (λ j. first (refuse Refusal.Stopped (up j) ∷ past Which.Area (fits j) ∷ []))

    -- the checkpoint that may have been made
    renewed_in_doubt : (A : State) → NamesStand old.master A → renewed (standing_of old.master) ≡ with_doubt (Some Doubt.InCheckpoint) A.names A.master.gate A.master.generation
    renewed_in_doubt A s = λ i. record { names = sym s.names i; gate = (gate_is (names_of old.master) ∙ sym (ap checkpoint_gate s.names)) i; generation = ap (λ n. n + 1) (sym (s.generation up)) i }

    checkpoint_done : Renewed d old.master new.master → Steps d o r w old new who Event.Checkpoint Reply.Done
    checkpoint_done h = λ U V s.
        let H = hands_of V who in
        let B = (checkpoint_outcome V.body).1 in
        let N = names_of old.master in
        let stood : NamesStand new.master B = record {
          names = s.names.names ∙ sym h.names;
          gate = λ _. ap checkpoint_gate s.names.names ∙ sym (gate_is N) ∙ sym (ap (λ (j : Journaling D). j.gate) h.made);
          generation = λ _. ap (λ n. n + 1) (s.names.generation up) ∙ sym (ap (λ (j : Journaling D). j.generation) h.made);
          fuse = (λ j. spend (checkpoint_calls (s.names.names j)) (s.names.fuse j)) ∙ ap (λ n. spend n old.master.journal.here.fuse) (sym (calls_are N)) ∙ sym (h.burnt ∙ burnt_is (journals.checkpoint_calls (checkpoint_entries N)) old.master.journal.here.fuse);
          down = s.names.down ∙ sym (ap (λ (j : Journaling D). j.failed) h.made);
          unlocked = s.names.unlocked;
          unseen = s.names.unseen;
        } in
        record {
          after = put_back V who B H;
          rise = no_rise;
          made = None;
          stands = stands_master o r w U old new V who B.master s b k l h.goes_on.limit h.names stood (areas_entered d s.known B.contents old.block old.master new.master B.names B.master s.areas.tell h.goes_on h.later (standing_is new.master B stood (ap (λ (j : Journaling D). j.failed) h.made ∙ up)) (s.areas.certain (up_is old.master V.body s.names up)));
          rises = Rises.Nothing;
          step = record {
            body = B;
            hands = H;
            step = Step.Accepted (fault_free 0) (passes U V s (not_full h.fits)) refl ((λ j. fuse_serves (s.names.fuse j) (checkpoint_calls (s.names.names j))) ∙ ap (fuse_serves old.master.journal.here.fuse) (sym (calls_are N)) ∙ serves (journals.checkpoint_calls (checkpoint_entries N)) old.master.journal.here.fuse h.enough) refl refl refl;
            after = refl;
          };
        }

    -- whatever came of it
    pub checkpoint_steps : {T : Type 0} (result : Result T AppendFault) → Renews d old.master new.master result → Steps d o r w old new who Event.Checkpoint (done_or result)
    checkpoint_steps (Ok x) h = checkpoint_done h.done
    checkpoint_steps (Err faults.Memory) h = λ U V s. goes_short o r w U old new V who Event.Checkpoint (stands_stays o r w U old new V s b k l (h.short refl)) refl
    checkpoint_steps (Err faults.Full) h = λ U V s. let full = h.full refl in
        goes_refused o r w U old new V who Event.Checkpoint (Reply.Refused (Refusal.Limit Which.Area)) (stands_stays o r w U old new V s b k l full.1) (tests_are U V s ∙ (λ j. first (refuse Refusal.Stopped (up j) ∷ past Which.Area (full_is full.0 j) ∷ []))) refl refl
    checkpoint_steps (Err faults.Failed) h = λ U V s.
        let stopped = (h.stopped refl).0 in
        let doubt : Option Doubt = Some Doubt.InCheckpoint in
        let N = names_of old.master in
        goes_stopped o r w U old new V who Event.Checkpoint noted_as (journals.checkpoint_calls (checkpoint_entries N)) (stopped_with doubt new.master.journal.here.fuse V.body) (hands_of V who) (passes U V s (not_full (h.stopped refl).1)) refl refl refl (ap checkpoint_calls s.names.names ∙ sym (calls_are N)) s.names stopped.cause stopped.goes_on.fuse refl refl
        (stands_master o r w U old new V who (stopped_with doubt new.master.journal.here.fuse V.body).master s b k l stopped.goes_on.limit stopped.names (stopped_stand d old.master new.master V.body s.names (journals.checkpoint_calls (checkpoint_entries N)) (renewed (standing_of old.master)) doubt stopped)
        (areas_stopped d s.known V.body.contents old.block (journals.checkpoint_calls (checkpoint_entries N)) (renewed (standing_of old.master)) old.master new.master V.body.names (stopped_with doubt new.master.journal.here.fuse V.body).master s.areas.tell stopped (standing_is old.master V.body s.names up) (renewed_in_doubt V.body s.names) refl tt))

    -- where it was answered with a fault
    pub checkpoint_fails : (fault : AppendFault) (reply : Reply) → reply ≡ fault_reply fault → Renews {T = ⊤} d old.master new.master (Err fault) → Steps d o r w old new who Event.Checkpoint reply
    checkpoint_fails fault reply is h = subst (Steps d o r w old new who Event.Checkpoint) (sym is) (checkpoint_steps (Err fault) h)

    pub checkpoint_media : (fault : AppendFault) → new.stores ≡ old.stores → Renews {T = ⊤} d old.master new.master (Err fault) → MediaStays d o old new
    checkpoint_media fault stores h = media_same o (areas fault h) stores k
      where
        areas : (fault : AppendFault) → Renews {T = ⊤} d old.master new.master (Err fault) → AreasStay d old.master.journal new.master.journal
        areas faults.Failed h = areas_go d (h.stopped refl).0.goes_on
        areas faults.Memory h = areas_stay d (h.short refl).journal
        areas faults.Full h = areas_stay d (h.full refl).1.journal

  -- the cause of its fault
  pub checkpoint_caused : old.master.journal.failed ≡ false → (new : Core D S R W d w) (fault : AppendFault) (reply : Reply) → reply ≡ fault_reply fault → Renews {T = ⊤} d old.master new.master (Err fault) → IsCaused d o r w old new who Event.Checkpoint reply
  checkpoint_caused up new fault reply is h = subst (IsCaused d o r w old new who Event.Checkpoint) (sym is) (by fault h)
    where
      by : (fault : AppendFault) → Renews {T = ⊤} d old.master new.master (Err fault) → IsCaused d o r w old new who Event.Checkpoint (fault_reply fault)
      by faults.Failed h = (up, subst (λ n. HadCause n d old.master.journal new.master.journal) (calls_are (names_of old.master)) (h.stopped refl).0.cause)
      by faults.Memory h = tt
      by faults.Full h = tt

  -- ---- fuse

  module _ (new : Core D S R W d w) (n : ℕ) (b : new.block ≡ old.block) (k : new.workers ≡ old.workers) (l : new.hands ≡ old.hands) (names : names_of new.master ≡ names_of old.master) (journal : new.master.journal ≡ record old.master.journal { here = record old.master.journal.here { fuse = Some n }; there = record old.master.journal.there { fuse = Some n } }) where
    pub fuse_steps : Steps d o r w old new who (Event.Fuse n) Reply.Done
    fuse_steps = λ U V s.
        let H = hands_of V who in
        let B = (fuse_outcome V.body n).1 in
        let stood : NamesStand new.master B = record {
          names = s.names.names ∙ sym names;
          gate = λ up. s.names.gate (sym (ap (λ (j : Journaling D). j.failed) journal) ∙ up) ∙ sym (ap (λ (j : Journaling D). j.gate) journal);
          generation = λ up. s.names.generation (sym (ap (λ (j : Journaling D). j.failed) journal) ∙ up) ∙ sym (ap (λ (j : Journaling D). j.generation) journal);
          fuse = sym (ap (λ (j : Journaling D). j.here.fuse) journal);
          down = s.names.down ∙ sym (ap (λ (j : Journaling D). j.failed) journal);
          unlocked = s.names.unlocked;
          unseen = s.names.unseen;
        } in
        record {
          after = put_back V who B H;
          rise = no_rise;
          made = None;
          stands = stands_master o r w U old new V who B.master s b k l (ap (λ (j : Journaling D). j.limit) journal) names stood (areas_same d s.known V.body.contents old.block old.master new.master V.body.names B.master (ap (λ (j : Journaling D). d.history (area_0 j)) journal) (ap (λ (j : Journaling D). d.history (area_1 j)) journal) (ap (λ (j : Journaling D). d.tells (area_0 j)) journal) (ap (λ (j : Journaling D). d.tells (area_1 j)) journal) (areas_fused d s.known V.body.contents old.block old.master V.body.names V.body.master (Some n) s.areas));
          rises = Rises.Nothing;
          step = record { body = B; hands = H; step = Step.Accepted (fault_free 0) refl refl (serves_none V.body.master.fuse) refl refl refl; after = refl };
        }
