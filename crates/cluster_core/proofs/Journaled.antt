-- What the journal's calls make of a master that stands for a state.
use Rattle.std.proofs.Common.{◌≡◌, ◌⊎◌, inl, inr, ⊎_elim, ℕ, ◌+◌, ◌-◌, ◌<◌, ◌≤◌, Bool, true, false, not, IsTrue, List, [], length, Option, Some, None, is_some, option_map, refl, sym, ap, ◌∙◌, subst, arith, nat_le, nat_lt}
use Rattle.std.specs.Prelude.{cond, ◌||◌}
use Rattle.std.proofs.lemmas.Bool.{cases_lt, le-leb, lt-leb}
use Rattle.outside.specs.Causes.{Rose}
use Rattle.outside.specs.Fuse.{IsBelow, IsNoLonger, burnt}
use Rattle.outside.specs.declared.disk.Disk as disks
use Rattle.outside.specs.declared.objects.Objects as objects
use Rattle.outside.specs.declared.objects.ObjectRead as reads
use Rattle.outside.specs.declared.objects.ObjectWrite as writes
use Rattle.fs_model.specs.declared.setup.Setup.{Setup}
use Rattle.fs_model.specs.declared.event.Event.{Event}
use Rattle.fs_model.specs.declared.change.Change.{Change}
use Rattle.fs_model.specs.declared.reply.Reply.{Reply}
use Rattle.fs_model.specs.declared.reply.Refusal.{Refusal}
use Rattle.fs_model.specs.State.{State, Whole, Names, Master, Doubt, Hands}
use Rattle.fs_model.specs.Changes.{apply, entry_len}
use Rattle.fs_model.specs.Updates.{journal, spend}
use Rattle.fs_model.specs.Journaling.{calls_needed, doubt_of, fuse_serves, fuse_shrinks}
use Rattle.fs_model.specs.Faults.{Remains, Rise, after_fault, clash}
use Rattle.fs_model.specs.Machine.{refusal, hands_of, put_back}
use Rattle.fs_model.specs.Step.{Step, journal_may_fail, stopped_with}
use Rattle.journal_entry.specs.declared.entry.Entry.{Entry}
use Rattle.journal_entry.specs.EntryText.{entry_text}
use Rattle.journal_entry.specs.Meaning.{entry_of_change}
use Rattle.journal_entry.proofs.BodyLengths.{length-change}
use Rattle.journal_disk.specs.AreaText.{next_gate}
use Rattle.journal_disk.specs.Journaling.{GoesOn, HadCause, Journaling, area_0, area_1}
use Rattle.master_state.specs.Effect.{counts_in, effect, taken}
use Rattle.master_node.specs.Mastering.{Mastering, Standing, entered, names_of, standing_of}
use Rattle.cluster_core.specs.AreasStand.{with_doubt}
use Rattle.cluster_core.specs.Entering.{Entered, HasStopped, Stays}
use Rattle.cluster_core.specs.NamesStand.{NamesStand}
use Rattle.cluster_core.specs.Stands.{Stands}
use Rattle.cluster_core.specs.Goes.{Goes, Rises, no_rise, journal_rise}
use Rattle.cluster_core.specs.declared.cluster.Core.{Core}

-- ---- fuses

pub burnt_is : (n : ℕ) (fuse : Option ℕ) → burnt n fuse ≡ spend n fuse
burnt_is n None = refl
burnt_is n (Some k) = refl

-- a fuse that isn't too short serves
pub serves : (n : ℕ) (fuse : Option ℕ) → (IsBelow fuse n → ⊥) → IsTrue (fuse_serves fuse n)
serves n None enough = refl
serves n (Some k) enough = le-leb n k (not_below n k enough)
  where
    not_below : (n k : ℕ) → (k < n → ⊥) → n ≤ k
    not_below n k enough = elim (cases_lt k n) [ inl more ↦ absurd (enough more) | inr few ↦ few ]

-- one that is too short doesn't
too_short : (n : ℕ) (fuse : Option ℕ) → IsBelow fuse n → fuse_serves fuse n ≡ false
too_short n None below = absurd below
too_short n (Some k) below = lt-leb n k below

shrinks : (old new : Option ℕ) → IsNoLonger old new → IsTrue (fuse_shrinks old new)
shrinks None None h = refl
shrinks None (Some n) h = absurd h
shrinks (Some m) None h = absurd h
shrinks (Some m) (Some n) h = le-leb n m h

-- ---- what a master stands for then

-- what a change is to make of a master is what is in doubt while it fails
pub change_in_doubt : {D : Type 0} (m : Mastering D) (A : State) (c : Change) (bytes : List ℕ) → NamesStand m A → m.journal.failed ≡ false → counts_in (entry_of_change c) (names_of m) ≡ true → effect (entry_of_change c) (names_of m) ≡ apply c (names_of m)
    → entered (entry_of_change c) (standing_of m) ≡ with_doubt (Some (Doubt.InChange c bytes)) A.names A.master.gate A.master.generation
change_in_doubt m A c bytes s up counts does =
    let e = entry_of_change c in
    let did : taken e (names_of m) ≡ apply c A.names = ap (λ b. cond b (effect e (names_of m)) (names_of m)) counts ∙ does ∙ ap (apply c) (sym s.names) in
    let long : length (entry_text e) ≡ entry_len c = length-change c in
    let place : next_gate m.journal.gate e ≡ A.master.gate + 1 + entry_len c = let was = s.gate up in omega (arith, was, long) in
    λ i. record { names = did i; gate = place i; generation = sym (s.generation up) i }

module _ {D : Type 0} (d : disks.Ghosts D) (old new : Mastering D) (A : State) (s : NamesStand old A) where
  -- what is the same on both sides of a call
  pub stays_stand : Stays d old new → NamesStand new A
  stays_stand h = record {
    names = s.names ∙ sym h.names;
    gate = λ up. s.gate (sym (ap (λ (j : Journaling D). j.failed) h.journal.rest) ∙ up) ∙ sym (ap (λ (j : Journaling D). j.gate) h.journal.rest);
    generation = λ up. s.generation (sym (ap (λ (j : Journaling D). j.failed) h.journal.rest) ∙ up) ∙ sym (ap (λ (j : Journaling D). j.generation) h.journal.rest);
    fuse = s.fuse ∙ sym (ap (λ (j : Journaling D). j.here.fuse) h.journal.rest);
    down = s.down ∙ sym (ap (λ (j : Journaling D). j.failed) h.journal.rest);
    unlocked = s.unlocked;
    unseen = s.unseen;
  }

  -- after a change that was journaled
  pub entered_stand : (c : Change) → old.journal.failed ≡ false → Entered d (entry_of_change c) old new → counts_in (entry_of_change c) (names_of old) ≡ true → effect (entry_of_change c) (names_of old) ≡ apply c (names_of old) → (apply c A.names).locks ≡ [] → (apply c A.names).seen ≡ [] → NamesStand new (journal c A)
  entered_stand c up h counts does unlocked unseen =
      let e = entry_of_change c in
      let did : taken e (names_of old) ≡ apply c (names_of old) = ap (λ b. cond b (effect e (names_of old)) (names_of old)) counts ∙ does in
      let long : length (entry_text e) ≡ entry_len c = length-change c in
      let gate : new.journal.gate ≡ old.journal.gate + 1 + length (entry_text e) = ap (λ (j : Journaling D). j.gate) h.moved in
      record {
        names = ap (apply c) s.names ∙ sym (h.names ∙ did);
        gate = λ _. let was = s.gate up in omega (arith, was, gate, long);
        generation = λ _. s.generation up ∙ sym (ap (λ (j : Journaling D). j.generation) h.moved);
        fuse = ap (spend 4) s.fuse ∙ sym (h.burnt ∙ burnt_is 4 old.journal.here.fuse);
        down = s.down ∙ sym (ap (λ (j : Journaling D). j.failed) h.moved);
        unlocked = unlocked;
        unseen = unseen;
      }

  -- after a failed call, with anything in doubt
  pub stopped_stand : (calls : ℕ) (t : Standing) (doubt : Option Doubt) → HasStopped d calls t old new → NamesStand new (stopped_with doubt new.journal.here.fuse A)
  stopped_stand calls t doubt h = record {
    names = s.names ∙ sym h.names;
    gate = λ up. absurd (let no = sym up ∙ ap (λ (j : Journaling D). j.failed) h.failed in cc);
    generation = λ up. absurd (let no = sym up ∙ ap (λ (j : Journaling D). j.failed) h.failed in cc);
    fuse = refl;
    down = sym (ap (λ (j : Journaling D). j.failed) h.failed);
    unlocked = s.unlocked;
    unseen = s.unseen;
  }

-- ---- the step of a failed call

module _ {D S R W : Type 0} {d : disks.Ghosts D} (o : objects.Ghosts S R W) (r : reads.Ghosts R) (w : writes.Ghosts W) (U : Setup) (old new : Core D S R W d w) (V : Whole) (who : ℕ) (e : Event) where
  -- what rose, and that the journal may fail for it
  pub cause_rises : (n : ℕ) → calls_needed U V.body (hands_of V who) e ≡ n → V.body.master.fuse ≡ old.master.journal.here.fuse → HadCause n d old.master.journal new.master.journal
      → (rise : Rise) × Rises d o r w old new who e rise × IsTrue (journal_may_fail U V.body (hands_of V who) e rise)
  cause_rises n need fuse (inl below) = (no_rise, Rises.Nothing, ap not ((λ i. fuse_serves (fuse i) (need i)) ∙ too_short n old.master.journal.here.fuse below))
  cause_rises n need fuse (inr rose) = (journal_rise, Rises.OfJournal rose, refl)

  -- where nothing refuses it, and the core stands for the state that the fault leaves
  pub goes_stopped : (x : Remains) (n : ℕ) (B : State) (G : Hands) → refusal U V.body (hands_of V who) e ≡ None → clash V.body (hands_of V who) e ≡ None → x.parks ≡ true → IsTrue (is_some (doubt_of U V.body (hands_of V who) e))
      → calls_needed U V.body (hands_of V who) e ≡ n → NamesStand old.master V.body → HadCause n d old.master.journal new.master.journal → IsNoLonger old.master.journal.here.fuse new.master.journal.here.fuse
      → B ≡ stopped_with (doubt_of U V.body (hands_of V who) e) new.master.journal.here.fuse (after_fault U x V.body who (hands_of V who) e).0 → G ≡ (after_fault U x V.body who (hands_of V who) e).1
      → Stands d o r w U new (put_back V who B G) → Goes d o r w U old new V who e (Reply.Refused Refusal.JournalFault)
  goes_stopped x n B G passes clear parks doubts need s cause shorter body hands stands =
      let why = cause_rises n need s.fuse cause in
      record {
        after = put_back V who B G;
        rise = why.0;
        made = None;
        stands = stands;
        rises = why.1;
        step = record {
          body = B;
          hands = G;
          step = Step.Stops x new.master.journal.here.fuse passes clear parks refl doubts why.2 (subst (λ f. IsTrue (fuse_shrinks f new.master.journal.here.fuse)) (sym s.fuse) (shrinks old.master.journal.here.fuse new.master.journal.here.fuse shorter)) body hands refl;
          after = refl;
        };
      }
