-- What events leave of the journal's areas, whatever the core stands for: each event's answer is a line of these.
use Rattle.std.proofs.Common.{◌≡◌, ◌⊎◌, inl, inr, ℕ, true, false, Option, Some, None, refl, sym, ap, ◌∙◌, subst, length}
use Rattle.std.specs.Prelude.{Result, OnOk, IsErrOf, Ok, Err}
use Rattle.fs_model.specs.declared.reply.Reply.{Reply}
use Rattle.fs_model.specs.declared.reply.Refusal.{Refusal}
use Rattle.fs_model.specs.State.{Names}
use Rattle.outside.specs.declared.disk.Disk as disks
use Rattle.journal_entry.specs.declared.entry.Entry.{Entry}
use Rattle.journal_disk.specs.AreaText.{next_gate}
use Rattle.journal_disk.specs.Journaling.{BothTell, Journaling, LeavesAreas, area_0, area_1}
use Rattle.journal_disk.specs.declared.fault.AppendFault.{AppendFault}
use Rattle.journal_disk.specs.declared.fault.AppendFault.TheVariants as faults
use Rattle.journal_disk.proofs.Journals.{leaves_from, tell_again}
use Rattle.master_state.specs.Effect.{taken}
use Rattle.master_node.specs.Mastering.{IsUp, LeavesStanding, Mastering, Standing, StandsFor, entered, names_of, standing_of}
use Rattle.cluster_core.specs.Crashes.{Leads, Moves, Rests}
use Rattle.cluster_core.specs.Entering.{Entered, Enters, HasStopped, Stays, fault_reply}
use Rattle.cluster_core.proofs.Sides.{same_sides}

module _ {D : Type 0} (d : disks.Ghosts D) where
  -- ---- standings

  -- the same names, gate and generation
  same_standing : (old new : Mastering D) → names_of new ≡ names_of old → new.journal.gate ≡ old.journal.gate → new.journal.generation ≡ old.journal.generation → standing_of new ≡ standing_of old
  same_standing old new names gate generation = λ i. record { names = names i; gate = gate i; generation = generation i }

  -- after an entry that was journaled
  pub entered_standing : (e : Entry) (old new : Mastering D) → Entered d e old new → standing_of new ≡ entered e (standing_of old)
  entered_standing e old new h =
      let gate : new.journal.gate ≡ next_gate old.journal.gate e = ap (λ (j : Journaling D). j.gate) h.moved in
      let generation : new.journal.generation ≡ old.journal.generation = ap (λ (j : Journaling D). j.generation) h.moved in
      λ i. record { names = h.names i; gate = gate i; generation = generation i }

  -- after a failed call
  pub stopped_standing : (calls : ℕ) (s : Standing) (old new : Mastering D) → HasStopped d calls s old new → standing_of new ≡ standing_of old
  stopped_standing calls s old new h = same_standing old new h.names (ap (λ (j : Journaling D). j.gate) h.failed) (ap (λ (j : Journaling D). j.generation) h.failed)

  pub stays_standing : (old new : Mastering D) → Stays d old new → standing_of new ≡ standing_of old
  stays_standing old new h = same_standing old new h.names (ap (λ (j : Journaling D). j.gate) h.journal.rest) (ap (λ (j : Journaling D). j.generation) h.journal.rest)

  -- ---- events that call no area

  pub rests_same : {old new : Mastering D} → new ≡ old → Rests d old new
  rests_same {old} {new} same = subst (Rests d old) (sym same) (record { history_0 = refl; history_1 = refl; standing = refl })

  pub rests_stays : (old new : Mastering D) → Stays d old new → Rests d old new
  rests_stays old new h =
      let same = same_sides d h.journal d.history h.journal.here h.journal.there in
      record { history_0 = same.0; history_1 = same.1; standing = stays_standing old new h }

  -- an event that is refused, and called none
  pub leads_refused : {old new : Mastering D} (s : Standing) (reply : Reply) → Rests d old new → (reply ≡ Reply.Done → ⊥) → Leads d old new s reply
  leads_refused s reply rests never = record { moments = inl rests; acknowledged = λ is. absurd (never is); refused = λ h. rests.standing }

  -- ---- events that journal an entry

  pub leads_entered : (e : Entry) (old new : Mastering D) → IsUp old → Entered d e old new → Leads d old new (entered e (standing_of old)) Reply.Done
  leads_entered e old new up h = record { moments = inr (record { up = up; moments = h.moments }); acknowledged = λ is. (entered_standing e old new h, h.later); refused = λ never. absurd (never refl) }

  pub leads_stopped : (calls : ℕ) (s : Standing) (old new : Mastering D) → IsUp old → HasStopped d calls s old new → Leads d old new s (Reply.Refused Refusal.JournalFault)
  leads_stopped calls s old new up h = record { moments = inr (record { up = up; moments = h.moments }); acknowledged = λ is. absurd (cc); refused = λ never. stopped_standing calls s old new h }

  -- one call after what made it ready
  pub leads_after : (s : Standing) (reply : Reply) (old mid new : Mastering D) → Stays d old mid → Leads d mid new s reply → Leads d old new s reply
  leads_after s reply old mid new stays h =
      let same = stays_standing old mid stays in
      let sides = same_sides d stays.journal d.history stays.journal.here stays.journal.there in
      record {
        moments = by h.moments;
        acknowledged = h.acknowledged;
        refused = λ never. h.refused never ∙ same;
      }
    where
      by : Rests d mid new ⊎ Moves d mid new s → Rests d old new ⊎ Moves d old new s
      by (inl rests) =
          let same = stays_standing old mid stays in
          let sides = same_sides d stays.journal d.history stays.journal.here stays.journal.there in
          inl (record { history_0 = rests.history_0 ∙ sides.0; history_1 = rests.history_1 ∙ sides.1; standing = rests.standing ∙ same })
      by (inr moves) = inr (record {
        up = sym (ap (λ (j : Journaling D). j.failed) stays.journal.rest) ∙ moves.up;
        moments = λ tell. leaves_from d old.journal mid.journal stays.journal new.journal (λ a b. StandsFor (standing_of old) a b ⊎ StandsFor s a b)
            (subst (λ x. LeavesAreas d mid.journal new.journal (λ a b. StandsFor x a b ⊎ StandsFor s a b)) (stays_standing old mid stays) (moves.moments (tell_again d old.journal mid.journal stays.journal tell)));
      })
