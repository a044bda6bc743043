-- What an event answers and leaves, by what became of the entry that it journals.
use Rattle.std.proofs.Common.{◌≡◌, ℕ, ◌+◌, ◌<◌, false, not, ◌&&◌, nat_eq, nat_le, List, [], ◌∷◌, length, Option, None, refl, sym, subst, arith}
use Rattle.std.specs.Prelude.{Result, Ok, Err}
use Rattle.fs_model.specs.declared.event.Event.{Event}
use Rattle.fs_model.specs.declared.path.Path.{Path}
use Rattle.fs_model.specs.Words.{path_len}
use Rattle.fs_model.specs.declared.change.Change.{Change}
use Rattle.fs_model.specs.declared.reply.Reply.{Reply}
use Rattle.fs_model.specs.declared.reply.Which.{Which}
use Rattle.fs_model.specs.Tests.{refuse, past, ◌only_if◌}
use Rattle.master_state.specs.Places.{is_full, is_numbered_out, place_test}
use Rattle.cluster_core.specs.Names.{is_short, stop_test}
use Rattle.fs_model.specs.declared.reply.Refusal.{Refusal}
use Rattle.outside.specs.declared.disk.Disk as disks
use Rattle.journal_entry.specs.declared.entry.Entry.{Entry}
use Rattle.journal_entry.specs.EntryText.{entry_text}
use Rattle.journal_entry.proofs.BodyLengths.{length-change}
use Rattle.journal_disk.specs.Journaling.{HadCause}
use Rattle.journal_disk.specs.declared.fault.AppendFault.{AppendFault}
use Rattle.journal_disk.specs.declared.fault.AppendFault.TheVariants as faults
use Rattle.master_node.specs.Mastering.{IsUp, Mastering, entered, names_of, standing_of}
use Rattle.cluster_core.specs.Causes.{JournalCaused, OnlyFrom, area_calls}
use Rattle.cluster_core.specs.Crashes.{Leads}
use Rattle.cluster_core.specs.Entering.{Enters, done_or}
use Rattle.cluster_core.specs.Media.{AreasStay}
use Rattle.cluster_core.specs.Tests.{Circumstance, create_test, mkdir_test}
use Rattle.cluster_core.proofs.Crashed.{leads_entered, leads_refused, leads_stopped, rests_stays}
use Rattle.cluster_core.proofs.MediaStay.{areas_go, areas_stay}
use Rattle.cluster_core.proofs.NamesSteps.{NoneHolds, has_room, none_holds, not_refused}

-- the entry finds no room
abbrev pub IsFullFor : {D : Type 0} → Entry → Mastering D → Type 0
IsFullFor e m = m.journal.limit < m.journal.gate + 2 + length (entry_text e)

module _ {D : Type 0} (d : disks.Ghosts D) (e : Entry) (old new : Mastering D) (room : IsFullFor e old → ⊥) where
  -- the areas
  pub enters_areas : {T : Type 0} (result : Result T AppendFault) → Enters d e old new result → AreasStay d old.journal new.journal
  enters_areas (Ok x) h = areas_go d h.done.goes_on
  enters_areas (Err faults.Failed) h = areas_go d (h.stopped refl).goes_on
  enters_areas (Err faults.Memory) h = areas_stay d (h.short refl).journal
  enters_areas (Err faults.Full) h = absurd (room (h.full refl))

  module _ (up : IsUp old) where
    -- the images
    pub enters_leads : {T : Type 0} (result : Result T AppendFault) → Enters d e old new result → Leads d old new (entered e (standing_of old)) (done_or result)
    enters_leads (Ok x) h = leads_entered d e old new up h.done
    enters_leads (Err faults.Failed) h = leads_stopped d 4 (entered e (standing_of old)) old new up (h.stopped refl)
    enters_leads (Err faults.Memory) h = leads_refused d (entered e (standing_of old)) _ (rests_stays d old new (h.short refl)) (λ is. absurd (cc))
    enters_leads (Err faults.Full) h = absurd (room (h.full refl))

    -- the cause of a fault
    pub enters_caused : (P : ℕ → Type 0) (ev : Event) → area_calls ev (names_of old) ≡ 4 → {T : Type 0} (result : Result T AppendFault) → Enters d e old new result → OnlyFrom P (JournalCaused d old new ev) (done_or result)
    enters_caused P ev calls (Ok x) h = tt
    enters_caused P ev calls (Err faults.Failed) h = (up, subst (λ n. HadCause n d old.journal new.journal) (sym calls) (h.stopped refl).cause)
    enters_caused P ev calls (Err faults.Memory) h = tt
    enters_caused P ev calls (Err faults.Full) h = tt

module _ {D : Type 0} (m : Mastering D) (p : Path) where
  -- a directory that nothing refuses
  mkdir_tests : None ≡ mkdir_test m p → NoneHolds (stop_test m ∷ place_test m.kept.names p ∷ past Which.Nodes (is_full m.kept.names) ∷ past Which.Area (is_short m (7 + path_len p)) ∷ [])
  mkdir_tests passes = none_holds (stop_test m ∷ place_test m.kept.names p ∷ past Which.Nodes (is_full m.kept.names) ∷ past Which.Area (is_short m (7 + path_len p)) ∷ []) (sym passes)

  pub mkdir_up : None ≡ mkdir_test m p → IsUp m
  mkdir_up passes = not_refused Refusal.Stopped m.journal.failed (mkdir_tests passes).0

  pub mkdir_room : None ≡ mkdir_test m p → IsFullFor (Entry.Mkdir p) m → ⊥
  mkdir_room passes long =
      let e : length (entry_text (Entry.Mkdir p)) ≡ 7 + path_len p = length-change (Change.Mkdir p) in
      let room = has_room m (7 + path_len p) (mkdir_tests passes).1.1.1.0 in
      omega (arith, long, e, room)

  module _ (c : Circumstance) (passes : None ≡ create_test m c p) where
    -- a file that nothing refuses
    abbrev all_tests : List (Option Reply)
    all_tests =
        refuse Refusal.BadLabel c.taken
        ∷ stop_test m
        ∷ place_test m.kept.names p
        ∷ refuse (Refusal.NoWorker c.worker) (not (nat_eq c.worker 0) && not c.configured)
        ∷ past Which.Nodes (is_full m.kept.names)
        ∷ past Which.Labels (nat_le 64 c.labels)
        ∷ past Which.Ids (is_numbered_out m.kept.names)
        ∷ past Which.Area (is_short m (15 + path_len p))
        ∷ (refuse (Refusal.NoWorker c.worker) (not c.live) only_if not (nat_eq c.worker 0))
        ∷ []

    create_tests : NoneHolds all_tests
    create_tests = none_holds all_tests (sym passes)

    pub create_up : IsUp m
    create_up = not_refused Refusal.Stopped m.journal.failed create_tests.1.0

    pub create_place : place_test m.kept.names p ≡ None
    create_place = create_tests.1.1.0

    pub create_number : is_numbered_out m.kept.names ≡ false
    create_number = not_refused (Refusal.Limit Which.Ids) (is_numbered_out m.kept.names) create_tests.1.1.1.1.1.1.0

    pub create_room : IsFullFor (Entry.Create m.kept.names.next_id p) m → ⊥
    create_room long =
        let e : length (entry_text (Entry.Create m.kept.names.next_id p)) ≡ 15 + path_len p = length-change (Change.Create m.kept.names.next_id p) in
        let room = has_room m (15 + path_len p) create_tests.1.1.1.1.1.1.1.0 in
        omega (arith, long, e, room)
