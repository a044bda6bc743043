-- What an opening makes of a master, by what it found.
use Rattle.std.proofs.Common.{◌≡◌, ◌⊎◌, inl, inr, ⊎_elim, ℕ, ◌+◌, ◌≤◌, Bool, true, false, ◌&&◌, nat_le, length, List, [], ◌∷◌, Option, Some, None, Ok, if◌then◌else◌, refl, sym, ◌∙◌, ap, subst, arith}
use Rattle.std.specs.Prelude.{IsTrue}
use Rattle.std.specs.List.{list_all}
use Rattle.std.proofs.lemmas.Bool.{and_parts}
use Rattle.outside.specs.Causes.{Rose}
use Rattle.outside.specs.History.{Leaves}
use Rattle.outside.specs.Fuse.{Fusing, IsNoLonger}
use Rattle.outside.specs.declared.disk.Disk as disks
use Rattle.fs_model.specs.declared.setup.Setup.{Setup}
use Rattle.fs_model.specs.declared.stop.Stop.{Stop}
use Rattle.fs_model.specs.State.{Names}
use Rattle.fs_model.specs.Spelled.{are_tiers, is_setup, is_within}
use Rattle.fs_model.specs.PathForm.{is_plain_key}
use Rattle.fs_model.specs.Opening.{fresh_names}
use Rattle.journal_entry.specs.declared.entry.Entry.{Entry}
use Rattle.journal_entry.specs.EntryText.{fits, has_form, is_entry}
use Rattle.journal_entry.specs.Meaning.{checkpoint_entries}
use Rattle.journal_disk.specs.Areas.{first_of, journal_of, second_of}
use Rattle.journal_disk.specs.Journaling.{BothTell, GoesOn, HasCheckpoint, IsReady, Journaling, LeavesAreas, area_0, area_1, current_in, fused_0, fused_1}
use Rattle.journal_disk.specs.Opening.{IsRecovered, Opens, OwnRose, Tell}
use Rattle.journal_disk.proofs.Fronts.{none_stays}
use Rattle.master_state.specs.Effect.{meaning}
use Rattle.master_state.specs.View.{NamesView}
use Rattle.master_state.proofs.Added.{all_weaken}
use Rattle.master_node.specs.Mastering.{IsUp, Mastering, Standing, StandsFor, names_of, standing_of}
use Rattle.master_node.specs.Recovery.{Begins, Finds, IsAgain, IsClosed, IsFirst, IsFreshOr, IsOver, IsTooLong, first_standing, is_served}
use Rattle.master_node.proofs.Masters.{stands_here}

-- entries that were read have texts
pub entries_fit : (es : List Entry) → list_all is_entry es ≡ true → list_all fits es ≡ true
entries_fit es h = all_weaken is_entry fits (λ e is. (and_parts (has_form e) (fits e) is).1) es h

-- a configured store is there for the mount of a fresh journal
pub fresh_served : (S : Setup) → is_setup S ≡ true → is_served S (fresh_names S) ≡ true
fresh_served S h =
    let tiers = and_parts (is_within 1 67108864 S.block && is_within 1 1000000 S.patience && is_within 64 1073741824 S.area && is_plain_key S.root && is_within 1 16 S.stores && nat_le (length S.tiers) 64) (list_all are_tiers S.tiers) h in
    let workers = and_parts (is_within 1 67108864 S.block && is_within 1 1000000 S.patience && is_within 64 1073741824 S.area && is_plain_key S.root && is_within 1 16 S.stores) (nat_le (length S.tiers) 64) tiers.0 in
    let stores = and_parts (is_within 1 67108864 S.block && is_within 1 1000000 S.patience && is_within 64 1073741824 S.area && is_plain_key S.root) (is_within 1 16 S.stores) workers.0 in
    let some = (and_parts (nat_le 1 S.stores) (nat_le S.stores 16) stores.1).0 in
    ap (λ (x : Bool). x && true) some

-- an area with its fuse, and by itself
picked : {D : Type 0} (b : Bool) (x y : Fusing D) → ((first_of b x y).disk ≡ first_of b x.disk y.disk) × ((second_of b x y).disk ≡ second_of b x.disk y.disk)
picked false x y = (refl, refl)
picked true x y = (refl, refl)

pub by_itself_0 : {D : Type 0} (j : Journaling D) → (fused_0 j).disk ≡ area_0 j
by_itself_0 j = (picked j.second j.here j.there).0

pub by_itself_1 : {D : Type 0} (j : Journaling D) → (fused_1 j).disk ≡ area_1 j
by_itself_1 j = (picked j.second j.here j.there).1

module _ {D : Type 0} (w : disks.Ghosts D) (S : Setup) (a b : Fusing D) (j : Journaling D) (es : List Entry) (r : IsRecovered w a b S.area j es) where
  -- both areas tell where they did
  told : Tell w a b → BothTell w j
  told tell = (
    subst IsTrue (sym (ap w.tells (sym (by_itself_0 j)) ∙ r.areas.tells_0)) tell.0,
    subst IsTrue (sym (ap w.tells (sym (by_itself_1 j)) ∙ r.areas.tells_1)) tell.1,
  )

  -- ---- an area was open
  module _ (fresh : j.fresh ≡ false) where
    pub over_again : (n : NamesView) → j.here.fuse ≡ None → n.names ≡ meaning es → is_served S (meaning es) ≡ true → IsOver w S a b (record { journal = j; kept = n })
    over_again n unfused names served =
        let m : Mastering D = record { journal = j; kept = n } in
        record {
          up = r.sound;
          limited = r.limited;
          unfused = unfused;
          served = ap (is_served S) names ∙ served;
          from = inl (record { found = λ tell. stands_here w j es n.names (sym names) fresh (w.history a.disk).now.held (w.history b.disk).now.held (r.stands tell); areas = r.areas });
        }

    pub closed_again : (why : Stop) → (why ≡ Stop.Setup → is_served S (meaning es) ≡ false) → (why ≡ Stop.Setup) ⊎ (why ≡ Stop.Memory) → IsClosed w S a b (fused_0 j) (fused_1 j) why
    closed_again why unserved ends = record {
      damaged = λ area place is. absurd (⊎_elim (λ h. let no = sym is ∙ h in cc) (λ h. let no = sym is ∙ h in cc) ends);
      failed = λ is. absurd (⊎_elim (λ h. let no = sym is ∙ h in cc) (λ h. let no = sym is ∙ h in cc) ends);
      unserved = λ is. inl (λ tell. (
        record { second = j.second; generation = j.generation; entries = es; gate = j.gate },
        r.stands tell ∙ ap (λ (x : Bool). Ok (if x then None else Some (record { second = j.second; generation = j.generation; entries = es; gate = j.gate }))) fresh,
        unserved is,
      ));
      unloaded = λ is. ⊎_elim (λ h. let no = sym is ∙ h in cc) (λ h. let no = sym is ∙ h in cc) ends;
      unwritten = λ is. ⊎_elim (λ h. let no = sym is ∙ h in cc) (λ h. let no = sym is ∙ h in cc) ends;
      areas = inl r.areas;
    }

  -- ---- none was
  module _ (fresh : j.fresh ≡ true) (unfused : j.here.fuse ≡ None) (k : Journaling D) (goes_on : GoesOn w j k) (any_moment : BothTell w j → LeavesAreas w j k (IsFreshOr (first_standing S))) where
    none_found : Finds w a b (λ x y. journal_of x y ≡ Ok None)
    none_found tell = r.stands tell ∙ ap (λ (x : Bool). Ok (if x then None else Some (record { second = j.second; generation = j.generation; entries = es; gate = j.gate }))) fresh

    begins : Begins w S a b (fused_0 k) (fused_1 k)
    begins =
        record {
          opened_0 = fused_0 j;
          opened_1 = fused_1 j;
          opening = r.areas;
          none = none_found;
          tells_0 = ap w.tells (by_itself_0 k) ∙ goes_on.tells_0 ∙ ap w.tells (sym (by_itself_0 j));
          tells_1 = ap w.tells (by_itself_1 k) ∙ goes_on.tells_1 ∙ ap w.tells (sym (by_itself_1 j));
          own_0 = omega (arith, goes_on.own_0, ap w.faults (by_itself_0 j), ap w.faults (by_itself_0 k));
          own_1 = omega (arith, goes_on.own_1, ap w.faults (by_itself_1 j), ap w.faults (by_itself_1 k));
          begun = λ tell.
              subst (λ x. Leaves (w.history x) (w.history (fused_0 k).disk) (w.history (fused_1 j).disk) (w.history (fused_1 k).disk) (IsFreshOr (first_standing S))) (sym (by_itself_0 j))
              (subst (λ x. Leaves (w.history (area_0 j)) (w.history x) (w.history (fused_1 j).disk) (w.history (fused_1 k).disk) (IsFreshOr (first_standing S))) (sym (by_itself_0 k))
              (subst (λ x. Leaves (w.history (area_0 j)) (w.history (area_0 k)) (w.history x) (w.history (fused_1 k).disk) (IsFreshOr (first_standing S))) (sym (by_itself_1 j))
              (subst (λ x. Leaves (w.history (area_0 j)) (w.history (area_0 k)) (w.history (area_1 j)) (w.history x) (IsFreshOr (first_standing S))) (sym (by_itself_1 k))
              (any_moment (told tell)))));
        }

    pub over_first : (n : NamesView) → is_setup S ≡ true → n.names ≡ fresh_names S → j.generation ≡ 0 → HasCheckpoint j k (checkpoint_entries (fresh_names S)) → (IsTooLong S → ⊥) → IsOver w S a b (record { journal = k; kept = n })
    over_first n setup names first begun short = record {
      up = ap (λ (x : Journaling D). x.failed) begun ∙ r.sound;
      limited = ap (λ (x : Journaling D). x.limit) begun ∙ r.limited;
      unfused = none_stays j.here.fuse k.here.fuse goes_on.fuse unfused;
      served = ap (is_served S) names ∙ fresh_served S setup;
      from = inr (record {
        standing =
            ap (λ (x : Journaling D). let s : Standing = record { names = n.names; gate = x.gate; generation = x.generation } in s) begun
            ∙ ap (λ (x : Names). let s : Standing = record { names = x; gate = (first_standing S).gate; generation = j.generation + 1 } in s) names
            ∙ ap (λ (x : ℕ). let s : Standing = record { names = fresh_names S; gate = (first_standing S).gate; generation = x + 1 } in s) first;
        short = short;
        areas = begins;
      });
    }

    pub closed_first : (why : Stop) → (why ≡ Stop.Setup → IsTooLong S) → (why ≡ Stop.JournalFault → Rose (w.faults (area_0 j)) (w.faults (area_0 k)) ⊎ Rose (w.faults (area_1 j)) (w.faults (area_1 k)))
        → (why ≡ Stop.Setup) ⊎ ((why ≡ Stop.JournalFault) ⊎ (why ≡ Stop.Memory)) → IsClosed w S a b (fused_0 k) (fused_1 k) why
    closed_first why long failed ends = record {
      damaged = λ area place is. absurd (⊎_elim (λ h. let no = sym is ∙ h in cc) (⊎_elim (λ h. let no = sym is ∙ h in cc) (λ h. let no = sym is ∙ h in cc)) ends);
      failed = λ is. ⊎_elim (λ h. inl (rose_later _ _ _ _ r.areas.own_0 (ap w.faults (by_itself_0 j)) (ap w.faults (by_itself_0 k)) h)) (λ h. inr (rose_later _ _ _ _ r.areas.own_1 (ap w.faults (by_itself_1 j)) (ap w.faults (by_itself_1 k)) h)) (failed is);
      unserved = λ is. inr (none_found, long is);
      unloaded = λ is. ⊎_elim (λ h. let no = sym is ∙ h in cc) (⊎_elim (λ h. let no = sym is ∙ h in cc) (λ h. let no = sym is ∙ h in cc)) ends;
      unwritten = λ is. ⊎_elim (λ h. let no = sym is ∙ h in cc) (⊎_elim (λ h. let no = sym is ∙ h in cc) (λ h. let no = sym is ∙ h in cc)) ends;
      areas = inr begins;
    }
      where
        -- a count that rose later
        rose_later : (before fused disk fused_after : ℕ) {after : ℕ} → before ≤ fused → fused ≡ disk → fused_after ≡ after → Rose disk after → Rose before fused_after
        rose_later before fused disk fused_after later one two rose = omega (arith, later, one, two, rose)
