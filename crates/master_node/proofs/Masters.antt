-- What a journal's calls leave, as what its areas stand for.
use Rattle.std.proofs.Common.{◌≡◌, ◌⊎◌, inl, inr, ⊎_elim, ℕ, ◌+◌, Bool, false, List, [], ◌∷◌, ◌++◌, Some, None, Ok, if◌then◌else◌, refl, sym, ◌∙◌, ap, subst}
use Rattle.std.specs.Prelude.{not}
use Rattle.outside.specs.History.{History, Images, Leaves, Since}
use Rattle.outside.specs.declared.disk.Disk as disks
use Rattle.fs_model.specs.Changes.{no_names}
use Rattle.fs_model.specs.State.{Names}
use Rattle.journal_entry.specs.declared.entry.Entry.{Entry}
use Rattle.journal_entry.specs.Meaning.{checkpoint_entries}
use Rattle.journal_disk.specs.AreaText.{gate_behind, next_gate}
use Rattle.journal_disk.specs.Areas.{Current, IsBeforeOrAfter, journal_of}
use Rattle.journal_disk.specs.Journaling.{BothTell, IsReady, Journaling, LeavesAreas, StaysAs, area_0, area_1, current_in, with_checkpoint, with_entry}
use Rattle.journal_disk.proofs.Journals.{leaves_from, leaves_still, tell_again}
use Rattle.journal_disk.proofs.Moments.{since_map}
use Rattle.master_state.specs.Effect.{after_entries, meaning, taken}
use Rattle.master_node.specs.Mastering.{LeavesStanding, Mastering, Standing, StandsFor, entered, names_of, renewed, standing_in, standing_of}

-- one entry more
after_more : (N : Names) (es : List Entry) (e : Entry) → after_entries N (es ++ e ∷ []) ≡ taken e (after_entries N es)
after_more N [] e = refl
after_more N (x ∷ es) e = after_more (taken x N) es e

pub meaning_more : (N : Names) (es : List Entry) (e : Entry) → meaning es ≡ N → meaning (es ++ e ∷ []) ≡ taken e N
meaning_more N es e is = after_more no_names es e ∙ ap (taken e) is

pub leaves_map : (a a' b b' : History) (P Q : List ℕ → List ℕ → Type 0) → ((x y : List ℕ) → P x y → Q x y) → Leaves a a' b b' P → Leaves a a' b b' Q
leaves_map a a' b b' P Q f leaves = since_map (λ m. Since b b' (λ n. Images P m n)) (λ m. Since b b' (λ n. Images Q m n)) a a'
    (λ m since. since_map (λ n. Images P m n) (λ n. Images Q m n) b b' (λ n images. λ x y i j. f x y (images x y i j)) since) leaves

-- what an open area stands for
pub current_stands : (fresh : Bool) (c : Current) (s : Standing) (a b : List ℕ) → fresh ≡ false → journal_of a b ≡ Ok (if fresh then None else Some c) → standing_in c ≡ s → StandsFor s a b
current_stands fresh c s a b is found stands = (c, found ∙ ap (λ (x : Bool). Ok (if x then None else Some c)) is, stands)

module _ {D : Type 0} (w : disks.Ghosts D) (j : Journaling D) (es : List Entry) (N : Names) (is : meaning es ≡ N) (fresh : j.fresh ≡ false) where
  -- what it stands for
  abbrev pub here : Standing
  here = record { names = N; gate = j.gate; generation = j.generation }

  pub stands_here : (a b : List ℕ) → journal_of a b ≡ Ok (current_in j es) → StandsFor here a b
  stands_here a b found = current_stands j.fresh (record { second = j.second; generation = j.generation; entries = es; gate = j.gate }) here a b fresh found
      (ap (λ (n : Names). let s : Standing = record { names = n; gate = j.gate; generation = j.generation } in s) is)

  -- an append leaves that, or that with the change
  pub appended : (new : Journaling D) (e : Entry) → LeavesAreas w j new (IsBeforeOrAfter (current_in j es) (with_entry j es e)) → LeavesAreas w j new (λ a b. StandsFor here a b ⊎ StandsFor (entered e here) a b)
  appended new e leaves = leaves_map _ _ _ _ (IsBeforeOrAfter (current_in j es) (with_entry j es e)) (λ a b. StandsFor here a b ⊎ StandsFor (entered e here) a b)
      (λ a b. ⊎_elim
      (λ before. inl (stands_here a b before))
      (λ after. inr (
        record { second = j.second; generation = j.generation; entries = es ++ e ∷ []; gate = next_gate j.gate e },
        after,
        ap (λ (n : Names). let s : Standing = record { names = n; gate = next_gate j.gate e; generation = j.generation } in s) (meaning_more N es e is),
      ))) leaves

  -- a checkpoint leaves that, or that anew
  pub checkpointed : (new : Journaling D) (entries : List Entry) → entries ≡ checkpoint_entries N → meaning entries ≡ N → LeavesAreas w j new (IsBeforeOrAfter (current_in j es) (with_checkpoint j entries))
      → LeavesAreas w j new (λ a b. StandsFor here a b ⊎ StandsFor (renewed here) a b)
  checkpointed new entries made means leaves = leaves_map _ _ _ _ (IsBeforeOrAfter (current_in j es) (with_checkpoint j entries)) (λ a b. StandsFor here a b ⊎ StandsFor (renewed here) a b)
      (λ a b. ⊎_elim
      (λ before. inl (stands_here a b before))
      (λ after. inr (
        record { second = not j.second; generation = j.generation + 1; entries = entries; gate = gate_behind entries },
        after,
        ap (λ (n : Names). let s : Standing = record { names = n; gate = gate_behind entries; generation = j.generation + 1 } in s) means
            ∙ ap (λ (l : List Entry). let s : Standing = record { names = N; gate = gate_behind l; generation = j.generation + 1 } in s) made,
      ))) leaves

  -- no call of an area leaves that too
  pub still : IsReady w j es → BothTell w j → LeavesAreas w j j (StandsFor here)
  still ready tell = leaves_still w j es ready j (StandsFor here) tell refl refl refl stands_here

  pub made_ready : (k : Journaling D) → StaysAs w j k → IsReady w j es → BothTell w j → LeavesAreas w j k (StandsFor here)
  made_ready k stays ready tell = leaves_still w j es ready k (StandsFor here) tell (ap (λ (x : Journaling D). x.second) stays.rest) stays.here stays.there stands_here

  pub still_or : (s : Standing) → IsReady w j es → BothTell w j → LeavesAreas w j j (λ a b. StandsFor here a b ⊎ StandsFor s a b)
  still_or s ready tell = leaves_still w j es ready j (λ a b. StandsFor here a b ⊎ StandsFor s a b) tell refl refl refl (λ a b found. inl (stands_here a b found))

  -- so do all later images
  pub kept : IsReady w j es → BothTell w j → Images (StandsFor here) (w.history (area_0 j)).now (w.history (area_1 j)).now
  kept ready tell = (still ready tell).start.start

-- a master whose journal was made ready, and went on from there
module _ {D : Type 0} (w : disks.Ghosts D) (old mid new : Mastering D) (e : Entry) (stays : StaysAs w old.journal mid.journal) (names : names_of mid ≡ names_of old) where
  same_standing : standing_of mid ≡ standing_of old
  same_standing = ap (λ (n : Names). let s : Standing = record { names = n; gate = mid.journal.gate; generation = mid.journal.generation } in s) names
      ∙ ap (λ (j : Journaling D). let s : Standing = record { names = names_of old; gate = j.gate; generation = j.generation } in s) stays.rest

  pub went_on : (BothTell w mid.journal → LeavesStanding w mid new (entered e (standing_of mid))) → BothTell w old.journal → LeavesStanding w old new (entered e (standing_of old))
  went_on leaves tell = leaves_from w old.journal mid.journal stays new.journal _
      (subst (λ s. LeavesAreas w mid.journal new.journal (λ a b. StandsFor s a b ⊎ StandsFor (entered e s) a b)) same_standing (leaves (tell_again w old.journal mid.journal stays tell)))

  pub only_ready : (s : Standing) → (BothTell w old.journal → LeavesAreas w old.journal mid.journal (StandsFor (standing_of old))) → BothTell w old.journal → LeavesStanding w old mid s
  only_ready s leaves tell = leaves_map _ _ _ _ (StandsFor (standing_of old)) (λ a b. StandsFor (standing_of old) a b ⊎ StandsFor s a b) (λ a b. inl) (leaves tell)
