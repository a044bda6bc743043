-- What the first checkpoint of a fresh journal leaves.
use Rattle.std.proofs.Common.{◌≡◌, inl, inr, ⊎_elim, ℕ, ◌+◌, Bool, true, List, [], None, Some, Ok, if◌then◌else◌, refl, ◌∙◌, ap}
use Rattle.std.specs.Prelude.{not}
use Rattle.outside.specs.declared.disk.Disk as disks
use Rattle.fs_model.specs.declared.setup.Setup.{Setup}
use Rattle.fs_model.specs.State.{Names}
use Rattle.fs_model.specs.Opening.{fresh_names}
use Rattle.journal_entry.specs.declared.entry.Entry.{Entry}
use Rattle.journal_entry.specs.Meaning.{checkpoint_entries}
use Rattle.journal_disk.specs.AreaText.{gate_behind}
use Rattle.journal_disk.specs.Areas.{IsBeforeOrAfter, journal_of}
use Rattle.journal_disk.specs.Journaling.{BothTell, IsReady, Journaling, LeavesAreas, current_in, with_checkpoint}
use Rattle.journal_disk.proofs.Journals.{leaves_still}
use Rattle.master_state.specs.Effect.{meaning}
use Rattle.master_node.specs.Mastering.{Standing}
use Rattle.master_node.specs.Recovery.{IsFreshOr, first_standing}
use Rattle.master_node.proofs.Masters.{leaves_map}

module _ {D : Type 0} (w : disks.Ghosts D) (S : Setup) (j : Journaling D) (fresh : j.fresh ≡ true) (first : j.generation ≡ 0) (ready : IsReady w j []) where
  fresh_here : (a b : List ℕ) → journal_of a b ≡ Ok (current_in j []) → IsFreshOr (first_standing S) a b
  fresh_here a b found = inl (found ∙ ap (λ (x : Bool). Ok (if x then None else Some (record { second = j.second; generation = j.generation; entries = []; gate = j.gate }))) fresh)

  -- no call of an area leaves it fresh
  pub still_fresh : BothTell w j → LeavesAreas w j j (IsFreshOr (first_standing S))
  still_fresh tell = leaves_still w j [] ready j (IsFreshOr (first_standing S)) tell refl refl refl fresh_here

  -- the checkpoint leaves it fresh, or is there
  pub begun : (k : Journaling D) (entries : List Entry) → entries ≡ checkpoint_entries (fresh_names S) → meaning entries ≡ fresh_names S
      → LeavesAreas w j k (IsBeforeOrAfter (current_in j []) (with_checkpoint j entries)) → LeavesAreas w j k (IsFreshOr (first_standing S))
  begun k entries made means leaves = leaves_map _ _ _ _ (IsBeforeOrAfter (current_in j []) (with_checkpoint j entries)) (IsFreshOr (first_standing S))
      (λ a b. ⊎_elim
      (λ before. fresh_here a b before)
      (λ after. inr (
        record { second = not j.second; generation = j.generation + 1; entries = entries; gate = gate_behind entries },
        after,
        ap (λ (n : Names). let s : Standing = record { names = n; gate = gate_behind entries; generation = j.generation + 1 } in s) means
            ∙ ap (λ (l : List Entry). let s : Standing = record { names = fresh_names S; gate = gate_behind l; generation = j.generation + 1 } in s) made
            ∙ ap (λ (n : ℕ). let s : Standing = record { names = fresh_names S; gate = gate_behind (checkpoint_entries (fresh_names S)); generation = n + 1 } in s) first,
      ))) leaves
