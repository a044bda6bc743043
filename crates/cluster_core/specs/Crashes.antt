-- What an event makes of the journal's areas, and what a crash during it leaves there, whatever the core stands for.
use Rattle.std.specs.Prelude.{ℕ, ◌≡◌, ◌⊎◌, pred, true, List, slice_get, Option, Some, None, option_and_then}
use Rattle.fs_model.specs.declared.event.Event.{Event}
use Rattle.fs_model.specs.declared.reply.Reply.{Reply}
use Rattle.fs_model.specs.declared.reply.Stored.{Stored}
use Rattle.outside.specs.declared.disk.Disk as disks
use Rattle.outside.specs.declared.objects.ObjectWrite as writes
use Rattle.journal_entry.specs.declared.entry.Entry.{Entry}
use Rattle.journal_disk.specs.Journaling.{BothTell, area_0, area_1}
use Rattle.master_node.specs.Mastering.{IsKept, IsUp, LeavesStanding, Mastering, Standing, entered, names_of, renewed, standing_of}
use Rattle.cluster_core.specs.LabelsView.{LabelsView, hand_in}
use Rattle.cluster_core.specs.declared.cluster.Core.{Core}
use Rattle.cluster_core.specs.declared.hand.Hand.{Hand}
use Rattle.cluster_core.specs.declared.hand.Writer.{Writer}

-- ---- what an event is to make of the areas

-- what is under one of the actor's labels
abbrev pub hand_here : {T : Type 0} → List (LabelsView T) → ℕ → List ℕ → Option T
hand_here labels who l = option_and_then (λ s. hand_in s l) (slice_get labels (pred who))

-- the entry that the file of a writer is done with
abbrev pub done_entry : {W : Type 0} → Writer W → Entry
done_entry x = Entry.Done x.file x.bytes.len Stored.No 0

-- what the areas stand for after it, if a writer is there
abbrev pub after_done : {R W : Type 0} → Option (Hand R W) → Standing → Standing
after_done None s = s
after_done (Some (Hand.Reading x)) s = s
after_done (Some (Hand.Writing x)) s = entered (done_entry x) s

-- ---- what a crash leaves

module _ {D : Type 0} (d : disks.Ghosts D) where
  -- no area was called, and the master does what it did
  pub record Rests (old new : Mastering D) : Type 0 where
    pub history_0 : d.history (area_0 new.journal) ≡ d.history (area_0 old.journal)
    pub history_1 : d.history (area_1 new.journal) ≡ d.history (area_1 old.journal)
    pub standing : standing_of new ≡ standing_of old

  -- the master was up, and at every moment each pair of images of both areas stands for what it did, or for this
  pub record Moves (old new : Mastering D) (s : Standing) : Type 0 where
    pub up : IsUp old
    pub moments : BothTell d old.journal → LeavesStanding d old new s

  -- an event that is to make this of the areas: where it is acknowledged they stand for it, in each image from then on; else the master does what it did
  pub record Leads (old new : Mastering D) (s : Standing) (reply : Reply) : Type 0 where
    pub moments : Rests old new ⊎ Moves old new s
    pub acknowledged : reply ≡ Reply.Done → (standing_of new ≡ s) × IsKept d new
    pub refused : (reply ≡ Reply.Done → ⊥) → standing_of new ≡ standing_of old

-- events that change names, and a checkpoint, lead to the change in hand; no other event calls an area
abbrev pub Crashes : {D S R W : Type 0} (d : disks.Ghosts D) {w : writes.Ghosts W} → Core D S R W d w → Core D S R W d w → ℕ → Event → Reply → Type 0
Crashes d old new who (Event.Mkdir p) reply = Leads d old.master new.master (entered (Entry.Mkdir p) (standing_of old.master)) reply
Crashes d old new who (Event.Create l p kind v) reply = Leads d old.master new.master (entered (Entry.Create (names_of old.master).next_id p) (standing_of old.master)) reply
Crashes d old new who (Event.Finish l) reply = Leads d old.master new.master (after_done (hand_here old.hands.items who l) (standing_of old.master)) reply
Crashes d old new who Event.Checkpoint reply = Leads d old.master new.master (renewed (standing_of old.master)) reply
Crashes d old new who e reply = Rests d old.master new.master
