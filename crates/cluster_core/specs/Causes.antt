-- Why an event answers a fault or a wait, whatever the core stands for.
use Rattle.std.specs.Prelude.{ℕ, ◌<◌, ⊤, ◌⊎◌, List, pred}
use Rattle.fs_model.specs.State.{Names}
use Rattle.fs_model.specs.NodesEvents.{checkpoint_calls}
use Rattle.fs_model.specs.declared.event.Event.{Event}
use Rattle.fs_model.specs.declared.reply.Reply.{Reply}
use Rattle.fs_model.specs.declared.reply.Refusal.{Refusal}
use Rattle.outside.specs.declared.disk.Disk as disks
use Rattle.outside.specs.declared.objects.Objects as objects
use Rattle.outside.specs.declared.objects.ObjectRead as reads
use Rattle.outside.specs.declared.objects.ObjectWrite as writes
use Rattle.journal_disk.specs.Journaling.{HadCause}
use Rattle.master_node.specs.Mastering.{IsUp, Mastering, names_of}
use Rattle.cluster_core.specs.Tiers.{At, Counts}
use Rattle.cluster_core.specs.Goes.{AtLabel, HandRose, HandWaited, Uses}
use Rattle.cluster_core.specs.Putting.{ObjectRose}
use Rattle.cluster_core.specs.declared.node.Node.{Node}
use Rattle.cluster_core.specs.declared.hand.Hand.{Hand}
use Rattle.cluster_core.specs.declared.cluster.Core.{Core}

-- the reply is no fault of a store and no wait; where it is the fault of a worker, P holds of that worker, and where it is that of the journal, J does
abbrev pub OnlyFrom : (ℕ → Type 0) → Type 0 → Reply → Type 0
OnlyFrom P J (Reply.Refused (Refusal.TierFault v)) = P v
OnlyFrom P J (Reply.Refused (Refusal.UnderFault s)) = ⊥
OnlyFrom P J (Reply.Refused Refusal.JournalFault) = J
OnlyFrom P J Reply.NotReady = ⊥
OnlyFrom P J reply = ⊤

-- the same where no fault of the journal comes
abbrev pub OnlyTier : (ℕ → Type 0) → Reply → Type 0
OnlyTier P = OnlyFrom P ⊥

-- the calls of areas that an event takes, where it is done over these names
abbrev pub area_calls : Event → Names → ℕ
area_calls (Event.Mkdir p) N = 4
area_calls (Event.Create l p kind w) N = 4
area_calls (Event.Finish l) N = 4
area_calls Event.Checkpoint N = checkpoint_calls N
area_calls e N = 0

-- the master was up, and an area's own count rose, or the fuse was shorter than the event's calls
abbrev pub JournalCaused : {D : Type 0} → disks.Ghosts D → Mastering D → Mastering D → Event → Type 0
JournalCaused d old new e = IsUp old × HadCause (area_calls e (names_of old)) d old.journal new.journal

module _ {S R W : Type 0} (o : objects.Ghosts S R W) where
  -- a tier of the worker counted a failure or a miss
  abbrev pub NodeCounted : Node S → Node S → Type 0
  NodeCounted n m = (t : ℕ) × At n.tiers.items m.tiers.items t (Counts o)

  -- so it is with the worker of this number, which counts from 1
  abbrev pub TierCounted : {D : Type 0} {d : disks.Ghosts D} {w : writes.Ghosts W} → Core D S R W d w → Core D S R W d w → ℕ → Type 0
  TierCounted old new v = (0 < v) × At old.workers.items new.workers.items (pred v) NodeCounted

module _ {S R W : Type 0} (o : objects.Ghosts S R W) (r : reads.Ghosts R) (w : writes.Ghosts W) where
  -- the label has a writer with an object in this store, and the count of the object's writer rose
  abbrev pub UnderRose : ℕ → Hand R W → Hand R W → Type 0
  UnderRose s (Hand.Writing x) (Hand.Writing y) = ObjectRose w s x y
  UnderRose s h k = ⊥

-- a fault is answered only where a count rose in the event: of a tier of that worker, or of the reader or writer under the event's label, which isn't steady; a wait only where the waits of such a reader did; and a fault of the journal only where an area's own count did, or the fuse was too short
abbrev pub IsCaused : {D S R W : Type 0} (d : disks.Ghosts D) (o : objects.Ghosts S R W) (r : reads.Ghosts R) (w : writes.Ghosts W) → Core D S R W d w → Core D S R W d w → ℕ → Event → Reply → Type 0
IsCaused d o r w old new who e (Reply.Refused (Refusal.TierFault v)) = TierCounted o old new v ⊎ (l : List ℕ) × Uses e l × AtLabel o r w old new who l (HandRose o r w v)
IsCaused d o r w old new who e (Reply.Refused (Refusal.UnderFault s)) = (l : List ℕ) × Uses e l × AtLabel o r w old new who l (UnderRose o r w s)
IsCaused d o r w old new who e (Reply.Refused Refusal.JournalFault) = JournalCaused d old.master new.master e
IsCaused d o r w old new who e Reply.NotReady = (v : ℕ) × (l : List ℕ) × Uses e l × AtLabel o r w old new who l (HandWaited o r w v)
IsCaused d o r w old new who e reply = ⊤
