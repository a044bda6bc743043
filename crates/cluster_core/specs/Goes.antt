-- That an event of the core is a step of the file machine.
use Rattle.std.specs.Prelude.{ℕ, zero, suc, pred, ◌≡◌, ◌⊎◌, false, List, [], ◌∷◌, Option, IsSomeAnd}
use Rattle.fs_model.specs.declared.setup.Setup.{Setup}
use Rattle.fs_model.specs.declared.event.Event.{Event}
use Rattle.fs_model.specs.declared.reply.Reply.{Reply}
use Rattle.fs_model.specs.declared.change.Change.{Change}
use Rattle.fs_model.specs.State.{Whole}
use Rattle.fs_model.specs.Faults.{Rise}
use Rattle.fs_model.specs.Step.{WholeStep}
use Rattle.outside.specs.Causes.{Rose}
use Rattle.outside.specs.declared.disk.Disk as disks
use Rattle.outside.specs.declared.objects.Objects as objects
use Rattle.outside.specs.declared.objects.ObjectRead as reads
use Rattle.outside.specs.declared.objects.ObjectWrite as writes
use Rattle.file_writer.specs.Parts.{block_faults, is_block_steady}
use Rattle.journal_disk.specs.Journaling.{area_0, area_1}
use Rattle.cluster_core.specs.LabelsView.{hand_in}
use Rattle.cluster_core.specs.Tiers.{At}
use Rattle.cluster_core.specs.Stands.{Stands}
use Rattle.cluster_core.specs.declared.hand.Hand.{Hand}
use Rattle.cluster_core.specs.declared.hand.BlockSource.{BlockSource}
use Rattle.cluster_core.specs.declared.cluster.Core.{Core}

-- ---- what rose

-- nothing rose
abbrev pub no_rise : Rise
no_rise = record { stores = []; tiers = []; journal = 0; waits = 0 }

-- 1 at this place, and 0 before it
abbrev pub one_at : ℕ → List ℕ
one_at zero = 1 ∷ []
one_at (suc n) = 0 ∷ one_at n

-- the count of a worker's tiers rose by 1
abbrev pub tier_rise : ℕ → Rise
tier_rise w = record { stores = []; tiers = one_at (pred w); journal = 0; waits = 0 }

-- an area's own count rose by 1
abbrev pub journal_rise : Rise
journal_rise = record { stores = []; tiers = []; journal = 1; waits = 0 }

-- the event polls the label, or puts bytes into it
abbrev pub Uses : Event → List ℕ → Type 0
Uses (Event.Poll m max) l = m ≡ l
Uses (Event.Put m fill) l = m ≡ l
Uses e l = ⊥

-- the waits of a label's reader rose by 1
abbrev pub wait_rise : Rise
wait_rise = record { stores = []; tiers = []; journal = 0; waits = 1 }

module _ {S R W : Type 0} (o : objects.Ghosts S R W) (r : reads.Ghosts R) (w : writes.Ghosts W) where
  -- the source was and is there, and the count of its reader, which isn't steady, rose
  abbrev pub SourceRose : (R → ℕ) → ℕ → Option (BlockSource R) → Option (BlockSource R) → Type 0
  SourceRose count v s t = IsSomeAnd s (λ x. IsSomeAnd t (λ y. (x.worker ≡ v) × (r.steady x.stream.reader ≡ false) × Rose (count x.stream.reader) (count y.stream.reader)))

  -- the count of what a label has at the worker rose: of its reader, or of its open block's writer; that isn't steady
  abbrev pub HandRose : ℕ → Hand R W → Hand R W → Type 0
  HandRose v (Hand.Reading x) (Hand.Reading y) = SourceRose r.faults v x.source y.source
  HandRose v (Hand.Writing x) (Hand.Writing y) = (x.worker ≡ v) × (is_block_steady w x.bytes.block ≡ false) × Rose (block_faults w x.bytes.block) (block_faults w y.bytes.block)
  HandRose v h k = ⊥

  -- the waits of the label's reader rose
  abbrev pub HandWaited : ℕ → Hand R W → Hand R W → Type 0
  HandWaited v (Hand.Reading x) (Hand.Reading y) = SourceRose r.waits v x.source y.source
  HandWaited v h k = ⊥

module _ {D S R W : Type 0} {d : disks.Ghosts D} (o : objects.Ghosts S R W) (r : reads.Ghosts R) (w : writes.Ghosts W) where
  -- the count of faults of a tier rose
  abbrev pub TierRose : Core D S R W d w → Core D S R W d w → ℕ → ℕ → Type 0
  TierRose old new v t = At old.workers.items new.workers.items (pred v) (λ n m. At n.tiers.items m.tiers.items t (λ s u. Rose (o.faults s) (o.faults u)))

  -- P holds of what one of the actor's labels had and has
  abbrev pub AtLabel : Core D S R W d w → Core D S R W d w → ℕ → List ℕ → (Hand R W → Hand R W → Type 0) → Type 0
  AtLabel old new who l P = At old.hands.items new.hands.items (pred who) (λ s t. IsSomeAnd (hand_in s l) (λ h. IsSomeAnd (hand_in t l) (λ k. P h k)))

module _ {D S R W : Type 0} (d : disks.Ghosts D) (o : objects.Ghosts S R W) (r : reads.Ghosts R) (w : writes.Ghosts W) where
  -- the own count of an area rose
  abbrev pub AreaRose : Core D S R W d w → Core D S R W d w → Type 0
  AreaRose old new = Rose (d.faults (area_0 old.master.journal)) (d.faults (area_0 new.master.journal)) ⊎ Rose (d.faults (area_1 old.master.journal)) (d.faults (area_1 new.master.journal))

  -- what rose in an event: nothing, or by one the count of a tier, that of the reader or writer of the event's label, the waits of that reader, or an area's own count
  pub data Rises (old new : Core D S R W d w) (who : ℕ) (e : Event) : Rise → Type 0 where
    Nothing : Rises old new who e no_rise
    OfTier : (v t : ℕ) → TierRose o r w old new v t → Rises old new who e (tier_rise v)
    OfHand : (v : ℕ) (l : List ℕ) → Uses e l → AtLabel o r w old new who l (HandRose o r w v) → Rises old new who e (tier_rise v)
    OfWaits : (v : ℕ) (l : List ℕ) → Uses e l → AtLabel o r w old new who l (HandWaited o r w v) → Rises old new who e wait_rise
    OfJournal : AreaRose old new → Rises old new who e journal_rise

  -- there is a state for which the core stands afterwards, to which the machine goes by this step, and what rose in it are the counts that did
  pub record Goes (U : Setup) (old new : Core D S R W d w) (V : Whole) (who : ℕ) (e : Event) (reply : Reply) : Type 0 where
    pub after : Whole
    pub rise : Rise
    pub made : Option Change
    pub stands : Stands d o r w U new after
    pub rises : Rises old new who e rise
    pub step : WholeStep U V (record { actor = who; event = e; reply = reply }) after (record { rise = rise; made = made })

  -- so it is from every state for which the core stands
  abbrev pub Steps : Core D S R W d w → Core D S R W d w → ℕ → Event → Reply → Type 0
  Steps old new who e reply = (U : Setup) (V : Whole) → Stands d o r w U old V → Goes U old new V who e reply
