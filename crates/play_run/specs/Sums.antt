-- What rose along a run, and the sums of the counts of tiers and of areas.
use Rattle.std.specs.Prelude.{ℕ, ◌≡◌, ◌<◌, ◌+◌, ◌-◌, ◌^◌, Bool, true, false, cond, List, [], ◌∷◌, Some, slice_get, sum_by, count_by}
use Rattle.std.specs.List.{All}
use Rattle.fs_model.specs.declared.event.Event.{Event}
use Rattle.fs_model.specs.declared.reply.Line.{Line}
use Rattle.fs_model.specs.declared.reply.Reply.{Reply}
use Rattle.fs_model.specs.declared.reply.Refusal.{Refusal}
use Rattle.fs_model.specs.Faults.{Rise}
use Rattle.fs_model.specs.Step.{Observation}
use Rattle.outside.specs.declared.disk.Disk as disks
use Rattle.outside.specs.declared.media.Media.{Media}
use Rattle.outside.specs.declared.objects.Objects as objects
use Rattle.outside.specs.declared.objects.ObjectRead as reads
use Rattle.outside.specs.declared.objects.ObjectWrite as writes
use Rattle.journal_disk.specs.Journaling.{area_0, area_1}
use Rattle.cluster_core.specs.Goes.{Rises}
use Rattle.cluster_core.specs.Media.{MediaStays}
use Rattle.cluster_core.specs.Steady.{IsSteady}
use Rattle.cluster_core.specs.declared.node.Node.{Node}
use Rattle.cluster_core.specs.declared.cluster.Core.{Core}

-- ---- answers

-- the answer is a tier's fault
abbrev pub is_tier_fault : Reply → Bool
is_tier_fault (Reply.Refused (Refusal.TierFault v)) = true
is_tier_fault reply = false

-- the answer is that the reader isn't ready
abbrev pub is_wait : Reply → Bool
is_wait Reply.NotReady = true
is_wait reply = false

-- the answer is a fault of the journal
abbrev pub is_journal_fault : Reply → Bool
is_journal_fault (Reply.Refused Refusal.JournalFault) = true
is_journal_fault reply = false

-- the event sets a fuse
abbrev pub sets_fuse : Event → Bool
sets_fuse (Event.Fuse calls) = true
sets_fuse e = false

-- no line's event sets a fuse
abbrev pub NoFuseSet : List Line → Type 0
NoFuseSet lines = All (λ (line : Line). sets_fuse line.event ≡ false) lines

-- how many lines have such an answer
abbrev pub answers : (Reply → Bool) → List Line → ℕ
answers test lines = count_by (λ (line : Line). test line.reply) lines

module _ {S R W : Type 0} (o : objects.Ghosts S R W) where
  -- ---- sums

  -- the sum of the counts of a worker's tiers
  abbrev pub node_total : Node S → ℕ
  node_total n = sum_by o.faults n.tiers.items

  -- so it is of the tiers of some media
  abbrev pub media_total : {D : Type 0} → Media D S → ℕ
  media_total m = sum_by (λ v. sum_by o.faults v.items) m.tiers.items

  -- no tier's count has come to its last value
  abbrev pub NoneLastIn : {D : Type 0} → Media D S → Type 0
  NoneLastIn m = All (λ v. All (λ s. o.faults s < 2 ^ 64 - 1) v.items) m.tiers.items

  module _ {D : Type 0} {d : disks.Ghosts D} {w : writes.Ghosts W} where
    -- the sum of the counts of all tiers
    abbrev pub total : Core D S R W d w → ℕ
    total core = sum_by node_total core.workers.items

    -- no tier's count has come to its last value
    abbrev pub NoneLast : Core D S R W d w → Type 0
    NoneLast core = (i t : ℕ) (n : Node S) (s : S) → slice_get core.workers.items i ≡ Some n → slice_get n.tiers.items t ≡ Some s → o.faults s < 2 ^ 64 - 1

-- the sum of the own counts of both areas of some media
abbrev pub media_areas_total : {D S : Type 0} → disks.Ghosts D → Media D S → ℕ
media_areas_total d m = d.faults (m.areas).0.disk + d.faults (m.areas).1.disk

-- neither area's own count has come to its last value
abbrev pub NoAreaLastIn : {D S : Type 0} → disks.Ghosts D → Media D S → Type 0
NoAreaLastIn d m = (d.faults (m.areas).0.disk < 2 ^ 64 - 1) × (d.faults (m.areas).1.disk < 2 ^ 64 - 1)

module _ {D S R W : Type 0} (d : disks.Ghosts D) {w : writes.Ghosts W} where
  -- the sum of the own counts of both areas of a core
  abbrev pub areas_total : Core D S R W d w → ℕ
  areas_total core = d.faults (area_0 core.master.journal) + d.faults (area_1 core.master.journal)

  -- so it is of the areas of a core
  abbrev pub NoAreaLast : Core D S R W d w → Type 0
  NoAreaLast core = (d.faults (area_0 core.master.journal) < 2 ^ 64 - 1) × (d.faults (area_1 core.master.journal) < 2 ^ 64 - 1)

module _ {D S R W : Type 0} (d : disks.Ghosts D) (o : objects.Ghosts S R W) (r : reads.Ghosts R) (w : writes.Ghosts W) where
  -- ---- what rose

  -- there are cores from one line to the next, between which the counts rose as observed, no tier's count fell, and what is steady stays so
  abbrev pub RiseAlong : Core D S R W d w → List Line → List Observation → Core D S R W d w → Type 0
  RiseAlong old [] [] new = new ≡ old
  RiseAlong old (line ∷ lines) (seen ∷ more) new = (mid : Core D S R W d w) × Rises d o r w old mid line.actor line.event seen.rise × MediaStays d o old mid × (IsSteady d o r w old → IsSteady d o r w mid) × RiseAlong mid lines more new
  RiseAlong old [] (seen ∷ more) new = ⊥
  RiseAlong old (line ∷ lines) [] new = ⊥

  -- a tier's own count rose, which the tier keeps
  abbrev pub is_of_tier : (old new : Core D S R W d w) (who : ℕ) (e : Event) (rise : Rise) → Rises d o r w old new who e rise → Bool
  is_of_tier old new who e rise (Rises.OfTier v t h) = true
  is_of_tier old new who e rise h = false

  -- the count of a label's reader or writer rose, which is dropped with the label
  abbrev pub is_of_hand : (old new : Core D S R W d w) (who : ℕ) (e : Event) (rise : Rise) → Rises d o r w old new who e rise → Bool
  is_of_hand old new who e rise (Rises.OfHand v l u h) = true
  is_of_hand old new who e rise h = false

  -- the waits of a label's reader rose
  abbrev pub is_of_waits : (old new : Core D S R W d w) (who : ℕ) (e : Event) (rise : Rise) → Rises d o r w old new who e rise → Bool
  is_of_waits old new who e rise (Rises.OfWaits v l u h) = true
  is_of_waits old new who e rise h = false

  -- an area's own count rose, which the area keeps
  abbrev pub is_of_journal : (old new : Core D S R W d w) (who : ℕ) (e : Event) (rise : Rise) → Rises d o r w old new who e rise → Bool
  is_of_journal old new who e rise (Rises.OfJournal h) = true
  is_of_journal old new who e rise h = false

  -- how many lines' rises pass the test
  abbrev pub how_many : ((old new : Core D S R W d w) (who : ℕ) (e : Event) (rise : Rise) → Rises d o r w old new who e rise → Bool) → (old : Core D S R W d w) (lines : List Line) (seen : List Observation) (new : Core D S R W d w) → RiseAlong old lines seen new → ℕ
  how_many test old [] seen new along = 0
  how_many test old (line ∷ lines) [] new along = 0
  how_many test old (line ∷ lines) (seen ∷ more) new along = cond (test old along.0 line.actor line.event seen.rise along.1) 1 0 + how_many test along.0 lines more new along.4

  -- how many lines' rises are of a tier's own count
  abbrev pub own : (old : Core D S R W d w) (lines : List Line) (seen : List Observation) (new : Core D S R W d w) → RiseAlong old lines seen new → ℕ
  own = how_many is_of_tier

  -- how many lines' rises are of the count of a label's reader or writer
  abbrev pub labels : (old : Core D S R W d w) (lines : List Line) (seen : List Observation) (new : Core D S R W d w) → RiseAlong old lines seen new → ℕ
  labels = how_many is_of_hand

  -- how many lines' rises are of an area's own count
  abbrev pub areas_rose : (old : Core D S R W d w) (lines : List Line) (seen : List Observation) (new : Core D S R W d w) → RiseAlong old lines seen new → ℕ
  areas_rose = how_many is_of_journal

  -- how many lines' rises are of the waits of a label's reader
  abbrev pub waits : (old : Core D S R W d w) (lines : List Line) (seen : List Observation) (new : Core D S R W d w) → RiseAlong old lines seen new → ℕ
  waits = how_many is_of_waits
