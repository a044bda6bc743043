-- What a search for a source leaves of a stream and of the first worker, by what it gave.
use Rattle.std.specs.Prelude.{ℕ, ◌≡◌, ◌≤◌, ◌<◌, ◌+◌, ◌-◌, ◌%◌, min, ⊤, Bool, false, true, cond, List, Option, Some, None, IsSomeAnd, slice_get, is_some}
use Rattle.fs_model.specs.declared.reply.Reply.{Reply}
use Rattle.fs_model.specs.declared.reply.Refusal.{Refusal}
use Rattle.fs_model.specs.State.{Copied, NodeRow, Source}
use Rattle.inode_tree.specs.Rows.{file_row}
use Rattle.tier_book.specs.Rows.{row_of}
use Rattle.outside.specs.Contents.{IsRange}
use Rattle.outside.specs.declared.objects.Objects as objects
use Rattle.outside.specs.declared.objects.ObjectRead as reads
use Rattle.cluster_core.specs.Tiers.{ChangesAt, IsFaultOrShort, Keeps, object_key}
use Rattle.cluster_core.specs.Nodes.{IsAsBefore, IsUsed}
use Rattle.cluster_core.specs.HandFits.{source_of}
use Rattle.cluster_core.specs.Polls.{SameFile, block_number}
use Rattle.cluster_core.specs.declared.hand.Hand.{Hand}
use Rattle.cluster_core.specs.declared.hand.BlockSource.{BlockSource}
use Rattle.cluster_core.specs.declared.hand.Stream.{Stream}
use Rattle.cluster_core.specs.declared.node.Node.{Node}
use Rattle.cluster_core.specs.declared.reading.Found.{Found}

-- the answer of what a search gave; the first worker is the only one that it looks at
abbrev pub found_reply : Found → Reply
found_reply Found.BadLabel = Reply.Refused Refusal.BadLabel
found_reply Found.Stopped = Reply.Refused Refusal.Stopped
found_reply Found.NotFound = Reply.Refused Refusal.NotFound
found_reply Found.End = Reply.End
found_reply (Found.Still v t) = Reply.FromWorker v t
found_reply (Found.Opened t) = Reply.FromWorker 1 t
found_reply (Found.Unavailable b) = Reply.Refused (Refusal.Unavailable b)
found_reply Found.Fault = Reply.Refused (Refusal.TierFault 1)
found_reply Found.Memory = Reply.Refused Refusal.Memory

-- a search gives that the master is stopped exactly where it is; what isn't a stream is told before that
abbrev pub Halts : Bool → Found → Type 0
Halts stopped Found.BadLabel = ⊤
Halts stopped Found.Stopped = stopped ≡ true
Halts stopped gave = stopped ≡ false

-- ---- the first worker

module _ {S : Type 0} where
  -- the copy of a block at the worker, where it runs
  abbrev pub copy_at : ℕ → ℕ → Option (Node S) → Option Copied
  copy_at f i None = None
  copy_at f i (Some n) = cond n.running (row_of f i n.book.rows) None

  -- the first worker's copy of a block, where that worker runs
  abbrev pub first_copy : List (Node S) → ℕ → ℕ → Option Copied
  first_copy nodes f i = copy_at f i (slice_get nodes 0)

module _ {S R W : Type 0} (o : objects.Ghosts S R W) (r : reads.Ghosts R) (f i at len : ℕ) where
  -- a copy was opened for reading so many bytes from a place on
  pub record Opens (reader : R) (t : ℕ) (n m : Node S) (c : Copied) : Type 0 where
    pub tier : t ≡ c.tier
    pub used : IsUsed n m c.number
    pub tiers : ChangesAt n.tiers.items m.tiers.items c.tier (Keeps o)
    pub range : IsSomeAnd (slice_get n.tiers.items c.tier) (λ s. IsRange (o.told s) (object_key n.started c.number) at len (r.left reader))
    pub reads : IsSomeAnd (slice_get n.tiers.items c.tier) (λ s. o.steady s ≡ true → r.steady reader ≡ true)

  -- so it was with the copy of the block
  abbrev pub OpensRow : R → ℕ → Node S → Node S → Type 0
  OpensRow reader t n m = IsSomeAnd (copy_at f i (Some n)) (Opens reader t n m)

  -- the tiers may have failed, and nothing else has changed
  pub record Tried (n m : Node S) (c : Copied) : Type 0 where
    pub same : IsAsBefore n m
    pub tiers : ChangesAt n.tiers.items m.tiers.items c.tier (Keeps o)

  abbrev pub TriesRow : Node S → Node S → Type 0
  TriesRow n m = IsSomeAnd (copy_at f i (Some n)) (Tried n m)

  -- the copy's tier failed, or its object is too short
  abbrev pub FailsRow : Node S → Node S → Type 0
  FailsRow n m = IsSomeAnd (copy_at f i (Some n)) (λ c. ChangesAt n.tiers.items m.tiers.items c.tier (IsFaultOrShort o (object_key n.started c.number) (at + len)))

-- ---- a stream

module _ {S R W : Type 0} (o : objects.Ghosts S R W) (r : reads.Ghosts R) where
  -- the block of the stream's position, the place in it, and how many bytes are left of it
  abbrev pub wanted : ℕ → Stream R → ℕ
  wanted bs x = block_number x.at bs

  abbrev pub place_in : ℕ → Stream R → ℕ
  place_in bs x = x.at % bs

  abbrev pub left_of : ℕ → Stream R → ℕ
  left_of bs x = min (x.len - x.at) (bs - x.at % bs)

  -- a new source at the first worker
  pub record NewSource (bs : ℕ) (x : Stream R) (old new : List (Node S)) (t : ℕ) (z : BlockSource R) : Type 0 where
    pub worker : z.worker ≡ 1
    pub tier : z.tier ≡ t
    pub good : z.failed ≡ false
    pub due : r.to_give z.stream.reader ≡ left_of bs x
    pub row : ChangesAt old new 0 (OpensRow o r x.file (wanted bs x) (place_in bs x) (left_of bs x) z.stream.reader t)

  -- a source was sought: the file is there, the stream isn't at its end, and it had none
  pub record Sought (rows : List NodeRow) (x : Stream R) : Type 0 where
    pub there : is_some (file_row rows x.file) ≡ true
    pub inside : x.at < x.len
    pub none : source_of x.source ≡ None

  -- a search, by what it gave
  abbrev pub SeeksOf : List NodeRow → ℕ → List (Node S) → List (Node S) → Stream R → Stream R → Found → Type 0
  SeeksOf rows bs old new x y Found.BadLabel = ⊥
  SeeksOf rows bs old new x y Found.Stopped = (y ≡ x) × (new ≡ old)
  SeeksOf rows bs old new x y Found.NotFound = (is_some (file_row rows x.file) ≡ false) × (y ≡ x) × (new ≡ old)
  SeeksOf rows bs old new x y Found.End = (is_some (file_row rows x.file) ≡ true) × (x.len ≤ x.at) × SameFile r x y x.at × (y.source ≡ None) × (new ≡ old)
  SeeksOf rows bs old new x y (Found.Still v t) = (is_some (file_row rows x.file) ≡ true) × (x.at < x.len) × (source_of x.source ≡ Some (Source.AtWorker v t)) × (y ≡ x) × (new ≡ old)
  SeeksOf rows bs old new x y (Found.Opened t) = Sought rows x × SameFile r x y x.at × IsSomeAnd y.source (NewSource bs x old new t)
  SeeksOf rows bs old new x y (Found.Unavailable b) = Sought rows x × (b ≡ wanted bs x) × (first_copy old x.file (wanted bs x) ≡ None) × (y ≡ x) × (new ≡ old)
  SeeksOf rows bs old new x y Found.Fault = Sought rows x × ChangesAt old new 0 (TriesRow o r x.file (wanted bs x) (place_in bs x) (left_of bs x)) × ChangesAt old new 0 (FailsRow o r x.file (wanted bs x) (place_in bs x) (left_of bs x)) × (y ≡ x)
  SeeksOf rows bs old new x y Found.Memory = Sought rows x × ChangesAt old new 0 (TriesRow o r x.file (wanted bs x) (place_in bs x) (left_of bs x)) × (y ≡ x)

  -- a search for what is under a label
  abbrev pub HandSeeks : List NodeRow → ℕ → List (Node S) → List (Node S) → Hand R W → Hand R W → Found → Type 0
  HandSeeks rows bs old new (Hand.Reading x) (Hand.Reading y) gave = SeeksOf rows bs old new x y gave
  HandSeeks rows bs old new (Hand.Reading x) (Hand.Writing y) gave = ⊥
  HandSeeks rows bs old new (Hand.Writing x) k gave = (k ≡ Hand.Writing x) × (gave ≡ Found.BadLabel) × (new ≡ old)
