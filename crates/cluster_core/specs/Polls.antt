-- What a poll leaves of a stream, by what it gave.
use Rattle.std.specs.Prelude.{ℕ, ◌≡◌, ◌≤◌, ◌<◌, ◌+◌, ◌-◌, ◌/◌, ◌^◌, min, false, true, cond, List, length, take, drop, Option, Some, None, IfSome, IsSomeAnd, option_map}
use Rattle.fs_model.specs.declared.reply.Reply.{Reply}
use Rattle.fs_model.specs.declared.reply.Refusal.{Refusal}
use Rattle.outside.specs.Causes.{Rose}
use Rattle.outside.specs.declared.objects.ObjectRead as reads
use Rattle.cluster_core.specs.declared.hand.Hand.{Hand}
use Rattle.cluster_core.specs.declared.hand.BlockSource.{BlockSource}
use Rattle.cluster_core.specs.declared.hand.Stream.{Stream}
use Rattle.cluster_core.specs.declared.polling.Gave.{Gave}

-- the answer of what a poll gave
abbrev pub reply_of : Gave → Reply
reply_of Gave.BadLabel = Reply.Refused Refusal.BadLabel
reply_of Gave.End = Reply.End
reply_of (Gave.NeedsBlock n) = Reply.NeedsBlock n
reply_of (Gave.Given bytes) = Reply.Given bytes
reply_of Gave.NotReady = Reply.NotReady
reply_of (Gave.Fault v) = Reply.Refused (Refusal.TierFault v)
reply_of Gave.Memory = Reply.Refused Refusal.Memory

-- the number of the block of a position, which is a number of 32 bits
abbrev pub block_number : ℕ → ℕ → ℕ
block_number at bs = min (at / bs) (2 ^ 32 - 1)

module _ {R : Type 0} (r : reads.Ghosts R) where
  -- how many bytes a source has still to give; one that failed has none
  abbrev pub due_of : Option (BlockSource R) → ℕ
  due_of None = 0
  due_of (Some x) = cond x.failed 0 (r.to_give x.stream.reader)

  -- ---- a source

  -- the same place of a source
  pub record SamePlace (x y : BlockSource R) : Type 0 where
    pub worker : y.worker ≡ x.worker
    pub tier : y.tier ≡ x.tier
    pub failed : y.failed ≡ x.failed

  -- a source that gave n bytes and goes on
  pub record Moved (n : ℕ) (x y : BlockSource R) : Type 0 where
    pub place : SamePlace x y
    pub due : r.to_give y.stream.reader + n ≡ r.to_give x.stream.reader
    pub left : r.left y.stream.reader ≡ option_map (drop n) (r.left x.stream.reader)
    pub steady : r.steady y.stream.reader ≡ r.steady x.stream.reader

  -- a source gave these bytes, some and at most as many as there was room; it ends where it has given all
  pub record Gives (room : ℕ) (x : BlockSource R) (after : Option (BlockSource R)) (bytes : List ℕ) : Type 0 where
    pub some : 0 < length bytes
    pub few : length bytes ≤ room
    pub due : length bytes ≤ r.to_give x.stream.reader
    pub front : IfSome (r.left x.stream.reader) (λ all. bytes ≡ take (length bytes) all)
    pub ends : r.to_give x.stream.reader ≡ length bytes → after ≡ None
    pub goes : length bytes < r.to_give x.stream.reader → IsSomeAnd after (Moved (length bytes) x)

  -- a source that wasn't ready; it isn't steady
  pub record Waited (x y : BlockSource R) : Type 0 where
    pub place : SamePlace x y
    pub due : r.to_give y.stream.reader ≡ r.to_give x.stream.reader
    pub left : r.left y.stream.reader ≡ r.left x.stream.reader
    pub unsteady : r.steady x.stream.reader ≡ false
    pub rose : Rose (r.waits x.stream.reader) (r.waits y.stream.reader)

  -- a source that failed; it isn't steady
  pub record Lost (x y : BlockSource R) : Type 0 where
    pub worker : y.worker ≡ x.worker
    pub failed : y.failed ≡ true
    pub unsteady : r.steady x.stream.reader ≡ false
    pub rose : Rose (r.faults x.stream.reader) (r.faults y.stream.reader)

  -- a poll of a source, by what it gave
  abbrev pub SourcePolls : ℕ → BlockSource R → Option (BlockSource R) → Gave → Type 0
  SourcePolls room x after Gave.BadLabel = ⊥
  SourcePolls room x after Gave.End = ⊥
  SourcePolls room x after (Gave.NeedsBlock n) = ⊥
  SourcePolls room x after (Gave.Given bytes) = Gives room x after bytes
  SourcePolls room x after Gave.NotReady = IsSomeAnd after (Waited x)
  SourcePolls room x after (Gave.Fault v) = (v ≡ x.worker) × IsSomeAnd after (Lost x)
  SourcePolls room x after Gave.Memory = ⊥

  -- ---- a stream

  -- a stream of the same file, at this position
  pub record SameFile (old new : Stream R) (at : ℕ) : Type 0 where
    pub file : new.file ≡ old.file
    pub len : new.len ≡ old.len
    pub position : new.at ≡ at
    pub worker : new.worker ≡ old.worker

  -- a poll of a stream before its end, with a source that hasn't failed
  pub record Reads (max : ℕ) (old new : Stream R) (gave : Gave) (moved : ℕ) : Type 0 where
    pub inside : old.at < old.len
    pub same : SameFile old new (old.at + moved)
    pub source : IsSomeAnd old.source (λ x. (x.failed ≡ false) × SourcePolls max x new.source gave)

  -- a poll of a stream, by what it gave
  abbrev pub PollOf : ℕ → ℕ → Stream R → Stream R → Gave → Type 0
  PollOf block max old new Gave.BadLabel = ⊥
  PollOf block max old new Gave.End = (old.len ≤ old.at) × (new ≡ old)
  PollOf block max old new (Gave.NeedsBlock n) = (old.at < old.len) × (due_of old.source ≡ 0) × (new ≡ old) × (old.at / block < 2 ^ 32 → n ≡ old.at / block)
  PollOf block max old new (Gave.Given bytes) = Reads max old new (Gave.Given bytes) (length bytes)
  PollOf block max old new Gave.NotReady = Reads max old new Gave.NotReady 0
  PollOf block max old new (Gave.Fault v) = Reads max old new (Gave.Fault v) 0
  PollOf block max old new Gave.Memory = new ≡ old

  -- a poll of what is under a label
  abbrev pub HandPolls : {W : Type 0} → ℕ → ℕ → Hand R W → Hand R W → Gave → Type 0
  HandPolls block max (Hand.Reading x) (Hand.Reading y) gave = PollOf block max x y gave
  HandPolls block max (Hand.Reading x) (Hand.Writing y) gave = ⊥
  HandPolls block max (Hand.Writing x) k gave = (k ≡ Hand.Writing x) × (gave ≡ Gave.BadLabel)
