-- What the accepted events on bytes answer, and the state after them.
use Rattle.std.specs.Prelude.{ℕ, pred, ◌+◌, ◌-◌, ◌*◌, ◌/◌, ◌%◌, ◌^◌, min, Bool, true, false, cond, not, ◌&&◌, ◌||◌, List, [], ◌∷◌, ◌++◌, map, length, take, drop, filter, nat_eq, nat_lt, nat_le, Option, Some, None, is_some, is_none, option_map, unwrap_or}
use Rattle.std.specs.List.{range_with_len}
use Rattle.fs_model.specs.declared.path.Path.{Path}
use Rattle.fs_model.specs.declared.label.Label.{Label}
use Rattle.fs_model.specs.declared.setup.Setup.{Setup}
use Rattle.fs_model.specs.declared.event.WriteType.{WriteType}
use Rattle.fs_model.specs.declared.event.ReadType.{ReadType}
use Rattle.fs_model.specs.declared.event.Fill.{Fill}
use Rattle.fs_model.specs.declared.reply.Stored.{Stored}
use Rattle.fs_model.specs.declared.reply.Reply.{Reply}
use Rattle.fs_model.specs.Words.{block_len, update_at}
use Rattle.fs_model.specs.State.{State, Names, Copied, Worker, Hold, Source, Cache, Stream, OpenBlock, Writer, Mover, JobHand, Hand, Hands}
use Rattle.fs_model.specs.Lookups.{file_of, path_of, worker, is_live, runs_since, copy_of, copy_numbered, live_copies, store_of, covers, key_of, holders, placed, stored_is_yes, no_worker, hand_at}
use Rattle.fs_model.specs.Choices.{Choices}
use Rattle.fs_model.specs.NamesEvents.{id_at}
use Rattle.fs_model.specs.BytesEvents.{block_wanted, stored_by, writer_stands, writer_change, job_change, writer_at, stream_at, unbroken_at}
use Rattle.fs_model.specs.Updates.{unpark_at, unpark_if, change_worker, retake, release, add_hand, set_hand, end_hand, journal, content, without_room, free_room, used, commit, replace_copy, take_room}

-- ---- writers

-- the state in which a room at a worker became a copy
abbrev pub commit_at : State → ℕ → ℕ → ℕ → ℕ → ℕ → State
commit_at A w n f i len = change_worker w (commit A.names n f i len) A

-- the room of the open block becomes a copy where the writer's worker still stands, and else is freed
abbrev pub close_room : Setup → State → Writer → ℕ → Option ℕ → Worker → Worker
close_room S A w len None W = W
close_room S A w len (Some n) W = cond (writer_stands A w)
    (commit A.names n w.file ((length w.taken - len) / w.bs) len W)
    (cond (runs_since A w.worker w.start) (without_room n W) W)

-- the same for a block that is open
abbrev pub close_open : Setup → State → Writer → Option OpenBlock → Worker → Worker
close_open S A w None W = W
close_open S A w (Some b) W = close_room S A w b.len b.room W

-- the state in which the writer's open block is committed or given up
abbrev pub close_block : Setup → State → Writer → State
close_block S A w = change_worker w.worker (close_open S A w w.block) A

-- it caches no more where there is no room, or its worker doesn't stand or has no number left
abbrev pub caches_on : Setup → State → Writer → Bool
caches_on S A w = writer_stands A w && nat_lt (worker A w.worker).next (2 ^ 63) && is_some (placed S A w.worker None w.bs)

-- the writer with an empty open block
abbrev pub opened : Writer → WriteType → Option ℕ → Writer
opened w kind room = record w { kind = kind; block = Some (record { room = room; len = 0 }) }

-- the body and the labels after an event
abbrev pub BodyAndHands : Type 0
BodyAndHands = State × Hands

-- a reply, and the body and the labels after it
abbrev pub Outcome : Type 0
Outcome = Reply × State × Hands

-- a reply with what the event left
abbrev pub with_reply : Reply → BodyAndHands → Outcome
with_reply r o = (r, o.0, o.1)

-- the next block is opened in a room at the worker
abbrev pub open_cached : Setup → State → Hands → Label → Writer → BodyAndHands
open_cached S A H l w = (take_room (placed S A w.worker None w.bs) w.worker w.bs A, set_hand l (Hand.Writing (opened w w.kind (Some (worker A w.worker).next))) H)

-- the next block is opened without a room: the writer writes through
abbrev pub open_uncached : State → Hands → Label → Writer → BodyAndHands
open_uncached A H l w = (A, set_hand l (Hand.Writing (opened w WriteType.Through None)) H)

-- one of the two
abbrev pub open_cached_if : Bool → Setup → State → Hands → Label → Writer → BodyAndHands
open_cached_if true S A H l w = open_cached S A H l w
open_cached_if false S A H l w = open_uncached A H l w

-- the next block is opened at the worker, by write type
abbrev pub opens_cached : Setup → State → Writer → WriteType → Bool
opens_cached S A w WriteType.MustCache = true
opens_cached S A w WriteType.CacheThrough = caches_on S A w
opens_cached S A w WriteType.Through = false
opens_cached S A w WriteType.AsyncThrough = true

-- the next block is opened
abbrev pub open_block : Setup → State → Hands → Label → Writer → BodyAndHands
open_block S A H l w = open_cached_if (opens_cached S A w w.kind) S A H l w

-- the full block is closed and the next opened, where one is wanted
abbrev pub room_if : Bool → Setup → State → Hands → Label → Writer → BodyAndHands
room_if true S A H l w = open_block S (close_block S A w) H l w
room_if false S A H l w = (A, H)

-- Room for the writer of a label, if there is one
abbrev pub room_by : Setup → State → Hands → Label → Option Writer → BodyAndHands
room_by S A H l None = (A, H)
room_by S A H l (Some w) = room_if (block_wanted w.bs w.block) S A H l w

-- Room
abbrev pub room_outcome : Setup → State → Hands → Label → Outcome
room_outcome S A H l = with_reply Reply.Done (room_by S A H l (writer_at H l))

-- byte k of generator num
abbrev pub made_byte : ℕ → ℕ → ℕ
made_byte num k = (num + k + k / 256) % 256

-- how many bytes a fill has
abbrev pub fill_len : Fill → ℕ
fill_len (Fill.Listed bs) = length bs
fill_len (Fill.Made num at len) = len

-- the bytes of a fill
abbrev pub fill_bytes : Fill → List ℕ
fill_bytes (Fill.Listed bs) = bs
fill_bytes (Fill.Made num at len) = map (made_byte num) (range_with_len at len)

-- how many bytes the open block lacks
abbrev pub lacks : ℕ → Option OpenBlock → ℕ
lacks bs None = 0
lacks bs (Some b) = bs - b.len

-- the open block with so many bytes more
abbrev pub longer : ℕ → OpenBlock → OpenBlock
longer n b = record b { len = b.len + n }

-- the writer takes these bytes
abbrev pub put_in : Hands → Label → Writer → List ℕ → Hands
put_in H l w bs = set_hand l (Hand.Writing (record w { taken = w.taken ++ bs; block = option_map (longer (length bs)) w.block })) H

-- what an event that touches the actor's own labels alone leaves
abbrev pub OwnOutcome : Type 0
OwnOutcome = Reply × Hands

-- a writer that needs a room says so; else it takes what fits
abbrev pub put_if : Bool → Setup → Hands → Label → Fill → Writer → OwnOutcome
put_if true S H l fill w = (Reply.NeedsRoom, H)
put_if false S H l fill w =
    let n = min (fill_len fill) (lacks w.bs w.block) in
    (Reply.Taken n, put_in H l w (take n (fill_bytes fill)))

-- Put for the writer of a label, if there is one
abbrev pub put_by : Setup → Hands → Label → Fill → Option Writer → OwnOutcome
put_by S H l fill None = (Reply.NeedsRoom, H)
put_by S H l fill (Some w) = put_if (block_wanted w.bs w.block) S H l fill w

-- Put
abbrev pub put_outcome : Setup → Hands → Label → Fill → OwnOutcome
put_outcome S H l fill = put_by S H l fill (writer_at H l)

-- ---- Finish

-- the reply of a finished file: begun where it is stored
abbrev pub begun_by : Stored → State → Reply
begun_by Stored.No A = Reply.Done
begun_by Stored.Wanted A = Reply.Done
begun_by Stored.Yes A = Reply.Begun A.names.next_plan

-- the bytes of a finished file are kept
abbrev pub keep_bytes : ℕ → List ℕ → State → State
keep_bytes id bs A = record A { contents = A.contents ++ record { file = id; bytes = bs } ∷ [] }

-- a writer is finished
abbrev pub finish_writer : Setup → State → Hands → Label → Writer → Outcome
finish_writer S A H l w = (
  begun_by (stored_by w.kind) A,
  keep_bytes w.file w.taken (unpark_if (stored_by w.kind) A.names.next_plan A w.file (journal (writer_change A w) (close_block S A w))),
  end_hand l H,
)

-- a mover is finished: the new copy takes the old one's place
abbrev pub finish_mover : State → ℕ → Hands → Label → Mover → Outcome
finish_mover A who H l m = (Reply.Done, release who l (change_worker m.held.worker (replace_copy m.held.number m.room (λ c. c)) A), end_hand l H)

-- a job is finished: its file is stored
abbrev pub finish_job : State → ℕ → Hands → Label → JobHand → Outcome
finish_job A who H l j = (Reply.Begun A.names.next_plan, release who l (unpark_at A.names.next_plan A j.file (journal (job_change A j) A)), end_hand l H)

-- Finish by what the label has
abbrev pub finish_by : Setup → State → ℕ → Hands → Label → Option Hand → Outcome
finish_by S A who H l None = (Reply.Done, A, H)
finish_by S A who H l (Some (Hand.Reading s)) = (Reply.Done, A, H)
finish_by S A who H l (Some (Hand.Writing w)) = finish_writer S A H l w
finish_by S A who H l (Some (Hand.Moving m)) = finish_mover A who H l m
finish_by S A who H l (Some (Hand.Storing j)) = finish_job A who H l j

-- Finish
abbrev pub finish_outcome : Setup → State → ℕ → Hands → Label → Outcome
finish_outcome S A who H l = finish_by S A who H l (unbroken_at H l)

-- ---- labels that are made

-- OpenFile: a stream at 0 with the file's bytes
abbrev pub open_outcome : Setup → State → Hands → Label → Path → ReadType → ℕ → Outcome
open_outcome S A H l p kind w =
    let id = id_at A p in
    let bytes = content A id in
    (Reply.Opened (length bytes), A, add_hand l (Hand.Reading (record { file = id; bs = S.block; bytes = bytes; at = 0; kind = kind; worker = w; source = None; cache = None })) H)

-- Job: a job at 0 with the file's bytes
abbrev pub job_outcome : Setup → State → Hands → Label → Path → Outcome
job_outcome S A H l p =
    let id = id_at A p in
    (Reply.Done, A, add_hand l (Hand.Storing (record { file = id; bs = S.block; store = store_of A.names p; bytes = content A id; at = 0; source = None; broken = false })) H)

-- a mover of this copy, if there is one
abbrev pub shift_by : Setup → State → ℕ → Hands → Label → ℕ → ℕ → Option Copied → Outcome
shift_by S A who H l w t None = (Reply.Idle, A, H)
shift_by S A who H l w t (Some c) =
    let held : Hold = record { worker = w; start = (worker A w).start; number = c.number } in (
      Reply.Done,
      take_room (placed S A w (Some t) c.len) w c.len (retake who l true (Some held) A),
      add_hand l (Hand.Moving (record { held = held; tier = t; room = (worker A w).next; len = c.len; copied = 0; broken = false })) H,
    )

-- Shift
abbrev pub shift_outcome : Setup → State → ℕ → Hands → Label → ℕ → Path → ℕ → ℕ → Outcome
shift_outcome S A who H l w p i t = shift_by S A who H l w t (copy_of (worker A w) (id_at A p) i)

-- ---- the sources of a block, in order, each with the copy that it holds

-- a source, and the copy that it holds
abbrev pub Candidate : Type 0
Candidate = Source × Option Hold

-- a live copy as a source
abbrev pub at_worker : State → ℕ × Copied → Candidate
at_worker A c = (Source.AtWorker c.0 c.1.tier, Some (record { worker = c.0; start = (worker A c.0).start; number = c.1.number }))

-- the store as a source: of a stored file that no lock covers
abbrev pub store_source : State → ℕ → List Candidate
store_source A id = elim (file_of A.names id) [
  | None ↦ []
  | Some f ↦ cond (stored_is_yes f.stored) (elim (path_of A.names id) [
    | None ↦ []
    | Some p ↦ cond (is_none (covers A.names p)) (elim (key_of A.names p) [ None ↦ [] | Some k ↦ (Source.AtStore k.0, None) ∷ [] ]) []
  ]) []
]

-- the live copy at the own worker, live copies by rising worker, the store
abbrev pub sources : State → ℕ → ℕ → ℕ → List Candidate
sources A own id i =
    let live = live_copies A id i in
    map (at_worker A) (filter (λ c. nat_eq c.0 own) live) ++ (map (at_worker A) (filter (λ c. not (nat_eq c.0 own)) live) ++ store_source A id)

-- the reply that names a source
abbrev pub from_reply : Source → Reply
from_reply (Source.AtWorker w t) = Reply.FromWorker w t
from_reply (Source.AtStore s) = Reply.FromStore s

-- ---- Settle

-- where the block of a position ends
abbrev pub block_end : ℕ → ℕ → ℕ → ℕ
block_end bs len i = min len ((i + 1) * bs)

-- the block passed whole and unspoiled, the worker runs as it did, the master is up and the file has a node
abbrev pub is_ready : Setup → State → Stream → Cache → Bool
is_ready S A s c =
    nat_eq s.at (block_end s.bs (length s.bytes) c.block) && not c.spoiled && runs_since A c.room.worker c.room.start && A.master.up && is_some (file_of A.names s.file)

-- the copy to be promoted is there, and nobody else holds it
abbrev pub promotes : State → Cache → Bool
promotes A c = elim c.promoted [ None ↦ false | Some n ↦ is_some (copy_numbered (worker A c.room.worker) n) && nat_le (holders A c.room.worker n) 1 ]

-- the flags of a promoted copy, by the names as they are
abbrev pub flags_now : Names → Copied → Copied
flags_now N c = record c { keep = elim (file_of N c.file) [ None ↦ false | Some f ↦ not (stored_is_yes f.stored) ]; pin = elim (file_of N c.file) [ None ↦ false | Some f ↦ f.pinned ]; free = false }

-- the cache becomes a copy, in the place of the promoted one where there is one
abbrev pub cache_copied : Setup → State → Stream → Cache → Worker → Worker
cache_copied S A s c W = cond (promotes A c)
    (replace_copy (unwrap_or c.promoted 0) c.room.number (flags_now A.names) W)
    (commit A.names c.room.number s.file c.block (block_len (length s.bytes) c.block s.bs) W)

-- a commit that failed: the room is freed, and its number joins litter
abbrev pub room_to_litter : ℕ → Worker → Worker
room_to_litter n W = record (without_room n W) { litter = W.litter ++ n ∷ [] }

-- no copy of the block is there, or the promoted one that nobody else holds
abbrev pub fits : State → Stream → Cache → Worker → Bool
fits A s c W = is_none (copy_of W s.file c.block) || promotes A c

-- a cache at its worker is settled
abbrev pub settle_cache : Setup → Choices → State → Stream → Cache → Worker → Worker
settle_cache S k A s c W = cond (is_ready S A s c && fits A s c W)
    (cond k.settles (cache_copied S A s c W) (room_to_litter c.room.number W))
    (cond (runs_since A c.room.worker c.room.start) (without_room c.room.number W) W)

-- the workers once a stream's cache, if it has one, is settled
abbrev pub settle_workers : Setup → Choices → State → Stream → Option Cache → List Worker → List Worker
settle_workers S k A s None ws = ws
settle_workers S k A s (Some c) ws = update_at (pred c.room.worker) no_worker (settle_cache S k A s c) ws

-- the state once a stream is settled, but for its hold
abbrev pub settled : Setup → Choices → State → Stream → State
settled S k A s = record A { workers = settle_workers S k A s s.cache A.workers }

-- the stream without what a settling takes from it
abbrev pub bare : Stream → Stream
bare s = record s { source = None; cache = None }

-- ---- Next

-- the copy that is held, if one is, becomes the one used last
abbrev pub use_in : Option Hold → List Worker → List Worker
use_in None ws = ws
use_in (Some h) ws = update_at (pred h.worker) no_worker (λ W. record W { copies = used h.number W.copies }) ws

-- the same of a state
abbrev pub use_hold : Option Hold → State → State
use_hold o A = record A { workers = use_in o A.workers }

-- the source is the worker's own copy, at a tier other than 0
abbrev pub own_copy_below : ℕ → Source → Bool
own_copy_below w (Source.AtWorker v t) = nat_eq v w && nat_lt 0 t
own_copy_below w (Source.AtStore s) = false

-- the read type that promotes
abbrev pub is_promoting : ReadType → Bool
is_promoting ReadType.Cache = false
is_promoting ReadType.CachePromote = true
is_promoting ReadType.NoCache = false

-- the read types that cache
abbrev pub may_cache : ReadType → Bool
may_cache ReadType.Cache = true
may_cache ReadType.CachePromote = true
may_cache ReadType.NoCache = false

-- the object number of a held copy
abbrev pub held_number : Option Hold → Option ℕ
held_number o = option_map (λ h. h.number) o

-- where a stream may cache a block: at any tier, or at tier 0 in place of the copy that it reads; else nowhere
pub data Caching : Type 0 where
  Nowhere : Caching
  Anywhere : Caching
  Promoting : Option ℕ → Caching

-- a stream may cache a block from its start on, at its own live worker
abbrev pub caching : Setup → Choices → State → Stream → Candidate → Caching
caching S k A s c = cond (k.caches && may_cache s.kind && is_live A s.worker && nat_eq (s.at % s.bs) 0)
    (cond (is_none (copy_of (worker A s.worker) s.file (s.at / s.bs))) Caching.Anywhere
    (cond (is_promoting s.kind && own_copy_below s.worker c.0) (Caching.Promoting (held_number c.1)) Caching.Nowhere))
    Caching.Nowhere

-- where the block would be cached, and which copies would go
abbrev pub cache_place : Setup → State → Stream → Caching → Option (ℕ × List ℕ)
cache_place S A s Caching.Nowhere = None
cache_place S A s Caching.Anywhere = placed S A s.worker None (block_len (length s.bytes) (s.at / s.bs) s.bs)
cache_place S A s (Caching.Promoting o) = placed S A s.worker (Some 0) (block_len (length s.bytes) (s.at / s.bs) s.bs)

-- the copy that a cache promotes
abbrev pub promoted_by : Caching → Option ℕ
promoted_by Caching.Nowhere = None
promoted_by Caching.Anywhere = None
promoted_by (Caching.Promoting o) = o

-- the place, if there is one and the worker has a number left
abbrev pub cache_room : Setup → Choices → State → Stream → Candidate → Option (ℕ × List ℕ)
cache_room S k A s c = cond (nat_lt (worker A s.worker).next (2 ^ 63)) (cache_place S A s (caching S k A s c)) None

-- the cache in this place, if there is one
abbrev pub new_cache : Setup → State → Stream → Option ℕ → Option (ℕ × List ℕ) → Option Cache
new_cache S A s promoted None = None
new_cache S A s promoted (Some p) = Some (record { room = record { worker = s.worker; start = (worker A s.worker).start; number = (worker A s.worker).next }; block = s.at / s.bs; promoted = promoted; spoiled = false })

-- the body once the source is used, the stream settled and the hold changed
abbrev pub moved_on : Setup → Choices → State → ℕ → Label → Stream → Candidate → State
moved_on S k A who l s c = retake who l false c.1 (settled S k (use_hold c.1 A) s)

-- the stream takes this source
abbrev pub next_from : Setup → Choices → State → ℕ → Hands → Label → Stream → Candidate → Outcome
next_from S k A who H l s c =
    let B = moved_on S k A who l s c in
    let place = cache_room S k B s c in (
      from_reply c.0,
      take_room place s.worker (block_len (length s.bytes) (s.at / s.bs) s.bs) B,
      set_hand l (Hand.Reading (record s { source = Some c.0; cache = new_cache S B s (promoted_by (caching S k B s c)) place })) H,
    )

-- the stream takes the first of these sources
abbrev pub next_among : Setup → Choices → State → ℕ → Hands → Label → Stream → List Candidate → Outcome
next_among S k A who H l s [] = (Reply.End, A, H)
next_among S k A who H l s (c ∷ cs) = next_from S k A who H l s c

-- with a source Next repeats its reply; else it takes one
abbrev pub next_within : Setup → Choices → State → ℕ → Hands → Label → Stream → Option Source → Outcome
next_within S k A who H l s (Some src) = (from_reply src, A, H)
next_within S k A who H l s None = next_among S k A who H l s (drop k.passed (sources A s.worker s.file (s.at / s.bs)))

-- at the file's end the stream is settled; before it Next takes a source
abbrev pub next_at_end : Bool → Setup → Choices → State → ℕ → Hands → Label → Stream → Outcome
next_at_end true S k A who H l s = (Reply.End, release who l (settled S k A s), set_hand l (Hand.Reading (bare s)) H)
next_at_end false S k A who H l s = next_within S k A who H l s s.source

-- the job takes this source
abbrev pub job_from : State → ℕ → Hands → Label → JobHand → Candidate → Outcome
job_from A who H l j c = (from_reply c.0, retake who l false c.1 (use_hold c.1 A), set_hand l (Hand.Storing (record j { source = Some c.0 })) H)

-- the job takes the first of these sources
abbrev pub job_among : State → ℕ → Hands → Label → JobHand → List Candidate → Outcome
job_among A who H l j [] = (Reply.End, A, H)
job_among A who H l j (c ∷ cs) = job_from A who H l j c

-- with a source Next repeats its reply; else the job takes one
abbrev pub job_within : Setup → Choices → State → ℕ → Hands → Label → JobHand → Option Source → Outcome
job_within S k A who H l j (Some src) = (from_reply src, A, H)
job_within S k A who H l j None = job_among A who H l j (drop k.passed (sources A 0 j.file (j.at / j.bs)))

-- at the file's end a job has nothing to do
abbrev pub job_at_end : Bool → Setup → Choices → State → ℕ → Hands → Label → JobHand → Outcome
job_at_end true S k A who H l j = (Reply.End, A, H)
job_at_end false S k A who H l j = job_within S k A who H l j j.source

-- Next by what the label has
abbrev pub next_by : Setup → Choices → State → ℕ → Hands → Label → Option Hand → Outcome
next_by S k A who H l None = (Reply.End, A, H)
next_by S k A who H l (Some (Hand.Reading s)) = next_at_end (nat_le (length s.bytes) s.at) S k A who H l s
next_by S k A who H l (Some (Hand.Writing w)) = (Reply.End, A, H)
next_by S k A who H l (Some (Hand.Moving m)) = (Reply.End, A, H)
next_by S k A who H l (Some (Hand.Storing j)) = job_at_end (nat_le (length j.bytes) j.at) S k A who H l j

-- Next
abbrev pub next_outcome : Setup → Choices → State → ℕ → Hands → Label → Outcome
next_outcome S k A who H l = next_by S k A who H l (unbroken_at H l)

-- ---- Poll and Copy, for a number of bytes that the machine chooses

-- a source ends with its block
abbrev pub source_after : ℕ → ℕ → ℕ → ℕ → Option Source → Option Source
source_after bs len at n src = cond (nat_eq (at + n) (block_end bs len (at / bs))) None src

-- the cache is spoiled
abbrev pub spoil : Cache → Cache
spoil c = record c { spoiled = true }

-- the cache, if there is one, is spoiled where it is chosen so
abbrev pub spoil_if : Bool → Option Cache → Option Cache
spoil_if b o = cond b (option_map spoil o) o

-- a poll that gives bytes
abbrev pub polled : Setup → Choices → Hands → Label → Stream → OwnOutcome
polled S k H l s = (
  Reply.Given (take k.amount (drop s.at s.bytes)),
  set_hand l (Hand.Reading (record s {
    at = s.at + k.amount;
    source = source_after s.bs (length s.bytes) s.at k.amount s.source;
    cache = spoil_if k.spoils s.cache;
  })) H,
)

-- the most bytes that may come
abbrev pub most : ℕ → ℕ → ℕ → ℕ → ℕ
most bs len at max = min max (block_end bs len (at / bs) - at)

-- at the end, without a source, or with bytes
abbrev pub poll_of : Setup → Choices → Hands → Label → Stream → OwnOutcome
poll_of S k H l s = cond (nat_le (length s.bytes) s.at) (Reply.End, H)
    (cond (is_none s.source) (Reply.NeedsBlock (s.at / s.bs), H) (polled S k H l s))

-- a job copies so many bytes
abbrev pub copied_job : Setup → Hands → Label → JobHand → ℕ → OwnOutcome
copied_job S H l j n = (Reply.Copied n, set_hand l (Hand.Storing (record j { at = j.at + n; source = source_after j.bs (length j.bytes) j.at n j.source })) H)

-- a mover copies so many bytes
abbrev pub copied_mover : Hands → Label → Mover → ℕ → OwnOutcome
copied_mover H l m n = (Reply.Copied n, set_hand l (Hand.Moving (record m { copied = m.copied + n })) H)

-- Copy by what the label has
abbrev pub copy_by : Setup → Hands → Label → ℕ → Option Hand → OwnOutcome
copy_by S H l n None = (Reply.End, H)
copy_by S H l n (Some (Hand.Reading s)) = (Reply.End, H)
copy_by S H l n (Some (Hand.Writing w)) = (Reply.End, H)
copy_by S H l n (Some (Hand.Moving m)) = cond (nat_le m.len m.copied) (Reply.End, H) (copied_mover H l m n)
copy_by S H l n (Some (Hand.Storing j)) = cond (nat_le (length j.bytes) j.at) (Reply.End, H)
    (cond (is_none j.source) (Reply.NeedsBlock (j.at / j.bs), H) (copied_job S H l j n))

-- the most that a copy may take
abbrev pub most_copied : Setup → Hand → ℕ
most_copied S (Hand.Reading s) = 0
most_copied S (Hand.Writing w) = 0
most_copied S (Hand.Moving m) = min 65536 (m.len - m.copied)
most_copied S (Hand.Storing j) = most j.bs (length j.bytes) j.at 65536

-- Poll for the stream of a label, if there is one
abbrev pub poll_by : Setup → Choices → Hands → Label → Option Stream → OwnOutcome
poll_by S k H l None = (Reply.End, H)
poll_by S k H l (Some s) = poll_of S k H l s

-- Poll
abbrev pub poll_outcome : Setup → Choices → Hands → Label → OwnOutcome
poll_outcome S k H l = poll_by S k H l (stream_at H l)

-- Copy
abbrev pub copy_outcome : Setup → Choices → Hands → Label → OwnOutcome
copy_outcome S k H l = copy_by S H l k.amount (unbroken_at H l)

-- ---- Close

-- the room of an open block, if it has one, is freed
abbrev pub free_open : State → Writer → Option OpenBlock → Worker → Worker
free_open A w None W = W
free_open A w (Some b) W = elim b.room [ None ↦ W | Some n ↦ cond (runs_since A w.worker w.start) (without_room n W) W ]

-- the state in which the writer's room is freed
abbrev pub free_block_room : State → Writer → State
free_block_room A w = change_worker w.worker (free_open A w w.block) A

-- what a label holds and reserves is given back
abbrev pub close_of : Setup → Choices → State → Hand → State
close_of S k A (Hand.Reading s) = settled S k A s
close_of S k A (Hand.Writing w) = free_block_room A w
close_of S k A (Hand.Moving m) = free_room (record { worker = m.held.worker; start = m.held.start; number = m.room }) A
close_of S k A (Hand.Storing j) = A

-- the same for a label, if there is one
abbrev pub close_by : Setup → Choices → State → ℕ → Label → Option Hand → State
close_by S k A who l None = A
close_by S k A who l (Some h) = release who l (close_of S k A h)

-- Close
abbrev pub close_outcome : Setup → Choices → State → ℕ → Hands → Label → Outcome
close_outcome S k A who H l = (Reply.Done, close_by S k A who l (hand_at H l), end_hand l H)
