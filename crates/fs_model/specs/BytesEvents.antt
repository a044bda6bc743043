-- The events on bytes: the table of refusals of each.
use Rattle.std.specs.Prelude.{ℕ, ◌/◌, Bool, true, false, cond, not, ◌&&◌, ◌||◌, [], ◌∷◌, length, nat_eq, nat_lt, nat_le, Option, Some, None, is_none, option_map, option_and_then}
use Rattle.fs_model.specs.declared.path.Path.{Path}
use Rattle.fs_model.specs.declared.label.Label.{Label}
use Rattle.fs_model.specs.declared.setup.Setup.{Setup}
use Rattle.fs_model.specs.declared.change.Change.{Change}
use Rattle.fs_model.specs.declared.event.WriteType.{WriteType}
use Rattle.fs_model.specs.declared.reply.Stored.{Stored}
use Rattle.fs_model.specs.declared.reply.Reply.{Reply}
use Rattle.fs_model.specs.declared.reply.Refusal.TheVariants.{NotFound, IsDirectory, Incomplete, Busy, Unavailable, SafeMode, NoRoom, NoWorker, BadLabel, Held}
use Rattle.fs_model.specs.declared.reply.Which.{Which}
use Rattle.fs_model.specs.Words.{first, block_count, ◌when◌}
use Rattle.fs_model.specs.State.{State, Copied, OpenBlock, Source, Stream, Writer, Mover, JobHand, Hand, Hands}
use Rattle.fs_model.specs.Lookups.{file_block, Touch, file_of, path_of, hand_at, worker, is_live, runs_since, copy_of, lacking, awaited, covers, holders, is_moved, no_room_for, tiers_of, stored_is_wanted, stored_is_yes}
use Rattle.fs_model.specs.Tests.{refuse, stopped, touch, along, label_taken, not_configured, not_configured_if_any, not_live, past, past_labels, past_plans, past_ids, past_area, ◌only_if◌}
use Rattle.fs_model.specs.NamesEvents.{is_dir_at, unfinished_at, file_is, id_at}

-- ---- the label's hand, where it has that kind and isn't broken

-- the refusal of a label that is missing, broken, or of another kind
abbrev pub bad_label : Option Reply
bad_label = Some (Reply.Refused BadLabel)

-- the writer that a label has, where it is unbroken
abbrev pub unbroken_writer : Hand → Option Writer
unbroken_writer (Hand.Reading s) = None
unbroken_writer (Hand.Writing w) = cond w.broken None (Some w)
unbroken_writer (Hand.Moving m) = None
unbroken_writer (Hand.Storing j) = None

-- the unbroken writer under a label
abbrev pub writer_at : Hands → Label → Option Writer
writer_at H l = option_and_then unbroken_writer (hand_at H l)

-- the stream that a label has
abbrev pub a_stream : Hand → Option Stream
a_stream (Hand.Reading s) = Some s
a_stream (Hand.Writing w) = None
a_stream (Hand.Moving m) = None
a_stream (Hand.Storing j) = None

-- the stream under a label
abbrev pub stream_at : Hands → Label → Option Stream
stream_at H l = option_and_then a_stream (hand_at H l)

-- what a label has, where it is unbroken; streams never break
abbrev pub unbroken : Hand → Option Hand
unbroken (Hand.Reading s) = Some (Hand.Reading s)
unbroken (Hand.Writing w) = cond w.broken None (Some (Hand.Writing w))
unbroken (Hand.Moving m) = cond m.broken None (Some (Hand.Moving m))
unbroken (Hand.Storing j) = cond j.broken None (Some (Hand.Storing j))

-- what is under a label, where it is unbroken
abbrev pub unbroken_at : Hands → Label → Option Hand
unbroken_at H l = option_and_then unbroken (hand_at H l)

-- the label's file has no node any more
abbrev pub no_node_of : State → ℕ → Option Reply
no_node_of A id = refuse NotFound (is_none (file_of A.names id))

-- ---- writers

-- no block is open, or the open one is full
abbrev pub block_wanted : ℕ → Option OpenBlock → Bool
block_wanted bs None = true
block_wanted bs (Some b) = nat_le bs b.len

-- the write types that need their worker
abbrev pub is_cached : WriteType → Bool
is_cached WriteType.MustCache = true
is_cached WriteType.CacheThrough = false
is_cached WriteType.Through = false
is_cached WriteType.AsyncThrough = true

-- what stored becomes when a file of this write type is finished
abbrev pub stored_by : WriteType → Stored
stored_by WriteType.MustCache = Stored.No
stored_by WriteType.CacheThrough = Stored.Yes
stored_by WriteType.Through = Stored.Yes
stored_by WriteType.AsyncThrough = Stored.Wanted

-- the writer's worker is live and wasn't started anew since
abbrev pub writer_stands : State → Writer → Bool
writer_stands A w = is_live A w.worker && nat_eq (worker A w.worker).start w.start

-- the tests of Room for a writer
abbrev pub room_refusal_of : Setup → State → Writer → Option Reply
room_refusal_of S A w =
    let wanted = block_wanted w.bs w.block in
    first (
    stopped A
    ∷ no_node_of A w.file
    ∷ (past Which.Blocks (nat_le 65536 (block_count (length w.taken) w.bs)) only_if wanted)
    ∷ (past_ids (worker A w.worker).next only_if (wanted && is_cached w.kind))
    ∷ refuse (NoWorker w.worker) (is_cached w.kind && not (writer_stands A w))
    ∷ refuse (NoRoom w.worker) (wanted && is_cached w.kind && no_room_for S A w.worker None w.bs)
    ∷ [])

-- the tests of Room
abbrev pub room_refusal : Setup → State → Hands → Label → Option Reply
room_refusal S A H l = elim (writer_at H l) [ None ↦ bad_label | Some w ↦ room_refusal_of S A w ]

-- Put wants an unbroken writer, and nothing else
abbrev pub put_refusal : Hands → Label → Option Reply
put_refusal H l = elim (writer_at H l) [ None ↦ bad_label | Some w ↦ None ]

-- ---- Finish

-- the plan that finishing makes: none, or for a stored file the next one
abbrev pub plan_of_stored : State → Stored → ℕ
plan_of_stored A Stored.No = 0
plan_of_stored A Stored.Wanted = 0
plan_of_stored A Stored.Yes = A.names.next_plan

-- the change of finishing a writer
abbrev pub writer_change : State → Writer → Change
writer_change A w = Change.Done w.file (length w.taken) (stored_by w.kind) (plan_of_stored A (stored_by w.kind))

-- the change of finishing a job
abbrev pub job_change : State → JobHand → Change
job_change A j = Change.Persisted j.file A.names.next_plan

-- a lock is in the way of the file's path
abbrev pub touch_of_file : State → ℕ → Option Reply
touch_of_file A id = option_and_then (λ p. touch A p Touch.Inside) (path_of A.names id)

-- the tests of finishing a writer
abbrev pub finish_writer_refusal : Setup → State → Writer → Option Reply
finish_writer_refusal S A w =
    let publishes = stored_is_yes (stored_by w.kind) in
    first (
    stopped A
    ∷ no_node_of A w.file
    ∷ touch_of_file A w.file
    ∷ (past_plans A only_if publishes)
    ∷ (past_ids A.names.next_plan only_if publishes)
    ∷ past_area S A (Some (writer_change A w))
    ∷ refuse (NoWorker w.worker) (is_cached w.kind && not (writer_stands A w))
    ∷ [])

-- the tests of finishing a mover
abbrev pub finish_mover_refusal : State → Mover → Option Reply
finish_mover_refusal A m = first (
    refuse Incomplete (nat_lt m.copied m.len)
    ∷ refuse (NoWorker m.held.worker) (not (runs_since A m.held.worker m.held.start))
    ∷ refuse (Held m.held.worker) (nat_lt 1 (holders A m.held.worker m.held.number))
    ∷ [])

-- the file is to be persisted
abbrev pub is_wanted : State → ℕ → Bool
is_wanted A id = elim (file_of A.names id) [ None ↦ false | Some f ↦ stored_is_wanted f.stored ]

-- the tests of finishing a job; idle comes before Incomplete
abbrev pub finish_job_refusal : Setup → State → JobHand → Option Reply
finish_job_refusal S A j = first (
    stopped A
    ∷ no_node_of A j.file
    ∷ touch_of_file A j.file
    ∷ (Reply.Idle when not (is_wanted A j.file))
    ∷ refuse Incomplete (nat_lt j.at (length j.bytes))
    ∷ past_plans A
    ∷ past_ids A.names.next_plan
    ∷ past_area S A (Some (job_change A j))
    ∷ [])

-- the tests of Finish by what the label has
abbrev pub finish_refusal_of : Setup → State → Hand → Option Reply
finish_refusal_of S A (Hand.Reading s) = bad_label
finish_refusal_of S A (Hand.Writing w) = finish_writer_refusal S A w
finish_refusal_of S A (Hand.Moving m) = finish_mover_refusal A m
finish_refusal_of S A (Hand.Storing j) = finish_job_refusal S A j

-- the tests of Finish
abbrev pub finish_refusal : Setup → State → Hands → Label → Option Reply
finish_refusal S A H l = elim (unbroken_at H l) [ None ↦ bad_label | Some h ↦ finish_refusal_of S A h ]

-- ---- labels that are made at a path

-- the file at the path has more blocks than one may have
abbrev pub past_blocks : Setup → State → Path → Option Reply
past_blocks S A p = past Which.Blocks (file_is (λ f. nat_lt 65536 (block_count f.len (file_block S f))) A p)

-- the tests of OpenFile
abbrev pub open_refusal : Setup → State → Hands → Label → Path → ℕ → Option Reply
open_refusal S A H l p w = first (
    label_taken H l
    ∷ stopped A
    ∷ touch A p Touch.Inside
    ∷ along A p
    ∷ refuse IsDirectory (is_dir_at A p)
    ∷ refuse Incomplete (unfinished_at A p)
    ∷ not_configured_if_any S w
    ∷ past_labels H
    ∷ past_blocks S A p
    ∷ [])

-- the tests of Job
abbrev pub job_refusal : Setup → State → Hands → Label → Path → Option Reply
job_refusal S A H l p = first (
    label_taken H l
    ∷ stopped A
    ∷ touch A p Touch.Inside
    ∷ along A p
    ∷ refuse IsDirectory (is_dir_at A p)
    ∷ refuse Incomplete (unfinished_at A p)
    ∷ (Reply.Idle when file_is (λ f. not (stored_is_wanted f.stored)) A p)
    ∷ past_labels H
    ∷ past_blocks S A p
    ∷ [])

-- the worker has no such copy, or it is at that tier, or another mover holds it
abbrev pub nothing_to_move : State → ℕ → ℕ → Option Copied → Bool
nothing_to_move A w t None = true
nothing_to_move A w t (Some c) = nat_eq c.tier t || is_moved A w c.number

-- the bytes that a mover would move
abbrev pub shifted_len : Option Copied → ℕ
shifted_len None = 0
shifted_len (Some c) = c.len

-- the tests of Shift
abbrev pub shift_refusal : Setup → State → Hands → Label → ℕ → Path → ℕ → ℕ → Option Reply
shift_refusal S A H l w p i t =
    let c = copy_of (worker A w) (id_at A p) i in
    first (
    label_taken H l
    ∷ stopped A
    ∷ touch A p Touch.Inside
    ∷ along A p
    ∷ refuse IsDirectory (is_dir_at A p)
    ∷ refuse Incomplete (unfinished_at A p)
    ∷ not_configured S w
    ∷ past_labels H
    ∷ past_blocks S A p
    ∷ past Which.Tier (nat_le (tiers_of S w) t)
    ∷ past_ids (worker A w).next
    ∷ not_live A w
    ∷ (Reply.Idle when nothing_to_move A w t c)
    ∷ refuse (NoRoom w) (no_room_for S A w (Some t) (shifted_len c))
    ∷ [])

-- ---- Next

-- no live copy, stored Yes, and a lock covers the path
abbrev pub covered : State → ℕ → Bool → Option Reply
covered A id stored = option_map (λ n. Reply.Refused (Busy n)) (cond stored (option_and_then (covers A.names) (path_of A.names id)) None)

-- no live copy of the block: a lock covers a stored file, a worker is awaited, or the block is unavailable
abbrev pub next_refusal_at : State → ℕ → ℕ → Option Reply
next_refusal_at A id i =
    let stored = elim (file_of A.names id) as (λ o. Bool) [ None ↦ false | Some f ↦ stored_is_yes f.stored ] in
    first (
    covered A id stored
    ∷ (option_map (λ w. Reply.Refused (SafeMode w)) (awaited A) only_if not stored)
    ∷ refuse (Unavailable i) (not stored)
    ∷ []) only_if lacking A id i

-- the tests of Next for a label at a position
abbrev pub next_refusal_of : State → ℕ → ℕ → ℕ → ℕ → Option Source → Option Reply
next_refusal_of A id bs at len source = first (
    stopped A
    ∷ no_node_of A id
    ∷ (next_refusal_at A id (at / bs) only_if (nat_lt at len && is_none source))
    ∷ [])

-- the tests of Next by what the label has
abbrev pub next_refusal_in : Setup → State → Hand → Option Reply
next_refusal_in S A (Hand.Reading s) = next_refusal_of A s.file s.bs s.at (length s.bytes) s.source
next_refusal_in S A (Hand.Writing w) = bad_label
next_refusal_in S A (Hand.Moving m) = bad_label
next_refusal_in S A (Hand.Storing j) = next_refusal_of A j.file j.bs j.at (length j.bytes) j.source

-- the tests of Next
abbrev pub next_refusal : Setup → State → Hands → Label → Option Reply
next_refusal S A H l = elim (unbroken_at H l) [ None ↦ bad_label | Some h ↦ next_refusal_in S A h ]

-- ---- Poll, Copy, Close

-- Poll wants a stream, and nothing else
abbrev pub poll_refusal : Hands → Label → Option Reply
poll_refusal H l = elim (stream_at H l) [ None ↦ bad_label | Some s ↦ None ]

-- movers and jobs copy
abbrev pub copies_bytes : Hand → Bool
copies_bytes (Hand.Reading s) = false
copies_bytes (Hand.Writing w) = false
copies_bytes (Hand.Moving m) = true
copies_bytes (Hand.Storing j) = true

-- Copy wants an unbroken mover or job, and nothing else
abbrev pub copy_refusal : Hands → Label → Option Reply
copy_refusal H l = elim (unbroken_at H l) [ None ↦ bad_label | Some h ↦ Reply.Refused BadLabel when not (copies_bytes h) ]

-- Close wants any label, a broken one too
abbrev pub close_refusal : Hands → Label → Option Reply
close_refusal H l = refuse BadLabel (is_none (hand_at H l))
