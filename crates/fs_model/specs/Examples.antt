-- Worked examples: the replies to short scripts, computed from the definitions.
use Rattle.std.specs.Prelude.{◌≡◌, refl, ℕ, zero, suc, ◌+◌, ◌-◌, ◌^◌, Bool, true, false, None, Some, List, [], ◌∷◌, ◌++◌, map, replicate, codes}
use Rattle.fs_model.specs.declared.setup.Setup.{Setup}
use Rattle.fs_model.specs.declared.path.Path.{Path}
use Rattle.fs_model.specs.declared.label.Label.{Label}
use Rattle.fs_model.specs.declared.event.Event.{Event}
use Rattle.fs_model.specs.declared.event.Fill.{Fill}
use Rattle.fs_model.specs.declared.event.WriteType.{WriteType}
use Rattle.fs_model.specs.declared.event.ReadType.{ReadType}
use Rattle.fs_model.specs.declared.reply.Reply.{Reply}
use Rattle.fs_model.specs.declared.reply.Refusal.{Refusal}
use Rattle.fs_model.specs.declared.reply.FileState.{FileState}
use Rattle.fs_model.specs.declared.reply.Which.{Which}
use Rattle.fs_model.specs.declared.name.Name.{Name}
use Rattle.fs_model.specs.Words.{number_text}
use Rattle.fs_model.specs.Choices.{fault_free}
use Rattle.fs_model.specs.Lookups.{children}
use Rattle.fs_model.specs.Journaling.{doubt_of}
use Rattle.fs_model.specs.Faults.{Remains, BlockFate, Rise, after_fault, may_fail}
use Rattle.fs_model.specs.Step.{Step, stopped_with}
use Rattle.fs_model.specs.State.{Whole, State, Node, NodeRow, Hand, LabelRow, Hands}
use Rattle.fs_model.specs.Updates.{change_worker}
use Rattle.fs_model.specs.Opening.{fresh}
use Rattle.fs_model.specs.Mirror.{settled_objects, bytes_at, Side}
use Rattle.fs_model.specs.NodesEvents.{Object, restart_outcome}
use Rattle.fs_model.specs.Machine.{replies, final, refusal, hands_of}

-- two workers with small tiers, two stores, and blocks of 4
abbrev pub two_workers : Setup
two_workers = record { block = 4; patience = 3; area = 1073741824; root = []; stores = 2; tiers = (8 ∷ 8 ∷ []) ∷ (8 ∷ []) ∷ [] }

-- events, each with its actor
abbrev pub Script : Type 0
Script = List (ℕ × Event)

-- every event of the list by actor 1
abbrev pub one : List Event → Script
one es = map (λ e. (1, e)) es

-- what `up` does
abbrev pub up : ℕ → Script
up w = one (Event.Start w ∷ Event.Register w ∷ [])

-- so many blocks of the generator, each with its room
abbrev pub pieces : Label → ℕ → ℕ → ℕ → List Event
pieces l num at zero = []
pieces l num at (suc k) = Event.Room l ∷ Event.Put l (Fill.Made num at 4) ∷ pieces l num (at + 4) k

-- a file of so many whole blocks
abbrev pub copyin : Label → Path → WriteType → ℕ → ℕ → ℕ → Script
copyin l p kind w num blocks = one (Event.Create l p kind w ∷ (pieces l num 0 blocks ++ Event.Finish l ∷ []))

-- what the script answers after another one
abbrev pub told_after : Setup → Script → Script → List Reply
told_after S before script = replies S (final S (fresh S) before) script

-- nothing happened before
abbrev pub no_events : Script
no_events = []

names_are_made_and_shown : told_after two_workers no_events (one (
    Event.Mkdir (codes "a" ∷ [])
    ∷ Event.Mkdir (codes "a" ∷ [])
    ∷ Event.Mkdir (codes "x" ∷ codes "y" ∷ [])
    ∷ Event.List []
    ∷ Event.Stat (codes "a" ∷ [])
    ∷ [])) ≡
    Reply.Done
    ∷ Reply.Refused Refusal.Exists
    ∷ Reply.Refused Refusal.NotFound
    ∷ Reply.Names (codes "a" ∷ [])
    ∷ Reply.StatDir
    ∷ []
names_are_made_and_shown = refl

-- an empty file
an_empty_file_ends_at_once : told_after two_workers (up 1) (one (
    Event.Create (codes "f") (codes "e" ∷ []) WriteType.MustCache 1
    ∷ Event.Finish (codes "f")
    ∷ Event.OpenFile (codes "r") (codes "e" ∷ []) ReadType.NoCache 0
    ∷ Event.Poll (codes "r") 10
    ∷ Event.Close (codes "r")
    ∷ Event.Stat (codes "e" ∷ [])
    ∷ [])) ≡
    Reply.Done
    ∷ Reply.Done
    ∷ Reply.Opened 0
    ∷ Reply.End
    ∷ Reply.Done
    ∷ Reply.StatFile 1 0 FileState.NotPersisted false
    ∷ []
an_empty_file_ends_at_once = refl

-- two blocks, read back
two_blocks_are_read_back : told_after two_workers (up 1 ++ copyin (codes "f") (codes "t" ∷ []) WriteType.MustCache 1 0 2) (one (
    Event.OpenFile (codes "r") (codes "t" ∷ []) ReadType.NoCache 0
    ∷ Event.Poll (codes "r") 65536
    ∷ Event.Next (codes "r")
    ∷ Event.Poll (codes "r") 65536
    ∷ Event.Poll (codes "r") 65536
    ∷ Event.Next (codes "r")
    ∷ Event.Poll (codes "r") 65536
    ∷ Event.Poll (codes "r") 65536
    ∷ Event.Close (codes "r")
    ∷ [])) ≡
    Reply.Opened 8
    ∷ Reply.NeedsBlock 0
    ∷ Reply.FromWorker 1 0
    ∷ Reply.Given (0 ∷ 1 ∷ 2 ∷ 3 ∷ [])
    ∷ Reply.NeedsBlock 1
    ∷ Reply.FromWorker 1 0
    ∷ Reply.Given (4 ∷ 5 ∷ 6 ∷ 7 ∷ [])
    ∷ Reply.End
    ∷ Reply.Done
    ∷ []
two_blocks_are_read_back = refl

-- a file that isn't done can't be opened
an_unfinished_file_is_not_opened : told_after two_workers (up 1) (one (
    Event.Create (codes "f") (codes "a" ∷ []) WriteType.MustCache 1
    ∷ Event.OpenFile (codes "r") (codes "a" ∷ []) ReadType.Cache 1
    ∷ Event.Finish (codes "f")
    ∷ Event.OpenFile (codes "r") (codes "a" ∷ []) ReadType.Cache 1
    ∷ Event.Next (codes "r")
    ∷ Event.Put (codes "f") (Fill.Listed (0 ∷ []))
    ∷ [])) ≡
    Reply.Done
    ∷ Reply.Refused Refusal.Incomplete
    ∷ Reply.Done
    ∷ Reply.Opened 0
    ∷ Reply.End
    ∷ Reply.Refused Refusal.BadLabel
    ∷ []
an_unfinished_file_is_not_opened = refl

directories_are_renamed_and_removed : told_after two_workers (one (Event.Mkdir (codes "a" ∷ []) ∷ Event.Mkdir (codes "ab" ∷ []) ∷ [])) (one (
    Event.Rename (codes "a" ∷ []) (codes "a" ∷ codes "b" ∷ [])
    ∷ Event.Rename (codes "a" ∷ []) (codes "a" ∷ [])
    ∷ Event.Remove [] true
    ∷ Event.Remove (codes "a" ∷ []) true
    ∷ Event.List []
    ∷ [])) ≡
    Reply.Refused Refusal.InsideItself
    ∷ Reply.Refused Refusal.Exists
    ∷ Reply.Refused Refusal.IsMount
    ∷ Reply.Done
    ∷ Reply.Names (codes "ab" ∷ [])
    ∷ []
directories_are_renamed_and_removed = refl

-- what `settle` does, event by event: the job of /a, its publishing, a beat, and the sweep
abbrev pub settle_a : Script
settle_a = one (
    Event.Wanted
    ∷ Event.Job (codes "s") (codes "a" ∷ [])
    ∷ Event.Copy (codes "s")
    ∷ Event.Next (codes "s")
    ∷ Event.Copy (codes "s")
    ∷ Event.Copy (codes "s")
    ∷ Event.Finish (codes "s")
    ∷ Event.Plans
    ∷ Event.Pump 1
    ∷ Event.Pump 1
    ∷ Event.Beat 1
    ∷ Event.Beat 2
    ∷ Event.Sweep 0
    ∷ Event.Sweep 1
    ∷ Event.Sweep 2
    ∷ [])

a_persisted_block_makes_room : told_after two_workers (up 2 ++ copyin (codes "a") (codes "a" ∷ []) WriteType.MustCache 2 0 1 ++ copyin (codes "b") (codes "b" ∷ []) WriteType.MustCache 2 1 1) (one (
    Event.Create (codes "c") (codes "c" ∷ []) WriteType.MustCache 2
    ∷ Event.Put (codes "c") (Fill.Listed (170 ∷ []))
    ∷ Event.Room (codes "c")
    ∷ Event.Persist (codes "a" ∷ [])
    ∷ []) ++ settle_a ++ one (
    Event.Room (codes "c")
    ∷ Event.Where (codes "a" ∷ [])
    ∷ Event.Where (codes "b" ∷ [])
    ∷ [])) ≡
    Reply.Done
    ∷ Reply.NeedsRoom
    ∷ Reply.Refused (Refusal.NoRoom 2)
    ∷ Reply.Done
    ∷ Reply.Paths ((codes "a" ∷ []) ∷ [])
    ∷ Reply.Done
    ∷ Reply.NeedsBlock 0
    ∷ Reply.FromWorker 2 0
    ∷ Reply.Copied 4
    ∷ Reply.End
    ∷ Reply.Begun 1
    ∷ Reply.Plans (1 ∷ [])
    ∷ Reply.Stepped
    ∷ Reply.Ended
    ∷ Reply.Refused (Refusal.NoWorker 1)
    ∷ Reply.Done
    ∷ Reply.Ended
    ∷ Reply.Refused (Refusal.NoWorker 1)
    ∷ Reply.Ended
    ∷ Reply.Done
    ∷ Reply.Copies []
    ∷ Reply.Copies (record { block = 0; worker = 2; tier = 0; keep = true; pin = false; free = false } ∷ [])
    ∷ []
a_persisted_block_makes_room = refl

-- a file of one block at worker 1
abbrev pub one_kept_block : Script
one_kept_block = up 1 ++ copyin (codes "f") (codes "a" ∷ []) WriteType.MustCache 1 0 1

-- a reader holds the block while it is moved
abbrev pub a_move_beside_a_reader : Script
a_move_beside_a_reader =
    (1, Event.OpenFile (codes "r") (codes "a" ∷ []) ReadType.NoCache 0)
    ∷ (1, Event.Next (codes "r"))
    ∷ (1, Event.Poll (codes "r") 2)
    ∷ (2, Event.Shift (codes "m") 1 (codes "a" ∷ []) 0 1)
    ∷ (2, Event.Finish (codes "m"))
    ∷ (2, Event.Copy (codes "m"))
    ∷ (2, Event.Copy (codes "m"))
    ∷ (2, Event.Finish (codes "m"))
    ∷ (1, Event.Poll (codes "r") 2)
    ∷ (1, Event.Close (codes "r"))
    ∷ (2, Event.Finish (codes "m"))
    ∷ (1, Event.Where (codes "a" ∷ []))
    ∷ []

a_move_waits_for_the_other_holder : told_after two_workers one_kept_block a_move_beside_a_reader ≡
    Reply.Opened 4
    ∷ Reply.FromWorker 1 0
    ∷ Reply.Given (0 ∷ 1 ∷ [])
    ∷ Reply.Done
    ∷ Reply.Refused Refusal.Incomplete
    ∷ Reply.Copied 4
    ∷ Reply.End
    ∷ Reply.Refused (Refusal.Held 1)
    ∷ Reply.Given (2 ∷ 3 ∷ [])
    ∷ Reply.Done
    ∷ Reply.Done
    ∷ Reply.Copies (record { block = 0; worker = 1; tier = 1; keep = true; pin = false; free = false } ∷ [])
    ∷ []
a_move_waits_for_the_other_holder = refl

-- a stream goes on in the file that it opened, whatever stands at its path later
a_stream_stays_with_its_file : told_after two_workers (up 1 ++ up 2 ++ copyin (codes "f") (codes "a" ∷ []) WriteType.MustCache 1 0 2) ((one (
    Event.OpenFile (codes "r") (codes "a" ∷ []) ReadType.NoCache 0
    ∷ Event.Next (codes "r")
    ∷ Event.Poll (codes "r") 2
    ∷ []) ++ map (λ (e : ℕ × Event). (2, e.1)) (one (Event.Remove (codes "a" ∷ []) false ∷ []) ++ copyin (codes "f") (codes "a" ∷ []) WriteType.MustCache 2 9 2)) ++ one (
    Event.Poll (codes "r") 4
    ∷ Event.Poll (codes "r") 4
    ∷ Event.Next (codes "r")
    ∷ [])) ≡
    Reply.Opened 8
    ∷ Reply.FromWorker 1 0
    ∷ Reply.Given (0 ∷ 1 ∷ [])
    ∷ Reply.Done
    ∷ Reply.Done
    ∷ Reply.Done
    ∷ Reply.Taken 4
    ∷ Reply.Done
    ∷ Reply.Taken 4
    ∷ Reply.Done
    ∷ Reply.Given (2 ∷ 3 ∷ [])
    ∷ Reply.NeedsBlock 1
    ∷ Reply.Refused Refusal.NotFound
    ∷ []
a_stream_stays_with_its_file = refl

-- the moved copy of the example above is promoted by a stream of worker 1
a_moved_block_is_promoted : told_after two_workers (one_kept_block ++ a_move_beside_a_reader) (one (
    Event.OpenFile (codes "r") (codes "a" ∷ []) ReadType.CachePromote 1
    ∷ Event.Poll (codes "r") 65536
    ∷ Event.Next (codes "r")
    ∷ Event.Poll (codes "r") 65536
    ∷ Event.Poll (codes "r") 65536
    ∷ Event.Close (codes "r")
    ∷ Event.Where (codes "a" ∷ [])
    ∷ [])) ≡
    Reply.Opened 4
    ∷ Reply.NeedsBlock 0
    ∷ Reply.FromWorker 1 1
    ∷ Reply.Given (0 ∷ 1 ∷ 2 ∷ 3 ∷ [])
    ∷ Reply.End
    ∷ Reply.Done
    ∷ Reply.Copies (record { block = 0; worker = 1; tier = 0; keep = true; pin = false; free = false } ∷ [])
    ∷ []
a_moved_block_is_promoted = refl

-- a writer that finds no room writes through
a_writer_without_room_writes_through : told_after two_workers (up 2 ++ copyin (codes "a") (codes "a" ∷ []) WriteType.MustCache 2 0 1 ++ copyin (codes "b") (codes "b" ∷ []) WriteType.MustCache 2 1 1) (one (
    Event.Create (codes "c") (codes "c" ∷ []) WriteType.CacheThrough 2
    ∷ Event.Room (codes "c")
    ∷ Event.Put (codes "c") (Fill.Made 3 0 4)
    ∷ Event.Finish (codes "c")
    ∷ Event.Pump 1
    ∷ Event.Pump 1
    ∷ Event.Where (codes "c" ∷ [])
    ∷ Event.OpenFile (codes "r") (codes "c" ∷ []) ReadType.NoCache 0
    ∷ Event.Next (codes "r")
    ∷ Event.Poll (codes "r") 65536
    ∷ [])) ≡
    Reply.Done
    ∷ Reply.Done
    ∷ Reply.Taken 4
    ∷ Reply.Begun 1
    ∷ Reply.Stepped
    ∷ Reply.Ended
    ∷ Reply.Copies []
    ∷ Reply.Opened 4
    ∷ Reply.FromStore 1
    ∷ Reply.Given (3 ∷ 4 ∷ 5 ∷ 6 ∷ [])
    ∷ []
a_writer_without_room_writes_through = refl

an_asynchronous_file_is_persisted_by_a_job : told_after two_workers (up 1 ++ copyin (codes "f") (codes "a" ∷ []) WriteType.AsyncThrough 1 0 1) (one (
    Event.Stat (codes "a" ∷ [])
    ∷ Event.Free (codes "a" ∷ [])
    ∷ Event.Wanted
    ∷ Event.Job (codes "j") (codes "a" ∷ [])
    ∷ Event.Copy (codes "j")
    ∷ Event.Next (codes "j")
    ∷ Event.Copy (codes "j")
    ∷ Event.Copy (codes "j")
    ∷ Event.Finish (codes "j")
    ∷ Event.Plans
    ∷ Event.Remove (codes "a" ∷ []) false
    ∷ Event.Pump 1
    ∷ Event.Pump 1
    ∷ Event.Stat (codes "a" ∷ [])
    ∷ Event.Job (codes "j") (codes "a" ∷ [])
    ∷ [])) ≡
    Reply.StatFile 1 4 FileState.ToBePersisted false
    ∷ Reply.Refused Refusal.NotPersisted
    ∷ Reply.Paths ((codes "a" ∷ []) ∷ [])
    ∷ Reply.Done
    ∷ Reply.NeedsBlock 0
    ∷ Reply.FromWorker 1 0
    ∷ Reply.Copied 4
    ∷ Reply.End
    ∷ Reply.Begun 1
    ∷ Reply.Plans (1 ∷ [])
    ∷ Reply.Refused (Refusal.Busy 1)
    ∷ Reply.Stepped
    ∷ Reply.Ended
    ∷ Reply.StatFile 1 4 FileState.Persisted false
    ∷ Reply.Idle
    ∷ []
an_asynchronous_file_is_persisted_by_a_job = refl

a_mount_survives_checkpoint_and_restart : told_after two_workers no_events (one (
    Event.Mkdir (codes "a" ∷ [])
    ∷ Event.Mount (codes "a" ∷ codes "m" ∷ []) 2 []
    ∷ Event.Pump 1
    ∷ Event.Checkpoint
    ∷ Event.Restart
    ∷ Event.List (codes "a" ∷ [])
    ∷ Event.Unmount (codes "a" ∷ [])
    ∷ Event.Unmount (codes "a" ∷ codes "m" ∷ [])
    ∷ Event.List (codes "a" ∷ [])
    ∷ [])) ≡
    Reply.Done
    ∷ Reply.Begun 1
    ∷ Reply.Ended
    ∷ Reply.Done
    ∷ Reply.Done
    ∷ Reply.Names (codes "m" ∷ [])
    ∷ Reply.Refused Refusal.NotMount
    ∷ Reply.Done
    ∷ Reply.Names []
    ∷ []
a_mount_survives_checkpoint_and_restart = refl

-- a file is written through, published and read
abbrev pub a_publishing : Script
a_publishing = one (
    Event.Create (codes "f") (codes "a" ∷ []) WriteType.Through 0
    ∷ Event.Put (codes "f") (Fill.Listed (1 ∷ 2 ∷ []))
    ∷ Event.Room (codes "f")
    ∷ Event.Put (codes "f") (Fill.Listed (1 ∷ 2 ∷ []))
    ∷ Event.Finish (codes "f")
    ∷ Event.OpenFile (codes "r") (codes "a" ∷ []) ReadType.NoCache 0
    ∷ Event.Next (codes "r")
    ∷ Event.Pump 1
    ∷ Event.Pump 1
    ∷ Event.Next (codes "r")
    ∷ Event.Poll (codes "r") 9
    ∷ [])

a_finished_file_is_published : told_after two_workers no_events a_publishing ≡
    Reply.Done
    ∷ Reply.NeedsRoom
    ∷ Reply.Done
    ∷ Reply.Taken 2
    ∷ Reply.Begun 1
    ∷ Reply.Opened 2
    ∷ Reply.Refused (Refusal.Busy 1)
    ∷ Reply.Stepped
    ∷ Reply.Ended
    ∷ Reply.FromStore 1
    ∷ Reply.Given (1 ∷ 2 ∷ [])
    ∷ []
a_finished_file_is_published = refl

a_removed_file_leaves_its_store : told_after two_workers a_publishing (one (
    Event.Close (codes "r")
    ∷ Event.Remove (codes "a" ∷ []) false
    ∷ Event.Mkdir (codes "a" ∷ [])
    ∷ Event.Pump 2
    ∷ Event.Pump 2
    ∷ Event.Mkdir (codes "a" ∷ [])
    ∷ Event.Sweep 0
    ∷ [])) ≡
    Reply.Done
    ∷ Reply.Begun 2
    ∷ Reply.Refused (Refusal.Busy 2)
    ∷ Reply.Stepped
    ∷ Reply.Ended
    ∷ Reply.Done
    ∷ Reply.Ended
    ∷ []
a_removed_file_leaves_its_store = refl

persisted_blocks_give_way_after_a_beat : told_after two_workers (up 2 ++ copyin (codes "a") (codes "a" ∷ []) WriteType.CacheThrough 2 0 1 ++ one (Event.Pump 1 ∷ Event.Pump 1 ∷ []) ++ copyin (codes "b") (codes "b" ∷ []) WriteType.CacheThrough 2 1 1 ++ one (Event.Pump 2 ∷ Event.Pump 2 ∷ [])) (one (
    Event.Create (codes "c") (codes "c" ∷ []) WriteType.MustCache 2
    ∷ Event.Room (codes "c")
    ∷ Event.Beat 2
    ∷ Event.Room (codes "c")
    ∷ Event.Where (codes "a" ∷ [])
    ∷ Event.Where (codes "b" ∷ [])
    ∷ Event.Sweep 2
    ∷ Event.Sweep 2
    ∷ [])) ≡
    Reply.Done
    ∷ Reply.Refused (Refusal.NoRoom 2)
    ∷ Reply.Done
    ∷ Reply.Done
    ∷ Reply.Copies []
    ∷ Reply.Copies (record { block = 0; worker = 2; tier = 0; keep = false; pin = false; free = false } ∷ [])
    ∷ Reply.Stepped
    ∷ Reply.Ended
    ∷ []
persisted_blocks_give_way_after_a_beat = refl

-- an unpersisted block is lost with its worker
unpersisted_blocks_are_lost_with_their_worker : told_after two_workers (up 1 ++ copyin (codes "f") (codes "m" ∷ []) WriteType.MustCache 1 0 1 ++ copyin (codes "f") (codes "c" ∷ []) WriteType.CacheThrough 1 1 1 ++ one (Event.Pump 1 ∷ Event.Pump 1 ∷ [])) (one (
    Event.Kill 1
    ∷ Event.OpenFile (codes "r") (codes "m" ∷ []) ReadType.NoCache 0
    ∷ Event.Next (codes "r")
    ∷ Event.Stat (codes "m" ∷ [])
    ∷ Event.OpenFile (codes "q") (codes "c" ∷ []) ReadType.NoCache 0
    ∷ Event.Next (codes "q")
    ∷ Event.Poll (codes "q") 65536
    ∷ [])) ≡
    Reply.Done
    ∷ Reply.Opened 4
    ∷ Reply.Refused (Refusal.Unavailable 0)
    ∷ Reply.StatFile 1 4 FileState.Lost false
    ∷ Reply.Opened 4
    ∷ Reply.FromStore 1
    ∷ Reply.Given (1 ∷ 2 ∷ 3 ∷ 4 ∷ [])
    ∷ []
unpersisted_blocks_are_lost_with_their_worker = refl

-- safe mode after a restart
unpersisted_blocks_wait_for_awaited_workers : told_after two_workers (up 1 ++ up 2 ++ copyin (codes "f") (codes "u" ∷ []) WriteType.MustCache 2 0 1 ++ copyin (codes "f") (codes "p" ∷ []) WriteType.Through 0 1 1 ++ one (Event.Pump 1 ∷ Event.Pump 1 ∷ [])) (one (
    Event.Restart
    ∷ Event.Register 1
    ∷ Event.OpenFile (codes "r") (codes "u" ∷ []) ReadType.NoCache 0
    ∷ Event.Next (codes "r")
    ∷ Event.Tick
    ∷ Event.Tick
    ∷ Event.Beat 1
    ∷ Event.Tick
    ∷ Event.Next (codes "r")
    ∷ Event.Beat 2
    ∷ Event.Register 2
    ∷ Event.Next (codes "r")
    ∷ [])) ≡
    Reply.Done
    ∷ Reply.Done
    ∷ Reply.Opened 4
    ∷ Reply.Refused (Refusal.SafeMode 2)
    ∷ Reply.Done
    ∷ Reply.Done
    ∷ Reply.Done
    ∷ Reply.Done
    ∷ Reply.Refused (Refusal.Unavailable 0)
    ∷ Reply.Register
    ∷ Reply.Done
    ∷ Reply.FromWorker 2 0
    ∷ []
unpersisted_blocks_wait_for_awaited_workers = refl

pinned_blocks_are_not_freed : told_after two_workers (up 2 ++ copyin (codes "f") (codes "p" ∷ []) WriteType.CacheThrough 2 0 1 ++ one (Event.Pump 1 ∷ Event.Pump 1 ∷ [])) (one (
    Event.Pin (codes "p" ∷ []) true
    ∷ Event.Free (codes "p" ∷ [])
    ∷ Event.Pin (codes "p" ∷ []) false
    ∷ Event.Free (codes "p" ∷ [])
    ∷ Event.Beat 2
    ∷ Event.Where (codes "p" ∷ [])
    ∷ Event.Sweep 2
    ∷ Event.Sweep 2
    ∷ [])) ≡
    Reply.Done
    ∷ Reply.Refused Refusal.Pinned
    ∷ Reply.Done
    ∷ Reply.Done
    ∷ Reply.Done
    ∷ Reply.Copies []
    ∷ Reply.Stepped
    ∷ Reply.Ended
    ∷ []
pinned_blocks_are_not_freed = refl

-- areas of 64 bytes
abbrev pub small_area : Setup
small_area = record two_workers { area = 64 }

a_full_area_refuses_changes : told_after small_area no_events (one (Event.Mkdir (codes "a" ∷ []) ∷ Event.List [] ∷ [])) ≡ Reply.Refused (Refusal.Limit Which.Area) ∷ Reply.Names [] ∷ []
a_full_area_refuses_changes = refl

-- the gates of the worked bytes: 54 when fresh, 64 after a mkdir, 84 after a checkpoint
abbrev pub gate_after : Script → ℕ
gate_after es = (final two_workers (fresh two_workers) es).body.master.gate

gates_stand_where_the_journal_has_them : (gate_after no_events ≡ 54) × (gate_after (one (Event.Mkdir (codes "a" ∷ []) ∷ [])) ≡ 64) × (gate_after (one (Event.Mkdir (codes "a" ∷ []) ∷ Event.Checkpoint ∷ [])) ≡ 84)
gates_stand_where_the_journal_has_them = (refl, refl, refl)

-- store 2 holds two objects, which a mount loads
abbrev pub stocked : Whole
stocked = record { body = record (fresh two_workers).body { stores = record { parked = []; strays = [] } ∷ record { parked = []; strays = record { key = codes "d" ∷ codes "x" ∷ []; bytes = codes "abc" } ∷ record { key = codes "d" ∷ codes "y z" ∷ []; bytes = codes "1" } ∷ [] } ∷ [] }; hands = (fresh two_workers).hands }

a_mount_loads_its_store : replies two_workers stocked (one (
    Event.Mount (codes "m" ∷ []) 2 (codes "d" ∷ [])
    ∷ Event.List (codes "m" ∷ [])
    ∷ Event.Pump 1
    ∷ Event.Pump 1
    ∷ Event.Pump 1
    ∷ Event.List (codes "m" ∷ [])
    ∷ Event.Start 1
    ∷ Event.Register 1
    ∷ Event.OpenFile (codes "r") (codes "m" ∷ codes "y z" ∷ []) ReadType.Cache 1
    ∷ Event.Next (codes "r")
    ∷ Event.Poll (codes "r") 65536
    ∷ Event.Close (codes "r")
    ∷ Event.OpenFile (codes "r") (codes "m" ∷ codes "y z" ∷ []) ReadType.Cache 1
    ∷ Event.Next (codes "r")
    ∷ Event.Poll (codes "r") 65536
    ∷ Event.Close (codes "r")
    ∷ Event.Rename (codes "m" ∷ codes "x" ∷ []) (codes "x" ∷ [])
    ∷ Event.Unmount []
    ∷ Event.Unmount (codes "m" ∷ [])
    ∷ [])) ≡
    Reply.Begun 1
    ∷ Reply.Refused (Refusal.Busy 1)
    ∷ Reply.Stepped
    ∷ Reply.Stepped
    ∷ Reply.Ended
    ∷ Reply.Names (codes "x" ∷ codes "y z" ∷ [])
    ∷ Reply.Done
    ∷ Reply.Done
    ∷ Reply.Opened 1
    ∷ Reply.FromStore 2
    ∷ Reply.Given (codes "1")
    ∷ Reply.Done
    ∷ Reply.Opened 1
    ∷ Reply.FromWorker 1 0
    ∷ Reply.Given (codes "1")
    ∷ Reply.Done
    ∷ Reply.Refused Refusal.CrossMount
    ∷ Reply.Refused Refusal.IsMount
    ∷ Reply.Done
    ∷ []
a_mount_loads_its_store = refl

-- the objects of both stores after a script
abbrev pub mirror_of : Script → List (List Object)
mirror_of es = let A = (final two_workers (fresh two_workers) es).body in settled_objects A 1 ∷ settled_objects A 2 ∷ []

-- the store holds the file once its publishing has ended, and nothing after the removal
a_published_object_is_in_its_store : mirror_of a_publishing ≡ ((codes "a" ∷ [], 1 ∷ 2 ∷ []) ∷ []) ∷ [] ∷ []
a_published_object_is_in_its_store = refl

-- ---- a stop of the master

-- `mkdir /y`, `fuse 3`, and a `mkdir /z` whose append needs four calls
abbrev pub before_the_stop : Whole
before_the_stop = final two_workers (fresh two_workers) (one (Event.Mkdir (codes "y" ∷ []) ∷ Event.Fuse 3 ∷ []))

-- the event whose append fails
abbrev pub make_z : Event
make_z = Event.Mkdir (codes "z" ∷ [])

-- the state that the failed append leaves
abbrev pub stopped_body : State
stopped_body = stopped_with (doubt_of two_workers before_the_stop.body [] make_z) (Some 0) before_the_stop.body

-- the least that a fault leaves
abbrev pub any_remains : Remains
any_remains = record { begun = false; fate = BlockFate.IsGone; keeps_room = true; parks = true; acted = false; breaks = false }

-- no count rose
abbrev pub no_rise : Rise
no_rise = record { stores = []; tiers = []; journal = 0; waits = 0 }

-- a fuse that is too short stops the master, though no count rose
a_short_fuse_stops_the_master : Step two_workers before_the_stop.body 1 [] make_z (Reply.Refused Refusal.JournalFault) stopped_body [] no_rise None
a_short_fuse_stops_the_master = Step.Stops any_remains (Some 0) refl refl refl refl refl refl refl refl refl refl

-- the names in `/` after a restart
abbrev pub names_after_restart : Bool → List Name
names_after_restart keeps = children (restart_outcome (record (fault_free 0) { keeps = keeps }) stopped_body).1.names []

-- a restart finds the change that was in doubt, or doesn't
a_change_in_doubt_is_there_or_not : (names_after_restart true ≡ codes "y" ∷ codes "z" ∷ []) × (names_after_restart false ≡ codes "y" ∷ [])
a_change_in_doubt_is_there_or_not = (refl, refl)

-- ---- a rename that is under way

-- `/d/a` is published and `/d` renamed to `/e`, with the object's move still to do
abbrev pub a_rename_under_way : State
a_rename_under_way = (final two_workers (fresh two_workers) (one (
    Event.Mkdir (codes "d" ∷ [])
    ∷ Event.Create (codes "f") (codes "d" ∷ codes "a" ∷ []) WriteType.Through 0
    ∷ Event.Room (codes "f")
    ∷ Event.Put (codes "f") (Fill.Listed (7 ∷ []))
    ∷ Event.Finish (codes "f")
    ∷ Event.Pump 1
    ∷ Event.Pump 1
    ∷ Event.Rename (codes "d" ∷ []) (codes "e" ∷ [])
    ∷ []))).body

-- the one action left, done or not
abbrev pub side : Bool → List Side
side done = record { done = done; old = [] } ∷ []

-- the object is at the old key or at the new one, and at no other
an_object_is_at_one_of_two_keys : (bytes_at a_rename_under_way (side false) 1 (codes "d" ∷ codes "a" ∷ []) ≡ Some (7 ∷ [])) × (bytes_at a_rename_under_way (side false) 1 (codes "e" ∷ codes "a" ∷ []) ≡ None) × (bytes_at a_rename_under_way (side true) 1 (codes "d" ∷ codes "a" ∷ []) ≡ None) × (bytes_at a_rename_under_way (side true) 1 (codes "e" ∷ codes "a" ∷ []) ≡ Some (7 ∷ []))
an_object_is_at_one_of_two_keys = (refl, refl, refl, refl)

-- ---- a tier that fails

-- a file of one byte more in an open block
abbrev pub while_writing : Whole
while_writing = final two_workers (fresh two_workers) (up 1 ++ one (Event.Create (codes "f") (codes "a" ∷ []) WriteType.MustCache 1 ∷ Event.Room (codes "f") ∷ Event.Put (codes "f") (Fill.Listed (7 ∷ [])) ∷ []))

-- a Put into the open block
abbrev pub put_more : Event
put_more = Event.Put (codes "f") (Fill.Listed (8 ∷ []))

-- the count of worker 1's tiers rose
abbrev pub tier_1_rose : Rise
tier_1_rose = record no_rise { tiers = 1 ∷ [] }

-- the labels of actor 1
abbrev pub labels_of_1 : Whole → Hands
labels_of_1 W = hands_of W 1

-- a fault of the tier breaks the label
a_failed_put_breaks_its_label : Step two_workers while_writing.body 1 (labels_of_1 while_writing) put_more (Reply.Refused (Refusal.TierFault 1)) while_writing.body (after_fault two_workers any_remains while_writing.body 1 (labels_of_1 while_writing) put_more).1 tier_1_rose None
a_failed_put_breaks_its_label = Step.Failed any_remains refl refl refl refl

-- and then only `close` takes the label
a_broken_label_can_only_be_closed : (refusal two_workers while_writing.body (after_fault two_workers any_remains while_writing.body 1 (labels_of_1 while_writing) put_more).1 (Event.Finish (codes "f")) ≡ Some (Reply.Refused Refusal.BadLabel)) × (refusal two_workers while_writing.body (after_fault two_workers any_remains while_writing.body 1 (labels_of_1 while_writing) put_more).1 (Event.Close (codes "f")) ≡ None)
a_broken_label_can_only_be_closed = (refl, refl)

-- no other device may be named: the store isn't called by this Put, and worker 2 neither
no_other_fault_may_come : (may_fail two_workers any_remains while_writing.body (labels_of_1 while_writing) put_more (record no_rise { stores = 1 ∷ []; tiers = 1 ∷ 1 ∷ [] }) (Reply.Refused (Refusal.UnderFault 1)) ≡ false) × (may_fail two_workers any_remains while_writing.body (labels_of_1 while_writing) put_more (record no_rise { stores = 1 ∷ []; tiers = 1 ∷ 1 ∷ [] }) (Reply.Refused (Refusal.TierFault 2)) ≡ false)
no_other_fault_may_come = (refl, refl)

-- ---- limits

-- so many files, each under a label of its own
abbrev pub many_creates : ℕ → List Event
many_creates zero = []
many_creates (suc n) = many_creates n ++ Event.Create (number_text n) (number_text n ∷ []) WriteType.MustCache 1 ∷ []

-- an actor has at most 64 labels, and another actor has its own
labels_are_limited : told_after two_workers (up 1 ++ one (many_creates 64)) ((1, Event.Create (codes "z") (codes "z" ∷ []) WriteType.MustCache 1) ∷ (2, Event.Create (codes "z") (codes "z" ∷ []) WriteType.MustCache 1) ∷ []) ≡ Reply.Refused (Refusal.Limit Which.Labels) ∷ Reply.Done ∷ []
labels_are_limited = refl

-- the last label is given, and then neither a new file nor a stream gets one
the_last_label_is_given : told_after two_workers (one_kept_block ++ one (many_creates 63)) (one (
    Event.Create (codes "y") (codes "y" ∷ []) WriteType.MustCache 1
    ∷ Event.Create (codes "z") (codes "z" ∷ []) WriteType.MustCache 1
    ∷ Event.OpenFile (codes "z") (codes "a" ∷ []) ReadType.NoCache 0
    ∷ [])) ≡
    Reply.Done
    ∷ Reply.Refused (Refusal.Limit Which.Labels)
    ∷ Reply.Refused (Refusal.Limit Which.Labels)
    ∷ []
the_last_label_is_given = refl

-- a store or a tier that isn't configured
names_of_devices_are_limited : told_after two_workers (up 1 ++ copyin (codes "f") (codes "a" ∷ []) WriteType.MustCache 1 0 1) (one (Event.Mount (codes "m" ∷ []) 3 [] ∷ Event.Shift (codes "m") 1 (codes "a" ∷ []) 0 2 ∷ Event.Start 3 ∷ [])) ≡ Reply.Refused (Refusal.Limit Which.Store) ∷ Reply.Refused (Refusal.Limit Which.Tier) ∷ Reply.Refused (Refusal.NoWorker 3) ∷ []
names_of_devices_are_limited = refl

-- worker 1 has one tier of 1 MiB, and blocks are of 1 byte
abbrev pub short_blocks : Setup
short_blocks = record two_workers { block = 1; tiers = (1048576 ∷ []) ∷ [] }

-- a file of one byte, whose only block is open and full
abbrev pub one_byte_taken : Whole
one_byte_taken = final short_blocks (fresh short_blocks) (up 1 ++ one (Event.Create (codes "f") (codes "a" ∷ []) WriteType.MustCache 1 ∷ Event.Room (codes "f") ∷ Event.Put (codes "f") (Fill.Listed (0 ∷ [])) ∷ []))

-- the writer took so many zeros
abbrev pub of_zeros : ℕ → Hand → Hand
of_zeros n (Hand.Writing w) = Hand.Writing (record w { taken = replicate n 0 })
of_zeros n h = h

-- the same where the file has so many bytes
abbrev pub bytes_taken : ℕ → Whole
bytes_taken n = record one_byte_taken { hands = map (map (λ (r : LabelRow). record r { hand = of_zeros n r.hand })) one_byte_taken.hands }

-- a file has at most 65536 blocks: the last one is opened, and no other
blocks_of_a_writer_are_limited : (replies short_blocks (bytes_taken 65535) (one (Event.Room (codes "f") ∷ [])) ≡ Reply.Done ∷ []) × (replies short_blocks (bytes_taken 65536) (one (Event.Room (codes "f") ∷ [])) ≡ Reply.Refused (Refusal.Limit Which.Blocks) ∷ [])
blocks_of_a_writer_are_limited = (refl, refl)

-- the same file where worker 1 gave out all numbers below this one
abbrev pub next_object : ℕ → Whole
next_object n = record one_byte_taken { body = change_worker 1 (λ w. record w { next = n }) one_byte_taken.body }

-- the last number of an object is 2^63 - 1
objects_of_a_worker_are_limited : replies short_blocks (next_object (2 ^ 63 - 1)) (one (
    Event.Room (codes "f")
    ∷ Event.Put (codes "f") (Fill.Listed (0 ∷ []))
    ∷ Event.Room (codes "f")
    ∷ [])) ≡
    Reply.Done
    ∷ Reply.Taken 1
    ∷ Reply.Refused (Refusal.Limit Which.Ids)
    ∷ []
objects_of_a_worker_are_limited = refl

-- the file has so many bytes
abbrev pub of_length : ℕ → Node → Node
of_length n Node.Directory = Node.Directory
of_length n (Node.IsFile f) = Node.IsFile (record f { len = n })

-- a file that is done, and that has so many bytes
abbrev pub bytes_done : ℕ → State
bytes_done n =
    let A = (final two_workers (fresh two_workers) (up 1 ++ copyin (codes "f") (codes "a" ∷ []) WriteType.MustCache 1 0 1)).body in
    record A { names = record A.names { nodes = map (λ (r : NodeRow). (r.0, of_length n r.1)) A.names.nodes } }

-- a file of 65536 blocks of 4 bytes is opened, and one of a byte more isn't
blocks_of_a_stream_are_limited : (refusal two_workers (bytes_done 262144) [] (Event.OpenFile (codes "r") (codes "a" ∷ []) ReadType.NoCache 0) ≡ None) × (refusal two_workers (bytes_done 262145) [] (Event.OpenFile (codes "r") (codes "a" ∷ []) ReadType.NoCache 0) ≡ Some (Reply.Refused (Refusal.Limit Which.Blocks)))
blocks_of_a_stream_are_limited = (refl, refl)
