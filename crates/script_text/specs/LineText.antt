-- The text of a line: the actor, the event's words, an arrow and the reply's words.
use Rattle.std.specs.Prelude.{ℕ, Bool, List, [], ◌∷◌, ◌++◌, codes, map, if◌then◌else◌}
use Rattle.std.specs.List.{flat_map}
use Rattle.std.specs.Fmt.{decimal}
use Rattle.fs_model.specs.declared.event.Event.{Event}
use Rattle.fs_model.specs.declared.event.Fill.{Fill}
use Rattle.fs_model.specs.declared.event.WriteType.{WriteType}
use Rattle.fs_model.specs.declared.event.ReadType.{ReadType}
use Rattle.fs_model.specs.declared.reply.Reply.{Reply}
use Rattle.fs_model.specs.declared.reply.Refusal.{Refusal}
use Rattle.fs_model.specs.declared.reply.Which.{Which}
use Rattle.fs_model.specs.declared.reply.FileState.{FileState}
use Rattle.fs_model.specs.declared.reply.CopyRow.{CopyRow}
use Rattle.fs_model.specs.declared.reply.Line.{Line}
use Rattle.script_text.specs.Words.{path_word, name_word, key_word, hex_word, spaced}

-- ---- events

-- the word of a write type
abbrev pub write_type_word : WriteType → List ℕ
write_type_word WriteType.MustCache = codes "MUST_CACHE"
write_type_word WriteType.CacheThrough = codes "CACHE_THROUGH"
write_type_word WriteType.Through = codes "THROUGH"
write_type_word WriteType.AsyncThrough = codes "ASYNC_THROUGH"

-- the word of a read type
abbrev pub read_type_word : ReadType → List ℕ
read_type_word ReadType.Cache = codes "CACHE"
read_type_word ReadType.CachePromote = codes "CACHE_PROMOTE"
read_type_word ReadType.NoCache = codes "NO_CACHE"

-- `x:` and the bytes, or `g:` and the generator, the place and the length
abbrev pub fill_word : Fill → List ℕ
fill_word (Fill.Listed bytes) = codes "x:" ++ hex_word bytes
fill_word (Fill.Made num at len) = codes "g:" ++ decimal num ++ codes ":" ++ decimal at ++ codes ":" ++ decimal len

-- the words of an event in its one canonical spelling, without the actor
abbrev pub event_words : Event → List (List ℕ)
event_words (Event.Mkdir path) = codes "mkdir" ∷ path_word path ∷ []
event_words (Event.Create label path kind worker) = codes "create" ∷ label ∷ path_word path ∷ write_type_word kind ∷ decimal worker ∷ []
event_words (Event.Rename path to) = codes "rename" ∷ path_word path ∷ path_word to ∷ []
event_words (Event.Remove path deep) = (if deep then codes "rmr" else codes "rm") ∷ path_word path ∷ []
event_words (Event.Pin path on) = (if on then codes "pin" else codes "unpin") ∷ path_word path ∷ []
event_words (Event.Persist path) = codes "persist" ∷ path_word path ∷ []
event_words (Event.Free path) = codes "free" ∷ path_word path ∷ []
event_words (Event.Mount path store key) = codes "mount" ∷ path_word path ∷ decimal store ∷ key_word key ∷ []
event_words (Event.Unmount path) = codes "unmount" ∷ path_word path ∷ []
event_words (Event.List path) = codes "ls" ∷ path_word path ∷ []
event_words (Event.Stat path) = codes "stat" ∷ path_word path ∷ []
event_words (Event.Where path) = codes "where" ∷ path_word path ∷ []
event_words Event.Plans = codes "plans" ∷ []
event_words Event.Wanted = codes "wanted" ∷ []
event_words (Event.Room label) = codes "room" ∷ label ∷ []
event_words (Event.Put label fill) = codes "put" ∷ label ∷ fill_word fill ∷ []
event_words (Event.Finish label) = codes "done" ∷ label ∷ []
event_words (Event.OpenFile label path kind worker) = codes "open" ∷ label ∷ path_word path ∷ read_type_word kind ∷ decimal worker ∷ []
event_words (Event.Next label) = codes "next" ∷ label ∷ []
event_words (Event.Poll label max) = codes "poll" ∷ label ∷ decimal max ∷ []
event_words (Event.Close label) = codes "close" ∷ label ∷ []
event_words (Event.Job label path) = codes "job" ∷ label ∷ path_word path ∷ []
event_words (Event.Shift label worker path block tier) = codes "move" ∷ label ∷ decimal worker ∷ path_word path ∷ decimal block ∷ decimal tier ∷ []
event_words (Event.Copy label) = codes "copy" ∷ label ∷ []
event_words (Event.Start worker) = codes "start" ∷ decimal worker ∷ []
event_words (Event.Register worker) = codes "register" ∷ decimal worker ∷ []
event_words (Event.Beat worker) = codes "beat" ∷ decimal worker ∷ []
event_words Event.Tick = codes "tick" ∷ []
event_words (Event.Kill worker) = codes "kill" ∷ decimal worker ∷ []
event_words (Event.Sweep worker) = codes "sweep" ∷ decimal worker ∷ []
event_words (Event.Pump plan) = codes "pump" ∷ decimal plan ∷ []
event_words Event.Checkpoint = codes "checkpoint" ∷ []
event_words (Event.Fuse calls) = codes "fuse" ∷ decimal calls ∷ []
event_words Event.Restart = codes "restart" ∷ []

-- ---- refusals

-- the word of a limit
abbrev pub which_word : Which → List ℕ
which_word Which.Path = codes "Path"
which_word Which.Nodes = codes "Nodes"
which_word Which.Labels = codes "Labels"
which_word Which.Blocks = codes "Blocks"
which_word Which.Plans = codes "Plans"
which_word Which.Mounts = codes "Mounts"
which_word Which.Tier = codes "Tier"
which_word Which.Store = codes "Store"
which_word Which.Ids = codes "Ids"
which_word Which.Area = codes "Area"

-- a refusal's number, name and arguments
abbrev pub refusal_words : Refusal → List (List ℕ)
refusal_words Refusal.NotFound = codes "2" ∷ codes "NotFound" ∷ []
refusal_words Refusal.Exists = codes "3" ∷ codes "Exists" ∷ []
refusal_words Refusal.NotDirectory = codes "4" ∷ codes "NotDirectory" ∷ []
refusal_words Refusal.IsDirectory = codes "5" ∷ codes "IsDirectory" ∷ []
refusal_words Refusal.NotEmpty = codes "6" ∷ codes "NotEmpty" ∷ []
refusal_words Refusal.Incomplete = codes "7" ∷ codes "Incomplete" ∷ []
refusal_words (Refusal.Busy plan) = codes "8" ∷ codes "Busy" ∷ decimal plan ∷ []
refusal_words Refusal.IsMount = codes "9" ∷ codes "IsMount" ∷ []
refusal_words Refusal.CrossMount = codes "10" ∷ codes "CrossMount" ∷ []
refusal_words (Refusal.MountOverlap path) = codes "11" ∷ codes "MountOverlap" ∷ path_word path ∷ []
refusal_words Refusal.InsideItself = codes "12" ∷ codes "InsideItself" ∷ []
refusal_words (Refusal.Unavailable block) = codes "13" ∷ codes "Unavailable" ∷ decimal block ∷ []
refusal_words (Refusal.SafeMode worker) = codes "14" ∷ codes "SafeMode" ∷ decimal worker ∷ []
refusal_words (Refusal.NoRoom worker) = codes "15" ∷ codes "NoRoom" ∷ decimal worker ∷ []
refusal_words (Refusal.NoWorker worker) = codes "16" ∷ codes "NoWorker" ∷ decimal worker ∷ []
refusal_words Refusal.NotPersisted = codes "17" ∷ codes "NotPersisted" ∷ []
refusal_words Refusal.Pinned = codes "18" ∷ codes "Pinned" ∷ []
refusal_words Refusal.BadLabel = codes "19" ∷ codes "BadLabel" ∷ []
refusal_words (Refusal.Held worker) = codes "20" ∷ codes "Held" ∷ decimal worker ∷ []
refusal_words Refusal.Stopped = codes "21" ∷ codes "Stopped" ∷ []
refusal_words (Refusal.Limit which) = codes "22" ∷ codes "Limit" ∷ which_word which ∷ []
refusal_words (Refusal.UnderFault store) = codes "23" ∷ codes "UnderFault" ∷ decimal store ∷ []
refusal_words (Refusal.TierFault worker) = codes "24" ∷ codes "TierFault" ∷ decimal worker ∷ []
refusal_words Refusal.JournalFault = codes "25" ∷ codes "JournalFault" ∷ []
refusal_words Refusal.Memory = codes "26" ∷ codes "Memory" ∷ []
refusal_words Refusal.NotMount = codes "27" ∷ codes "NotMount" ∷ []
refusal_words (Refusal.Damaged area place) = codes "28" ∷ codes "Damaged" ∷ decimal area ∷ decimal place ∷ []

-- ---- replies

-- the word of a file's state
abbrev pub state_word : FileState → List ℕ
state_word FileState.Incomplete = codes "INCOMPLETE"
state_word FileState.Persisted = codes "PERSISTED"
state_word FileState.Lost = codes "LOST"
state_word FileState.ToBePersisted = codes "TO_BE_PERSISTED"
state_word FileState.NotPersisted = codes "NOT_PERSISTED"

-- a letter where a flag is set
abbrev pub flag_text : Bool → List ℕ → List ℕ
flag_text set letter = if set then letter else []

-- `-` for no text
abbrev pub or_dash : List ℕ → List ℕ
or_dash [] = codes "-"
or_dash (b ∷ bs) = b ∷ bs

-- `k`, `p` and `f` for keep, pin and free, or `-`
abbrev pub flags_word : CopyRow → List ℕ
flags_word row = or_dash (flag_text row.keep (codes "k") ++ flag_text row.pin (codes "p") ++ flag_text row.free (codes "f"))

-- a copy: its block, worker, tier and flags
abbrev pub copy_word : CopyRow → List ℕ
copy_word row = decimal row.block ++ codes ":" ++ decimal row.worker ++ codes ":" ++ decimal row.tier ++ codes ":" ++ flags_word row

-- the words of a reply
abbrev pub reply_words : Reply → List (List ℕ)
reply_words Reply.Done = codes "done" ∷ []
reply_words (Reply.Begun plan) = codes "begun" ∷ decimal plan ∷ []
reply_words Reply.Stepped = codes "stepped" ∷ []
reply_words Reply.Ended = codes "ended" ∷ []
reply_words (Reply.Opened len) = codes "opened" ∷ decimal len ∷ []
reply_words (Reply.FromWorker worker tier) = codes "from" ∷ codes "worker" ∷ decimal worker ∷ decimal tier ∷ []
reply_words (Reply.FromStore store) = codes "from" ∷ codes "store" ∷ decimal store ∷ []
reply_words (Reply.Taken n) = codes "taken" ∷ decimal n ∷ []
reply_words Reply.NeedsRoom = codes "needroom" ∷ []
reply_words (Reply.Given bytes) = codes "piece" ∷ hex_word bytes ∷ []
reply_words (Reply.Copied n) = codes "copied" ∷ decimal n ∷ []
reply_words (Reply.NeedsBlock block) = codes "needblock" ∷ decimal block ∷ []
reply_words Reply.End = codes "end" ∷ []
reply_words Reply.NotReady = codes "notready" ∷ []
reply_words Reply.Idle = codes "idle" ∷ []
reply_words Reply.Register = codes "register" ∷ []
reply_words (Reply.Names names) = codes "names" ∷ map name_word names
reply_words (Reply.Paths paths) = codes "paths" ∷ map path_word paths
reply_words (Reply.Plans plans) = codes "plans" ∷ map decimal plans
reply_words Reply.StatDir = codes "stat" ∷ codes "dir" ∷ []
reply_words (Reply.StatFile id len state pinned) = codes "stat" ∷ codes "file" ∷ decimal id ∷ decimal len ∷ state_word state ∷ (if pinned then codes "p" else codes "-") ∷ []
reply_words (Reply.Copies rows) = codes "copies" ∷ map copy_word rows
reply_words (Reply.Refused refusal) = codes "refused" ∷ refusal_words refusal

-- ---- lines

-- the text of a line, which ends with a line feed
abbrev pub line_text : Line → List ℕ
line_text line = decimal line.actor ++ spaced (event_words line.event) ++ codes " ->" ++ spaced (reply_words line.reply) ++ 10 ∷ []

-- the texts of lines, one after the other
abbrev pub lines_text : List Line → List ℕ
lines_text lines = flat_map line_text lines
