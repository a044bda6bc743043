-- The tests that the tables of refusals share. Each is the answer where its condition holds, else none.
use Rattle.std.specs.Prelude.{ℕ, ◌+◌, ◌^◌, Bool, true, false, not, ◌&&◌, length, nat_eq, nat_lt, nat_le, Option, Some, None, option_map}
use Rattle.fs_model.specs.declared.path.Path.{Path}
use Rattle.fs_model.specs.declared.label.Label.{Label}
use Rattle.fs_model.specs.declared.setup.Setup.{Setup}
use Rattle.fs_model.specs.declared.change.Change.{Change}
use Rattle.fs_model.specs.declared.reply.Reply.{Reply}
use Rattle.fs_model.specs.declared.reply.Refusal.{Refusal}
use Rattle.fs_model.specs.declared.reply.Refusal.TheVariants.{NotFound, NotDirectory, Busy, NoWorker, BadLabel, Stopped, Limit}
use Rattle.fs_model.specs.declared.reply.Which.{Which}
use Rattle.fs_model.specs.Words.{◌when◌}
use Rattle.fs_model.specs.State.{State, Hands}
use Rattle.fs_model.specs.Lookups.{Walk, Touch, walk_nodes, walk_above, busy, is_configured, is_live, has_label}
use Rattle.fs_model.specs.Changes.{entry_len}

-- the event is refused where the test passes
abbrev pub refuse : Refusal → Bool → Option Reply
refuse r b = Reply.Refused r when b

-- the master is stopped
abbrev pub stopped : State → Option Reply
stopped A = refuse Stopped (not A.master.up)

-- a lock is in the way of the path
abbrev pub touch : State → Path → Touch → Option Reply
touch A p t = option_map (λ n. Reply.Refused (Busy n)) (busy A.names p t)

-- the refusal of a walk that led to no node
abbrev pub walk_fault : Walk → Option Reply
walk_fault (Walk.Found n) = None
walk_fault Walk.Absent = Some (Reply.Refused NotFound)
walk_fault Walk.Blocked = Some (Reply.Refused NotDirectory)

-- the node of the path and those before it are needed
abbrev pub along : State → Path → Option Reply
along A p = walk_fault (walk_nodes A.names.nodes p)

-- the nodes before the path are needed
abbrev pub along_new : State → Path → Option Reply
along_new A p = walk_fault (walk_above A.names.nodes p)

-- the actor has the label already
abbrev pub label_taken : Hands → Label → Option Reply
label_taken H l = refuse BadLabel (has_label H l)

-- worker 0 means none
abbrev pub not_configured : Setup → ℕ → Option Reply
not_configured S w = refuse (NoWorker w) (not (is_configured S w))

-- the worker, if one is named, isn't configured
abbrev pub not_configured_if_any : Setup → ℕ → Option Reply
not_configured_if_any S w = refuse (NoWorker w) (not (nat_eq w 0) && not (is_configured S w))

-- the worker isn't live
abbrev pub not_live : State → ℕ → Option Reply
not_live A w = refuse (NoWorker w) (not (is_live A w))

-- ---- limits

-- a limit is passed
abbrev pub past : Which → Bool → Option Reply
past w b = refuse (Limit w) b

-- so many nodes more are too many
abbrev pub past_nodes : State → ℕ → Option Reply
past_nodes A n = past Which.Nodes (nat_lt 1048576 (length A.names.nodes + n))

-- the actor has all labels that it may have
abbrev pub past_labels : Hands → Option Reply
past_labels H = past Which.Labels (nat_le 64 (length H))

-- there are all plans that there may be
abbrev pub past_plans : State → Option Reply
past_plans A = past Which.Plans (nat_le 1024 (length A.names.plans))

-- the next number stands at its limit
abbrev pub past_ids : ℕ → Option Reply
past_ids n = past Which.Ids (nat_le (2 ^ 63) n)

-- an entry of this length finds no room in the area
abbrev pub past_area_by : Setup → State → ℕ → Option Reply
past_area_by S A len = past Which.Area (nat_lt S.area (A.master.gate + 2 + len))

-- the entry of a change, if there is one, finds no room in the area
abbrev pub past_area : Setup → State → Option Change → Option Reply
past_area S A None = None
past_area S A (Some c) = past_area_by S A (entry_len c)

-- a test that counts only where a condition holds
infix 6 ◌only_if◌
abbrev pub ◌only_if◌ : Option Reply → Bool → Option Reply
r only_if true = r
r only_if false = None
