-- The state of the file machine: plain rows.
use Rattle.std.specs.Prelude.{ℕ, Bool, List, Option}
use Rattle.fs_model.specs.declared.path.Path.{Path}
use Rattle.fs_model.specs.declared.prefix.Prefix.{Prefix}
use Rattle.fs_model.specs.declared.label.Label.{Label}
use Rattle.fs_model.specs.declared.reply.Stored.{Stored}
use Rattle.fs_model.specs.declared.change.PlanKind.{PlanKind}
use Rattle.fs_model.specs.declared.change.Change.{Change}
use Rattle.fs_model.specs.declared.event.ReadType.{ReadType}
use Rattle.fs_model.specs.declared.event.WriteType.{WriteType}

-- ---- what the journal keeps

-- what the journal keeps of a file
pub record File : Type 0 where
  pub id : ℕ
  pub len : ℕ
  pub done : Bool
  pub stored : Stored
  pub pinned : Bool

-- a directory or a file
pub data Node : Type 0 where
  Directory : Node
  IsFile : File → Node

-- a path with its node
abbrev pub NodeRow : Type 0
NodeRow = Path × Node

-- a mount
pub record MountRow : Type 0 where
  pub path : Path
  pub store : ℕ
  pub key : Prefix

-- a pending plan; the leaves are the files of a Remove
pub record PlanRow : Type 0 where
  pub number : ℕ
  pub kind : PlanKind
  pub path : Path
  pub to : Path
  pub leaves : List Path

-- a lock of a plan, Write or Read
pub record LockRow : Type 0 where
  pub plan : ℕ
  pub path : Path
  pub write : Bool

-- nodes and mounts by path, plans and locks by number, seen rising
pub record Names : Type 0 where
  pub nodes : List NodeRow
  pub mounts : List MountRow
  pub plans : List PlanRow
  pub locks : List LockRow
  pub seen : List ℕ
  pub next_id : ℕ
  pub next_plan : ℕ

-- ---- workers

-- a copy of a block at a worker
pub record Copied : Type 0 where
  pub number : ℕ
  pub tier : ℕ
  pub file : ℕ
  pub block : ℕ
  pub len : ℕ
  pub keep : Bool
  pub pin : Bool
  pub free : Bool

-- bytes that are reserved at a tier
pub record RoomRow : Type 0 where
  pub number : ℕ
  pub tier : ℕ
  pub bytes : ℕ

-- copies in the order of use, the least recent first; litter, the oldest first
pub record Worker : Type 0 where
  pub running : Bool
  pub start : ℕ
  pub next : ℕ
  pub copies : List Copied
  pub rooms : List RoomRow
  pub litter : List ℕ

-- what the master knows of a worker
pub record Registration : Type 0 where
  pub known : Bool
  pub awaited : Bool
  pub silence : ℕ

-- ---- labels

-- a copy by its worker, start number and object number
pub record Hold : Type 0 where
  pub worker : ℕ
  pub start : ℕ
  pub number : ℕ

-- where a reader reads from: a worker and its tier, or a store
pub data Source : Type 0 where
  AtWorker : ℕ → ℕ → Source
  AtStore : ℕ → Source

-- a room by its worker, start number and object number
pub record Cache : Type 0 where
  pub room : Hold
  pub block : ℕ
  pub promoted : Option ℕ
  pub spoiled : Bool

-- a stream over a file, with the file's bytes
pub record Stream : Type 0 where
  pub file : ℕ
  pub bs : ℕ
  pub bytes : List ℕ
  pub at : ℕ
  pub kind : ReadType
  pub worker : ℕ
  pub source : Option Source
  pub cache : Option Cache

-- an open block's room is its number at the writer's worker
pub record OpenBlock : Type 0 where
  pub room : Option ℕ
  pub len : ℕ

-- the blocks before the open one are committed; `store` is the one in which its object is made, where it makes one
pub record Writer : Type 0 where
  pub file : ℕ
  pub bs : ℕ
  pub store : ℕ
  pub taken : List ℕ
  pub kind : WriteType
  pub worker : ℕ
  pub start : ℕ
  pub block : Option OpenBlock
  pub broken : Bool

-- a mover of a copy to another tier
pub record Mover : Type 0 where
  pub held : Hold
  pub tier : ℕ
  pub room : ℕ
  pub len : ℕ
  pub copied : ℕ
  pub broken : Bool

-- `store` is the one in which its object is made
pub record JobHand : Type 0 where
  pub file : ℕ
  pub bs : ℕ
  pub store : ℕ
  pub bytes : List ℕ
  pub at : ℕ
  pub source : Option Source
  pub broken : Bool

-- what an actor has under a label
pub data Hand : Type 0 where
  Reading : Stream → Hand
  Writing : Writer → Hand
  Moving : Mover → Hand
  Storing : JobHand → Hand

-- a label with what is under it
pub record LabelRow : Type 0 where
  pub label : Label
  pub hand : Hand

-- the labels of one actor
abbrev pub Hands : Type 0
Hands = List LabelRow

-- a label of an actor holds a copy; a mover's hold is told apart
pub record HoldRow : Type 0 where
  pub who : ℕ
  pub label : Label
  pub hold : Hold
  pub moving : Bool

-- ---- stores and the rest

-- an object that no pending Publish waits for
pub record Parked : Type 0 where
  pub plan : ℕ
  pub bytes : List ℕ

-- an object that belongs to no file
pub record Stray : Type 0 where
  pub key : Prefix
  pub bytes : List ℕ

-- both by key
pub record StoreRows : Type 0 where
  pub parked : List Parked
  pub strays : List Stray

-- the bytes of a done file
pub record Content : Type 0 where
  pub file : ℕ
  pub bytes : List ℕ

-- how far a plan has come since the master began
pub record Progress : Type 0 where
  pub plan : ℕ
  pub steps : ℕ
  pub reached : Option Prefix

-- what a stopped master doesn't know: whether a change, with the bytes of a finished file, or a checkpoint was kept
pub data Doubt : Type 0 where
  InChange : Change → List ℕ → Doubt
  InCheckpoint : Doubt

-- the master's own numbers
pub record Master : Type 0 where
  pub up : Bool
  pub gate : ℕ
  pub generation : ℕ
  pub doubt : Option Doubt
  pub fuse : Option ℕ

-- all that the actors share
pub record State : Type 0 where
  pub names : Names
  pub contents : List Content
  pub progress : List Progress
  pub registrations : List Registration
  pub workers : List Worker
  pub stores : List StoreRows
  pub holds : List HoldRow
  pub master : Master

-- what all share, and the labels of each actor
pub record Whole : Type 0 where
  pub body : State
  pub hands : List Hands
