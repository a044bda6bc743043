-- For which states of the file machine a core stands.
use Rattle.std.specs.Prelude.{ℕ, ◌≡◌, ◌≤◌, ◌<◌, ◌+◌, ◌*◌, ◌^◌, ⊤, true, List, [], map, length, slice_get, Option, Some, None, IfSome, IsSome, IsSomeAnd, is_some, find, nat_eq, suc, get_or}
use Rattle.std.specs.List.{All}
use Rattle.fs_model.specs.declared.setup.Setup.{Setup}
use Rattle.fs_model.specs.declared.reply.Stored.{Stored}
use Rattle.fs_model.specs.Words.{block_of}
use Rattle.fs_model.specs.State.{State, Whole, Node as machineNode, NodeRow, File, Copied, Content, Hands}
use Rattle.fs_model.specs.Lookups.{is_running}
use Rattle.outside.specs.Contents.{Contents}
use Rattle.outside.specs.declared.disk.Disk as disks
use Rattle.outside.specs.declared.objects.Objects as objects
use Rattle.outside.specs.declared.objects.ObjectRead as reads
use Rattle.outside.specs.declared.objects.ObjectWrite as writes
use Rattle.cluster_core.specs.NamesStand.{NamesStand}
use Rattle.cluster_core.specs.AreasStand.{AreasStand, content_row}
use Rattle.cluster_core.specs.Nodes.{node_row, registration_of}
use Rattle.cluster_core.specs.Tiers.{object_key}
use Rattle.cluster_core.specs.LabelsView.{LabelsView}
use Rattle.cluster_core.specs.Hands.{Matches}
use Rattle.cluster_core.specs.HandFits.{HandFits}
use Rattle.cluster_core.specs.Knowledge.{Knowledge}
use Rattle.cluster_core.specs.declared.node.Node.{Node}
use Rattle.cluster_core.specs.declared.hand.Hand.{Hand}
use Rattle.cluster_core.specs.declared.cluster.Core.{Core}

-- ---- numbers of the configuration

-- the bytes of a worker's tiers
abbrev pub sizes_of : {S : Type 0} → Node S → List ℕ
sizes_of n = n.book.sizes

-- the core has the numbers of the setup
pub record SetupFits {S : Type 0} (U : Setup) (bs bytes : ℕ) (nodes : List (Node S)) : Type 0 where
  pub block : U.block ≡ bs
  pub area : U.area ≡ bytes
  pub tiers : U.tiers ≡ map sizes_of nodes

-- ---- workers

-- the workers are the core's, and those that run are known; until a script starts workers, the first runs and no other
pub record WorkersStand {S : Type 0} (nodes : List (Node S)) (A : State) : Type 0 where
  pub rows : A.workers ≡ map node_row nodes
  pub registrations : A.registrations ≡ map registration_of nodes
  pub first : (w : ℕ) → is_running A w ≡ true → w ≡ 1
  pub one : 0 < length A.workers → is_running A 1 ≡ true

-- ---- labels

-- each actor's labels fit those that the machine has
pub record HandsStand {S R W : Type 0} (r : reads.Ghosts R) (w : writes.Ghosts W) (K : Knowledge) (nodes : List (Node S)) (next bs : ℕ) (all : List Hands) (labels : List (LabelsView (Hand R W))) : Type 0 where
  pub actors : length all ≡ 64
  pub each : (i : ℕ) → i < 64 → IsSomeAnd (slice_get labels i) (Matches (λ l. HandFits r w K nodes next bs (suc i, l)) (get_or all i []))

-- ---- files

-- the bytes of a done file are kept, and it has so many; nobody writes it
pub record DoneFits (K : Knowledge) (contents : List Content) (bs : ℕ) (f : File) : Type 0 where
  pub bytes : IsSomeAnd (content_row contents f.id) (λ c. (K.bytes_of f.id ≡ Some c.bytes) × (length c.bytes ≡ f.len))
  pub short : f.len ≤ 65536 * bs
  pub written : K.author f.id ≡ None

-- a file is in no under-store, and its bytes are kept where it is done
abbrev pub FileFits : Knowledge → List Content → ℕ → ℕ → NodeRow → Type 0
FileFits K contents next bs (p, machineNode.Directory) = ⊤
FileFits K contents next bs (p, machineNode.IsFile f) = (f.id < next) × (f.stored ≡ Stored.No) × (f.done ≡ true → DoneFits K contents bs f)

-- every file fits; bytes are kept neither of a file that is written nor of one that will be made
pub record FilesStand (K : Knowledge) (next bs : ℕ) (nodes : List NodeRow) (contents : List Content) : Type 0 where
  pub each : All (FileFits K contents next bs) nodes
  pub written : (id : ℕ) → is_some (K.author id) ≡ true → content_row contents id ≡ None
  pub fresh : (id : ℕ) → next ≤ id → (content_row contents id ≡ None) × (K.author id ≡ None)

-- ---- objects

-- the object of a copy has the bytes of its block, and its length alone where they aren't known; while the file is written, the block is whole
pub record ObjectFits (K : Knowledge) (bs : ℕ) (c : Copied) (bytes : List ℕ) : Type 0 where
  pub len : length bytes ≡ c.len
  pub block : IfSome (K.bytes_of c.file) (λ all. bytes ≡ block_of all c.block bs)
  pub whole : is_some (K.author c.file) ≡ true → IfSome (K.bytes_of c.file) (λ all. (c.block + 1) * bs ≤ length all)

module _ {S R W : Type 0} (o : objects.Ghosts S R W) where
  -- P holds of the object at a key, in a tier that tells
  abbrev pub HasObject : List S → ℕ → List (List ℕ) → (List ℕ → Type 0) → Type 0
  HasObject tiers t key P = IsSomeAnd (slice_get tiers t) (λ s. IsSomeAnd (o.told s) (λ (m : Contents). IsSomeAnd (m key) P))

  -- a copy must stay, its number belongs to no label, its file is there already, and it has its object in its tier
  pub record CopyStands (K : Knowledge) (next bs w : ℕ) (node : Node S) (c : Copied) : Type 0 where
    pub keep : c.keep ≡ true
    pub number : c.number < node.book.next
    pub owner : K.owner w c.number ≡ None
    pub file : c.file < next
    pub object : HasObject node.tiers.items c.tier (object_key node.started c.number) (ObjectFits K bs c)

  -- a tier tells, and each of its objects has a key of two names
  abbrev pub TierTells : S → Type 0
  TierTells s = IsSomeAnd (o.told s) (λ (m : Contents). (key : List (List ℕ)) → IsSome (m key) → length key ≡ 2)

  -- the tiers of a worker tell, its copies have their objects, and its next number is new and belongs to no label
  pub record NodeStands (K : Knowledge) (next bs w : ℕ) (node : Node S) : Type 0 where
    pub tells : (t : ℕ) (s : S) → slice_get node.tiers.items t ≡ Some s → TierTells s
    pub copies : All (CopyStands K next bs w node) node.book.rows
    pub rooms : All (λ r. r.number < node.book.next) node.book.rooms
    pub few : node.book.next ≤ 2 ^ 63
    pub fresh : (k : ℕ) → node.book.next ≤ k → K.owner w k ≡ None

  -- so it is at every worker
  abbrev pub NodesStand : Knowledge → ℕ → ℕ → List (Node S) → Type 0
  NodesStand K next bs nodes = (i : ℕ) (node : Node S) → slice_get nodes i ≡ Some node → NodeStands K next bs (suc i) node

-- ---- the whole

-- the core stands for a state whose rows are its own, where files, objects, readers and writers have the same bytes
pub record Stands {D S R W : Type 0} (d : disks.Ghosts D) (o : objects.Ghosts S R W) (r : reads.Ghosts R) (w : writes.Ghosts W) (U : Setup) (C : Core D S R W d w) (V : Whole) : Type 0 where
  pub known : Knowledge
  pub setup : SetupFits U C.block C.master.journal.limit C.workers.items
  pub names : NamesStand C.master V.body
  pub areas : AreasStand d known V.body.contents C.block C.master V.body.names V.body.master
  pub workers : WorkersStand C.workers.items V.body
  pub hands : HandsStand r w known C.workers.items C.master.kept.names.next_id C.block V.hands C.hands.items
  pub files : FilesStand known C.master.kept.names.next_id C.block C.master.kept.names.nodes V.body.contents
  pub objects : NodesStand o known C.master.kept.names.next_id C.block C.workers.items
