-- What is read off the rows: nodes along a path, mounts, locks, workers, live copies and holders.
use Rattle.std.specs.Prelude.{ℕ, pred, ◌-◌, Bool, true, false, cond, not, ◌&&◌, ◌||◌, List, [], ◌∷◌, ◌++◌, map, length, drop, get_or, filter, nat_eq, nat_lt, nat_le, Option, Some, None, is_some, option_map, option_and_then, unwrap_or, slice_get, sum_by, filter_map, find}
use Rattle.std.specs.List.{list_any, list_all, last_or, enumerate_from, range_with_len}
use Rattle.fs_model.specs.declared.path.Path.{Path}
use Rattle.fs_model.specs.declared.prefix.Prefix.{Prefix}
use Rattle.fs_model.specs.declared.label.Label.{Label}
use Rattle.fs_model.specs.declared.name.Name.{Name}
use Rattle.fs_model.specs.declared.reply.Stored.{Stored}
use Rattle.fs_model.specs.declared.setup.Setup.{Setup}
use Rattle.std.specs.FinMap as entries
use Rattle.fs_model.specs.Words.{path_cmp, name_eq, path_eq, under, parts, block_count, first}
use Rattle.fs_model.specs.State.{Names, NodeRow, MountRow, PlanRow, LockRow, Node, File, Copied, RoomRow, Worker, Registration, Hand, Hands, HoldRow, State}

-- ---- nodes, of which the list stands by path

-- the node at a path
abbrev pub find_node : List NodeRow → Path → Option Node
find_node nodes p = entries.find path_cmp p nodes

-- the node is a file
abbrev pub is_file : Node → Bool
is_file Node.Directory = false
is_file (Node.IsFile f) = true

-- the file that a node is
abbrev pub file_in : Node → Option File
file_in Node.Directory = None
file_in (Node.IsFile f) = Some f

-- where a path leads: to a node, to nothing, or past a file
pub data Walk : Type 0 where
  Found : Node → Walk
  Absent : Walk
  Blocked : Walk

-- where a walk ends that met directories alone
abbrev pub walk_end : Option Node → Walk
walk_end None = Walk.Absent
walk_end (Some n) = Walk.Found n

-- a directory lets the walk go on
abbrev pub walk_part : Option Node → Walk → Walk
walk_part None w = Walk.Absent
walk_part (Some Node.Directory) w = w
walk_part (Some (Node.IsFile f)) w = Walk.Blocked

-- the first of these paths that is no directory decides, else the last answer holds
abbrev pub walk_along : List NodeRow → List Path → Walk → Walk
walk_along nodes [] w = w
walk_along nodes (q ∷ qs) w = walk_part (find_node nodes q) (walk_along nodes qs w)

-- the first proper prefix of the path that is no directory decides, else the node itself
abbrev pub walk_nodes : List NodeRow → Path → Walk
walk_nodes nodes p = walk_along nodes (parts p) (walk_end (find_node nodes p))

-- where the proper prefixes of the path lead, whatever stands at the path itself
abbrev pub walk_above : List NodeRow → Path → Walk
walk_above nodes p = walk_along nodes (parts p) (Walk.Found Node.Directory)

-- the last name of q, where q is p with one name more
abbrev pub child_name : Path → Path → Option Name
child_name [] [] = None
child_name [] (x ∷ []) = Some x
child_name [] (x ∷ y ∷ ys) = None
child_name (a ∷ as') [] = None
child_name (a ∷ as') (x ∷ xs) = cond (name_eq a x) (child_name as' xs) None

-- the names in a directory, in byte order
abbrev pub names_in : List NodeRow → Path → List Name
names_in nodes p = filter_map (λ (r : NodeRow). child_name p r.0) nodes

-- the node at a path of the names
abbrev pub node_at : Names → Path → Option Node
node_at N p = find_node N.nodes p

-- the path has a node
abbrev pub has_node : Names → Path → Bool
has_node N p = is_some (node_at N p)

-- the file at a path
abbrev pub file_at : Names → Path → Option File
file_at N p = option_and_then file_in (node_at N p)

-- the names in a directory of the names
abbrev pub children : Names → Path → List Name
children N p = names_in N.nodes p

-- the node is the file with this id
abbrev pub id_is : ℕ → Node → Bool
id_is id Node.Directory = false
id_is id (Node.IsFile f) = nat_eq f.id id

-- the file with this id, with its path
abbrev pub row_of : Names → ℕ → Option NodeRow
row_of N id = find (λ (r : NodeRow). id_is id r.1) N.nodes

-- the file with this id
abbrev pub file_of : Names → ℕ → Option File
file_of N id = option_and_then (λ (r : NodeRow). file_in r.1) (row_of N id)

-- the path of the file with this id
abbrev pub path_of : Names → ℕ → Option Path
path_of N id = option_map (λ (r : NodeRow). r.0) (row_of N id)

-- stored is Yes
abbrev pub stored_is_yes : Stored → Bool
stored_is_yes Stored.No = false
stored_is_yes Stored.Wanted = false
stored_is_yes Stored.Yes = true

-- stored is Wanted
abbrev pub stored_is_wanted : Stored → Bool
stored_is_wanted Stored.No = false
stored_is_wanted Stored.Wanted = true
stored_is_wanted Stored.Yes = false

-- the node is a stored file
abbrev pub node_stored : Node → Bool
node_stored Node.Directory = false
node_stored (Node.IsFile f) = stored_is_yes f.stored

-- the files with stored Yes under a path, in path order
abbrev pub stored_under : Names → Path → List Path
stored_under N p = map (λ (r : NodeRow). r.0) (filter (λ (r : NodeRow). under r.0 p && node_stored r.1) N.nodes)

-- ---- mounts

-- the mount at this path
abbrev pub mount_at : Names → Path → Option MountRow
mount_at N p = find (λ m. path_eq m.path p) N.mounts

-- the longest mount that p is under: the last one, since mounts stand by path
abbrev pub mount_of : Names → Path → Option MountRow
mount_of N p = last_or None (filter (λ m. under p m.path) N.mounts)

-- the store and the key of a path
abbrev pub key_of : Names → Path → Option (ℕ × Prefix)
key_of N p = option_map (λ m. (m.store, m.key ++ drop (length m.path) p)) (mount_of N p)

-- the store in which a file at the path has its object
abbrev pub store_of : Names → Path → ℕ
store_of N p = unwrap_or (option_map (λ (k : ℕ × Prefix). k.0) (key_of N p)) 0

-- a mount is at the path or below it
abbrev pub has_mount_under : Names → Path → Bool
has_mount_under N p = list_any (λ m. under m.path p) N.mounts

-- ---- locks, by rising plan number

-- how an event touches a path
pub data Touch : Type 0 where
  Inside : Touch
  Whole : Touch

-- the lock is in the way of a touch
abbrev pub lock_meets : Touch → Path → LockRow → Bool
lock_meets Touch.Inside p l = l.write && under p l.path
lock_meets Touch.Whole p l = (l.write && under p l.path) || under l.path p

-- the least plan whose lock is in the way
abbrev pub busy : Names → Path → Touch → Option ℕ
busy N p t = option_map (λ l. l.plan) (find (lock_meets t p) N.locks)

-- the least plan with a lock on a path that this one is under
abbrev pub covers : Names → Path → Option ℕ
covers N p = option_map (λ l. l.plan) (find (λ l. under p l.path) N.locks)

-- the pending plan with this number
abbrev pub plan_at : Names → ℕ → Option PlanRow
plan_at N n = find (λ r. nat_eq r.number n) N.plans

-- ---- workers, numbered from 1

-- the element with this number, from 1
abbrev pub at_number : {X : Type 0} → List X → ℕ → Option X
at_number xs n = cond (nat_eq n 0) None (slice_get xs (pred n))

-- the elements with their numbers, from 1
abbrev pub numbered : {X : Type 0} → List X → List (ℕ × X)
numbered xs = enumerate_from 1 xs

-- a worker of which the master knows nothing
abbrev pub unregistered : Registration
unregistered = record { known = false; awaited = false; silence = 0 }

-- a worker that never ran
abbrev pub no_worker : Worker
no_worker = record { running = false; start = 0; next = 1; copies = []; rooms = []; litter = [] }

-- the worker with this number
abbrev pub worker : State → ℕ → Worker
worker A w = get_or A.workers (pred w) no_worker

-- what the master knows of a worker
abbrev pub registration : State → ℕ → Registration
registration A w = get_or A.registrations (pred w) unregistered

-- the worker's number is configured
abbrev pub is_configured : Setup → ℕ → Bool
is_configured S w = nat_lt 0 w && nat_le w (length S.tiers)

-- the worker runs
abbrev pub is_running : State → ℕ → Bool
is_running A w = nat_lt 0 w && (worker A w).running

-- a worker is live where it runs and is known
abbrev pub is_live : State → ℕ → Bool
is_live A w = is_running A w && (registration A w).known

-- the worker runs with the start number that was noted
abbrev pub runs_since : State → ℕ → ℕ → Bool
runs_since A w start = is_running A w && nat_eq (worker A w).start start

-- the worker's copy of a block
abbrev pub copy_of : Worker → ℕ → ℕ → Option Copied
copy_of W f i = find (λ c. nat_eq c.file f && nat_eq c.block i) W.copies

-- the worker's copy with this object number
abbrev pub copy_numbered : Worker → ℕ → Option Copied
copy_numbered W n = find (λ c. nat_eq c.number n) W.copies

-- the live workers, rising
abbrev pub live_workers : State → List ℕ
live_workers A = filter (is_live A) (range_with_len 1 (length A.workers))

-- the live copies of a block, by rising worker
abbrev pub live_copies : State → ℕ → ℕ → List (ℕ × Copied)
live_copies A f i = filter_map (λ w. option_map (λ c. (w, c)) (copy_of (worker A w) f i)) (live_workers A)

-- the list is empty
abbrev pub is_empty : {X : Type 0} → List X → Bool
is_empty [] = true
is_empty (x ∷ xs) = false

-- the block has no live copy
abbrev pub lacking : State → ℕ → ℕ → Bool
lacking A f i = is_empty (live_copies A f i)

-- the least worker that is awaited
abbrev pub awaited : State → Option ℕ
awaited A = option_map (λ r. r.0) (find (λ (r : ℕ × Registration). r.1.awaited) (numbered A.registrations))

-- the block size of a file: for now all have the same
abbrev pub file_block : Setup → File → ℕ
file_block S f = S.block

-- some block of the file has no live copy
abbrev pub lacks_some : Setup → State → File → Bool
lacks_some S A f = list_any (lacking A f.id) (range_with_len 0 (block_count f.len (file_block S f)))

-- ---- labels

-- what is under a label
abbrev pub hand_at : Hands → Label → Option Hand
hand_at H l = option_map (λ r. r.hand) (find (λ r. name_eq r.label l) H)

-- the actor has the label
abbrev pub has_label : Hands → Label → Bool
has_label H l = is_some (hand_at H l)

-- the hold is of this copy, of the worker as it runs now
abbrev pub holds_copy : State → ℕ → ℕ → HoldRow → Bool
holds_copy A w n h = nat_eq h.hold.worker w && nat_eq h.hold.start (worker A w).start && nat_eq h.hold.number n

-- how many labels hold the copy with this number at the worker as it runs now
abbrev pub holders : State → ℕ → ℕ → ℕ
holders A w n = length (filter (holds_copy A w n) A.holds)

-- a mover holds that copy
abbrev pub is_moved : State → ℕ → ℕ → Bool
is_moved A w n = list_any (λ h. h.moving && holds_copy A w n h) A.holds

-- a copy must stay where it has keep or pin, or a label holds it
abbrev pub must_stay : State → ℕ → Copied → Bool
must_stay A w c = c.keep || c.pin || nat_lt 0 (holders A w c.number)

-- ---- room

-- the bytes of a tier
abbrev pub capacity : Setup → ℕ → ℕ → ℕ
capacity S w t = get_or (get_or S.tiers (pred w) []) t 0

-- how many tiers a worker has
abbrev pub tiers_of : Setup → ℕ → ℕ
tiers_of S w = length (get_or S.tiers (pred w) [])

-- the bytes that are reserved at a tier
abbrev pub room_bytes : State → ℕ → ℕ → ℕ
room_bytes A w t = sum_by (λ (r : RoomRow). cond (nat_eq r.tier t) r.bytes 0) (worker A w).rooms

-- the bytes of those copies at a tier that pass the test
abbrev pub copy_bytes : (Copied → Bool) → State → ℕ → ℕ → ℕ
copy_bytes which A w t = sum_by (λ (c : Copied). cond (nat_eq c.tier t && which c) c.len 0) (worker A w).copies

-- the bytes of a tier that are neither reserved nor a copy's
abbrev pub free_bytes : Setup → State → ℕ → ℕ → ℕ
free_bytes S A w t = capacity S w t - room_bytes A w t - copy_bytes (λ c. true) A w t

-- what could be free at the tier if each copy that needn't stay were dropped
abbrev pub could_free : Setup → State → ℕ → ℕ → ℕ
could_free S A w t = capacity S w t - room_bytes A w t - copy_bytes (must_stay A w) A w t

-- the tiers at which room is sought
abbrev pub tiers_sought : Setup → ℕ → Option ℕ → List ℕ
tiers_sought S w None = range_with_len 0 (tiers_of S w)
tiers_sought S w (Some t) = t ∷ []

-- at every tier that is sought too little could be free
abbrev pub no_room_for : Setup → State → ℕ → Option ℕ → ℕ → Bool
no_room_for S A w only n = list_all (λ t. nat_lt (could_free S A w t) n) (tiers_sought S w only)

-- the first copies in order of use, until so many bytes more are free
abbrev pub victims : ℕ → List Copied → List ℕ
victims need [] = []
victims need (c ∷ cs) = cond (nat_eq need 0) [] (c.number ∷ victims (need - c.len) cs)

-- the copies that are dropped at a tier for so many bytes
abbrev pub victims_at : Setup → State → ℕ → ℕ → ℕ → List ℕ
victims_at S A w t n = victims (n - free_bytes S A w t) (filter (λ c. nat_eq c.tier t && not (must_stay A w c)) (worker A w).copies)

-- the tier and the numbers of the dropped copies for a room of n bytes
abbrev pub placed : Setup → State → ℕ → Option ℕ → ℕ → Option (ℕ × List ℕ)
placed S A w only n = first (
    option_map (λ (t : ℕ). (t, [])) (find (λ t. nat_le n (free_bytes S A w t)) (tiers_sought S w only))
    ∷ option_map (λ (t : ℕ). (t, victims_at S A w t n)) (find (λ t. nat_le n (could_free S A w t)) (tiers_sought S w only))
    ∷ [])
