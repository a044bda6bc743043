-- The events on names: which change each makes, and the table of its refusals.
use Rattle.std.specs.Prelude.{ℕ, Bool, true, false, cond, not, ◌&&◌, ◌||◌, List, [], ◌∷◌, ◌++◌, length, drop, nat_eq, nat_lt, nat_le, Option, Some, None, is_some, is_none, option_map, find}
use Rattle.std.specs.List.{list_any}
use Rattle.fs_model.specs.declared.path.Path.{Path}
use Rattle.fs_model.specs.declared.prefix.Prefix.{Prefix}
use Rattle.fs_model.specs.declared.label.Label.{Label}
use Rattle.fs_model.specs.declared.setup.Setup.{Setup}
use Rattle.fs_model.specs.declared.change.Change.{Change}
use Rattle.fs_model.specs.declared.reply.Stored.{Stored}
use Rattle.fs_model.specs.declared.reply.Reply.{Reply}
use Rattle.fs_model.specs.declared.reply.Refusal.TheVariants.{Exists, NotDirectory, IsDirectory, NotEmpty, Incomplete, IsMount, CrossMount, MountOverlap, InsideItself, NotPersisted, Pinned, NotMount}
use Rattle.fs_model.specs.declared.reply.Which.{Which}
use Rattle.fs_model.specs.Words.{path_eq, under, first, ◌when◌, path_len}
use Rattle.fs_model.specs.State.{State, Node, File, NodeRow, MountRow, Hands}
use Rattle.fs_model.specs.Lookups.{Touch, has_node, file_at, stored_under, stored_is_yes, children, is_empty, mount_at, mount_of, has_mount_under}
use Rattle.fs_model.specs.Tests.{refuse, stopped, touch, along, along_new, label_taken, not_configured_if_any, not_live, past, past_nodes, past_labels, past_plans, past_ids, past_area, ◌only_if◌}

-- ---- words on the node of a path

-- the node at the path is no file
abbrev pub is_dir_at : State → Path → Bool
is_dir_at A p = is_none (file_at A.names p)

-- the file at the path passes the test
abbrev pub file_is : (File → Bool) → State → Path → Bool
file_is test A p = elim (file_at A.names p) [ None ↦ false | Some f ↦ test f ]

-- the file at the path isn't done
abbrev pub unfinished_at : State → Path → Bool
unfinished_at A p = file_is (λ f. not f.done) A p

-- stored is No
abbrev pub is_stored_no : Stored → Bool
is_stored_no Stored.No = true
is_stored_no Stored.Wanted = false
is_stored_no Stored.Yes = false

-- the id of the file at the path
abbrev pub id_at : State → Path → ℕ
id_at A p = elim (file_at A.names p) [ None ↦ 0 | Some f ↦ f.id ]

-- the number of a plan that is made only where some file under the path is stored
abbrev pub moves_objects : State → Path → Bool
moves_objects A p = not (is_empty (stored_under A.names p))

-- the next plan number, or none
abbrev pub plan_if : Bool → State → ℕ
plan_if b A = cond b A.names.next_plan 0

-- ---- changes

-- the change of Mkdir
abbrev pub mkdir_change : State → Path → Option Change
mkdir_change A p = Some (Change.Mkdir p)

-- the change of Create
abbrev pub create_change : State → Path → Option Change
create_change A p = Some (Change.Create A.names.next_id p)

-- the change of Rename
abbrev pub rename_change : State → Path → Path → Option Change
rename_change A p q = Some (Change.Move p q (plan_if (moves_objects A p) A))

-- the change of Remove
abbrev pub remove_change : State → Path → Option Change
remove_change A p = Some (Change.Remove p (plan_if (moves_objects A p) A))

-- the change of Persist: only where stored is No
abbrev pub persist_change : State → Path → Option Change
persist_change A p = Change.Want (id_at A p) when file_is (λ f. is_stored_no f.stored) A p

-- the change of Mount
abbrev pub mount_change : State → Path → ℕ → Prefix → Option Change
mount_change A p s key = Some (Change.Mount p s key A.names.next_plan)

-- ---- refusals

-- the tests of Mkdir, in order
abbrev pub mkdir_tests : Setup → State → Path → List (Option Reply)
mkdir_tests S A p =
    stopped A
    ∷ touch A p Touch.Inside
    ∷ along_new A p
    ∷ refuse Exists (has_node A.names p)
    ∷ past_nodes A 1
    ∷ past_area S A (mkdir_change A p)
    ∷ []

-- the first test of Mkdir that holds
abbrev pub mkdir_refusal : Setup → State → Path → Option Reply
mkdir_refusal S A p = first (mkdir_tests S A p)

-- the tests of Create
abbrev pub create_refusal : Setup → State → Hands → Label → Path → ℕ → Option Reply
create_refusal S A H l p w = first (
    label_taken H l
    ∷ stopped A
    ∷ touch A p Touch.Inside
    ∷ along_new A p
    ∷ refuse Exists (has_node A.names p)
    ∷ not_configured_if_any S w
    ∷ past_nodes A 1
    ∷ past_labels H
    ∷ past_ids A.names.next_id
    ∷ past_area S A (create_change A p)
    ∷ (not_live A w only_if not (nat_eq w 0))
    ∷ [])

-- each path below the renamed one gets no longer than a path may be
abbrev pub too_long_after : State → Path → Path → Bool
too_long_after A p q = list_any (λ (r : NodeRow). under r.0 p && nat_lt 4096 (path_len (q ++ drop (length p) r.0))) A.names.nodes

-- two mounts differ
abbrev pub other_mount : Option MountRow → Option MountRow → Bool
other_mount None None = false
other_mount None (Some n) = true
other_mount (Some m) None = true
other_mount (Some m) (Some n) = not (path_eq m.path n.path)

-- the tests of Rename
abbrev pub rename_refusal : Setup → State → Path → Path → Option Reply
rename_refusal S A p q = first (
    stopped A
    ∷ touch A p Touch.Whole
    ∷ along A p
    ∷ touch A q Touch.Whole
    ∷ along_new A q
    ∷ refuse Exists (has_node A.names q)
    ∷ refuse IsMount (has_mount_under A.names p)
    ∷ refuse CrossMount (other_mount (mount_of A.names p) (mount_of A.names q))
    ∷ refuse InsideItself (under q p)
    ∷ past Which.Path (too_long_after A p q)
    ∷ (past_plans A only_if moves_objects A p)
    ∷ (past_ids A.names.next_plan only_if moves_objects A p)
    ∷ past_area S A (rename_change A p q)
    ∷ [])

-- the directory has a child
abbrev pub has_child : State → Path → Bool
has_child A p = not (is_empty (children A.names p))

-- the tests of Remove
abbrev pub remove_refusal : Setup → State → Path → Bool → Option Reply
remove_refusal S A p deep = first (
    stopped A
    ∷ touch A p Touch.Whole
    ∷ along A p
    ∷ refuse NotEmpty (not deep && has_child A p)
    ∷ refuse IsMount (has_mount_under A.names p)
    ∷ (past_plans A only_if moves_objects A p)
    ∷ (past_ids A.names.next_plan only_if moves_objects A p)
    ∷ past_area S A (remove_change A p)
    ∷ [])

-- the tests of Pin
abbrev pub pin_refusal : Setup → State → Path → Bool → Option Reply
pin_refusal S A p on = first (
    stopped A
    ∷ touch A p Touch.Inside
    ∷ along A p
    ∷ refuse IsDirectory (is_dir_at A p)
    ∷ past_area S A (Some (Change.Pin p on))
    ∷ [])

-- the tests of Persist
abbrev pub persist_refusal : Setup → State → Path → Option Reply
persist_refusal S A p = first (
    stopped A
    ∷ touch A p Touch.Inside
    ∷ along A p
    ∷ refuse IsDirectory (is_dir_at A p)
    ∷ refuse Incomplete (unfinished_at A p)
    ∷ past_area S A (persist_change A p)
    ∷ [])

-- the tests of Free
abbrev pub free_refusal : State → Path → Option Reply
free_refusal A p = first (
    stopped A
    ∷ touch A p Touch.Inside
    ∷ along A p
    ∷ refuse IsDirectory (is_dir_at A p)
    ∷ refuse Incomplete (unfinished_at A p)
    ∷ refuse NotPersisted (file_is (λ f. not (stored_is_yes f.stored)) A p)
    ∷ refuse Pinned (file_is (λ f. f.pinned) A p)
    ∷ [])

-- the first mount of the same store whose prefix is under the new one or above it
abbrev pub overlap : State → ℕ → Prefix → Option Reply
overlap A s key = option_map (λ m. Reply.Refused (MountOverlap m.path)) (find (λ m. nat_eq m.store s && (under m.key key || under key m.key)) A.names.mounts)

-- the tests of Mount
abbrev pub mount_refusal : Setup → State → Path → ℕ → Prefix → Option Reply
mount_refusal S A p s key = first (
    stopped A
    ∷ touch A p Touch.Whole
    ∷ along_new A p
    ∷ refuse Exists (has_node A.names p)
    ∷ overlap A s key
    ∷ past_nodes A 1
    ∷ past_plans A
    ∷ past Which.Mounts (nat_le 64 (length A.names.mounts))
    ∷ past Which.Store (nat_lt S.stores s)
    ∷ past_ids A.names.next_plan
    ∷ past_area S A (mount_change A p s key)
    ∷ [])

-- the root, or a mount with another one below it
abbrev pub mount_must_stay : State → Path → Bool
mount_must_stay A p = path_eq p [] || list_any (λ m. under m.path p && not (path_eq m.path p)) A.names.mounts

-- the node is a file that isn't stored
abbrev pub is_unstored : Node → Bool
is_unstored Node.Directory = false
is_unstored (Node.IsFile f) = not (stored_is_yes f.stored)

-- the tests of Unmount
abbrev pub unmount_refusal : Setup → State → Path → Option Reply
unmount_refusal S A p = first (
    stopped A
    ∷ touch A p Touch.Whole
    ∷ along A p
    ∷ refuse NotMount (is_none (mount_at A.names p))
    ∷ refuse IsMount (mount_must_stay A p)
    ∷ refuse NotPersisted (list_any (λ (r : NodeRow). under r.0 p && is_unstored r.1) A.names.nodes)
    ∷ past_area S A (Some (Change.Unmount p))
    ∷ [])

-- the tests of List
abbrev pub list_refusal : State → Path → Option Reply
list_refusal A p = first (
    stopped A
    ∷ touch A p Touch.Inside
    ∷ along A p
    ∷ refuse NotDirectory (is_some (file_at A.names p))
    ∷ [])

-- the tests of Stat
abbrev pub stat_refusal : State → Path → Option Reply
stat_refusal A p = first (stopped A ∷ touch A p Touch.Inside ∷ along A p ∷ [])

-- the tests of Where
abbrev pub where_refusal : State → Path → Option Reply
where_refusal A p = first (
    stopped A
    ∷ touch A p Touch.Inside
    ∷ along A p
    ∷ refuse IsDirectory (is_dir_at A p)
    ∷ [])
