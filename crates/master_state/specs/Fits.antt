-- Where an entry fits names. An entry that doesn't fit means nothing.
use Rattle.std.specs.Prelude.{ℕ, Bool, true, false, not, ◌&&◌, ◌||◌, List, [], ◌∷◌, ◌++◌, length, drop, nat_eq, nat_le, Option, Some, None, is_none, is_some, unwrap_or}
use Rattle.std.specs.List.{list_any, list_all}
use Rattle.fs_model.specs.declared.path.Path.{Path}
use Rattle.fs_model.specs.declared.prefix.Prefix.{Prefix}
use Rattle.fs_model.specs.declared.change.PlanKind.{PlanKind}
use Rattle.fs_model.specs.Words.{path_eq, under, parts, path_len}
use Rattle.fs_model.specs.State.{Names, NodeRow, File, PlanRow, LockRow}
use Rattle.fs_model.specs.Lookups.{Touch, has_node, file_at, file_of, path_of, row_of, is_empty, mount_at, mount_of, has_mount_under, busy, plan_at, stored_is_yes, stored_is_wanted}
use Rattle.fs_model.specs.NamesEvents.{is_stored_no, other_mount}
use Rattle.fs_model.specs.NodesEvents.{is_reserved}
use Rattle.fs_model.specs.Changes.{key_len, write_locks}
use Rattle.journal_entry.specs.declared.entry.Entry.{Entry}
use Rattle.journal_entry.specs.Fields.{is_root}
use Rattle.master_state.specs.Walks.{has_place}

-- ---- nodes

-- a file may come in that brings its directories: none before it is a file
abbrev pub has_way : Names → Path → Bool
has_way N p = not (has_node N p) && list_all (λ q. is_none (file_at N q)) (parts p)

-- no file has this id
abbrev pub is_new_id : Names → ℕ → Bool
is_new_id N id = is_none (row_of N id)

-- there is a file, and it passes the test
abbrev pub file_passes : (File → Bool) → Option File → Bool
file_passes test None = false
file_passes test (Some f) = test f

-- no path below the first gets longer under the second than a path may be
abbrev pub stays_short : Names → Path → Path → Bool
stays_short N p q = list_all (λ (r : NodeRow). not (under r.0 p) || nat_le (path_len (q ++ drop (length p) r.0)) 4096) N.nodes

-- ---- mounts

-- the paths have the same longest mount
abbrev pub same_mount : Names → Path → Path → Bool
same_mount N p q = not (other_mount (mount_of N p) (mount_of N q))

-- the store may be mounted under the key: it isn't reserved nor too long, and no mount of the store is under it or above it
abbrev pub is_mountable : Names → ℕ → Prefix → Bool
is_mountable N store key =
    not (is_reserved key) && nat_le (key_len key) 4096 && not (list_any (λ m. nat_eq m.store store && (under m.key key || under key m.key)) N.mounts)

-- another mount than that of the path is under it
abbrev pub has_mount_below : Names → Path → Bool
has_mount_below N p = list_any (λ m. under m.path p && not (path_eq m.path p)) N.mounts

-- ---- plans

-- how a lock touches its path
abbrev pub touch_of : LockRow → Touch
touch_of l = elim l.write [ true ↦ Touch.Whole | false ↦ Touch.Inside ]

-- a plan with these locks may begin: it isn't pending, and no lock is in the way; plan 0 means none
abbrev pub may_begin : Names → ℕ → List LockRow → Bool
may_begin N plan locks = nat_eq plan 0 || (is_none (plan_at N plan) && list_all (λ l. is_none (busy N l.path (touch_of l))) locks)

-- a Read lock of a plan on the path
abbrev pub read_locks : ℕ → Path → List LockRow
read_locks plan p = record { plan = plan; path = p; write = false } ∷ []

-- the locks of a plan on its paths
abbrev pub locks_of : PlanKind → ℕ → Path → Path → List LockRow
locks_of PlanKind.Move plan p q = write_locks plan (p ∷ q ∷ [])
locks_of PlanKind.Remove plan p q = write_locks plan (p ∷ [])
locks_of PlanKind.Publish plan p q = read_locks plan p
locks_of PlanKind.Load plan p q = write_locks plan (p ∷ [])

-- the nodes and mounts are those that the change which made the plan leaves
abbrev pub has_begun : PlanKind → Names → Path → Path → Bool
has_begun PlanKind.Move N p q = not (has_node N p) && has_node N q && same_mount N p q
has_begun PlanKind.Remove N p q = not (has_node N p)
has_begun PlanKind.Publish N p q = file_passes (λ f. stored_is_yes f.stored) (file_at N p)
has_begun PlanKind.Load N p q = is_some (mount_at N p) && not (is_root p)

-- a Remove
abbrev pub is_removal : PlanKind → Bool
is_removal PlanKind.Remove = true
is_removal k = false

-- the plan removes files under a path that this one is under
abbrev pub removes : Path → Option PlanRow → Bool
removes p None = false
removes p (Some r) = is_removal r.kind && under p r.path

-- ---- entries

-- the entry fits the names
abbrev pub fits_in : Entry → Names → Bool
fits_in (Entry.Mkdir p) N = has_place N p
fits_in (Entry.Create id p) N = has_place N p && is_new_id N id
fits_in (Entry.Done id len stored plan) N = file_passes (λ f. not f.done) (file_of N id) && may_begin N plan (read_locks plan (unwrap_or (path_of N id) []))
fits_in (Entry.Remove p plan) N = not (is_root p) && has_node N p && not (has_mount_under N p) && may_begin N plan (write_locks plan (p ∷ []))
fits_in (Entry.Move p q plan) N =
    has_node N p && not (has_mount_under N p) && has_place N q && not (under q p) && same_mount N p q && stays_short N p q && may_begin N plan (write_locks plan (p ∷ q ∷ []))
fits_in (Entry.Pin p on) N = file_passes (λ f. true) (file_at N p)
fits_in (Entry.Want id) N = file_passes (λ f. f.done && is_stored_no f.stored) (file_of N id)
fits_in (Entry.PlanEnd plan) N = is_some (plan_at N plan)
fits_in (Entry.Persisted id plan) N = file_passes (λ f. f.done && stored_is_wanted f.stored) (file_of N id) && may_begin N plan (read_locks plan (unwrap_or (path_of N id) []))
fits_in (Entry.Mount p store key plan) N = (has_place N p || (is_root p && is_empty N.mounts)) && is_mountable N store key && may_begin N plan (write_locks plan (p ∷ []))
fits_in (Entry.Unmount p) N = not (is_root p) && is_some (mount_at N p) && not (has_mount_below N p)
fits_in (Entry.Seen w) N = not (list_any (nat_eq w) N.seen)
fits_in (Entry.Lost ws) N = list_all (λ w. list_any (nat_eq w) N.seen) ws
fits_in (Entry.Loaded id p len) N = has_way N p && is_new_id N id
fits_in (Entry.Next id plan) N = true
fits_in (Entry.Node p dir id len done stored pinned) N = has_place N p && (dir || is_new_id N id)
fits_in (Entry.Pending plan kind p q) N = has_begun kind N p q && may_begin N plan (locks_of kind plan p q)
fits_in (Entry.Leaf plan p) N = removes p (plan_at N plan)
