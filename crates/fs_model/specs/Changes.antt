-- What a journaled change does to the names, how long its entry is, and which change an event makes.
use Rattle.std.specs.Prelude.{ℕ, pred, ◌+◌, ◌*◌, max, Bool, true, false, cond, not, List, [], ◌∷◌, ◌++◌, map, length, drop, filter, nat_eq, unwrap_or, fold}
use Rattle.std.specs.List.{list_any}
use Rattle.fs_model.specs.declared.path.Path.{Path}
use Rattle.fs_model.specs.declared.prefix.Prefix.{Prefix}
use Rattle.fs_model.specs.declared.reply.Stored.{Stored}
use Rattle.fs_model.specs.declared.change.PlanKind.{PlanKind}
use Rattle.fs_model.specs.declared.change.Change.{Change}
use Rattle.std.specs.FinMap as entries
use Rattle.std.specs.FinMap.Entries.{where_key}
use Rattle.fs_model.specs.Words.{path_cmp, path_eq, under, parts, put_in_order, put_number, path_len}
use Rattle.fs_model.specs.State.{Names, NodeRow, PlanRow, LockRow, Node, File}
use Rattle.fs_model.specs.Lookups.{has_node, path_of, id_is, stored_under}

-- ---- rows of nodes

-- the node stands at its place by path, in place of any there
abbrev pub put_node : Path → Node → List NodeRow → List NodeRow
put_node p n rows = entries.put path_cmp p n rows

-- the nodes whose paths pass the test
abbrev pub keep_nodes : (Path → Bool) → List NodeRow → List NodeRow
keep_nodes test rows = where_key path_cmp test rows

-- the names with this node
abbrev pub add_node : Path → Node → Names → Names
add_node p n N = record N { nodes = put_node p n N.nodes }

-- the names without the nodes under a path
abbrev pub remove_under : Path → Names → Names
remove_under p N = record N { nodes = keep_nodes (λ x. not (under x p)) N.nodes }

-- each row under p gets q in place of that front
abbrev pub moved_rows : Path → Path → List NodeRow → List NodeRow
moved_rows p q rows = map (λ (r : NodeRow). (q ++ drop (length p) r.0, r.1)) (keep_nodes (λ x. under x p) rows)

-- the names with the nodes under one path under another instead
abbrev pub relocate : Path → Path → Names → Names
relocate p q N = record N { nodes = fold (λ rows (r : NodeRow). put_node r.0 r.1 rows) (keep_nodes (λ x. not (under x p)) N.nodes) (moved_rows p q N.nodes) }

-- a file is changed, a directory is not
abbrev pub set_file : (File → File) → Node → Node
set_file change Node.Directory = Node.Directory
set_file change (Node.IsFile f) = Node.IsFile (change f)

-- the file with this id is changed
abbrev pub change_file : ℕ → (File → File) → Names → Names
change_file id change N = record N { nodes = map (λ (r : NodeRow). (r.0, cond (id_is id r.1) (set_file change r.1) r.1)) N.nodes }

-- the file at this path is changed
abbrev pub change_file_at : Path → (File → File) → Names → Names
change_file_at p change N = record N { nodes = map (λ (r : NodeRow). (r.0, cond (path_eq r.0 p) (set_file change r.1) r.1)) N.nodes }

-- the proper prefixes of a path that have no node
abbrev pub missing_parts : Names → Path → List Path
missing_parts N p = filter (λ q. not (has_node N q)) (parts p)

-- a file with the directories that it needs
abbrev pub add_with_parts : Path → Node → Names → Names
add_with_parts p n N = record N { nodes = put_node p n (fold (λ rows q. put_node q Node.Directory rows) N.nodes (missing_parts N p)) }

-- ---- plans

-- the next id is above this one
abbrev pub raise_id : ℕ → Names → Names
raise_id id N = record N { next_id = max N.next_id (id + 1) }

-- Write locks of a plan on these paths
abbrev pub write_locks : ℕ → List Path → List LockRow
write_locks plan ps = map (λ p. record { plan = plan; path = p; write = true }) ps

-- the plan is pending with its locks; number 0 means no plan
abbrev pub begin_plan : PlanRow → List LockRow → Names → Names
begin_plan row locks N =
    let none = nat_eq row.number 0 in
    record N {
      plans = cond none N.plans (N.plans ++ row ∷ []);
      locks = cond none N.locks (N.locks ++ locks);
      next_plan = cond none N.next_plan (max N.next_plan (row.number + 1));
    }

-- a Publish plan for the file with this id, with a Read lock on its path
abbrev pub begin_publish : ℕ → ℕ → Names → Names
begin_publish id plan N =
    let p = unwrap_or (path_of N id) [] in
    begin_plan (record { number = plan; kind = PlanKind.Publish; path = p; to = []; leaves = [] }) (record { plan = plan; path = p; write = false } ∷ []) N

-- the plan and its locks go
abbrev pub end_plan : ℕ → Names → Names
end_plan plan N = record N {
  plans = filter (λ r. not (nat_eq r.number plan)) N.plans;
  locks = filter (λ l. not (nat_eq l.plan plan)) N.locks;
}

-- ---- the change

-- what a change does to the names
abbrev pub apply : Change → Names → Names
apply (Change.Mkdir p) N = add_node p Node.Directory N
apply (Change.Create id p) N =
    raise_id id (add_node p (Node.IsFile (record { id = id; len = 0; done = false; stored = Stored.No; pinned = false })) N)
apply (Change.Done id len stored plan) N =
    begin_publish id plan (change_file id (λ f. record f { len = len; done = true; stored = stored }) N)
apply (Change.Remove p plan) N =
    begin_plan (record { number = plan; kind = PlanKind.Remove; path = p; to = []; leaves = stored_under N p }) (write_locks plan (p ∷ [])) (remove_under p N)
apply (Change.Move p q plan) N =
    begin_plan (record { number = plan; kind = PlanKind.Move; path = p; to = q; leaves = [] }) (write_locks plan (p ∷ q ∷ [])) (relocate p q N)
apply (Change.Pin p on) N = change_file_at p (λ f. record f { pinned = on }) N
apply (Change.Want id) N = change_file id (λ f. record f { stored = Stored.Wanted }) N
apply (Change.PlanEnd plan) N = end_plan plan N
apply (Change.Persisted id plan) N = begin_publish id plan (change_file id (λ f. record f { stored = Stored.Yes }) N)
apply (Change.Mount p s key plan) N =
    begin_plan (record { number = plan; kind = PlanKind.Load; path = p; to = []; leaves = [] }) (write_locks plan (p ∷ []))
    (record (add_node p Node.Directory N) { mounts = put_in_order (λ m. m.path) (record { path = p; store = s; key = key }) N.mounts })
apply (Change.Unmount p) N = record (remove_under p N) { mounts = filter (λ m. not (path_eq m.path p)) N.mounts }
apply (Change.Seen w) N = record N { seen = put_number w N.seen }
apply (Change.Lost ws) N = record N { seen = filter (λ w. not (list_any (nat_eq w) ws)) N.seen }
apply (Change.Loaded id p len) N =
    raise_id id (add_with_parts p (Node.IsFile (record { id = id; len = len; done = true; stored = Stored.Yes; pinned = false })) N)

-- `/` alone, nothing mounted
abbrev pub no_names : Names
no_names = record {
  nodes = ([], Node.Directory) ∷ [];
  mounts = [];
  plans = [];
  locks = [];
  seen = [];
  next_id = 1;
  next_plan = 1;
}

-- the names after these changes, one after the other
abbrev pub after : Names → List Change → Names
after N changes = fold (λ M c. apply c M) N changes

-- ---- how long an entry's text is: four bytes for the length, the kind byte and the fields

-- the length of a key's text
abbrev pub key_len : Prefix → ℕ
key_len [] = 0
key_len (x ∷ xs) = pred (path_len (x ∷ xs))

-- the length of a change's entry
abbrev pub entry_len : Change → ℕ
entry_len (Change.Mkdir p) = 7 + path_len p
entry_len (Change.Create id p) = 15 + path_len p
entry_len (Change.Done id len stored plan) = 30
entry_len (Change.Remove p plan) = 15 + path_len p
entry_len (Change.Move p q plan) = 17 + path_len p + path_len q
entry_len (Change.Pin p on) = 8 + path_len p
entry_len (Change.Want id) = 13
entry_len (Change.PlanEnd plan) = 13
entry_len (Change.Persisted id plan) = 21
entry_len (Change.Mount p s key plan) = 21 + path_len p + key_len key
entry_len (Change.Unmount p) = 7 + path_len p
entry_len (Change.Seen w) = 9
entry_len (Change.Lost ws) = 7 + 4 * length ws
entry_len (Change.Loaded id p len) = 23 + path_len p
