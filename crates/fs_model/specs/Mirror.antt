-- What the stores hold: the objects of the rows, but for the actions left of pending plans.
use Rattle.std.specs.Prelude.{◌≡◌, ℕ, ◌+◌, Bool, cond, not, List, [], ◌∷◌, ◌++◌, map, length, drop, filter, nat_eq, Option, Some, None, option_map, filter_map, flat_map, fold}
use Rattle.std.specs.List.{list_any}
use Rattle.std.specs.FinMap as entries
use Rattle.fs_model.specs.declared.path.Path.{Path}
use Rattle.fs_model.specs.declared.prefix.Prefix.{Prefix}
use Rattle.fs_model.specs.declared.change.PlanKind.{PlanKind}
use Rattle.fs_model.specs.Words.{path_cmp, path_eq}
use Rattle.fs_model.specs.State.{State, PlanRow, Stray}
use Rattle.fs_model.specs.Lookups.{key_of, stored_under}
use Rattle.fs_model.specs.NamesEvents.{id_at}
use Rattle.fs_model.specs.Updates.{waiting_key, content}
use Rattle.fs_model.specs.NodesEvents.{actions_left, loose_objects, store_rows, Object}

-- an object at a key of a store
abbrev pub Placed : Type 0
Placed = ℕ × Object

-- what is left to do of a plan for one file, and where its object may be meanwhile
pub record Pending : Type 0 where
  pub before : Option (ℕ × Prefix)
  pub after : Option (ℕ × Prefix)
  pub bytes : Option (List ℕ)

-- the path before the move of a path after it
abbrev pub path_before : PlanRow → Path → Path
path_before r p = r.path ++ drop (length r.to) p

-- an action left, by the plan's kind
abbrev pub pending_action : State → PlanRow → Path → Pending
pending_action A r p = elim r.kind as (λ k. Pending) [
  | PlanKind.Move ↦ record { before = key_of A.names (path_before r p); after = key_of A.names p; bytes = Some (content A (id_at A p)) }
  | PlanKind.Remove ↦ record { before = key_of A.names p; after = None; bytes = None }
  | PlanKind.Publish ↦ record { before = option_map (λ (k : ℕ × Prefix). (k.0, waiting_key r.number)) (key_of A.names p); after = key_of A.names p; bytes = Some (content A (id_at A p)) }
  | PlanKind.Load ↦ record { before = None; after = None; bytes = None }
]

-- all actions left, by rising plan
abbrev pub pending : State → List Pending
pending A = flat_map (λ r. map (pending_action A r) (actions_left A r)) A.names.plans

-- the paths whose objects a plan still has to bring there
abbrev pub awaited_paths : State → List Path
awaited_paths A = flat_map (λ (r : PlanRow). elim r.kind [ PlanKind.Remove ↦ [] | _ ↦ actions_left A r ]) A.names.plans

-- the object of a file at its key
abbrev pub placed_file : State → Path → Option Placed
placed_file A p = option_map (λ (k : ℕ × Prefix). (k.0, (k.1, content A (id_at A p)))) (key_of A.names p)

-- the objects of stored files that no plan has still to bring
abbrev pub settled_files : State → List Placed
settled_files A = filter_map (placed_file A) (filter (λ p. not (list_any (path_eq p) (awaited_paths A))) (stored_under A.names []))

-- the object joins those of this store
abbrev pub put_placed : ℕ → List Object → Placed → List Object
put_placed s xs x = cond (nat_eq x.0 s) (entries.put path_cmp x.1.0 x.1.1 xs) xs

-- the objects of store s that no plan is about to move
abbrev pub settled_objects : State → ℕ → List Object
settled_objects A s = fold (put_placed s) (map (λ (x : Stray). (x.key, x.bytes)) (loose_objects (store_rows A s))) (settled_files A)

-- for each action left: whether it was done already, and the bytes of an object that is about to go
pub record Side : Type 0 where
  pub done : Bool
  pub old : List ℕ

-- the bytes that are known, else the old ones
abbrev pub bytes_or : Option (List ℕ) → List ℕ → List ℕ
bytes_or None old = old
bytes_or (Some bs) old = bs

-- an object at this place, if there is one
abbrev pub object_at : Option (ℕ × Prefix) → List ℕ → Option Placed
object_at None bs = None
object_at (Some k) bs = Some (k.0, (k.1, bs))

-- where the object of an action left is, by whether it was done
abbrev pub pending_object : Pending → Side → Option Placed
pending_object g s = cond s.done (object_at g.after (bytes_or g.bytes s.old)) (object_at g.before (bytes_or g.bytes s.old))

-- that object, if there is one, joins those of this store
abbrev pub put_pending : ℕ → List Object → Option Placed → List Object
put_pending s xs None = xs
put_pending s xs (Some x) = put_placed s xs x

-- the objects of the store with those of the actions left
abbrev pub objects_by : ℕ → List Pending → List Side → List Object → List Object
objects_by s [] sides xs = xs
objects_by s (g ∷ gs) [] xs = xs
objects_by s (g ∷ gs) (d ∷ ds) xs = objects_by s gs ds (put_pending s xs (pending_object g d))

-- a store's contents: the bytes at each key
abbrev pub Contents : Type 0
Contents = Prefix → Option (List ℕ)

-- the bytes of store s at a key, by these sides of the actions left
abbrev pub bytes_at : State → List Side → ℕ → Contents
bytes_at A sides s k = entries.find path_cmp k (objects_by s (pending A) sides (settled_objects A s))

-- a store that tells holds just the objects of the rows
abbrev pub HoldsBy : State → List Side → ℕ → Option Contents → Type 0
HoldsBy A sides s None = Unit {0}
HoldsBy A sides s (Some contents) = (k : Prefix) → contents k ≡ bytes_at A sides s k

-- from store s on
abbrev pub HoldAllBy : State → List Side → ℕ → List (Option Contents) → Type 0
HoldAllBy A sides s [] = Unit {0}
HoldAllBy A sides s (x ∷ xs) = HoldsBy A sides s x × HoldAllBy A sides (s + 1) xs

-- there are as many stores as rows of them, and each that tells holds just the objects of the rows, by some sides of the actions left
pub record Mirror (A : State) (stores : List (Option Contents)) : Type 0 where
  pub count : length stores ≡ length A.stores
  pub sides : List Side
  pub enough : length sides ≡ length (pending A)
  pub each : HoldAllBy A sides 1 stores
