-- What entries stand for: the names that they leave.
use Rattle.std.specs.Prelude.{max, Bool, true, false, cond, ◌&&◌, List, [], ◌∷◌, ◌++◌, nat_eq, fold}
use Rattle.fs_model.specs.declared.change.Change.{Change}
use Rattle.fs_model.specs.Words.{update_where}
use Rattle.fs_model.specs.State.{Names, Node}
use Rattle.fs_model.specs.Changes.{apply, add_node, raise_id, begin_plan, no_names}
use Rattle.journal_entry.specs.declared.entry.Entry.{Entry}
use Rattle.master_state.specs.Built.{is_built}
use Rattle.master_state.specs.Fits.{fits_in, locks_of}

-- the names after an entry that fits: those of a change are after it; the others put back what a checkpoint kept
abbrev pub effect : Entry → Names → Names
effect (Entry.Mkdir p) N = apply (Change.Mkdir p) N
effect (Entry.Create id p) N = apply (Change.Create id p) N
effect (Entry.Done id len stored plan) N = apply (Change.Done id len stored plan) N
effect (Entry.Remove p plan) N = apply (Change.Remove p plan) N
effect (Entry.Move p q plan) N = apply (Change.Move p q plan) N
effect (Entry.Pin p on) N = apply (Change.Pin p on) N
effect (Entry.Want id) N = apply (Change.Want id) N
effect (Entry.PlanEnd plan) N = apply (Change.PlanEnd plan) N
effect (Entry.Persisted id plan) N = apply (Change.Persisted id plan) N
effect (Entry.Mount p store key plan) N = apply (Change.Mount p store key plan) N
effect (Entry.Unmount p) N = apply (Change.Unmount p) N
effect (Entry.Seen worker) N = apply (Change.Seen worker) N
effect (Entry.Lost workers) N = apply (Change.Lost workers) N
effect (Entry.Loaded id p len) N = apply (Change.Loaded id p len) N
effect (Entry.Next id plan) N = record N { next_id = max N.next_id id; next_plan = max N.next_plan plan }
effect (Entry.Node p true id len done stored pinned) N = add_node p Node.Directory N
effect (Entry.Node p false id len done stored pinned) N =
    raise_id id (add_node p (Node.IsFile (record { id = id; len = len; done = done; stored = stored; pinned = pinned })) N)
effect (Entry.Pending plan kind p q) N = begin_plan (record { number = plan; kind = kind; path = p; to = q; leaves = [] }) (locks_of kind plan p q) N
effect (Entry.Leaf plan p) N = record N { plans = update_where (λ r. nat_eq r.number plan) (λ r. record r { leaves = r.leaves ++ p ∷ [] }) N.plans }

-- the entry is taken by now, and fits
abbrev pub counts_in : Entry → Names → Bool
counts_in e N = is_built e && fits_in e N

-- the names after an entry; one that doesn't fit is passed over
abbrev pub taken : Entry → Names → Names
taken e N = cond (counts_in e N) (effect e N) N

-- the names after entries, one after the other
abbrev pub after_entries : Names → List Entry → Names
after_entries N es = fold (λ M e. taken e M) N es

-- what the entries of a journal stand for
abbrev pub meaning : List Entry → Names
meaning es = after_entries no_names es
