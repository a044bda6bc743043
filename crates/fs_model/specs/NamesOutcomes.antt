-- What the accepted events on names answer, and the state after them.
use Rattle.std.specs.Prelude.{ℕ, pred, ◌+◌, max, Bool, true, false, cond, ◌&&◌, List, [], map, nat_eq, Option, Some, None, is_none, filter_map, flat_map, fold}
use Rattle.std.specs.List.{range_with_len}
use Rattle.fs_model.specs.declared.path.Path.{Path}
use Rattle.fs_model.specs.declared.prefix.Prefix.{Prefix}
use Rattle.fs_model.specs.declared.label.Label.{Label}
use Rattle.fs_model.specs.declared.setup.Setup.{Setup}
use Rattle.fs_model.specs.declared.change.Change.{Change}
use Rattle.fs_model.specs.declared.event.WriteType.{WriteType}
use Rattle.fs_model.specs.declared.reply.Stored.{Stored}
use Rattle.fs_model.specs.declared.reply.Reply.{Reply}
use Rattle.fs_model.specs.declared.reply.FileState.{FileState}
use Rattle.fs_model.specs.declared.reply.CopyRow.{CopyRow}
use Rattle.fs_model.specs.Words.{put_in_order, update_at}
use Rattle.fs_model.specs.State.{State, File, NodeRow, Copied, Worker, Hand, Hands, Stray, StoreRows}
use Rattle.fs_model.specs.Lookups.{file_at, worker, is_live, numbered, live_copies, store_of, lacks_some, awaited, key_of, children, stored_under, stored_is_wanted, file_in}
use Rattle.fs_model.specs.NamesEvents.{mkdir_change, create_change, rename_change, remove_change, persist_change, mount_change, moves_objects, id_at}
use Rattle.fs_model.specs.Updates.{journal, journal_if, add_hand, keep_contents, content, no_store}

-- Mkdir
abbrev pub mkdir_outcome : State → Path → Reply × State
mkdir_outcome A p = (Reply.Done, journal_if (mkdir_change A p) A)

-- Create: the file, and a writer under the label
abbrev pub create_outcome : Setup → State → Hands → Label → Path → WriteType → ℕ → Reply × State × Hands
create_outcome S A H l p kind w = (
  Reply.Done,
  journal_if (create_change A p) A,
  add_hand l (Hand.Writing (record {
    file = A.names.next_id;
    bs = S.block;
    store = store_of A.names p;
    taken = [];
    kind = kind;
    worker = w;
    start = (worker A w).start;
    block = None;
    broken = false;
  })) H,
)

-- a plan's number, or done where no plan is made
abbrev pub begun_if : Bool → State → Reply
begun_if b A = cond b (Reply.Begun A.names.next_plan) Reply.Done

-- Rename
abbrev pub rename_outcome : State → Path → Path → Reply × State
rename_outcome A p q = (begun_if (moves_objects A p) A, journal_if (rename_change A p q) A)

-- Remove: the bytes of removed files go too
abbrev pub remove_outcome : State → Path → Reply × State
remove_outcome A p = (begun_if (moves_objects A p) A, keep_contents (journal_if (remove_change A p) A))

-- Pin
abbrev pub pin_outcome : State → Path → Bool → Reply × State
pin_outcome A p on = (Reply.Done, journal (Change.Pin p on) A)

-- Persist
abbrev pub persist_outcome : State → Path → Reply × State
persist_outcome A p = (Reply.Done, journal_if (persist_change A p) A)

-- the flag free is set on the copies of the file at this worker
abbrev pub mark_free : ℕ → Worker → Worker
mark_free id W = record W { copies = map (λ c. cond (nat_eq c.file id) (record c { free = true }) c) W.copies }

-- Free: the flag is set on each live copy
abbrev pub free_outcome : State → Path → Reply × State
free_outcome A p = (Reply.Done, record A { workers = map (λ (r : ℕ × Worker). cond (is_live A r.0) (mark_free (id_at A p) r.1) r.1) (numbered A.workers) })

-- Mount
abbrev pub mount_outcome : State → Path → ℕ → Prefix → Reply × State
mount_outcome A p s key = (Reply.Begun A.names.next_plan, journal_if (mount_change A p s key) A)

-- a stray joins those of a store, by key
abbrev pub put_stray : Stray → StoreRows → StoreRows
put_stray x R = record R { strays = put_in_order (λ y. y.key) x R.strays }

-- the object of a file becomes a stray
abbrev pub stray_at : State → List StoreRows → Path → List StoreRows
stray_at A rows p = elim (key_of A.names p) [ None ↦ rows | Some k ↦ update_at (pred k.0) no_store (put_stray (record { key = k.1; bytes = content A (id_at A p) })) rows ]

-- the objects of the files under a path become strays
abbrev pub strays_under : Path → State → State
strays_under p A = record A { stores = fold (stray_at A) A.stores (stored_under A.names p) }

-- Unmount
abbrev pub unmount_outcome : State → Path → Reply × State
unmount_outcome A p = (Reply.Done, keep_contents (journal (Change.Unmount p) (strays_under p A)))

-- List
abbrev pub list_outcome : State → Path → Reply × State
list_outcome A p = (Reply.Names (children A.names p), A)

-- the state of a done file
abbrev pub state_by_stored : Stored → Bool → FileState
state_by_stored Stored.No lost = cond lost FileState.Lost FileState.NotPersisted
state_by_stored Stored.Wanted lost = cond lost FileState.Lost FileState.ToBePersisted
state_by_stored Stored.Yes lost = FileState.Persisted

-- the state that Stat shows of a file
abbrev pub state_of : Setup → State → File → FileState
state_of S A f = cond f.done (state_by_stored f.stored (is_none (awaited A) && lacks_some S A f)) FileState.Incomplete

-- what Stat shows of a node
abbrev pub stat_of : Setup → State → Option File → Reply
stat_of S A None = Reply.StatDir
stat_of S A (Some f) = Reply.StatFile f.id f.len (state_of S A f) f.pinned

-- Stat
abbrev pub stat_outcome : Setup → State → Path → Reply × State
stat_outcome S A p = (stat_of S A (file_at A.names p), A)

-- a live copy as Where shows it
abbrev pub row_shown : ℕ → ℕ × Copied → CopyRow
row_shown i c = record { block = i; worker = c.0; tier = c.1.tier; keep = c.1.keep; pin = c.1.pin; free = c.1.free }

-- one more than the greatest block of which a worker has a copy
abbrev pub blocks_held : State → ℕ → ℕ
blocks_held A id = fold (λ n (W : Worker). fold (λ m (c : Copied). cond (nat_eq c.file id) (max m (c.block + 1)) m) n W.copies) 0 A.workers

-- every live copy of the file by block, then worker
abbrev pub copies_of : State → File → List CopyRow
copies_of A f = flat_map (λ i. map (row_shown i) (live_copies A f.id i)) (range_with_len 0 (blocks_held A f.id))

-- Where
abbrev pub where_outcome : State → Path → Reply × State
where_outcome A p = (Reply.Copies (elim (file_at A.names p) [ None ↦ [] | Some f ↦ copies_of A f ]), A)

-- Plans
abbrev pub plans_outcome : State → Reply × State
plans_outcome A = (Reply.Plans (map (λ r. r.number) A.names.plans), A)

-- the path of a file that is to be persisted
abbrev pub wanted_path : NodeRow → Option Path
wanted_path r = elim (file_in r.1) [ None ↦ None | Some f ↦ cond (stored_is_wanted f.stored) (Some r.0) None ]

-- Wanted
abbrev pub wanted_outcome : State → Reply × State
wanted_outcome A = (Reply.Paths (filter_map wanted_path A.names.nodes), A)
