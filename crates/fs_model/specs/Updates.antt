-- Small changes of a state that the events share.
use Rattle.std.specs.Prelude.{ℕ, pred, ◌+◌, ◌-◌, Bool, false, cond, not, ◌&&◌, List, [], ◌∷◌, ◌++◌, map, filter, nat_eq, Option, Some, None, is_some, option_map, option_and_then, unwrap_or, find, codes}
use Rattle.std.specs.List.{list_any}
use Rattle.fs_model.specs.declared.label.Label.{Label}
use Rattle.fs_model.specs.declared.name.Name.{Name}
use Rattle.fs_model.specs.declared.prefix.Prefix.{Prefix}
use Rattle.fs_model.specs.declared.reply.Stored.{Stored}
use Rattle.fs_model.specs.declared.change.Change.{Change}
use Rattle.fs_model.specs.Words.{number_text, put_in_order, name_eq, update_at, update_where}
use Rattle.fs_model.specs.State.{Parked, State, Names, Copied, RoomRow, Worker, Registration, Hold, Hand, Hands, HoldRow, StoreRows, Master}
use Rattle.fs_model.specs.Lookups.{key_of, path_of, no_worker, unregistered, copy_of, file_of, stored_is_yes, row_of, runs_since}
use Rattle.fs_model.specs.Changes.{apply, entry_len}

-- the worker is changed
abbrev pub change_worker : ℕ → (Worker → Worker) → State → State
change_worker w change A = record A { workers = update_at (pred w) no_worker change A.workers }

-- what the master knows of a worker is changed
abbrev pub change_registration : ℕ → (Registration → Registration) → State → State
change_registration w change A = record A { registrations = update_at (pred w) unregistered change A.registrations }

-- a store without loose objects
abbrev pub no_store : StoreRows
no_store = record { parked = []; strays = [] }

-- the loose objects of a store are changed
abbrev pub change_store : ℕ → (StoreRows → StoreRows) → State → State
change_store s change A = record A { stores = update_at (pred s) no_store change A.stores }

-- ---- labels

-- the actor has one label more
abbrev pub add_hand : Label → Hand → Hands → Hands
add_hand l h H = H ++ record { label = l; hand = h } ∷ []

-- the label has this now
abbrev pub set_hand : Label → Hand → Hands → Hands
set_hand l h H = update_where (λ r. name_eq r.label l) (λ r. record r { hand = h }) H

-- the label ends
abbrev pub end_hand : Label → Hands → Hands
end_hand l H = filter (λ r. not (name_eq r.label l)) H

-- the hold is the label's
abbrev pub is_of : ℕ → Label → HoldRow → Bool
is_of who l h = nat_eq h.who who && name_eq h.label l

-- the label's hold, if it has one
abbrev pub hold_list : ℕ → Label → Bool → Option Hold → List HoldRow
hold_list who l moving None = []
hold_list who l moving (Some h) = record { who = who; label = l; hold = h; moving = moving } ∷ []

-- the label holds this copy, or none, and nothing else any more
abbrev pub retake : ℕ → Label → Bool → Option Hold → State → State
retake who l moving o A = record A { holds = filter (λ h. not (is_of who l h)) A.holds ++ hold_list who l moving o }

-- the label holds nothing any more
abbrev pub release : ℕ → Label → State → State
release who l A = record A { holds = filter (λ h. not (is_of who l h)) A.holds }

-- ---- the journal

-- the fuse, if there is one, is so many calls shorter
abbrev pub spend : ℕ → Option ℕ → Option ℕ
spend n fuse = option_map (λ k. k - n) fuse

-- a change is made and journaled: an append takes four calls on the area
abbrev pub journal : Change → State → State
journal c A = record A {
  names = apply c A.names;
  master = record A.master { gate = A.master.gate + 1 + entry_len c; fuse = spend 4 A.master.fuse };
}

-- the names after a change, if there is one
abbrev pub apply_if : Option Change → Names → Names
apply_if None N = N
apply_if (Some c) N = apply c N

-- the gate and the fuse after a change, if there is one
abbrev pub journaled : Option Change → Master → Master
journaled None M = M
journaled (Some c) M = record M { gate = M.gate + 1 + entry_len c; fuse = spend 4 M.fuse }

-- the state after a change, if there is one
abbrev pub journal_if : Option Change → State → State
journal_if o A = record A { names = apply_if o A.names; master = journaled o A.master }

-- the bytes of a file that is done
abbrev pub content : State → ℕ → List ℕ
content A id = unwrap_or (option_map (λ c. c.bytes) (find (λ c. nat_eq c.file id) A.contents)) []

-- bytes are kept only of files that have a node
abbrev pub keep_contents : State → State
keep_contents A = record A { contents = filter (λ c. is_some (row_of A.names c.file)) A.contents }

-- ---- parked objects

-- the first name of a reserved key
abbrev pub reserved : Name
reserved = codes ".tierfs"

-- the key under which an object waits for its plan
abbrev pub waiting_key : ℕ → Prefix
waiting_key n = reserved ∷ number_text n ∷ []

-- the parked object takes its place by key
abbrev pub put_parked : Parked → List Parked → List Parked
put_parked x ps = put_in_order (λ p. waiting_key p.plan) x (filter (λ p. not (nat_eq p.plan x.plan)) ps)

-- an object that is finished in the store takes the place of the parked one
abbrev pub unpark : ℕ → StoreRows → StoreRows
unpark n R = record R { parked = filter (λ x. not (nat_eq x.plan n)) R.parked }

-- the same in the store of this key
abbrev pub unpark_in : ℕ → Option (ℕ × Prefix) → List StoreRows → List StoreRows
unpark_in n None rows = rows
unpark_in n (Some k) rows = update_at (pred k.0) no_store (unpark n) rows

-- the object with this number waits for its plan in the store of the file
abbrev pub unpark_at : ℕ → State → ℕ → State → State
unpark_at n A id B = record B { stores = unpark_in n (option_and_then (key_of A.names) (path_of A.names id)) B.stores }

-- the same where the file is stored
abbrev pub unpark_if : Stored → ℕ → State → ℕ → State → State
unpark_if s n A id B = record B { stores = cond (stored_is_yes s) (unpark_at n A id B).stores B.stores }

-- ---- copies and rooms of a worker

-- the worker without this room
abbrev pub without_room : ℕ → Worker → Worker
without_room n W = record W { rooms = filter (λ r. not (nat_eq r.number n)) W.rooms }

-- the room of a label is freed, if there still is one
abbrev pub free_room : Hold → State → State
free_room h A = change_worker h.worker (λ W. cond (runs_since A h.worker h.start) (without_room h.number W) W) A

-- the room with this number
abbrev pub room_of : Worker → ℕ → Option RoomRow
room_of W n = find (λ r. nat_eq r.number n) W.rooms

-- the tier of the room
abbrev pub room_tier : Worker → ℕ → ℕ
room_tier W n = unwrap_or (option_map (λ r. r.tier) (room_of W n)) 0

-- the copy becomes the one that was used last
abbrev pub used : ℕ → List Copied → List Copied
used n cs = filter (λ c. not (nat_eq c.number n)) cs ++ filter (λ c. nat_eq c.number n) cs

-- the copies without this one
abbrev pub without_copy : ℕ → List Copied → List Copied
without_copy n cs = filter (λ c. not (nat_eq c.number n)) cs

-- the file has a node and isn't stored
abbrev pub is_kept : Names → ℕ → Bool
is_kept N id = elim (file_of N id) [ None ↦ false | Some f ↦ not (stored_is_yes f.stored) ]

-- the file has a node and is pinned
abbrev pub is_pinned : Names → ℕ → Bool
is_pinned N id = elim (file_of N id) [ None ↦ false | Some f ↦ f.pinned ]

-- the room n becomes a copy of the block; where the worker has a copy of that block, the room is freed instead
abbrev pub commit : Names → ℕ → ℕ → ℕ → ℕ → Worker → Worker
commit N n f i len W = record (without_room n W) {
  copies = cond (is_some (copy_of W f i)) W.copies
      (W.copies ++ record { number = n; tier = room_tier W n; file = f; block = i; len = len; keep = is_kept N f; pin = is_pinned N f; free = false } ∷ []);
}

-- the old copy's place is taken by the room n
abbrev pub replace_copy : ℕ → ℕ → (Copied → Copied) → Worker → Worker
replace_copy old n change W = record (without_room n W) {
  copies = without_copy old W.copies ++ map (λ c. change (record c { number = n; tier = room_tier W n })) (filter (λ c. nat_eq c.number old) W.copies);
  litter = W.litter ++ old ∷ [];
}

-- a room of n bytes at the tier, when these copies are dropped; it takes the next object number
abbrev pub with_room : ℕ → List ℕ → ℕ → Worker → Worker
with_room t dropped n W = record W {
  next = W.next + 1;
  copies = filter (λ c. not (list_any (nat_eq c.number) dropped)) W.copies;
  rooms = W.rooms ++ record { number = W.next; tier = t; bytes = n } ∷ [];
  litter = W.litter ++ dropped;
}

-- the room is placed, if it can be
abbrev pub with_room_if : Option (ℕ × List ℕ) → ℕ → Worker → Worker
with_room_if None n W = W
with_room_if (Some p) n W = with_room p.0 p.1 n W

-- the room is placed at the worker, if it can be
abbrev pub take_room : Option (ℕ × List ℕ) → ℕ → ℕ → State → State
take_room o w n A = change_worker w (with_room_if o n) A
