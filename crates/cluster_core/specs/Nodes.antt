-- What a worker keeps, in the words of the file machine.
use Rattle.std.specs.Prelude.{ℕ, ◌≡◌, Bool, false, cond, is_some, List, [], ◌∷◌, ◌++◌}
use Rattle.fs_model.specs.State.{Copied, Worker, Registration}
use Rattle.fs_model.specs.Lookups.{copy_of}
use Rattle.fs_model.specs.Updates.{used, without_room, room_tier}
use Rattle.tier_book.specs.Rows.{next_number, rooms_without}
use Rattle.cluster_core.specs.declared.node.Node.{Node}

-- the machine's row of a worker
abbrev pub node_row : {S : Type 0} → Node S → Worker
node_row n = record { running = n.running; start = n.started; next = n.book.next; copies = n.book.rows; rooms = n.book.rooms; litter = n.litter.items }

-- what the master knows of a worker: until workers register, it knows the one that runs
abbrev pub registration_of : {S : Type 0} → Node S → Registration
registration_of n = record { known = n.running; awaited = false; silence = 0 }

-- the room n becomes a copy of a block with these flags; where the worker has a copy of that block, the room is freed instead
abbrev pub commit_as : Bool → Bool → ℕ → ℕ → ℕ → ℕ → Worker → Worker
commit_as keep pin n f i len W = record (without_room n W) {
  copies = cond (is_some (copy_of W f i)) W.copies
      (W.copies ++ record { number = n; tier = room_tier W n; file = f; block = i; len = len; keep = keep; pin = pin; free = false } ∷ []);
}

-- what a worker keeps of its blocks is as before; its tiers may have failed
pub record IsAsBefore {S : Type 0} (old new : Node S) : Type 0 where
  pub running : new.running ≡ old.running
  pub started : new.started ≡ old.started
  pub book : new.book ≡ old.book
  pub litter : new.litter.items ≡ old.litter.items

-- the worker has one reservation more, of so many bytes at the tier, with its next number
pub record HasSpace {S : Type 0} (old new : Node S) (len room t : ℕ) : Type 0 where
  pub running : new.running ≡ old.running
  pub started : new.started ≡ old.started
  pub litter : new.litter.items ≡ old.litter.items
  pub number : room ≡ old.book.next
  pub rooms : new.book.rooms ≡ old.book.rooms ++ record { number = room; tier = t; bytes = len } ∷ []
  pub next : new.book.next ≡ next_number old.book.next
  pub rows : new.book.rows ≡ old.book.rows
  pub sizes : new.book.sizes ≡ old.book.sizes

-- a reservation became a row behind all others
pub record IsCommitted {S : Type 0} (old new : Node S) (room : ℕ) (row : Copied) : Type 0 where
  pub running : new.running ≡ old.running
  pub started : new.started ≡ old.started
  pub litter : new.litter.items ≡ old.litter.items
  pub rooms : new.book.rooms ≡ rooms_without room old.book.rooms
  pub rows : new.book.rows ≡ old.book.rows ++ row ∷ []
  pub next : new.book.next ≡ old.book.next
  pub sizes : new.book.sizes ≡ old.book.sizes

-- a reservation was freed, and these are the numbers of litter now
pub record IsFreed {S : Type 0} (old new : Node S) (room : ℕ) (numbers : List ℕ) : Type 0 where
  pub running : new.running ≡ old.running
  pub started : new.started ≡ old.started
  pub litter : new.litter.items ≡ numbers
  pub rooms : new.book.rooms ≡ rooms_without room old.book.rooms
  pub rows : new.book.rows ≡ old.book.rows
  pub next : new.book.next ≡ old.book.next
  pub sizes : new.book.sizes ≡ old.book.sizes

-- a reservation was freed, and its number is no litter
abbrev pub FreesRoom : {S : Type 0} → ℕ → Node S → Node S → Type 0
FreesRoom n old new = IsFreed old new n old.litter.items × (new.tiers ≡ old.tiers)

-- the row with this object number became the one that was used last
pub record IsUsed {S : Type 0} (old new : Node S) (number : ℕ) : Type 0 where
  pub running : new.running ≡ old.running
  pub started : new.started ≡ old.started
  pub litter : new.litter.items ≡ old.litter.items
  pub rooms : new.book.rooms ≡ old.book.rooms
  pub rows : new.book.rows ≡ used number old.book.rows
  pub next : new.book.next ≡ old.book.next
  pub sizes : new.book.sizes ≡ old.book.sizes
