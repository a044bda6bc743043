-- That a book's words are the file machine's.
use Rattle.std.specs.Prelude.{◌≡◌, ℕ, pred, [], get_or, None, nat_le, find}
use Rattle.fs_model.specs.declared.setup.Setup.{Setup}
use Rattle.fs_model.specs.State.{State}
use Rattle.fs_model.specs.Lookups.{worker, tiers_sought, copy_of, copy_numbered}
use Rattle.fs_model.specs.Lookups as machine
use Rattle.fs_model.specs.Updates.{without_room, room_of}
use Rattle.tier_book.specs.Rows.{BookView, free_at, fitting, row_of, row_numbered, room_numbered, rooms_without}

-- the book is that of the machine's worker
pub record IsBookOf (S : Setup) (A : State) (w : ℕ) (B : BookView) : Type 0 where
  pub sizes : B.sizes ≡ get_or S.tiers (pred w) []
  pub rooms : B.rooms ≡ (worker A w).rooms
  pub rows : B.rows ≡ (worker A w).copies

-- the book of a worker has as many bytes free as the worker
abbrev pub FreeBytesAreTheMachines : Type 0
FreeBytesAreTheMachines = (S : Setup) (A : State) (w t : ℕ) (B : BookView) → IsBookOf S A w B → machine.free_bytes S A w t ≡ free_at B t

-- the first tier with room in the book is the first at the worker
abbrev pub FirstFitIsTheMachines : Type 0
FirstFitIsTheMachines = (S : Setup) (A : State) (w n : ℕ) (B : BookView) → IsBookOf S A w B → find (λ t. nat_le n (machine.free_bytes S A w t)) (tiers_sought S w None) ≡ fitting B n

-- the book finds the rows and reservations that the worker has, and frees them alike
abbrev pub RowsAreTheMachines : Type 0
RowsAreTheMachines = (S : Setup) (A : State) (w f i n : ℕ) (B : BookView) → IsBookOf S A w B
    → (copy_of (worker A w) f i ≡ row_of f i B.rows) × (copy_numbered (worker A w) n ≡ row_numbered n B.rows)
    × (room_of (worker A w) n ≡ room_numbered n B.rooms) × ((without_room n (worker A w)).rooms ≡ rooms_without n B.rooms)
