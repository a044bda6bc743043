-- A core as it begins, and the media that it is made of.
use Rattle.std.specs.Prelude.{ℕ, ◌≡◌, ◌⊎◌, true, List, [], map, length, ◌++◌, IsSomeAnd, None, Ok}
use Rattle.std.specs.List.{All}
use Rattle.std.specs.Global.{Vec}
use Rattle.fs_model.specs.declared.setup.Setup.{Setup}
use Rattle.fs_model.specs.declared.stop.Stop.{Stop}
use Rattle.fs_model.specs.State.{Worker}
use Rattle.fs_model.specs.Words.{update_at}
use Rattle.fs_model.specs.Lookups.{no_worker}
use Rattle.outside.specs.Contents.{Contents}
use Rattle.outside.specs.declared.disk.Disk as disks
use Rattle.outside.specs.declared.objects.Objects as objects
use Rattle.outside.specs.declared.media.Media.{Media}
use Rattle.journal_disk.specs.Areas.{journal_of}
use Rattle.journal_disk.specs.Opening.{Tell}
use Rattle.master_node.specs.Recovery.{IsClosed}
use Rattle.tier_book.specs.Rows.{BookView}
use Rattle.cluster_core.specs.Nodes.{node_row}
use Rattle.cluster_core.specs.declared.node.Node.{Node}
use Rattle.cluster_core.specs.LabelsView.{LabelsView, hand_in, count}

-- how many tiers each worker has
abbrev pub tier_counts : {S : Type 0} → List (Vec S) → List ℕ
tier_counts {S} tiers = map (λ (v : Vec S). length v.items) tiers

-- there are as many stores, workers and tiers of each worker as the setup says
pub record MediaFit {D S : Type 0} (U : Setup) (m : Media D S) : Type 0 where
  pub stores_fit : length m.stores.items ≡ U.stores
  pub tiers_fit : tier_counts m.tiers.items ≡ map (λ (sizes : List ℕ). length sizes) U.tiers

-- a tier tells, and holds no object
abbrev pub IsEmptyTier : {S R W : Type 0} → objects.Ghosts S R W → S → Type 0
IsEmptyTier o s = IsSomeAnd (o.told s) (λ (m : Contents). (key : List (List ℕ)) → m key ≡ None)

-- so it is with each tier of each worker
abbrev pub TiersEmpty : {D S R W : Type 0} → objects.Ghosts S R W → Media D S → Type 0
TiersEmpty o m = All (λ v. All (IsEmptyTier o) v.items) m.tiers.items

-- the areas tell, and neither is open
abbrev pub AreasFresh : {D S : Type 0} → disks.Ghosts D → Media D S → Type 0
AreasFresh d m = Tell d (m.areas).0 (m.areas).1 × (journal_of (d.history (m.areas).0.disk).now.held (d.history (m.areas).1.disk).now.held ≡ Ok None)

-- no cluster was opened: there was no memory before an area was called, or no master is up over the areas; stores and tiers are as they were
abbrev pub IsUnopened : {D S : Type 0} → disks.Ghosts D → Setup → Media D S → Media D S → Stop → Type 0
IsUnopened d U media back why = ((why ≡ Stop.Memory) × (back ≡ media)) ⊎ (IsClosed d U (media.areas).0 (media.areas).1 (back.areas).0 (back.areas).1 why × (back.stores ≡ media.stores) × (back.tiers ≡ media.tiers))

-- no label is there
pub record HasNone {T : Type 0} (s : LabelsView T) : Type 0 where
  pub hands : (l : List ℕ) → hand_in s l ≡ None
  pub counts : count s ≡ 0

-- the book of tiers of these sizes, where nothing is reserved and no block is there
abbrev pub fresh_book : List ℕ → BookView
fresh_book sizes = record { sizes = sizes; rooms = []; rows = []; next = 1 }

-- the row of a worker with this book that never ran
abbrev pub idle_row : BookView → Worker
idle_row b = record no_worker { next = b.next; copies = b.rows; rooms = b.rooms }

-- nothing is reserved in a book
abbrev pub IsUnreserved : BookView → Type 0
IsUnreserved b = b.rooms ≡ []

-- there are as many tiers as each book says, and nothing is reserved in any
pub record FitBooks {S : Type 0} (books : List BookView) (tiers : List (Vec S)) : Type 0 where
  pub sizes_fit : tier_counts tiers ≡ map (λ b. length b.sizes) books
  pub unreserved : All IsUnreserved books

-- books and tiers moved into workers that never ran, in order
pub record Moved {S : Type 0} (books : List BookView) (tiers : List (Vec S)) (nodes : List (Node S)) (books_left : List BookView) (tiers_left : List (Vec S)) (more : List (Node S)) : Type 0 where
  pub rows_stay : map node_row more ++ map idle_row books_left ≡ map node_row nodes ++ map idle_row books
  pub books_stay : map (λ n. n.book) more ++ books_left ≡ map (λ n. n.book) nodes ++ books
  pub tiers_stay : map (λ n. n.tiers) more ++ tiers_left ≡ map (λ n. n.tiers) nodes ++ tiers

-- the first worker, if there is one, runs
abbrev pub first_runs : List Worker → List Worker
first_runs rows = update_at 0 no_worker (λ W. record W { running = true }) rows
