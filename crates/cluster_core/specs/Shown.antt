-- What stat shows of a file, by what the core keeps.
use Rattle.std.specs.Prelude.{ℕ, Bool, cond, not, ◌&&◌, List, slice_get, is_some}
use Rattle.std.specs.List.{list_any, range_with_len}
use Rattle.fs_model.specs.declared.reply.FileState.{FileState}
use Rattle.fs_model.specs.Words.{block_count}
use Rattle.fs_model.specs.State.{File}
use Rattle.fs_model.specs.NamesOutcomes.{state_by_stored}
use Rattle.tier_book.specs.Rows.{row_of}
use Rattle.cluster_core.specs.declared.node.Node.{Node}
use Rattle.cluster_core.specs.Here.{by_node}

module _ {S : Type 0} where
  -- the first worker runs
  abbrev pub first_runs : List (Node S) → Bool
  first_runs nodes = by_node (λ n. n.running) (slice_get nodes 0)

  -- the first worker runs and has the block: until scripts start workers, no other has a live copy
  abbrev pub first_has : List (Node S) → ℕ → ℕ → Bool
  first_has nodes f i = by_node (λ n. n.running && is_some (row_of f i n.book.rows)) (slice_get nodes 0)

  -- some block of a file of so many bytes has no live copy
  abbrev pub lacks_here : List (Node S) → ℕ → ℕ → ℕ → Bool
  lacks_here nodes bs f len = list_any (λ i. not (first_has nodes f i)) (range_with_len 0 (block_count len bs))

  -- the state of a file
  abbrev pub state_here : List (Node S) → ℕ → File → FileState
  state_here nodes bs f = cond f.done (state_by_stored f.stored (lacks_here nodes bs f.id f.len)) FileState.Incomplete
