-- What the core knows of its workers, in the machine's words.
use Rattle.std.specs.Prelude.{ℕ, pred, Bool, false, ◌&&◌, List, length, nat_eq, nat_lt, nat_le, Option, Some, None, option_map, unwrap_or, slice_get}
use Rattle.fs_model.specs.Lookups.{at_number}
use Rattle.cluster_core.specs.declared.node.Node.{Node}

module _ {S : Type 0} where
  -- the test of the worker, if there is one
  abbrev pub by_node : (Node S → Bool) → Option (Node S) → Bool
  by_node test None = false
  by_node test (Some n) = test n

  -- the number is that of a worker
  abbrev pub configured_here : List (Node S) → ℕ → Bool
  configured_here nodes w = nat_lt 0 w && nat_le w (length nodes)

  -- the worker is live: it runs, and the master knows each that runs
  abbrev pub live_here : List (Node S) → ℕ → Bool
  live_here nodes w = by_node (λ n. n.running) (at_number nodes w)

  -- the worker runs, and was started so often
  abbrev pub runs_here : List (Node S) → ℕ → ℕ → Bool
  runs_here nodes w started = by_node (λ n. n.running && nat_eq n.started started) (at_number nodes w)

  -- how often the worker was started; number 0 counts as the first
  abbrev pub started_here : List (Node S) → ℕ → ℕ
  started_here nodes w = unwrap_or (option_map (λ (n : Node S). n.started) (slice_get nodes (pred w))) 0
