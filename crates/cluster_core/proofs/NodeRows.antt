-- What events at a worker do to its row.
use Rattle.std.proofs.Common.{ℕ}
use Rattle.fs_model.specs.Updates.{without_room}
use Rattle.cluster_core.specs.declared.node.Node.{Node}
use Rattle.cluster_core.specs.Nodes.{FreesRoom}
use Rattle.cluster_core.proofs.NodeChanges.{RowChanges}

module _ {S : Type 0} where
  -- a freed reservation
  pub row_freed : (n : ℕ) (a b : Node S) → FreesRoom n a b → RowChanges (without_room n) a b
  row_freed n a b c = record {
    row = λ j. record { running = c.0.running j; start = c.0.started j; next = c.0.next j; copies = c.0.rows j; rooms = c.0.rooms j; litter = c.0.litter j };
    running = c.0.running;
    sizes = c.0.sizes;
  }
