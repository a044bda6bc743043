-- The tests that events on names share, by what the master keeps, and the nodes that they leave.
use Rattle.std.specs.Prelude.{ℕ, ◌+◌, Bool, true, false, cond, List, map, nat_lt, Option}
use Rattle.fs_model.specs.declared.reply.Reply.{Reply}
use Rattle.fs_model.specs.declared.reply.Refusal.TheVariants.{Stopped}
use Rattle.fs_model.specs.declared.reply.Stored.{Stored}
use Rattle.fs_model.specs.State.{NodeRow, File}
use Rattle.fs_model.specs.Lookups.{id_is}
use Rattle.fs_model.specs.Changes.{set_file}
use Rattle.fs_model.specs.Tests.{refuse}
use Rattle.master_node.specs.Mastering.{Mastering}

module _ {D : Type 0} where
  -- the master is stopped
  abbrev pub stop_test : Mastering D → Option Reply
  stop_test m = refuse Stopped m.journal.failed

  -- an entry of this length finds no room in the journal
  abbrev pub is_short : Mastering D → ℕ → Bool
  is_short m len = nat_lt m.journal.limit (m.journal.gate + 2 + len)

-- a file that is not done
abbrev pub new_file : ℕ → File
new_file id = record { id = id; len = 0; done = false; stored = Stored.No; pinned = false }

-- the file with this number is done, with so many bytes; all other nodes stay
abbrev pub done_nodes : ℕ → ℕ → List NodeRow → List NodeRow
done_nodes id len nodes = map (λ (r : NodeRow). (r.0, cond (id_is id r.1) (set_file (λ f. record f { len = len; done = true; stored = Stored.No }) r.1) r.1)) nodes
