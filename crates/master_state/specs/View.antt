-- How contracts see the names, and what an entry needs to come in without memory. No type of this crate is named here.
use Rattle.std.specs.Prelude.{ℕ, List, []}
use Rattle.fs_model.specs.declared.path.Path.{Path}
use Rattle.fs_model.specs.declared.prefix.Prefix.{Prefix}
use Rattle.fs_model.specs.State.{Names, NodeRow, MountRow}
use Rattle.journal_entry.specs.declared.entry.Entry.{Entry}

-- nothing, a node's own path, or a mount's own key
pub data Need : Type 0 where
  Nothing : Need
  NodeAt : Path → Need
  MountOf : Prefix → Need

-- what an entry needs
abbrev pub need_of : Entry → Need
need_of (Entry.Mkdir p) = Need.NodeAt p
need_of (Entry.Create id p) = Need.NodeAt p
need_of (Entry.Mount p store key plan) = Need.MountOf key
need_of (Entry.Node p dir id len done stored pinned) = Need.NodeAt p
need_of e = Need.Nothing

-- how many nodes come in
abbrev pub nodes_in : Need → ℕ
nodes_in Need.Nothing = 0
nodes_in (Need.NodeAt p) = 1
nodes_in (Need.MountOf key) = 0

-- names without plans, locks and workers
abbrev pub plain_names : List NodeRow → List MountRow → ℕ → ℕ → Names
plain_names nodes mounts id plan = record { nodes = nodes; mounts = mounts; plans = []; locks = []; seen = []; next_id = id; next_plan = plan }

-- what is kept: the names, and how many nodes more there is room for
pub record KeptView : Type 0 where
  pub names : Names
  pub room : ℕ

-- the names, and what is ready for the next entry
pub record NamesView : Type 0 where
  pub names : Names
  pub ready : Need
