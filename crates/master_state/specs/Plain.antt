-- The names that entries of the built kinds lead to. No type of this crate is named here.
use Rattle.std.specs.Prelude.{◌≡◌, ℕ, Bool, true, false, not, ◌&&◌, ◌||◌, ◌==◌, List, [], ◌∷◌, nat_lt, nat_le, Some}
use Rattle.std.specs.List.{list_all}
use Rattle.std.specs.FinMap as entries
use Rattle.fs_model.specs.Words.{path_cmp, path_len}
use Rattle.fs_model.specs.State.{Names, Node, NodeRow, MountRow, File}
use Rattle.fs_model.specs.Lookups.{find_node, walk_above, stored_is_yes}
use Rattle.fs_model.specs.NodesEvents.{is_reserved}
use Rattle.fs_model.specs.Changes.{key_len}
use Rattle.journal_entry.specs.Fields.{is_file_id, is_next, is_no, is_root}
use Rattle.inode_tree.specs.Rows.{ids_of, all_differ}
use Rattle.master_state.specs.Walks.{is_open}

-- a file has a number below the next one and is not stored; one that isn't done has no bytes, and need not be stored
abbrev pub is_plain_file : ℕ → File → Bool
is_plain_file next f = is_file_id f.id && nat_lt f.id next && not (stored_is_yes f.stored) && (f.done || (f.len == 0 && is_no f.stored))

-- a directory, or such a file
abbrev pub is_plain_node : ℕ → Node → Bool
is_plain_node next Node.Directory = true
is_plain_node next (Node.IsFile f) = is_plain_file next f

-- the node has a path that isn't too long, below directories alone
abbrev pub is_plain_row : Names → NodeRow → Bool
is_plain_row N r = nat_le (path_len r.0) 4096 && is_open (walk_above N.nodes r.0) && is_plain_node N.next_id r.1

-- no mount, or that of `/` alone
abbrev pub are_plain_mounts : List MountRow → Bool
are_plain_mounts [] = true
are_plain_mounts (m ∷ []) = is_root m.path && not (is_reserved m.key) && nat_le (key_len m.key) 4096
are_plain_mounts (m ∷ n ∷ ms) = false

-- the names have nodes by path from `/` on, each below directories, and files with numbers that differ; at most `/` is mounted, nothing is stored, and no plan is pending
pub record IsPlain (N : Names) : Type 0 where
  pub sorted : entries.is_sorted path_cmp N.nodes ≡ true
  pub root : find_node N.nodes [] ≡ Some Node.Directory
  pub rows : list_all (is_plain_row N) N.nodes ≡ true
  pub ids : all_differ (ids_of N.nodes) ≡ true
  pub mounted : are_plain_mounts N.mounts ≡ true
  pub planless : N.plans ≡ []
  pub lockless : N.locks ≡ []
  pub unseen : N.seen ≡ []
  pub file_next : is_next N.next_id ≡ true
  pub plan_next : is_next N.next_plan ≡ true
