-- Where the names refuse a change.
use Rattle.std.specs.Prelude.{◌+◌, ◌^◌, Bool, [], ◌∷◌, length, nat_le, nat_lt, Option}
use Rattle.fs_model.specs.declared.path.Path.{Path}
use Rattle.fs_model.specs.declared.reply.Reply.{Reply}
use Rattle.fs_model.specs.declared.reply.Refusal.TheVariants.{Exists}
use Rattle.fs_model.specs.Words.{first}
use Rattle.fs_model.specs.State.{Names}
use Rattle.fs_model.specs.Lookups.{walk_above, has_node}
use Rattle.fs_model.specs.Tests.{refuse, walk_fault}

-- the first reason why no node can be made at the path: the nodes before it, then the node that is there
abbrev pub place_test : Names → Path → Option Reply
place_test N p = first (walk_fault (walk_above N.nodes p) ∷ refuse Exists (has_node N p) ∷ [])

-- one node more is too many
abbrev pub is_full : Names → Bool
is_full N = nat_lt 1048576 (length N.nodes + 1)

-- no number is left for a file
abbrev pub is_numbered_out : Names → Bool
is_numbered_out N = nat_le (2 ^ 63) N.next_id
