-- The tests of each event, by what the core keeps.
use Rattle.std.specs.Prelude.{ℕ, ◌+◌, Bool, false, not, ◌&&◌, [], ◌∷◌, nat_eq, nat_le, nat_lt, Option, None, Some, is_some, is_none}
use Rattle.std.specs.Option.{option_and_then}
use Rattle.fs_model.specs.declared.path.Path.{Path}
use Rattle.fs_model.specs.declared.reply.Reply.{Reply}
use Rattle.fs_model.specs.declared.reply.Refusal.TheVariants.{BadLabel, NotDirectory, IsDirectory, Incomplete, NoWorker}
use Rattle.fs_model.specs.declared.reply.Which.{Which}
use Rattle.fs_model.specs.Words.{first, path_len, block_count}
use Rattle.fs_model.specs.State.{File}
use Rattle.fs_model.specs.Lookups.{walk_nodes, find_node, file_in}
use Rattle.fs_model.specs.Tests.{refuse, past, walk_fault, ◌only_if◌}
use Rattle.master_state.specs.Places.{place_test, is_full, is_numbered_out}
use Rattle.master_node.specs.Mastering.{Mastering}
use Rattle.cluster_core.specs.Names.{is_short, stop_test}

-- why a new directory is refused, if it is
abbrev pub mkdir_test : {D : Type 0} → Mastering D → Path → Option Reply
mkdir_test m p = first (
    stop_test m
    ∷ place_test m.kept.names p
    ∷ past Which.Nodes (is_full m.kept.names)
    ∷ past Which.Area (is_short m (7 + path_len p))
    ∷ [])

-- why the names in a directory can't be shown, if they can't
abbrev pub list_test : {D : Type 0} → Mastering D → Path → Option Reply
list_test m p = first (
    stop_test m
    ∷ walk_fault (walk_nodes m.kept.names.nodes p)
    ∷ refuse NotDirectory (is_some (option_and_then file_in (find_node m.kept.names.nodes p)))
    ∷ [])

-- why nothing can be shown of a path, if nothing can
abbrev pub stat_test : {D : Type 0} → Mastering D → Path → Option Reply
stat_test m p = first (stop_test m ∷ walk_fault (walk_nodes m.kept.names.nodes p) ∷ [])

-- what is known of an actor and of a worker where a label is to be made: whether the actor has the label, how many it has, and whether the worker is configured and live
pub record Circumstance : Type 0 where
  pub taken : Bool
  pub labels : ℕ
  pub worker : ℕ
  pub configured : Bool
  pub live : Bool

-- why a new file is refused, if it is
abbrev pub create_test : {D : Type 0} → Mastering D → Circumstance → Path → Option Reply
create_test m c p = first (
    refuse BadLabel c.taken
    ∷ stop_test m
    ∷ place_test m.kept.names p
    ∷ refuse (NoWorker c.worker) (not (nat_eq c.worker 0) && not c.configured)
    ∷ past Which.Nodes (is_full m.kept.names)
    ∷ past Which.Labels (nat_le 64 c.labels)
    ∷ past Which.Ids (is_numbered_out m.kept.names)
    ∷ past Which.Area (is_short m (15 + path_len p))
    ∷ (refuse (NoWorker c.worker) (not c.live) only_if not (nat_eq c.worker 0))
    ∷ [])

-- the file at a path
abbrev pub file_there : {D : Type 0} → Mastering D → Path → Option File
file_there m p = option_and_then file_in (find_node m.kept.names.nodes p)

-- the file, if there is one, passes the test
abbrev pub passes_file : (File → Bool) → Option File → Bool
passes_file test o = elim o as (λ x. Bool) [ None ↦ false | Some f ↦ test f ]

-- why no file that is done is at the path, if none is
abbrev pub done_test : {D : Type 0} → Mastering D → Path → Option Reply
done_test m p = first (
    walk_fault (walk_nodes m.kept.names.nodes p)
    ∷ refuse IsDirectory (is_none (file_there m p))
    ∷ refuse Incomplete (passes_file (λ f. not f.done) (file_there m p))
    ∷ [])

-- why a file can't be opened, if it can't; a block has so many bytes
abbrev pub open_test : {D : Type 0} → ℕ → Mastering D → Circumstance → Path → Option Reply
open_test bs m c p = first (
    refuse BadLabel c.taken
    ∷ stop_test m
    ∷ done_test m p
    ∷ refuse (NoWorker c.worker) (not (nat_eq c.worker 0) && not c.configured)
    ∷ past Which.Labels (nat_le 64 c.labels)
    ∷ past Which.Blocks (passes_file (λ f. nat_lt 65536 (block_count f.len bs)) (file_there m p))
    ∷ [])
