-- The tests of the events on names, where the master stands.
use Rattle.std.proofs.Common.{◌≡◌, ℕ, ◌+◌, not, ◌&&◌, List, [], ◌∷◌, refl, sym, ap, ◌∙◌, nat_eq, nat_le, length}
use Rattle.std.specs.Prelude.{Option, None, Some, is_some, option_and_then, ◌≤◌, Bool, true, false}
use Rattle.std.proofs.lemmas.Bool.{lt-ltb, ltb-false}
use Rattle.fs_model.specs.declared.reply.Refusal.{Refusal}
use Rattle.fs_model.specs.declared.path.Path.{Path}
use Rattle.fs_model.specs.declared.label.Label.{Label}
use Rattle.fs_model.specs.declared.setup.Setup.{Setup}
use Rattle.fs_model.specs.declared.event.Event.{Event}
use Rattle.fs_model.specs.declared.event.WriteType.{WriteType}
use Rattle.fs_model.specs.declared.reply.Reply.{Reply}
use Rattle.fs_model.specs.declared.reply.Refusal.TheVariants.{Exists, NotDirectory, NoWorker, BadLabel, Limit}
use Rattle.fs_model.specs.declared.reply.Which.{Which}
use Rattle.fs_model.specs.Words.{first, path_len}
use Rattle.fs_model.specs.State.{State, Names, Hands}
use Rattle.fs_model.specs.Lookups.{file_in, find_node, has_node, walk_above, walk_nodes, has_label, is_configured, is_live}
use Rattle.fs_model.specs.Tests.{refuse, walk_fault, past, ◌only_if◌}
use Rattle.fs_model.specs.Machine.{refusal}
use Rattle.master_state.specs.Places.{place_test, is_full, is_numbered_out}
use Rattle.master_node.specs.Mastering.{Mastering}
use Rattle.cluster_core.specs.Names.{is_short, stop_test}
use Rattle.cluster_core.specs.NamesStand.{NamesStand}
use Rattle.cluster_core.specs.Tests.{mkdir_test, list_test, stat_test, create_test, Circumstance}
use Rattle.cluster_core.proofs.Named.{nodes_are, next_id_is}

-- the first answer of a list within a list
pub first_first : {X : Type 0} (a b : Option X) (rest : List (Option X)) → first (first (a ∷ b ∷ []) ∷ rest) ≡ first (a ∷ b ∷ rest)
first_first None None rest = refl
first_first None (Some y) rest = refl
first_first (Some x) b rest = refl

-- the same behind another answer
pub behind : {X : Type 0} (a : Option X) (xs ys : List (Option X)) → first xs ≡ first ys → first (a ∷ xs) ≡ first (a ∷ ys)
behind None xs ys e = e
behind (Some x) xs ys e = refl

-- where no test of a list holds, the first doesn't, and none behind it does
pub none_first : {X : Type 0} (a : Option X) (rest : List (Option X)) → first (a ∷ rest) ≡ None → (a ≡ None) × (first rest ≡ None)
none_first None rest h = (refl, h)
none_first (Some x) rest h = absurd (cc)

-- no test holds
abbrev pub NoneHolds : {X : Type 0} → List (Option X) → Type 0
NoneHolds [] = Unit {0}
NoneHolds (t ∷ ts) = (t ≡ None) × NoneHolds ts

pub none_holds : {X : Type 0} (tests : List (Option X)) → first tests ≡ None → NoneHolds tests
none_holds [] h = tt
none_holds (t ∷ ts) h = let one = none_first t ts h in (one.0, none_holds ts one.1)

-- a refusal that isn't there
pub not_refused : (why : Refusal) (b : Bool) → refuse why b ≡ None → b ≡ false
not_refused why true h = absurd (cc)
not_refused why false h = refl

-- an entry that finds room
pub has_room : {D : Type 0} (m : Mastering D) (len : ℕ) → past Which.Area (is_short m len) ≡ None → m.journal.gate + 2 + len ≤ m.journal.limit
has_room m len h = ltb-false m.journal.limit (m.journal.gate + 2 + len) (not_refused (Limit Which.Area) (is_short m len) h)

-- the two tests of a place before others, behind that of the master
flat : (halt : Option Reply) (N : Names) (p : Path) (rest : List (Option Reply)) → first (halt ∷ None ∷ walk_fault (walk_above N.nodes p) ∷ refuse Exists (has_node N p) ∷ rest) ≡ first (halt ∷ place_test N p ∷ rest)
flat halt N p rest = behind halt (None ∷ walk_fault (walk_above N.nodes p) ∷ refuse Exists (has_node N p) ∷ rest) (place_test N p ∷ rest) (sym (first_first (walk_fault (walk_above N.nodes p)) (refuse Exists (has_node N p)) rest))

module _ {D : Type 0} (S : Setup) (m : Mastering D) (A : State) (H : Hands) (s : NamesStand m A) where
  pub mkdir_refusal : (p : Path) → S.area ≡ m.journal.limit → refusal S A H (Event.Mkdir p) ≡ mkdir_test m p
  mkdir_refusal p area = by m.journal.failed refl
    where
      by : (b : Bool) → m.journal.failed ≡ b → refusal S A H (Event.Mkdir p) ≡ mkdir_test m p
      by false up = rw (s.down, s.unlocked, nodes_are s, s.gate up, area) (flat (stop_test m) m.kept.names p (past Which.Nodes (is_full m.kept.names) ∷ past Which.Area (is_short m (7 + path_len p)) ∷ []))
      by true down = rw (s.down, down) refl

  pub list_refusal : (p : Path) → refusal S A H (Event.List p) ≡ list_test m p
  list_refusal p = rw (s.down, s.unlocked, nodes_are s) (behind (stop_test m) (None ∷ walk_fault (walk_nodes m.kept.names.nodes p) ∷ refuse NotDirectory (is_some (option_and_then file_in (find_node m.kept.names.nodes p))) ∷ []) (walk_fault (walk_nodes m.kept.names.nodes p) ∷ refuse NotDirectory (is_some (option_and_then file_in (find_node m.kept.names.nodes p))) ∷ []) refl)

  pub stat_refusal : (p : Path) → refusal S A H (Event.Stat p) ≡ stat_test m p
  stat_refusal p = rw (s.down, s.unlocked, nodes_are s) (behind (stop_test m) (None ∷ walk_fault (walk_nodes m.kept.names.nodes p) ∷ []) (walk_fault (walk_nodes m.kept.names.nodes p) ∷ []) refl)

  -- the tests of Create behind that of the place
  abbrev create_rest : Circumstance → Path → List (Option Reply)
  create_rest c p =
      refuse (NoWorker c.worker) (not (nat_eq c.worker 0) && not c.configured)
      ∷ past Which.Nodes (is_full m.kept.names)
      ∷ past Which.Labels (nat_le 64 c.labels)
      ∷ past Which.Ids (is_numbered_out m.kept.names)
      ∷ past Which.Area (is_short m (15 + path_len p))
      ∷ (refuse (NoWorker c.worker) (not c.live) only_if not (nat_eq c.worker 0))
      ∷ []

  pub create_refusal : (l : Label) (p : Path) (kind : WriteType) (w : ℕ) → S.area ≡ m.journal.limit
      → refusal S A H (Event.Create l p kind w) ≡ create_test m (record { taken = has_label H l; labels = length H; worker = w; configured = is_configured S w; live = is_live A w }) p
  create_refusal l p kind w area =
      by m.journal.failed refl
    where
      c : Circumstance
      c = record { taken = has_label H l; labels = length H; worker = w; configured = is_configured S w; live = is_live A w }

      by : (b : Bool) → m.journal.failed ≡ b → refusal S A H (Event.Create l p kind w) ≡ create_test m c p
      by true down = rw (s.down, down) (behind (refuse BadLabel (has_label H l)) _ _ refl)
      by false up = rw (s.down, s.unlocked, nodes_are s, s.gate up, next_id_is s, area)
          (behind (refuse BadLabel (has_label H l)) (stop_test m ∷ None ∷ walk_fault (walk_above m.kept.names.nodes p) ∷ refuse Exists (has_node m.kept.names p) ∷ create_rest c p) (stop_test m ∷ place_test m.kept.names p ∷ create_rest c p) (flat (stop_test m) m.kept.names p (create_rest c p)))
