-- The sources of a block, where only the first worker can run and no file is stored.
use Rattle.std.proofs.Common.{◌≡◌, ℕ, zero, suc, ◌+◌, ◌/◌, ◌≤◌, Bool, true, false, cond, not, ◌&&◌, List, [], ◌∷◌, ◌++◌, length, map, filter, filter_map, get_or, nat_eq, nat_lt, find, Option, Some, None, is_some, is_none, option_map, refl, sym, ap, ◌∙◌, subst, arith}
use Rattle.std.specs.Prelude.{IfSome, option_and_then}
use Rattle.std.specs.List.{All, range_with_len, enumerate_from}
use Rattle.std.proofs.lemmas.List.Elements.{All-head, All-tail}
use Rattle.fs_model.specs.declared.reply.Stored.{Stored}
use Rattle.fs_model.specs.declared.reply.Reply.{Reply}
use Rattle.fs_model.specs.declared.reply.Refusal.{Refusal}
use Rattle.fs_model.specs.Words.{first}
use Rattle.fs_model.specs.Tests.{refuse, ◌only_if◌}
use Rattle.fs_model.specs.State.{State, Copied, Source, Registration, NodeRow, Node as machineNode, File, Content}
use Rattle.fs_model.specs.Lookups.{file_in, stored_is_yes, file_of, worker, registration, is_running, is_live, live_copies, copy_of, lacking, awaited, no_worker, unregistered, is_empty, key_of, path_of, covers}
use Rattle.fs_model.specs.BytesOutcomes.{Candidate, at_worker, sources, store_source}
use Rattle.fs_model.specs.BytesEvents.{next_refusal_at, next_refusal_of}
use Rattle.inode_tree.specs.Rows.{file_row}
use Rattle.tier_book.specs.Rows.{row_of}
use Rattle.master_node.specs.Mastering.{Mastering}
use Rattle.cluster_core.proofs.Named.{nodes_are}
use Rattle.cluster_core.specs.NamesStand.{NamesStand}
use Rattle.cluster_core.specs.Nodes.{node_row, registration_of}
use Rattle.cluster_core.specs.Knowledge.{Knowledge}
use Rattle.cluster_core.specs.Stands.{WorkersStand, FileFits}
use Rattle.cluster_core.specs.Seeks.{first_copy}
use Rattle.cluster_core.specs.declared.node.Node.{Node}

-- ---- files

-- the file of a row
abbrev pub row_file : Option NodeRow → Option File
row_file x = option_and_then (λ (r : NodeRow). file_in r.1) x

-- a row that is found by a file's number is a file's
pub found_file : (rows : List NodeRow) (id : ℕ) → is_some (row_file (file_row rows id)) ≡ is_some (file_row rows id)
found_file [] id = refl
found_file ((p, machineNode.Directory) ∷ rows) id = found_file rows id
found_file ((p, machineNode.IsFile f) ∷ rows) id = elim (nat_eq f.id id) as (λ b. is_some (row_file (cond b (Some (p, machineNode.IsFile f)) (file_row rows id))) ≡ is_some (cond b (Some (p, machineNode.IsFile f)) (file_row rows id))) [
  | true ↦ refl
  | false ↦ found_file rows id
]

-- where there is nothing, and where there is something
none_by : {X : Type 0} (x : Option X) (b : Bool) → is_some x ≡ b → is_none x ≡ not b
none_by None b h = ap not h
none_by (Some x) b h = ap not h

-- the file isn't stored
found_kept : (K : Knowledge) (contents : List Content) (next bs : ℕ) (rows : List NodeRow) (id : ℕ) → All (FileFits K contents next bs) rows → IfSome (row_file (file_row rows id)) (λ f. f.stored ≡ Stored.No)
found_kept K contents next bs [] id all = tt
found_kept K contents next bs ((p, machineNode.Directory) ∷ rows) id all = found_kept K contents next bs rows id (All-tail (FileFits K contents next bs) (p, machineNode.Directory) rows all)
found_kept K contents next bs ((p, machineNode.IsFile f) ∷ rows) id all =
    let mine : FileFits K contents next bs (p, machineNode.IsFile f) = All-head (FileFits K contents next bs) (p, machineNode.IsFile f) rows all in
    elim (nat_eq f.id id) as (λ b. IfSome (row_file (cond b (Some (p, machineNode.IsFile f)) (file_row rows id))) (λ g. g.stored ≡ Stored.No)) [
      | true ↦ mine.1
      | false ↦ found_kept K contents next bs rows id (All-tail (FileFits K contents next bs) (p, machineNode.IsFile f) rows all)
    ]

module _ (A : State) (id : ℕ) where
  -- no store has the file
  no_store : (x : Option File) → IfSome x (λ f. f.stored ≡ Stored.No) → file_of A.names id ≡ x → store_source A id ≡ []
  no_store None kept is = ap (λ (y : Option File). elim y as (λ o. List Candidate) [
    | None ↦ []
    | Some f ↦ cond (stored_is_yes f.stored) (elim (path_of A.names id) [
      | None ↦ []
      | Some p ↦ cond (is_none (covers A.names p)) (elim (key_of A.names p) [ None ↦ [] | Some k ↦ (Source.AtStore k.0, None) ∷ [] ]) []
    ]) []
  ]) is
  no_store (Some g) kept is = ap (λ (y : Option File). elim y as (λ o. List Candidate) [
    | None ↦ []
    | Some f ↦ cond (stored_is_yes f.stored) (elim (path_of A.names id) [
      | None ↦ []
      | Some p ↦ cond (is_none (covers A.names p)) (elim (key_of A.names p) [ None ↦ [] | Some k ↦ (Source.AtStore k.0, None) ∷ [] ]) []
    ]) []
  ]) is ∙ ap (λ st. cond (stored_is_yes st) (elim (path_of A.names id) as (λ o. List Candidate) [
    | None ↦ []
    | Some p ↦ cond (is_none (covers A.names p)) (elim (key_of A.names p) [ None ↦ [] | Some k ↦ (Source.AtStore k.0, None) ∷ [] ]) []
  ]) []) kept

  -- whether the file is stored
  abbrev pub is_stored : Option File → Bool
  is_stored x = elim x as (λ o. Bool) [ None ↦ false | Some f ↦ stored_is_yes f.stored ]

  not_stored : (x : Option File) → IfSome x (λ f. f.stored ≡ Stored.No) → is_stored x ≡ false
  not_stored None kept = refl
  not_stored (Some f) kept = ap stored_is_yes kept

-- ---- workers

none_within : (p : ℕ → Bool) (a n : ℕ) → ((v : ℕ) → a ≤ v → p v ≡ false) → filter p (range_with_len a n) ≡ []
none_within p a zero h = refl
none_within p a (suc n) h = ap (λ b. cond b (a ∷ filter p (range_with_len (a + 1) n)) (filter p (range_with_len (a + 1) n))) (h a (omega arith)) ∙ none_within p (a + 1) n (λ v more. h v (omega (arith, more)))

-- nobody is awaited
none_awaited : {S : Type 0} (k : ℕ) (nodes : List (Node S)) → find (λ (r : ℕ × Registration). r.1.awaited) (enumerate_from k (map registration_of nodes)) ≡ None
none_awaited k [] = refl
none_awaited k (n ∷ nodes) = none_awaited (k + 1) nodes

-- the copies of a block, of which there is one at most
abbrev pub listed : Option Copied → List (ℕ × Copied)
listed None = []
listed (Some c) = (1, c) ∷ []

-- the live copies at these workers
abbrev pub copies_at : State → ℕ → ℕ → List ℕ → List (ℕ × Copied)
copies_at A f i vs = filter_map (λ v. option_map (λ c. (v, c)) (copy_of (worker A v) f i)) vs

module _ (A : State) (first_only : (v : ℕ) → is_running A v ≡ true → v ≡ 1) where
  others_not : (v : ℕ) → 2 ≤ v → is_live A v ≡ false
  others_not v more = elim (is_running A v) as (λ b. is_running A v ≡ b → (b && (registration A v).known) ≡ false) [
    | true ↦ λ runs. absurd (let e : v ≡ 1 = first_only v runs in omega (arith, e, more))
    | false ↦ λ runs. refl
  ] refl

  others_none : (n : ℕ) → filter (is_live A) (range_with_len 2 n) ≡ []
  others_none n = none_within (is_live A) 2 n others_not

pub live_is : {S : Type 0} (nodes : List (Node S)) (A : State) → WorkersStand nodes A → (f i : ℕ) → live_copies A f i ≡ listed (first_copy nodes f i)
live_is [] A s f i = ap (λ rows. copies_at A f i (filter (is_live A) (range_with_len 1 (length rows)))) s.rows
live_is (n ∷ nodes) A s f i =
    ap (λ rows. copies_at A f i (filter (is_live A) (range_with_len 1 (length rows)))) s.rows
    ∙ ap (λ rest. copies_at A f i (cond (is_live A 1) (1 ∷ rest) rest)) (others_none A s.first (length (map node_row nodes)))
    ∙ ap (λ b. copies_at A f i (cond b (1 ∷ []) [])) live
    ∙ by_running n.running
  where
    live : is_live A 1 ≡ n.running
    live = ap (λ rows. (get_or rows 0 no_worker).running && (registration A 1).known) s.rows ∙ ap (λ rows. n.running && (get_or rows 0 unregistered).known) s.registrations ∙ twice n.running
      where
        twice : (b : Bool) → (b && b) ≡ b
        twice true = refl
        twice false = refl

    one : (x : Option Copied) → filter_map (λ v. option_map (λ c. (v, c)) x) (1 ∷ []) ≡ listed x
    one None = refl
    one (Some c) = refl

    by_running : (b : Bool) → copies_at A f i (cond b (1 ∷ []) []) ≡ listed (cond b (row_of f i n.book.rows) None)
    by_running true = ap (λ rows. filter_map (λ v. option_map (λ c. (v, c)) (copy_of (get_or rows 0 no_worker) f i)) (1 ∷ [])) s.rows ∙ one (row_of f i n.book.rows)
    by_running false = refl

-- ---- the block

-- nothing is listed where there is no copy
empty_listed : (x : Option Copied) → is_empty (listed x) ≡ is_none x
empty_listed None = refl
empty_listed (Some c) = refl

module _ {S : Type 0} (nodes : List (Node S)) (A : State) (s : WorkersStand nodes A) (f i : ℕ) where
  pub lacking_is : lacking A f i ≡ is_none (first_copy nodes f i)
  lacking_is = ap is_empty (live_is nodes A s f i) ∙ empty_listed (first_copy nodes f i)

  pub sources_are : (own : ℕ) (c : Copied) → IfSome (file_of A.names f) (λ g. g.stored ≡ Stored.No) → first_copy nodes f i ≡ Some c → sources A own f i ≡ at_worker A (1, c) ∷ []
  sources_are own c kept is =
      ap (λ live. map (at_worker A) (filter (λ k. nat_eq k.0 own) live) ++ (map (at_worker A) (filter (λ k. not (nat_eq k.0 own)) live) ++ store_source A f)) (live_is nodes A s f i ∙ ap listed is)
      ∙ ap (λ st. map (at_worker A) (filter (λ k. nat_eq k.0 own) ((1, c) ∷ [])) ++ (map (at_worker A) (filter (λ k. not (nat_eq k.0 own)) ((1, c) ∷ [])) ++ st)) (no_store A f (file_of A.names f) kept refl)
      ∙ by_own (nat_eq 1 own)
    where
      by_own : (b : Bool) → (map (at_worker A) (cond b ((1, c) ∷ []) []) ++ (map (at_worker A) (cond (not b) ((1, c) ∷ []) []) ++ [])) ≡ at_worker A (1, c) ∷ []
      by_own true = refl
      by_own false = refl

  -- the refusal of a block without a live copy
  abbrev unfound : Bool → Option ℕ → Bool → Option Reply
  unfound lacks waits stored = first (
      option_map (λ n. Reply.Refused (Refusal.Busy n)) (cond stored (option_and_then (covers A.names) (path_of A.names f)) None)
      ∷ (option_map (λ v. Reply.Refused (Refusal.SafeMode v)) waits only_if not stored)
      ∷ refuse (Refusal.Unavailable i) (not stored)
      ∷ []) only_if lacks

  pub refusal_at : IfSome (file_of A.names f) (λ g. g.stored ≡ Stored.No) → next_refusal_at A f i ≡ refuse (Refusal.Unavailable i) (is_none (first_copy nodes f i))
  refusal_at kept =
      ap (λ b. unfound b (awaited A) (is_stored A f (file_of A.names f))) lacking_is
      ∙ ap (λ rows. unfound (is_none (first_copy nodes f i)) (option_map (λ r. r.0) (find (λ (r : ℕ × Registration). r.1.awaited) (enumerate_from 1 rows))) (is_stored A f (file_of A.names f))) s.registrations
      ∙ ap (λ x. unfound (is_none (first_copy nodes f i)) (option_map (λ r. r.0) x) (is_stored A f (file_of A.names f))) (none_awaited 1 nodes)
      ∙ ap (unfound (is_none (first_copy nodes f i)) None) (not_stored A f (file_of A.names f) kept)
      ∙ by_lack (is_none (first_copy nodes f i))
    where
      by_lack : (b : Bool) → unfound b None false ≡ refuse (Refusal.Unavailable i) b
      by_lack true = refl
      by_lack false = refl

-- ---- the tests of Next

module _ {D : Type 0} (master : Mastering D) (A : State) (s : NamesStand master A) (id : ℕ) where
  -- the file of the state is that of the names
  pub file_kept : (K : Knowledge) (contents : List Content) (next bs : ℕ) → All (FileFits K contents next bs) master.kept.names.nodes → IfSome (file_of A.names id) (λ g. g.stored ≡ Stored.No)
  file_kept K contents next bs all = subst (λ rows. IfSome (row_file (file_row rows id)) (λ g. g.stored ≡ Stored.No)) (sym (nodes_are s)) (found_kept K contents next bs master.kept.names.nodes id all)

  node_is : (b : Bool) → is_some (file_row master.kept.names.nodes id) ≡ b → is_none (file_of A.names id) ≡ not b
  node_is b there = ap (λ rows. is_none (row_file (file_row rows id))) (nodes_are s) ∙ none_by (row_file (file_row master.kept.names.nodes id)) b (found_file master.kept.names.nodes id ∙ there)

  module _ (bs at len : ℕ) (source : Option Source) where
    -- the tests, one after the other
    abbrev tests : Bool → Bool → Option Reply → Option Reply
    tests down missing behind = first (refuse Refusal.Stopped down ∷ refuse Refusal.NotFound missing ∷ behind ∷ [])

    abbrev behind_it : Option Reply
    behind_it = next_refusal_at A id (at / bs) only_if (nat_lt at len && is_none source)

    pub stopped_first : master.journal.failed ≡ true → next_refusal_of A id bs at len source ≡ Some (Reply.Refused Refusal.Stopped)
    stopped_first down = ap (λ u. tests u (is_none (file_of A.names id)) behind_it) (s.down ∙ down)

    pub missing_file : master.journal.failed ≡ false → is_some (file_row master.kept.names.nodes id) ≡ false → next_refusal_of A id bs at len source ≡ Some (Reply.Refused Refusal.NotFound)
    missing_file up gone = ap (λ u. tests u (is_none (file_of A.names id)) behind_it) (s.down ∙ up) ∙ ap (λ b. tests false b behind_it) (node_is false gone)

    -- a file that is there is refused for the sake of its block alone
    pub next_refusal_is : master.journal.failed ≡ false → is_some (file_row master.kept.names.nodes id) ≡ true → next_refusal_of A id bs at len source ≡ first (behind_it ∷ [])
    next_refusal_is up there = ap (λ u. tests u (is_none (file_of A.names id)) behind_it) (s.down ∙ up) ∙ ap (λ b. tests false b behind_it) (node_is true there)

    -- no source is wanted
    pub unwanted : (nat_lt at len && is_none source) ≡ false → first (behind_it ∷ []) ≡ None
    unwanted h = ap (λ b. first ((next_refusal_at A id (at / bs) only_if b) ∷ [])) h

    -- one is wanted
    pub wanted_one : (nat_lt at len && is_none source) ≡ true → (why : Option Reply) → next_refusal_at A id (at / bs) ≡ why → first (behind_it ∷ []) ≡ why
    wanted_one h why is = ap (λ b. first ((next_refusal_at A id (at / bs) only_if b) ∷ [])) h ∙ ap (λ x. first (x ∷ [])) is ∙ alone why
      where
        alone : (x : Option Reply) → first (x ∷ []) ≡ x
        alone None = refl
        alone (Some x) = refl
