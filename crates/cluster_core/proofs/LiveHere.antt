-- The live workers and the live copies of a block are those that the core has.
use Rattle.std.proofs.Common.{◌≡◌, ℕ, zero, suc, ◌+◌, ◌<◌, Bool, true, false, not, ◌&&◌, cond, List, [], ◌∷◌, map, length, filter, find, Option, Some, None, option_map, is_some, unwrap_or, refl, sym, ap, ◌∙◌, arith}
use Rattle.std.specs.Prelude.{slice_get, filter_map}
use Rattle.std.specs.List.{list_any, range_with_len, enumerate_from}
use Rattle.std.proofs.lemmas.Bool.{and_parts}
use Rattle.std.proofs.lemmas.List.{length-map}
use Rattle.fs_model.specs.declared.setup.Setup.{Setup}
use Rattle.fs_model.specs.Words.{block_count}
use Rattle.fs_model.specs.State.{State, File, Worker, Registration, Copied}
use Rattle.fs_model.specs.Lookups.{no_worker, is_running, is_live, live_workers, lacking, lacks_some, awaited, registration, worker, copy_of, is_empty}
use Rattle.tier_book.specs.Rows.{row_of}
use Rattle.cluster_core.specs.declared.node.Node.{Node}
use Rattle.cluster_core.specs.Nodes.{node_row, registration_of}
use Rattle.cluster_core.specs.Here.{by_node}
use Rattle.cluster_core.specs.Shown.{first_runs, first_has, lacks_here}
use Rattle.cluster_core.specs.Stands.{WorkersStand}
use Rattle.cluster_core.proofs.HereIs.{live_is, worker_is}
use Rattle.cluster_core.proofs.RoomChanges.{at_suc}

-- these workers with their copies of a block
abbrev copies_by : (ℕ → Option Copied) → List ℕ → List (ℕ × Copied)
copies_by copy ws = filter_map (λ w. option_map (λ c. (w, c)) (copy w)) ws

-- nobody is awaited among these
none_awaited : {S : Type 0} (k : ℕ) (nodes : List (Node S)) → find (λ (r : ℕ × Registration). r.1.awaited) (enumerate_from k (map registration_of nodes)) ≡ None
none_awaited k [] = refl
none_awaited k (n ∷ nodes) = none_awaited (k + 1) nodes

module _ {S : Type 0} (A : State) (nodes : List (Node S)) (s : WorkersStand nodes A) where
  -- ---- live workers

  not_live : (w : ℕ) → 1 < w → is_live A w ≡ false
  not_live w more = elim (is_live A w) as (λ b. is_live A w ≡ b → b ≡ false) [
    | true ↦ λ is. absurd (let one : w ≡ 1 = s.first w (and_parts (is_running A w) (registration A w).known is).0 in omega (arith, one, more))
    | false ↦ λ isnt. refl
  ] refl

  none_live : (a m : ℕ) → 1 < a → filter (is_live A) (range_with_len a m) ≡ []
  none_live a zero more = refl
  none_live a (suc m) more =
      ap (λ b. cond b (a ∷ filter (is_live A) (range_with_len (a + 1) m)) (filter (is_live A) (range_with_len (a + 1) m))) (not_live a more)
      ∙ none_live (a + 1) m (omega (arith, more))

  first_is : (rest : List ℕ) → cond (is_live A 1) (1 ∷ rest) rest ≡ cond (first_runs nodes) (1 ∷ rest) rest
  first_is rest = ap (λ b. cond b (1 ∷ rest) rest) (live_is nodes A s 1 ∙ ap (by_node (λ n. n.running)) (at_suc nodes 0))

  live_of : (k : ℕ) → (k ≡ 0 → first_runs nodes ≡ false) → filter (is_live A) (range_with_len 1 k) ≡ cond (first_runs nodes) (1 ∷ []) []
  live_of zero none = sym (ap (λ b. cond b (1 ∷ []) []) (none refl))
  live_of (suc k) none =
      first_is (filter (is_live A) (range_with_len 2 k))
      ∙ ap (λ rest. cond (first_runs nodes) (1 ∷ rest) rest) (none_live 2 k (omega arith))

  empty_runs : (ns : List (Node S)) → length ns ≡ 0 → first_runs ns ≡ false
  empty_runs [] none = refl
  empty_runs (n ∷ ns) none = absurd (let k : suc (length ns) ≡ 0 = none in omega (arith, k))

  -- the live workers are the first one, where it runs
  pub live_workers_are : live_workers A ≡ cond (first_runs nodes) (1 ∷ []) []
  live_workers_are =
      let many : length A.workers ≡ length nodes = ap length s.rows ∙ length-map nodes node_row in
      ap (λ k. filter (is_live A) (range_with_len 1 k)) many ∙ live_of (length nodes) (empty_runs nodes)

  -- ---- live copies

  -- the copy of a block at the first worker
  copy_here : (f i : ℕ) → copy_of (worker A 1) f i ≡ copy_of (unwrap_or (option_map node_row (slice_get nodes 0)) no_worker) f i
  copy_here f i = ap (λ (k : Worker). copy_of k f i) (worker_is nodes A s 1)

  alone : (x : Option Copied) → is_empty (copies_by (λ w. x) (1 ∷ [])) ≡ not (is_some x)
  alone None = refl
  alone (Some c) = refl

  by_running : (b : Bool) (f i : ℕ) (rows : List Copied) → is_empty (copies_by (λ w. row_of f i rows) (cond b (1 ∷ []) [])) ≡ not (b && is_some (row_of f i rows))
  by_running true f i rows = alone (row_of f i rows)
  by_running false f i rows = refl

  of_first : (x : Option (Node S)) (f i : ℕ) → is_empty (copies_by (λ w. copy_of (unwrap_or (option_map node_row x) no_worker) f i) (cond (by_node (λ n. n.running) x) (1 ∷ []) [])) ≡ not (by_node (λ n. n.running && is_some (row_of f i n.book.rows)) x)
  of_first None f i = refl
  of_first (Some n) f i = by_running n.running f i n.book.rows

  -- of one worker alone, its row may be written out
  one_worker : (b : Bool) (f i : ℕ) → is_empty (copies_by (λ w. copy_of (worker A w) f i) (cond b (1 ∷ []) [])) ≡ is_empty (copies_by (λ w. copy_of (worker A 1) f i) (cond b (1 ∷ []) []))
  one_worker true f i = refl
  one_worker false f i = refl

  -- a block has a live copy where the first worker runs and has it
  pub lacking_is : (f i : ℕ) → lacking A f i ≡ not (first_has nodes f i)
  lacking_is f i =
      ap (λ ws. is_empty (copies_by (λ w. copy_of (worker A w) f i) ws)) live_workers_are
      ∙ one_worker (first_runs nodes) f i
      ∙ ap (λ x. is_empty (copies_by (λ w. x) (cond (first_runs nodes) (1 ∷ []) []))) (copy_here f i)
      ∙ of_first (slice_get nodes 0) f i

  -- some block of a file has none
  pub lacks_is : (U : Setup) (bs : ℕ) (f : File) → U.block ≡ bs → lacks_some U A f ≡ lacks_here nodes bs f.id f.len
  lacks_is U bs f same = λ j. list_any (λ i. lacking_is f.id i j) (range_with_len 0 (block_count f.len (same j)))

  -- nobody is awaited
  pub awaits_none : awaited A ≡ None
  awaits_none = ap (λ rs. option_map (λ (r : ℕ × Registration). r.0) (find (λ (r : ℕ × Registration). r.1.awaited) (enumerate_from 1 rs))) s.registrations ∙ ap (option_map (λ (r : ℕ × Registration). r.0)) (none_awaited 1 nodes)
