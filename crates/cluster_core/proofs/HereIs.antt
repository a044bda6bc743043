-- What the core knows of its workers is what the file machine says of them.
use Rattle.std.proofs.Common.{◌≡◌, ℕ, zero, suc, pred, Bool, true, false, ◌&&◌, List, length, get_or, nat_eq, nat_lt, nat_le, Option, Some, None, option_map, unwrap_or, refl, sym, ap, ◌∙◌, arith}
use Rattle.std.specs.Prelude.{slice_get}
use Rattle.std.proofs.lemmas.List.{length-map}
use Rattle.fs_model.specs.declared.setup.Setup.{Setup}
use Rattle.fs_model.specs.State.{State, Worker, Registration}
use Rattle.fs_model.specs.Lookups.{no_worker, unregistered, worker, registration, is_configured, is_live, runs_since}
use Rattle.cluster_core.specs.declared.node.Node.{Node}
use Rattle.cluster_core.specs.Nodes.{node_row, registration_of}
use Rattle.cluster_core.specs.Here.{by_node, configured_here, live_here, runs_here, started_here}
use Rattle.cluster_core.specs.Stands.{WorkersStand, SetupFits, sizes_of}
use Rattle.cluster_core.proofs.NodeChanges.{g_at}
use Rattle.cluster_core.proofs.RoomChanges.{at_suc}

-- 0 is less than what is behind another number
some_less : (v : ℕ) → nat_lt 0 (suc v) ≡ true
some_less v = grind arith

module _ {S : Type 0} (nodes : List (Node S)) where
  -- the same numbers are configured
  pub configured_is : {U : Setup} {bs area : ℕ} (w : ℕ) → SetupFits U bs area nodes → is_configured U w ≡ configured_here nodes w
  configured_is w s = ap (λ n. nat_lt 0 w && nat_le w n) (ap length s.tiers ∙ length-map nodes sizes_of)

  module _ (A : State) (s : WorkersStand nodes A) where
    -- what a state has of the worker at a place
    pub worker_is : (w : ℕ) → worker A w ≡ unwrap_or (option_map node_row (slice_get nodes (pred w))) no_worker
    worker_is w = ap (λ ws. get_or ws (pred w) no_worker) s.rows ∙ g_at node_row no_worker nodes (pred w)

    registration_is : (w : ℕ) → registration A w ≡ unwrap_or (option_map registration_of (slice_get nodes (pred w))) unregistered
    registration_is w = ap (λ rs. get_or rs (pred w) unregistered) s.registrations ∙ g_at registration_of unregistered nodes (pred w)

    -- the worker was started so often on both sides
    started_by : (o : Option (Node S)) → (unwrap_or (option_map node_row o) no_worker).start ≡ unwrap_or (option_map (λ (n : Node S). n.started) o) 0
    started_by None = refl
    started_by (Some n) = refl

    pub started_is : (w : ℕ) → (worker A w).start ≡ started_here nodes w
    started_is w = ap (λ (k : Worker). k.start) (worker_is w) ∙ started_by (slice_get nodes (pred w))

    -- the same workers are live
    twice : (b : Bool) → b && b ≡ b
    twice true = refl
    twice false = refl

    live_by : (o : Option (Node S)) → (unwrap_or (option_map node_row o) no_worker).running && (unwrap_or (option_map registration_of o) unregistered).known ≡ by_node (λ n. n.running) o
    live_by None = refl
    live_by (Some n) = twice n.running

    behind_some : (v : ℕ) (b c : Bool) → (nat_lt 0 (suc v) && b) && c ≡ b && c
    behind_some v b c = ap (λ x. (x && b) && c) (some_less v)

    pub live_is : (w : ℕ) → is_live A w ≡ live_here nodes w
    live_is zero = refl
    live_is (suc v) =
        behind_some v (worker A (suc v)).running (registration A (suc v)).known
        ∙ ap (λ (k : Worker). k.running && (registration A (suc v)).known) (worker_is (suc v))
        ∙ ap (λ (k : Registration). (unwrap_or (option_map node_row (slice_get nodes v)) no_worker).running && k.known) (registration_is (suc v))
        ∙ live_by (slice_get nodes v)
        ∙ sym (ap (by_node (λ n. n.running)) (at_suc nodes v))

    -- the same workers run since a start
    runs_by : (started : ℕ) (o : Option (Node S)) → (unwrap_or (option_map node_row o) no_worker).running && nat_eq (unwrap_or (option_map node_row o) no_worker).start started ≡ by_node (λ n. n.running && nat_eq n.started started) o
    runs_by started None = refl
    runs_by started (Some n) = refl

    pub runs_is : (w started : ℕ) → runs_since A w started ≡ runs_here nodes w started
    runs_is zero started = refl
    runs_is (suc v) started =
        behind_some v (worker A (suc v)).running (nat_eq (worker A (suc v)).start started)
        ∙ ap (λ (k : Worker). k.running && nat_eq k.start started) (worker_is (suc v))
        ∙ runs_by started (slice_get nodes v)
        ∙ sym (ap (by_node (λ n. n.running && nat_eq n.started started)) (at_suc nodes v))

  -- a worker that runs since a start has a number
  pub runs_there : (w started : ℕ) → runs_here nodes w started ≡ true → w ≡ 0 → ⊥
  runs_there zero started runs none = cc
  runs_there (suc v) started runs none = absurd (let k : suc v ≡ 0 = none in omega (arith, k))
