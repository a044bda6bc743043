-- The tests of a writer that wants room are the file machine's.
use Rattle.std.proofs.Common.{◌≡◌, ℕ, zero, suc, pred, ◌+◌, ◌-◌, ◌<◌, ◌^◌, min, Bool, true, false, not, ◌&&◌, ◌||◌, cond, List, [], ◌∷◌, length, get_or, nat_eq, nat_lt, nat_le, Option, Some, None, is_none, option_map, unwrap_or, find, refl, sym, ap, ap₂, ◌∙◌, arith}
use Rattle.std.specs.Prelude.{IfSome, slice_get, sum_by, option_and_then}
use Rattle.std.specs.List.{All, list_all, range_with_len}
use Rattle.std.proofs.lemmas.List.Sums.{sum_by-cons}
use Rattle.std.proofs.lemmas.List.Elements.{All-head, All-tail, All-weaker}
use Rattle.fs_model.specs.declared.setup.Setup.{Setup}
use Rattle.fs_model.specs.declared.reply.Reply.{Reply}
use Rattle.fs_model.specs.declared.reply.Refusal.TheVariants.{NotFound, NoWorker, NoRoom, Stopped}
use Rattle.fs_model.specs.declared.reply.Which.{Which}
use Rattle.fs_model.specs.Words.{first, block_count}
use Rattle.fs_model.specs.State as machine
use Rattle.fs_model.specs.State.{State, Worker, Registration, Copied, NodeRow, Node as machineNode, OpenBlock}
use Rattle.fs_model.specs.Lookups.{no_worker, worker, is_live, at_number, file_of, file_in, id_is, must_stay, no_room_for, could_free, free_bytes, tiers_sought, placed, holders, victims_at}
use Rattle.fs_model.specs.Tests.{refuse, past, ◌only_if◌}
use Rattle.fs_model.specs.BytesEvents.{block_wanted, writer_stands, room_refusal_of, is_cached}
use Rattle.inode_tree.specs.Rows.{file_row}
use Rattle.outside.specs.declared.objects.Objects as objects
use Rattle.outside.specs.declared.objects.ObjectWrite as writes
use Rattle.tier_book.specs.Rows.{fitting, free_at, room_sum, row_sum}
use Rattle.file_writer.specs.declared.parts.Block.{Block}
use Rattle.file_writer.specs.Writing.{wants_room}
use Rattle.file_writer.specs.Parts.{open_block}
use Rattle.cluster_core.specs.declared.node.Node.{Node}
use Rattle.cluster_core.specs.declared.hand.Writer.{Writer}
use Rattle.cluster_core.specs.Nodes.{node_row}
use Rattle.master_node.specs.Mastering.{Mastering}
use Rattle.cluster_core.specs.Names.{stop_test}
use Rattle.cluster_core.specs.NamesStand.{NamesStand}
use Rattle.cluster_core.specs.Here.{runs_here, by_node}
use Rattle.cluster_core.specs.Knowledge.{Knowledge, Holder}
use Rattle.cluster_core.specs.HandFits.{WriterFits, open_of}
use Rattle.cluster_core.specs.Stands.{WorkersStand, SetupFits, CopyStands, NodeStands, sizes_of}
use Rattle.cluster_core.specs.Writers.{room_test, next_of, lacks_room}
use Rattle.cluster_core.proofs.NodeChanges.{g_at}
use Rattle.cluster_core.proofs.RoomChanges.{at_suc}
use Rattle.cluster_core.proofs.HereIs.{live_is}
use Rattle.cluster_core.proofs.Named.{nodes_are}

-- ---- files

-- a row that is found by its number is a file's
found_file : (id : ℕ) (rows : List NodeRow) → is_none (option_and_then (λ (r : NodeRow). file_in r.1) (find (λ (r : NodeRow). id_is id r.1) rows)) ≡ is_none (find (λ (r : NodeRow). id_is id r.1) rows)
found_file id [] = refl
found_file id ((p, machineNode.Directory) ∷ rows) = found_file id rows
found_file id ((p, machineNode.IsFile f) ∷ rows) = elim (nat_eq f.id id) as (λ b. is_none (option_and_then (λ (r : NodeRow). file_in r.1) (cond b (Some (p, machineNode.IsFile f)) (find (λ (r : NodeRow). id_is id r.1) rows))) ≡ is_none (cond b (Some (p, machineNode.IsFile f)) (find (λ (r : NodeRow). id_is id r.1) rows))) [ true ↦ refl | false ↦ found_file id rows ]

-- the file is there on both sides
pub file_gone : {D : Type 0} (master : Mastering D) (A : State) (id : ℕ) → NamesStand master A → is_none (file_of A.names id) ≡ is_none (file_row master.kept.names.nodes id)
file_gone master A id s = found_file id A.names.nodes ∙ ap (λ rows. is_none (find (λ (r : NodeRow). id_is id r.1) rows)) (nodes_are s)

-- ---- the open block

-- a new block is wanted on both sides or on neither
pub wanted_by : {W : Type 0} (k : ℕ) (n : Option ℕ) (b : Option (Block W)) → (n ≡ None → block_wanted k (open_block b) ≡ true) → block_wanted k (open_of n b) ≡ block_wanted k (open_block b)
wanted_by k None b h = sym (h refl)
wanted_by k (Some n) None h = refl
wanted_by k (Some n) (Some b) h = refl

-- ---- room

-- where every copy must stay, so many bytes could be free as are
kept_bytes : (which : Copied → Bool) (t : ℕ) (rows : List Copied) → All (λ c. which c ≡ true) rows → sum_by (λ (c : Copied). cond (nat_eq c.tier t && which c) c.len 0) rows ≡ row_sum t rows
kept_bytes which t [] all = refl
kept_bytes which t (c ∷ rows) all =
    sum_by-cons (λ (d : Copied). cond (nat_eq d.tier t && which d) d.len 0) c rows
    ∙ ap₂ (λ b n. cond (nat_eq c.tier t && b) c.len 0 + n) (All-head (λ c. which c ≡ true) c rows all) (kept_bytes which t rows (All-tail (λ c. which c ≡ true) c rows all))
    ∙ sym (sum_by-cons (λ (d : Copied). cond (nat_eq d.tier t && true) d.len 0) c rows)

-- no tier has enough, or a tier is found
none_fits : (free : ℕ → ℕ) (n : ℕ) (ts : List ℕ) → list_all (λ t. nat_lt (free t) n) ts ≡ is_none (find (λ t. nat_le n (free t)) ts)
none_fits free n [] = refl
none_fits free n (t ∷ ts) = elim (nat_le n (free t)) as (λ b. nat_le n (free t) ≡ b → (nat_lt (free t) n && list_all (λ t. nat_lt (free t) n) ts) ≡ is_none (cond b (Some t) (find (λ t. nat_le n (free t)) ts))) [
  | true ↦ λ h. ap (λ b. b && list_all (λ t. nat_lt (free t) n) ts) (too_many (free t) n h)
  | false ↦ λ h. ap (λ b. b && list_all (λ t. nat_lt (free t) n) ts) (too_few (free t) n h) ∙ none_fits free n ts
] refl
  where
    too_many : (a b : ℕ) → nat_le b a ≡ true → nat_lt a b ≡ false
    too_many a b h = grind (arith, h)

    too_few : (a b : ℕ) → nat_le b a ≡ false → nat_lt a b ≡ true
    too_few a b h = grind (arith, h)

module _ {S R W : Type 0} (o : objects.Ghosts S R W) (U : Setup) (A : State) (nodes : List (Node S)) (s : WorkersStand nodes A) (bs area : ℕ) (u : SetupFits U bs area nodes) where
  -- a worker's row, where it is one of the core's
  row_at : (v : ℕ) (node : Node S) → slice_get nodes v ≡ Some node → worker A (suc v) ≡ node_row node
  row_at v node there = ap (λ ws. get_or ws v no_worker) s.rows ∙ g_at node_row no_worker nodes v ∙ ap (λ x. unwrap_or (option_map node_row x) no_worker) there

  sizes_at : (v : ℕ) (node : Node S) → slice_get nodes v ≡ Some node → get_or U.tiers v [] ≡ node.book.sizes
  sizes_at v node there = ap (λ ts. get_or ts v []) u.tiers ∙ g_at sizes_of [] nodes v ∙ ap (λ x. unwrap_or (option_map sizes_of x) []) there

  module _ (v : ℕ) (node : Node S) (there : slice_get nodes v ≡ Some node) where
    free_is : (t : ℕ) → free_bytes U A (suc v) t ≡ free_at node.book t
    free_is t = (λ j. get_or (sizes_at v node there j) t 0 - room_sum t ((row_at v node there j).rooms) - row_sum t ((row_at v node there j).copies))

    module _ (all : All (λ (c : Copied). c.keep ≡ true) node.book.rows) where
      stays : (c : Copied) → c.keep ≡ true → must_stay A (suc v) c ≡ true
      stays c keep = ap (λ b. b || c.pin || nat_lt 0 (holders A (suc v) c.number)) keep

      could_is : (t : ℕ) → could_free U A (suc v) t ≡ free_at node.book t
      could_is t =
          (λ j. get_or (sizes_at v node there j) t 0 - room_sum t ((row_at v node there j).rooms) - sum_by (λ (c : Copied). cond (nat_eq c.tier t && must_stay A (suc v) c) c.len 0) ((row_at v node there j).copies))
          ∙ ap (λ n. get_or node.book.sizes t 0 - room_sum t node.book.rooms - n) (kept_bytes (must_stay A (suc v)) t node.book.rows (All-weaker (λ c. c.keep ≡ true) (λ c. must_stay A (suc v) c ≡ true) stays node.book.rows all))

      -- no room is there on both sides
      pub no_room_is : (n : ℕ) → no_room_for U A (suc v) None n ≡ is_none (fitting node.book n)
      no_room_is n =
          (λ j. list_all (λ t. nat_lt (could_is t j) n) (range_with_len 0 (length (sizes_at v node there j))))
          ∙ none_fits (free_at node.book) n (range_with_len 0 (length node.book.sizes))

    -- room is found at the same tier
    pub placed_is : (n t : ℕ) → fitting node.book n ≡ Some t → placed U A (suc v) None n ≡ Some (t, [])
    placed_is n t fits =
        let found : find (λ k. nat_le n (free_bytes U A (suc v) k)) (tiers_sought U (suc v) None) ≡ Some t = (λ j. find (λ k. nat_le n (free_is k j)) (range_with_len 0 (length (sizes_at v node there j)))) ∙ fits in
        ap (λ (x : Option ℕ). first (option_map (λ (k : ℕ). (k, [])) x ∷ option_map (λ (k : ℕ). (k, victims_at U A (suc v) k n)) (find (λ k. nat_le n (could_free U A (suc v) k)) (tiers_sought U (suc v) None)) ∷ [])) found

  -- so it is where there is no such worker
  none_at : (v : ℕ) → slice_get nodes v ≡ None → (n : ℕ) → no_room_for U A (suc v) None n ≡ true
  none_at v gone n =
      let sizes : get_or U.tiers v [] ≡ [] = ap (λ ts. get_or ts v []) u.tiers ∙ g_at sizes_of [] nodes v ∙ ap (λ x. unwrap_or (option_map sizes_of x) []) gone in
      ap (λ (ts : List ℕ). list_all (λ t. nat_lt (could_free U A (suc v) t) n) (range_with_len 0 (length ts))) sizes

  pub no_room_by : (v n : ℕ) (x : Option (Node S)) → slice_get nodes v ≡ x → IfSome x (λ node. All (λ (c : Copied). c.keep ≡ true) node.book.rows) → no_room_for U A (suc v) None n ≡ lacks_room n x
  no_room_by v n None there keeps = none_at v there n
  no_room_by v n (Some node) there keeps = no_room_is v node there keeps n

  next_by : (x : Option (Node S)) → (unwrap_or (option_map node_row x) no_worker).next ≡ next_of x
  next_by None = refl
  next_by (Some node) = refl

  pub next_is : (v : ℕ) → (worker A (suc v)).next ≡ next_of (slice_get nodes v)
  next_is v = ap (λ (ws : List Worker). (get_or ws v no_worker).next) s.rows ∙ ap (λ (k : Worker). k.next) (g_at node_row no_worker nodes v) ∙ next_by (slice_get nodes v)

  stands_by : (started : ℕ) (x : Option (Node S)) → (by_node (λ n. n.running) x && nat_eq (unwrap_or (option_map node_row x) no_worker).start started) ≡ by_node (λ n. n.running && nat_eq n.started started) x
  stands_by started None = refl
  stands_by started (Some node) = refl

  pub stands_is : (v started : ℕ) → (is_live A (suc v) && nat_eq (worker A (suc v)).start started) ≡ runs_here nodes (suc v) started
  stands_is v started =
      ap₂ (λ b n. b && nat_eq n started) (live_is nodes A s (suc v) ∙ ap (by_node (λ n. n.running)) (at_suc nodes v)) (ap (λ (ws : List Worker). (get_or ws v no_worker).start) s.rows ∙ ap (λ (k : Worker). k.start) (g_at node_row no_worker nodes v))
      ∙ stands_by started (slice_get nodes v)
      ∙ sym (ap (by_node (λ n. n.running && nat_eq n.started started)) (at_suc nodes v))

-- every copy of a worker that stands must stay
pub all_keep : {S R W : Type 0} (o : objects.Ghosts S R W) (K : Knowledge) (next bs w : ℕ) (node : Node S) → NodeStands o K next bs w node → All (λ (c : Copied). c.keep ≡ true) node.book.rows
all_keep o K next bs w node s = All-weaker (CopyStands o K next bs w node) (λ c. c.keep ≡ true) (λ c d. d.keep) node.book.rows s.copies

-- the tests, where the worker's write type is MUST_CACHE
tidy : (halt names : Option Reply) (blocks ids stands : Bool) (w : ℕ) (b r : Bool) → first (halt ∷ names ∷ (past Which.Blocks blocks only_if b) ∷ (past Which.Ids ids only_if (b && true)) ∷ refuse (NoWorker w) (true && not stands) ∷ refuse (NoRoom w) (b && true && r) ∷ [])
    ≡ first (halt ∷ names ∷ past Which.Blocks (b && blocks) ∷ past Which.Ids (b && ids) ∷ refuse (NoWorker w) (not stands) ∷ refuse (NoRoom w) (b && r) ∷ [])
tidy halt names blocks ids stands w true r = refl
tidy halt names blocks ids stands w false r = refl

-- a number that isn't 0 is behind another
pub behind : (n : ℕ) → 0 < n → n ≡ suc (pred n)
behind zero some = absurd (let k : 0 < 0 = some in omega (arith, k))
behind (suc n) some = refl

module _ {D S R W : Type 0} (o : objects.Ghosts S R W) (w : writes.Ghosts W) (U : Setup) (A : State) (master : Mastering D) (nodes : List (Node S)) (bs area next : ℕ) (K : Knowledge) (a : Holder) (named : NamesStand master A) (s : WorkersStand nodes A) (u : SetupFits U bs area nodes) (stand : (i : ℕ) (node : Node S) → slice_get nodes i ≡ Some node → NodeStands o K next bs (suc i) node) (small : bs < 2 ^ 32) where
  keeps_at : (v : ℕ) (x : Option (Node S)) → slice_get nodes v ≡ x → IfSome x (λ node. All (λ (c : Copied). c.keep ≡ true) node.book.rows)
  keeps_at v None there = tt
  keeps_at v (Some node) there = all_keep o K next bs (suc v) node (stand v node there)

  module _ (m : machine.Writer) (x : Writer W) (f : WriterFits w K nodes next bs a m x) (whole : x.broken ≡ false) where
    pub wanted_is : block_wanted m.bs m.block ≡ wants_room x.bytes
    wanted_is = ap₂ block_wanted (f.bs ∙ sym f.blocks) (f.on whole).block ∙ wanted_by x.bytes.bs x.room x.bytes.block (f.on whole).wants

    pub len_is : length m.taken ≡ x.bytes.len
    len_is =
        let counts : x.bytes.len ≡ min (length m.taken) (2 ^ 64 - 1) = (f.on whole).taken.len in
        omega (arith, counts, f.short, small)

    -- its worker stands on both sides
    pub stands_same : writer_stands A m ≡ runs_here nodes x.worker x.started
    stands_same =
        let v = pred x.worker in
        let at : x.worker ≡ suc v = behind x.worker f.placed in
        ap₂ (λ n g. is_live A n && nat_eq (worker A n).start g) (f.worker ∙ at) f.start ∙ stands_is o U A nodes s bs area u v x.started ∙ ap (λ n. runs_here nodes n x.started) (sym at)

    pub room_tests_are : room_refusal_of U A m ≡ room_test master nodes bs x
    room_tests_are =
        let v = pred x.worker in
        let at : x.worker ≡ suc v = behind x.worker f.placed in
        let here : m.worker ≡ suc v = f.worker ∙ at in
        let node : at_number nodes x.worker ≡ slice_get nodes v = ap (at_number nodes) at ∙ at_suc nodes v in
        let nexts : (worker A m.worker).next ≡ next_of (at_number nodes x.worker) = ap (λ n. (worker A n).next) here ∙ next_is o U A nodes s bs area u v ∙ ap next_of (sym node) in
        let stands : writer_stands A m ≡ runs_here nodes x.worker x.started = ap₂ (λ n g. is_live A n && nat_eq (worker A n).start g) here f.start ∙ stands_is o U A nodes s bs area u v x.started ∙ ap (λ n. runs_here nodes n x.started) (sym at) in
        let room : no_room_for U A m.worker None m.bs ≡ lacks_room x.bytes.bs (at_number nodes x.worker) = ap₂ (λ n b. no_room_for U A n None b) here (f.bs ∙ sym f.blocks) ∙ no_room_by o U A nodes s bs area u v x.bytes.bs (slice_get nodes v) refl (keeps_at v (slice_get nodes v) refl) ∙ ap (lacks_room x.bytes.bs) (sym node) in
        let gone : is_none (file_of A.names m.file) ≡ is_none (file_row master.kept.names.nodes x.file) = file_gone master A m.file named ∙ ap (λ n. is_none (file_row master.kept.names.nodes n)) f.file in
        (λ j. first (refuse Stopped (named.down j) ∷ refuse NotFound (gone j) ∷ (past Which.Blocks (nat_le 65536 (block_count (len_is j) (f.bs j))) only_if wanted_is j) ∷ (past Which.Ids (nat_le (2 ^ 63) (nexts j)) only_if (wanted_is j && is_cached (f.kind j))) ∷ refuse (NoWorker (f.worker j)) (is_cached (f.kind j) && not (stands j)) ∷ refuse (NoRoom (f.worker j)) (wanted_is j && is_cached (f.kind j) && room j) ∷ []))
        ∙ tidy (stop_test master) (refuse NotFound (is_none (file_row master.kept.names.nodes x.file))) (nat_le 65536 (block_count x.bytes.len bs)) (nat_le (2 ^ 63) (next_of (at_number nodes x.worker))) (runs_here nodes x.worker x.started) x.worker (wants_room x.bytes) (lacks_room x.bytes.bs (at_number nodes x.worker))
