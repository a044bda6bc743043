-- A writer whose open block was committed, and what the core stands by then.
use Rattle.std.proofs.Common.{◌≡◌, ℕ, suc, pred, ◌<◌, ◌≤◌, ◌^◌, Bool, true, false, ◌&&◌, cond, List, get_or, nat_eq, nat_lt, Option, Some, None, is_some, option_map, inl, refl, sym, ap, ap₂, ◌∙◌, subst, arith, length}
use Rattle.std.specs.Prelude.{IsSome, IfSome}
use Rattle.std.proofs.lemmas.List.{set-get_or}
use Rattle.std.proofs.lemmas.Bool.{eq-eqb, leb-true}
use Rattle.fs_model.specs.declared.setup.Setup.{Setup}
use Rattle.fs_model.specs.State as machine
use Rattle.fs_model.specs.State.{State, Worker, Content, OpenBlock}
use Rattle.fs_model.specs.Lookups.{no_worker}
use Rattle.fs_model.specs.Updates.{change_worker}
use Rattle.fs_model.specs.BytesEvents.{block_wanted, writer_stands}
use Rattle.fs_model.specs.BytesOutcomes.{close_open, close_block}
use Rattle.inode_tree.specs.Rows.{file_row}
use Rattle.outside.specs.declared.objects.Objects as objects
use Rattle.outside.specs.declared.objects.ObjectWrite as writes
use Rattle.file_writer.specs.declared.parts.Block.{Block}
use Rattle.file_writer.specs.Parts.{block_tells, open_block}
use Rattle.file_writer.specs.Taken.{HasTaken, BlockHas}
use Rattle.file_writer.specs.Writing.{Writing, block_writer, wants_room, without_writer}
use Rattle.cluster_core.proofs.Named.{writes_whole}
use Rattle.cluster_core.specs.declared.node.Node.{Node}
use Rattle.cluster_core.specs.declared.hand.Writer.{Writer}
use Rattle.master_node.specs.Mastering.{Mastering}
use Rattle.cluster_core.specs.NamesStand.{NamesStand}
use Rattle.cluster_core.specs.Tiers.{ChangesAt}
use Rattle.cluster_core.specs.Here.{runs_here}
use Rattle.cluster_core.specs.Knowledge.{Knowledge, Holder, HasRoomOf, Leaves, with_owner}
use Rattle.cluster_core.specs.HandFits.{WriterFits, open_of}
use Rattle.cluster_core.specs.Stands.{WorkersStand, SetupFits, NodesStand, FileFits}
use Rattle.cluster_core.specs.Writers.{Commits, open_len}
use Rattle.cluster_core.specs.Committed.{finished_of, key_at, closed_writer, closed_bytes}
use Rattle.cluster_core.proofs.HandStays.{some_same}
use Rattle.cluster_core.proofs.Frames.{KnownOn}
use Rattle.cluster_core.proofs.Labelled.{leaves_all}
use Rattle.cluster_core.proofs.SpaceNode.{not_both}
use Rattle.cluster_core.proofs.CommitGo.{known}
use Rattle.cluster_core.proofs.CommitParts.{without_owner, workers_committed, setup_committed, nodes_committed, leaves_committed}
use Rattle.std.specs.List.{All}

-- ---- the bytes

module _ {W : Type 0} (w : writes.Ghosts W) where
  taken_by : (bs : ℕ) (taken : List ℕ) (b : Option (Block W)) → BlockHas w bs taken b → BlockHas w bs taken (option_map without_writer b)
  taken_by bs taken None h = h
  taken_by bs taken (Some q) h = (h.0, tt)

  pub closed_taken : (e : Option ℕ) (x : Writing W) (taken : List ℕ) → HasTaken w x taken → HasTaken w (closed_bytes e x) taken
  closed_taken None x taken h = h
  closed_taken (Some n) x taken h = record { len = h.len; block = taken_by x.bs taken x.block h.block; object = h.object }

  within_by : (k : ℕ) (b : Option (Block W)) → IfSome b (λ q. q.len ≤ k) → IfSome (option_map without_writer b) (λ q. q.len ≤ k)
  within_by k None h = h
  within_by k (Some q) h = h

  closed_within : (e : Option ℕ) (x : Writing W) → IfSome x.block (λ q. q.len ≤ x.bs) → IfSome (closed_bytes e x).block (λ q. q.len ≤ (closed_bytes e x).bs)
  closed_within None x h = h
  closed_within (Some n) x h = within_by x.bs x.block h

  silent : (b : Option (Block W)) → block_tells w (option_map without_writer b) ≡ false
  silent None = refl
  silent (Some q) = refl

  closed_silent : (e : Option ℕ) (x : Writing W) → block_tells w x.block ≡ is_some e → block_tells w (closed_bytes e x).block ≡ false
  closed_silent None x h = h
  closed_silent (Some n) x h = silent x.block

  wants_by : (k : ℕ) (b : Option (Block W)) → block_wanted k (open_block (option_map without_writer b)) ≡ block_wanted k (open_block b)
  wants_by k None = refl
  wants_by k (Some q) = refl

  pub closed_wants : (e : Option ℕ) (x : Writing W) → wants_room (closed_bytes e x) ≡ wants_room x
  closed_wants None x = refl
  closed_wants (Some n) x = wants_by x.bs x.block

  pub closed_bs : (e : Option ℕ) (x : Writing W) → (closed_bytes e x).bs ≡ x.bs
  closed_bs None x = refl
  closed_bs (Some n) x = refl

  pub closed_alone : (e : Option ℕ) (x : Writing W) → (closed_bytes e x).object ≡ x.object
  closed_alone None x = refl
  closed_alone (Some n) x = refl

-- ---- the writer

module _ {S W : Type 0} (w : writes.Ghosts W) (K N : Knowledge) (nodes mid : List (Node S)) (next bs : ℕ) (a : Holder) (m : machine.Writer) (x : Writer W) (f : WriterFits w K nodes next bs a m x) (whole : x.broken ≡ false) (bytes : N.bytes_of m.file ≡ K.bytes_of m.file) (author : N.author m.file ≡ K.author m.file) where
  -- it goes on, where it wants a new block
  pub closed_fits : wants_room x.bytes ≡ true → WriterFits w N mid next bs a (record m { block = None }) (closed_writer false x)
  closed_fits wanted = record {
    file = f.file;
    bs = f.bs;
    blocks = closed_bs w x.room x.bytes ∙ f.blocks;
    placed = f.placed;
    kind = f.kind;
    worker = f.worker;
    start = f.start;
    broken = f.broken;
    room = refl;
    short = let k = f.short in omega (arith, k);
    on = λ _. record {
      block = refl;
      taken = closed_taken w x.room x.bytes m.taken (f.on whole).taken;
      within = closed_within w x.room x.bytes (f.on whole).within;
      tells = closed_silent w x.room x.bytes (f.on whole).tells;
      wants = λ _. closed_wants w x.room x.bytes ∙ wanted;
      alone = closed_alone w x.room x.bytes ∙ (f.on whole).alone;
    };
    reserved = tt;
    old = f.old;
    bytes = bytes ∙ f.bytes;
    author = inl (author ∙ writes_whole K m.file a x.broken f.author whole);
  }

  -- it is broken
  pub broken_fits : WriterFits w N mid next bs a (record m { broken = true; block = None }) (closed_writer true x)
  broken_fits = record {
    file = f.file;
    bs = f.bs;
    blocks = closed_bs w x.room x.bytes ∙ f.blocks;
    placed = f.placed;
    kind = f.kind;
    worker = f.worker;
    start = f.start;
    broken = refl;
    room = refl;
    short = let k = f.short in omega (arith, k);
    on = λ not. absurd (cc);
    reserved = tt;
    old = f.old;
    bytes = bytes ∙ f.bytes;
    author = inl (author ∙ writes_whole K m.file a x.broken f.author whole);
  }

-- ---- what the core stands by

-- the parts after the commit
pub record AfterCommit {S R W : Type 0} (o : objects.Ghosts S R W) (U : Setup) (A : State) (m : machine.Writer) (K N : Knowledge) (a : Holder) (nodes mid : List (Node S)) (next bs area : ℕ) : Type 0 where
  pub workers : WorkersStand mid (close_block U A m)
  pub setup : SetupFits U bs area mid
  pub nodes_stand : NodesStand o N next bs mid
  pub leaves : Leaves a K N nodes mid next next

-- one reservation belongs to no label any more
pub one_gone : (K : Knowledge) (next v n : ℕ) → KnownOn K (with_owner v n None K) next next
one_gone K next v n = record {
  later = omega arith;
  files = λ id few. record { bytes = inl refl; author = λ h. h };
  owners = λ u k h. by_test (nat_eq v u && nat_eq n k) (K.owner u k) h;
}
  where
    by_test : (b : Bool) (q : Option Holder) → q ≡ None → cond b None q ≡ None
    by_test true q h = refl
    by_test false q h = h

pub no_owner : (K : Knowledge) (v n : ℕ) → (with_owner v n None K).owner v n ≡ None
no_owner K v n = ap₂ (λ b c. cond (b && c) None (K.owner v n)) (eq-eqb v v refl) (eq-eqb n n refl)

module _ {D S R W : Type 0} (o : objects.Ghosts S R W) (w : writes.Ghosts W) (K : Knowledge) (master : Mastering D) (nodes mid : List (Node S)) (bs area : ℕ) (i : ℕ) (l : List ℕ) (m : machine.Writer) (x : Writer W) (f : WriterFits w K nodes master.kept.names.next_id bs (suc i, l) m x) (whole : x.broken ≡ false) (some : 0 < bs) (small : bs < 2 ^ 32) (U : Setup) (A : State) (named : NamesStand master A) (workers : WorkersStand nodes A) (setup : SetupFits U bs area nodes) (stand : NodesStand o K master.kept.names.next_id bs nodes) (contents : List Content) (files : All (FileFits K contents master.kept.names.next_id bs) master.kept.names.nodes) (stands : writer_stands A m ≡ true) (runs : runs_here nodes x.worker x.started ≡ true) (file : IsSome (file_row master.kept.names.nodes x.file)) where
  -- without a reservation nothing happens
  pub none_committed : x.room ≡ None → mid ≡ nodes → AfterCommit o U A m K K (suc i, l) nodes mid master.kept.names.next_id bs area
  none_committed none same =
      let shut : m.block ≡ None = (f.on whole).block ∙ ap (λ e. open_of e x.bytes.block) none in
      let does : (λ (k : Worker). k) ≡ close_open U A m m.block = λ j k. sym (ap (λ b. close_open U A m b k) shut) j in
      record {
        workers = subst (λ (g : Worker → Worker). WorkersStand mid (change_worker m.worker g A)) does (subst (λ ns. WorkersStand ns (change_worker m.worker (λ k. k) A)) (sym same) (record { rows = set-get_or A.workers (pred m.worker) no_worker ∙ workers.rows; registrations = workers.registrations; first = λ v is. workers.first v (ap (λ ws. nat_lt 0 v && (get_or ws (pred v) no_worker).running) (sym (set-get_or A.workers (pred m.worker) no_worker)) ∙ is); one = λ some. ap (λ ws. (get_or ws 0 no_worker).running) (set-get_or A.workers (pred m.worker) no_worker) ∙ workers.one (subst (λ ws. 0 < length ws) (set-get_or A.workers (pred m.worker) no_worker) some) }));
        setup = subst (SetupFits U bs area) (sym same) setup;
        nodes_stand = subst (NodesStand o K master.kept.names.next_id bs) (sym same) stand;
        leaves = subst (λ ns. Leaves (suc i, l) K K nodes ns master.kept.names.next_id master.kept.names.next_id) (sym same) (leaves_all (suc i, l) K nodes master.kept.names.next_id);
      }

  -- a whole block
  full_block : (k : ℕ) (b : Option (Block W)) → block_wanted k (open_block b) ≡ true → IsSome b → k ≤ open_len b
  full_block k None wanted there = absurd (cc)
  full_block k (Some q) wanted there = leb-true k q.len wanted

  some_committed : (n : ℕ) → x.room ≡ Some n → wants_room x.bytes ≡ true → ((pen : W) → block_writer x.bytes ≡ Some pen → ChangesAt nodes mid (pred x.worker) (Commits o w n (key_at nodes x.worker n) pen (finished_of master.kept.names.nodes bs x))) → AfterCommit o U A m K (with_owner x.worker n None K) (suc i, l) nodes mid master.kept.names.next_id bs area
  some_committed n reserved wanted commits =
      let k = known o w K master nodes bs (suc i, l) m x f whole some small n reserved in
      let change = commits k.3 k.4 in
      let N = with_owner x.worker n None K in
      let on = one_gone K master.kept.names.next_id x.worker n in
      let gone = no_owner K x.worker n in
      let begun : IsSome x.bytes.block = subst IsSome (sym k.1) refl in
      let full : bs ≤ open_len x.bytes.block = subst (λ d. d ≤ open_len x.bytes.block) f.blocks (full_block x.bytes.bs x.bytes.block wanted begun) in
      record {
        workers = workers_committed o w K N master nodes mid bs area i l m x f whole some small U A named workers setup stand contents files stands runs file n reserved k.3 k.4 change on gone f.bytes;
        setup = setup_committed o w K N master nodes mid bs area i l m x f whole some small U A named workers setup stand contents files stands runs file n reserved k.3 k.4 change on gone f.bytes;
        nodes_stand = nodes_committed o w K N master nodes mid bs area i l m x f whole some small U A named workers setup stand contents files stands runs file n reserved k.3 k.4 change on gone f.bytes (λ _. full);
        leaves = leaves_committed o w K N master nodes mid bs area i l m x f whole some small U A named workers setup stand contents files stands runs file n reserved k.3 k.4 change on gone f.bytes (λ id few other. (refl, refl)) (λ v j b h other. ap (λ c. cond c None (K.owner v j)) (not_both x.worker v n j (λ e d. other (some_same b (suc i, l) (sym h ∙ ap₂ K.owner e d ∙ (subst (λ y. IfSome y (λ q. (K.owner x.worker q ≡ Some (suc i, l)) × HasRoomOf nodes x.worker x.started q bs)) reserved f.reserved).0)))) ∙ h);
      }

  -- both
  pub after_commit : (e : Option ℕ) → x.room ≡ e → wants_room x.bytes ≡ true → ((n : ℕ) (pen : W) → x.room ≡ Some n → block_writer x.bytes ≡ Some pen → ChangesAt nodes mid (pred x.worker) (Commits o w n (key_at nodes x.worker n) pen (finished_of master.kept.names.nodes bs x))) → (x.room ≡ None → mid ≡ nodes) → AfterCommit o U A m K (without_owner x.worker e K) (suc i, l) nodes mid master.kept.names.next_id bs area
  after_commit None is wanted commits kept = none_committed is (kept is)
  after_commit (Some n) is wanted commits kept = some_committed n is wanted (λ pen takes. commits n pen is takes)
