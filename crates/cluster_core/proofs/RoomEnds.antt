-- The ends of Room behind a commit as steps of the file machine.
use Rattle.std.proofs.Common.{◌≡◌, ℕ, suc, pred, ◌-◌, ◌/◌, ◌<◌, ◌^◌, true, false, not, ◌&&◌, ◌||◌, cond, List, [], ◌∷◌, length, nat_eq, nat_le, Option, Some, None, is_none, refl, sym, ap, ◌∙◌, arith}
use Rattle.std.specs.Prelude.{IsSome}
use Rattle.std.proofs.lemmas.List.{set-get_or}
use Rattle.std.proofs.lemmas.Bool.{eq-eqb}
use Rattle.fs_model.specs.declared.setup.Setup.{Setup}
use Rattle.fs_model.specs.declared.label.Label.{Label}
use Rattle.fs_model.specs.declared.event.Event.{Event}
use Rattle.fs_model.specs.declared.reply.Reply.{Reply}
use Rattle.fs_model.specs.declared.reply.Refusal.{Refusal}
use Rattle.fs_model.specs.State as machine
use Rattle.fs_model.specs.State.{State, Whole, Hands, Worker, OpenBlock, RoomRow}
use Rattle.fs_model.specs.Lookups.{at_number, hand_at, no_worker, runs_since}
use Rattle.fs_model.specs.Updates.{set_hand, change_worker, without_room, commit, free_room}
use Rattle.fs_model.specs.BytesEvents.{block_wanted, writer_stands}
use Rattle.fs_model.specs.BytesOutcomes.{BodyAndHands, close_block, close_open, close_room, room_to_litter, commit_at}
use Rattle.fs_model.specs.Faults.{Remains, BlockFate, Device, block_lost, block_lost_by, keeps_block, writer_after_fault, calls, by_writer, room_calls, may_fail, is_through}
use Rattle.fs_model.specs.Machine.{refusal, hands_of, put_back}
use Rattle.fs_model.specs.Step.{Step, ShortOf}
use Rattle.inode_tree.specs.Rows.{file_row}
use Rattle.outside.specs.declared.disk.Disk as disks
use Rattle.outside.specs.declared.objects.Objects as objects
use Rattle.outside.specs.declared.objects.ObjectRead as reads
use Rattle.outside.specs.declared.objects.ObjectWrite as writes
use Rattle.file_writer.specs.Writing.{block_writer, wants_room}
use Rattle.cluster_core.specs.Names.{stop_test}
use Rattle.cluster_core.proofs.NamesSteps.{none_first}
use Rattle.cluster_core.specs.Tiers.{ChangesAt}
use Rattle.cluster_core.specs.Here.{runs_here}
use Rattle.cluster_core.specs.HandChanges.{SetsHand}
use Rattle.cluster_core.specs.HandFits.{WriterFits}
use Rattle.cluster_core.specs.Kept.{KeepsRest}
use Rattle.cluster_core.specs.Knowledge.{Knowledge, Holder, with_owner}
use Rattle.cluster_core.specs.Stands.{Stands, FilesStand}
use Rattle.cluster_core.specs.Goes.{Goes, Rises, no_rise, tier_rise, TierRose}
use Rattle.fs_model.specs.declared.reply.Which.{Which}
use Rattle.fs_model.specs.Words.{block_count}
use Rattle.fs_model.specs.Tests.{refuse, past}
use Rattle.cluster_core.specs.Writers.{Commits, room_test, next_of, lacks_room}
use Rattle.cluster_core.specs.Committed.{finished_of, key_at, closed_writer}
use Rattle.cluster_core.specs.declared.cluster.Core.{Core}
use Rattle.cluster_core.specs.declared.hand.Hand.{Hand}
use Rattle.cluster_core.specs.declared.hand.Writer.{Writer}
use Rattle.cluster_core.specs.declared.node.Node.{Node}
use Rattle.cluster_core.proofs.Standing.{stands_by}
use Rattle.cluster_core.proofs.Labelled.{hands_set}
use Rattle.cluster_core.proofs.Frames.{files_stay}
use Rattle.cluster_core.proofs.RoomTests.{wanted_is, stands_same}
use Rattle.cluster_core.proofs.CommitParts.{without_owner}
use Rattle.cluster_core.proofs.ClosedBlock.{AfterCommit, after_commit, closed_fits, broken_fits}
use Rattle.cluster_core.proofs.RoomGo.{five_pass, not_refused, is_true, there_some, writer_is, refusal_is}
use Rattle.cluster_core.proofs.StreamsGo.{tier_rose}
use Rattle.cluster_core.proofs.AreaFacts.{areas_known}

-- an owner says nothing of files
pub same_files : (K : Knowledge) (e : Option ℕ) (v : ℕ) (id : ℕ) → ((without_owner v e K).bytes_of id ≡ K.bytes_of id) × ((without_owner v e K).author id ≡ K.author id)
same_files K None v id = (refl, refl)
same_files K (Some n) v id = (refl, refl)

-- files fit whatever is known of owners
pub files_owned : (K : Knowledge) (e : Option ℕ) (v next bs : ℕ) (nodes : List machine.NodeRow) (contents : List machine.Content) → FilesStand K next bs nodes contents → FilesStand (without_owner v e K) next bs nodes contents
files_owned K None v next bs nodes contents s = s
files_owned K (Some n) v next bs nodes contents s = record {
  each = files_stay K (with_owner v n None K) next next bs (record { later = omega arith; files = λ id few none. (refl, none) }) contents nodes s.each;
  written = s.written;
  fresh = s.fresh;
}

pub files_given : (K : Knowledge) (v n : ℕ) (a : Holder) (next bs : ℕ) (nodes : List machine.NodeRow) (contents : List machine.Content) → FilesStand K next bs nodes contents → FilesStand (with_owner v n (Some a) K) next bs nodes contents
files_given K v n a next bs nodes contents s = record {
  each = files_stay K (with_owner v n (Some a) K) next next bs (record { later = omega arith; files = λ id few none. (refl, none) }) contents nodes s.each;
  written = s.written;
  fresh = s.fresh;
}

-- ---- what a fault leaves

-- a commit was begun, and the block has this fate
abbrev pub begun_as : BlockFate → Remains
begun_as fate = record { begun = true; fate = fate; keeps_room = false; parks = false; acted = false; breaks = false }

module _ (U : Setup) (A : State) (m : machine.Writer) where
  -- a worker that isn't changed
  unchanged : A ≡ change_worker m.worker (λ k. k) A
  unchanged = sym (λ j. record A { workers = set-get_or A.workers (pred m.worker) no_worker j })

  module _ (stands : writer_stands A m ≡ true) where
    copy_in : (q : OpenBlock) (e : Option ℕ) → record A { workers = elim e as (λ t. List Worker) [ None ↦ A.workers | Some n ↦ (block_lost U (begun_as BlockFate.IsCopy) A m n q).workers ] } ≡ change_worker m.worker (close_room U A m q.len e) A
    copy_in q None = unchanged
    copy_in q (Some n) =
        ap (λ b. record A { workers = (cond b (commit_at A m.worker n m.file ((length m.taken - q.len) / m.bs) q.len) (free_room (record { worker = m.worker; start = m.start; number = n }) A)).workers }) stands
        ∙ sym (ap (λ b. change_worker m.worker (λ k. cond b (commit A.names n m.file ((length m.taken - q.len) / m.bs) q.len k) (cond (runs_since A m.worker m.start) (without_room n k) k)) A) stands)

    -- the block is a copy
    pub copy_left : (b : Option OpenBlock) → block_lost_by U (begun_as BlockFate.IsCopy) A m b ≡ change_worker m.worker (close_open U A m b) A
    copy_left None = unchanged
    copy_left (Some q) = copy_in q q.room

    -- the block is litter
    pub litter_left : (n len : ℕ) → m.block ≡ Some (record { room = Some n; len = len }) → block_lost_by U (begun_as BlockFate.IsLitter) A m m.block ≡ change_worker m.worker (room_to_litter n) A
    litter_left n len is =
        ap (λ b. block_lost_by U (begun_as BlockFate.IsLitter) A m b) is
        ∙ ap (λ b. record A { workers = (cond b (change_worker m.worker (room_to_litter n) A) (free_room (record { worker = m.worker; start = m.start; number = n }) A)).workers }) stands

    -- the writer is broken, without its block
    pub left_by : (fate : BlockFate) → (let k : machine.Writer = record m { broken = true; block = cond (keeps_block (begun_as fate) A m) m.block None } in k) ≡ (let k : machine.Writer = record m { broken = true; block = None } in k)
    left_by fate = ap (λ b. record m { broken = true; block = cond (not (true && b) && false) m.block None }) stands

module _ {D S R W : Type 0} {d : disks.Ghosts D} (o : objects.Ghosts S R W) (r : reads.Ghosts R) (w : writes.Ghosts W) (was new : Core D S R W d w) (l : Label) (i : ℕ) (within : i < 64) (x : Writer W) (whole : x.broken ≡ false) (U : Setup) (V : Whole) (s : Stands d o r w U was V) (m : machine.Writer) (at : hand_at (hands_of V (suc i)) l ≡ Some (machine.Hand.Writing m)) (f : WriterFits w s.known was.workers.items was.master.kept.names.next_id was.block (suc i, l) m x) (rest : KeepsRest was new) (passes : room_test was.master was.workers.items was.block x ≡ None) (wanted : wants_room x.bytes ≡ true) where
  -- what the tests say
  all_pass : (refuse Refusal.NotFound (is_none (file_row was.master.kept.names.nodes x.file)) ≡ None) × (past Which.Blocks (wants_room x.bytes && nat_le 65536 (block_count x.bytes.len was.block)) ≡ None) × (past Which.Ids (wants_room x.bytes && nat_le (2 ^ 63) (next_of (at_number was.workers.items x.worker))) ≡ None) × (refuse (Refusal.NoWorker x.worker) (not (runs_here was.workers.items x.worker x.started)) ≡ None) × (refuse (Refusal.NoRoom x.worker) (wants_room x.bytes && lacks_room x.bytes.bs (at_number was.workers.items x.worker)) ≡ None)
  all_pass = five_pass (refuse Refusal.NotFound (is_none (file_row was.master.kept.names.nodes x.file))) (past Which.Blocks (wants_room x.bytes && nat_le 65536 (block_count x.bytes.len was.block))) (past Which.Ids (wants_room x.bytes && nat_le (2 ^ 63) (next_of (at_number was.workers.items x.worker)))) (refuse (Refusal.NoWorker x.worker) (not (runs_here was.workers.items x.worker x.started))) (refuse (Refusal.NoRoom x.worker) (wants_room x.bytes && lacks_room x.bytes.bs (at_number was.workers.items x.worker))) (none_first (stop_test was.master) (refuse Refusal.NotFound (is_none (file_row was.master.kept.names.nodes x.file)) ∷ past Which.Blocks (wants_room x.bytes && nat_le 65536 (block_count x.bytes.len was.block)) ∷ past Which.Ids (wants_room x.bytes && nat_le (2 ^ 63) (next_of (at_number was.workers.items x.worker))) ∷ refuse (Refusal.NoWorker x.worker) (not (runs_here was.workers.items x.worker x.started)) ∷ refuse (Refusal.NoRoom x.worker) (wants_room x.bytes && lacks_room x.bytes.bs (at_number was.workers.items x.worker)) ∷ []) passes).1

  pub tests : (is_none (file_row was.master.kept.names.nodes x.file) ≡ false) × (not (runs_here was.workers.items x.worker x.started) ≡ false)
  tests = (not_refused Refusal.NotFound (is_none (file_row was.master.kept.names.nodes x.file)) all_pass.0, not_refused (Refusal.NoWorker x.worker) (not (runs_here was.workers.items x.worker x.started)) all_pass.3)

  pub numbers_left : (wants_room x.bytes && nat_le (2 ^ 63) (next_of (at_number was.workers.items x.worker))) ≡ false
  numbers_left = not_refused (Refusal.Limit Which.Ids) (wants_room x.bytes && nat_le (2 ^ 63) (next_of (at_number was.workers.items x.worker))) all_pass.2

  pub blocks_left : (wants_room x.bytes && nat_le 65536 (block_count x.bytes.len was.block)) ≡ false
  blocks_left = not_refused (Refusal.Limit Which.Blocks) (wants_room x.bytes && nat_le 65536 (block_count x.bytes.len was.block)) all_pass.1

  pub room_left : (wants_room x.bytes && lacks_room x.bytes.bs (at_number was.workers.items x.worker)) ≡ false
  room_left = not_refused (Refusal.NoRoom x.worker) (wants_room x.bytes && lacks_room x.bytes.bs (at_number was.workers.items x.worker)) all_pass.4

  pub file : IsSome (file_row was.master.kept.names.nodes x.file)
  file = there_some (file_row was.master.kept.names.nodes x.file) tests.0

  pub runs : runs_here was.workers.items x.worker x.started ≡ true
  runs = is_true (runs_here was.workers.items x.worker x.started) tests.1

  pub stands : writer_stands V.body m ≡ true
  stands = stands_same o w U V.body was.master was.workers.items was.block was.master.journal.limit was.master.kept.names.next_id s.known (suc i, l) s.names s.workers s.setup s.objects was.small m x f whole ∙ runs

  pub wants : block_wanted m.bs m.block ≡ true
  wants = wanted_is o w U V.body was.master was.workers.items was.block was.master.journal.limit was.master.kept.names.next_id s.known (suc i, l) s.names s.workers s.setup s.objects was.small m x f whole ∙ wanted

  pub no_refusal : refusal U V.body (hands_of V (suc i)) (Event.Room l) ≡ None
  no_refusal = refusal_is o r w was l i within x whole U V s m at f ∙ passes

  -- what is known after the commit
  abbrev pub after_known : Knowledge
  after_known = without_owner x.worker x.room s.known

  -- the parts after the commit
  module _ (mid : List (Node S)) (commits : (n : ℕ) (pen : W) → x.room ≡ Some n → block_writer x.bytes ≡ Some pen → ChangesAt was.workers.items mid (pred x.worker) (Commits o w n (key_at was.workers.items x.worker n) pen (finished_of was.master.kept.names.nodes was.block x))) (kept : x.room ≡ None → mid ≡ was.workers.items) where
    pub committed : AfterCommit o U V.body m s.known after_known (suc i, l) was.workers.items mid was.master.kept.names.next_id was.block was.master.journal.limit
    committed = after_commit o w s.known was.master was.workers.items mid was.block was.master.journal.limit i l m x f whole was.blocks was.small U V.body s.names s.workers s.setup s.objects V.body.contents s.files.each stands runs file x.room refl wanted commits kept

  -- ---- the block was committed, and memory was short

  pub room_closed : AfterCommit o U V.body m s.known after_known (suc i, l) was.workers.items new.workers.items was.master.kept.names.next_id was.block was.master.journal.limit → ChangesAt was.hands.items new.hands.items i (SetsHand l (Hand.Writing x) (Hand.Writing (closed_writer false x))) → Goes d o r w U was new V (suc i) (Event.Room l) (Reply.Refused Refusal.Memory)
  room_closed parts hands =
      let H = hands_of V (suc i) in
      let B = close_block U V.body m in
      let k : machine.Writer = record m { block = None } in
      let G = set_hand l (machine.Hand.Writing k) H in
      let after = put_back V (suc i) B G in
      let known = same_files s.known x.room x.worker m.file in
      record {
        after = after;
        rise = no_rise;
        made = None;
        stands = stands_by o r w U new after after_known was.block was.master.journal.limit was.master new.workers.items new.hands.items rest.block (ap (λ k. k.journal.limit) rest.master) rest.master refl refl (record {
          setup = parts.setup;
          named = record { names = s.names.names; gate = s.names.gate; generation = s.names.generation; fuse = s.names.fuse; down = s.names.down; unlocked = s.names.unlocked; unseen = s.names.unseen };
          areas = areas_known d s.known after_known V.body.contents was.block was.master V.body.names V.body.master (λ id few none. ((same_files s.known x.room x.worker id).0, (same_files s.known x.room x.worker id).1 ∙ none)) s.areas;
          workers = record { rows = parts.workers.rows; registrations = parts.workers.registrations; first = parts.workers.first; one = parts.workers.one };
          hands = hands_set r w s.known after_known was.workers.items new.workers.items was.master.kept.names.next_id was.master.kept.names.next_id was.block i l parts.leaves V.hands was.hands.items new.hands.items s.hands within (Hand.Writing x) (Hand.Writing (closed_writer false x)) (machine.Hand.Writing m) (machine.Hand.Writing k) at hands (closed_fits w s.known after_known was.workers.items new.workers.items was.master.kept.names.next_id was.block (suc i, l) m x f whole known.0 known.1 wanted);
          files = files_owned s.known x.room x.worker was.master.kept.names.next_id was.block was.master.kept.names.nodes V.body.contents s.files;
          objects = parts.nodes_stand;
        });
        rises = Rises.Nothing;
        step = record {
          body = B;
          hands = G;
          step = Step.Short refl (ShortOf.RoomClosed l m no_refusal (writer_is o r w was l i within x whole U V s m at f) wants refl refl) refl;
          after = refl;
        };
      }

  -- ---- a tier failed

  -- the worker's tiers are called
  calls_it : calls V.body (hands_of V (suc i)) (Event.Room l) (Device.TiersOf x.worker) ≡ true
  calls_it =
      ap (λ y. by_writer (λ k. room_calls V.body k (Device.TiersOf x.worker)) y) (writer_is o r w was l i within x whole U V s m at f)
      ∙ (λ j. nat_eq (f.worker j) x.worker && wants j && stands j && not (is_through (f.kind j)))
      ∙ ap (λ b. b && true && true && true) (eq-eqb x.worker x.worker refl)

  pub may : (x' : Remains) → may_fail U x' V.body (hands_of V (suc i)) (Event.Room l) (tier_rise x.worker) (Reply.Refused (Refusal.TierFault x.worker)) ≡ true
  may x' = (λ j. (tier_rose x.worker j && calls_it j) || false)

  -- what a fault leaves of the writer
  abbrev pub left : machine.Writer
  left = record m { broken = true; block = None }

  -- the block was committed, and the next one got no room
  pub room_failed : AfterCommit o U V.body m s.known after_known (suc i, l) was.workers.items new.workers.items was.master.kept.names.next_id was.block was.master.journal.limit → ChangesAt was.hands.items new.hands.items i (SetsHand l (Hand.Writing x) (Hand.Writing (closed_writer true x))) → (t : ℕ) → TierRose o r w was new x.worker t → Goes d o r w U was new V (suc i) (Event.Room l) (Reply.Refused (Refusal.TierFault x.worker))
  room_failed parts hands t rose_there =
      let H = hands_of V (suc i) in
      let B = close_block U V.body m in
      let G = set_hand l (machine.Hand.Writing left) H in
      let after = put_back V (suc i) B G in
      let known = same_files s.known x.room x.worker m.file in
      record {
        after = after;
        rise = tier_rise x.worker;
        made = None;
        stands = stands_by o r w U new after after_known was.block was.master.journal.limit was.master new.workers.items new.hands.items rest.block (ap (λ k. k.journal.limit) rest.master) rest.master refl refl (record {
          setup = parts.setup;
          named = record { names = s.names.names; gate = s.names.gate; generation = s.names.generation; fuse = s.names.fuse; down = s.names.down; unlocked = s.names.unlocked; unseen = s.names.unseen };
          areas = areas_known d s.known after_known V.body.contents was.block was.master V.body.names V.body.master (λ id few none. ((same_files s.known x.room x.worker id).0, (same_files s.known x.room x.worker id).1 ∙ none)) s.areas;
          workers = record { rows = parts.workers.rows; registrations = parts.workers.registrations; first = parts.workers.first; one = parts.workers.one };
          hands = hands_set r w s.known after_known was.workers.items new.workers.items was.master.kept.names.next_id was.master.kept.names.next_id was.block i l parts.leaves V.hands was.hands.items new.hands.items s.hands within (Hand.Writing x) (Hand.Writing (closed_writer true x)) (machine.Hand.Writing m) (machine.Hand.Writing left) at hands (broken_fits w s.known after_known was.workers.items new.workers.items was.master.kept.names.next_id was.block (suc i, l) m x f whole known.0 known.1);
          files = files_owned s.known x.room x.worker was.master.kept.names.next_id was.block was.master.kept.names.nodes V.body.contents s.files;
          objects = parts.nodes_stand;
        });
        rises = Rises.OfTier x.worker t rose_there;
        step = record {
          body = B;
          hands = G;
          step = Step.Failed (begun_as BlockFate.IsCopy) no_refusal (may (begun_as BlockFate.IsCopy)) (sym (ap (writer_after_fault U (begun_as BlockFate.IsCopy) V.body H l) (writer_is o r w was l i within x whole U V s m at f) ∙ (λ j. let q : BodyAndHands = (copy_left U V.body m stands m.block j, set_hand l (machine.Hand.Writing (left_by U V.body m stands BlockFate.IsCopy j)) H) in q))) refl;
          after = refl;
        };
      }
