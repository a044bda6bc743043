-- The commit of a writer's open block, beside what the file machine does.
use Rattle.std.proofs.Common.{◌≡◌, ℕ, ◌+◌, ◌-◌, ◌*◌, ◌/◌, ◌<◌, ◌≤◌, ◌^◌, min, Bool, true, false, not, cond, List, length, drop, Option, Some, None, is_some, option_map, refl, sym, ap, ap₂, ◌∙◌, subst, arith}
use Rattle.std.specs.Prelude.{IfSome, option_and_then}
use Rattle.std.proofs.Math.Nat.{div-le_of_le-mul}
use Rattle.std.proofs.lemmas.List.{length-take, length-drop}
use Rattle.fs_model.specs.declared.setup.Setup.{Setup}
use Rattle.fs_model.specs.Words.{block_of}
use Rattle.fs_model.specs.State as machine
use Rattle.fs_model.specs.State.{State, Worker, Copied, RoomRow, NodeRow, Node as machineNode, OpenBlock, File}
use Rattle.fs_model.specs.Lookups.{row_of, file_in, stored_is_yes, runs_since}
use Rattle.fs_model.specs.Updates.{commit, is_kept, is_pinned, without_room}
use Rattle.fs_model.specs.BytesEvents.{writer_stands}
use Rattle.fs_model.specs.BytesOutcomes.{close_open}
use Rattle.outside.specs.declared.objects.Objects as objects
use Rattle.outside.specs.declared.objects.ObjectWrite as writes
use Rattle.file_writer.specs.declared.parts.Block.{Block}
use Rattle.file_writer.specs.declared.pen.Pen.{Pen}
use Rattle.file_writer.specs.declared.pen.Pen.TheVariants.{Open, Broken, Gone}
use Rattle.file_writer.specs.Pens.{PenHas, pen_tells, writer_of}
use Rattle.file_writer.specs.Parts.{block_tells}
use Rattle.file_writer.specs.Taken.{open_bytes, open_index, BlockHas}
use Rattle.cluster_core.proofs.Named.{nodes_are}
use Rattle.cluster_core.specs.declared.node.Node.{Node}
use Rattle.cluster_core.specs.declared.node.Finished.{Finished}
use Rattle.cluster_core.specs.declared.hand.Writer.{Writer}
use Rattle.master_node.specs.Mastering.{Mastering}
use Rattle.cluster_core.specs.NamesStand.{NamesStand}
use Rattle.cluster_core.specs.Nodes.{commit_as}
use Rattle.cluster_core.specs.Knowledge.{Knowledge, Holder}
use Rattle.cluster_core.specs.HandFits.{WriterFits, open_of}
use Rattle.cluster_core.specs.Stands.{ObjectFits}
use Rattle.cluster_core.specs.Writers.{open_len}
use Rattle.cluster_core.specs.Committed.{finished_of, keeps, pins, file_node}

-- ---- the flags of a copy

kept_by : (y : Option NodeRow) → elim (option_and_then (λ (q : NodeRow). file_in q.1) y) as (λ o. Bool) [ None ↦ false | Some f ↦ not (stored_is_yes f.stored) ] ≡ keeps (option_map (λ (q : NodeRow). q.1) y)
kept_by None = refl
kept_by (Some (p, machineNode.Directory)) = refl
kept_by (Some (p, machineNode.IsFile f)) = refl

pinned_by : (y : Option NodeRow) → elim (option_and_then (λ (q : NodeRow). file_in q.1) y) as (λ o. Bool) [ None ↦ false | Some f ↦ f.pinned ] ≡ pins (option_map (λ (q : NodeRow). q.1) y)
pinned_by None = refl
pinned_by (Some (p, machineNode.Directory)) = refl
pinned_by (Some (p, machineNode.IsFile f)) = refl

module _ {D : Type 0} (master : Mastering D) (A : State) (id : ℕ) (s : NamesStand master A) where
  pub kept_is : is_kept A.names id ≡ keeps (file_node master.kept.names.nodes id)
  kept_is = kept_by (row_of A.names id) ∙ ap (λ rows. keeps (file_node rows id)) (nodes_are s)

  pub pinned_is : is_pinned A.names id ≡ pins (file_node master.kept.names.nodes id)
  pinned_is = pinned_by (row_of A.names id) ∙ ap (λ rows. pins (file_node rows id)) (nodes_are s)

-- ---- the writer of the open block

-- an open block's writer that tells has taken the block's bytes
pen_known : {W : Type 0} (w : writes.Ghosts W) (bytes : List ℕ) (p : Pen W) → PenHas w bytes p → pen_tells w p ≡ true → (pen : W) × (writer_of p ≡ Some pen) × (w.taken pen ≡ Some bytes) × (w.written pen ≡ length bytes)
pen_known w bytes (Open pen) has tells = (pen, refl, told (w.taken pen) has.told tells, has.written)
  where
    told : (x : Option (List ℕ)) → IfSome x (λ told. told ≡ bytes) → is_some x ≡ true → x ≡ Some bytes
    told None h k = absurd (cc)
    told (Some b) h k = ap (λ q. Some q) h
pen_known w bytes (Broken pen) has tells = absurd has
pen_known w bytes Gone has tells = absurd (cc)

-- so it is with an open block that has a reservation
pub block_known : {W : Type 0} (w : writes.Ghosts W) (bs : ℕ) (taken : List ℕ) (b : Option (Block W)) → BlockHas w bs taken b → block_tells w b ≡ true
    → (q : Block W) × (b ≡ Some q) × (open_index bs q.len taken * bs + q.len ≡ length taken) × (pen : W) × (option_and_then (λ (c : Block W). writer_of c.pen) b ≡ Some pen) × (w.taken pen ≡ Some (open_bytes bs q.len taken))
block_known w bs taken None has tells = absurd (cc)
block_known w bs taken (Some q) has tells = let p = pen_known w (open_bytes bs q.len taken) q.pen has.1 tells in (q, refl, has.0, p.0, p.1, p.2)

-- ---- what is committed

module _ {D S R W : Type 0} (o : objects.Ghosts S R W) (w : writes.Ghosts W) (K : Knowledge) (master : Mastering D) (nodes : List (Node S)) (bs : ℕ) (a : Holder) (m : machine.Writer) (x : Writer W) (f : WriterFits w K nodes master.kept.names.next_id bs a m x) (whole : x.broken ≡ false) (some : 0 < bs) (small : bs < 2 ^ 32) (n : ℕ) (reserved : x.room ≡ Some n) where
  -- the open block, its place and its writer
  pub known : (q : Block W) × (x.bytes.block ≡ Some q) × (open_index bs q.len m.taken * bs + q.len ≡ length m.taken) × (pen : W) × (option_and_then (λ (c : Block W). writer_of c.pen) x.bytes.block ≡ Some pen) × (w.taken pen ≡ Some (open_bytes bs q.len m.taken))
  known = block_known w bs m.taken x.bytes.block (subst (λ k. BlockHas w k m.taken x.bytes.block) f.blocks (f.on whole).taken.block) ((f.on whole).tells ∙ ap is_some reserved)

  -- the open block on the machine's side
  pub open_is : m.block ≡ Some (record { room = Some n; len = known.0.len })
  open_is = (f.on whole).block ∙ ap₂ open_of reserved known.1

  abbrev fin : Finished
  fin = finished_of master.kept.names.nodes bs x

  len_is : fin.len ≡ known.0.len
  len_is = ap open_len known.1

  -- how many bytes were taken
  total : x.bytes.len ≡ length m.taken
  total = let counts : x.bytes.len ≡ min (length m.taken) (2 ^ 64 - 1) = (f.on whole).taken.len in omega (arith, counts, f.short, small)

  -- which block it is
  pub number_is : fin.block ≡ (length m.taken - known.0.len) / bs
  number_is =
      let few : (length m.taken - known.0.len) / bs ≤ 65536 = div-le_of_le-mul bs (omega (arith, f.short)) in
      ap₂ (λ t l. min ((t - l) / bs) (2 ^ 32 - 1)) total len_is ∙ omega (arith, few)

  within : known.0.len ≤ bs
  within = subst (λ k. known.0.len ≤ k) f.blocks (subst (λ b. IfSome b (λ q. q.len ≤ x.bytes.bs)) known.1 (f.on whole).within)

  pub within_block : fin.len ≤ bs
  within_block = subst (λ k. k ≤ bs) (sym len_is) within

  -- its bytes
  abbrev pub bytes : List ℕ
  bytes = open_bytes bs known.0.len m.taken

  bytes_len : length bytes ≡ known.0.len
  bytes_len =
      let i = open_index bs known.0.len m.taken in
      let rest : length (drop (i * bs) m.taken) ≡ length m.taken - i * bs = length-drop (i * bs) m.taken in
      length-take bs (drop (i * bs) m.taken) ∙ omega (arith, rest, known.2, within)

  -- its object fits, while it is written where the block is whole
  pub object_fits : (N : Knowledge) (tier : ℕ) → N.bytes_of m.file ≡ Some m.taken → (is_some (N.author m.file) ≡ true → bs ≤ open_len x.bytes.block) → ObjectFits N bs (record { number = n; tier = tier; file = fin.file; block = fin.block; len = fin.len; keep = fin.keep; pin = fin.pin; free = false }) bytes
  object_fits N tier there full =
      let file : N.bytes_of x.file ≡ Some m.taken = ap N.bytes_of (sym f.file) ∙ there in
      record {
        len = bytes_len ∙ sym len_is;
        block = subst (λ y. IfSome y (λ all. bytes ≡ block_of all fin.block bs)) (sym file) (ap (λ i. block_of m.taken i bs) (sym number_is));
        whole = λ written. subst (λ y. IfSome y (λ all. (fin.block + 1) * bs ≤ length all)) (sym file) (let l : bs ≤ known.0.len = subst (λ k. bs ≤ k) len_is (full (ap (λ id. is_some (N.author id)) f.file ∙ written)) in let k = known.2 in let e = number_is in subst (λ i. (i + 1) * bs ≤ length m.taken) (sym number_is) (omega (arith, l, k, within)));
      }

  -- what the machine does to the worker
  module _ (U : Setup) (A : State) (named : NamesStand master A) (stands : writer_stands A m ≡ true) where
    pub closes : (k : Worker) → close_open U A m m.block k ≡ commit_as fin.keep fin.pin n fin.file fin.block fin.len k
    closes k =
        ap (λ b. close_open U A m b k) open_is
        ∙ ap (λ b. cond b (commit A.names n m.file ((length m.taken - known.0.len) / m.bs) known.0.len k) (cond (runs_since A m.worker m.start) (without_room n k) k)) stands
        ∙ ap (λ d. commit A.names n m.file ((length m.taken - known.0.len) / d) known.0.len k) f.bs
        ∙ (let place = sym number_is in let size = sym len_is in λ j. commit_as (kept_is master A m.file named j) (pinned_is master A m.file named j) n m.file (place j) (size j) k)
        ∙ ap (λ id. commit_as (keeps (file_node master.kept.names.nodes id)) (pins (file_node master.kept.names.nodes id)) n id fin.block fin.len k) f.file
