-- Files and copies fit still after an event that changes what is known.
use Rattle.std.proofs.Common.{◌≡◌, ℕ, suc, ◌+◌, ◌*◌, ◌<◌, ◌≤◌, true, List, ◌++◌, length, take, drop, Option, Some, None, option_map, is_some, inl, inr, refl, sym, ap, ◌∙◌, subst, arith}
use Rattle.std.specs.Prelude.{IfSome, IsSomeAnd, slice_get, ◌⊎◌}
use Rattle.std.specs.List.{All}
use Rattle.std.proofs.lemmas.List.Elements.{All-weaker}
use Rattle.std.proofs.lemmas.Bool.{cases_eq}
use Rattle.std.proofs.lemmas.Option.{same_Some}
use Rattle.cluster_core.specs.Tiers.{ChangesAt}
use Rattle.cluster_core.proofs.NodeChanges.{both_there}
use Rattle.std.proofs.lemmas.List.{drop-append-le, take-append-le, length-drop, length-append}
use Rattle.fs_model.specs.Words.{block_of}
use Rattle.fs_model.specs.State.{Node as machineNode, NodeRow, Content, Copied, File}
use Rattle.outside.specs.declared.objects.Objects as objects
use Rattle.cluster_core.specs.declared.node.Node.{Node}
use Rattle.cluster_core.specs.Tiers.{object_key}
use Rattle.cluster_core.specs.Knowledge.{Knowledge}
use Rattle.cluster_core.specs.Stands.{FileFits, DoneFits, ObjectFits, HasObject, CopyStands, NodeStands, NodesStand}
use Rattle.cluster_core.specs.AreasStand.{content_row}

-- ---- what is known goes on

-- a file's bytes stay, or those of a file that is written get more; nobody writes it who didn't
pub record GoesOn (K N : Knowledge) (id : ℕ) : Type 0 where
  pub bytes : (N.bytes_of id ≡ K.bytes_of id) ⊎ ((more : List ℕ) × (is_some (K.author id) ≡ true) × (N.bytes_of id ≡ option_map (λ b. b ++ more) (K.bytes_of id)))
  pub author : is_some (N.author id) ≡ true → is_some (K.author id) ≡ true

-- so it is with all files that are there, and numbers that belong to no label do so still
pub record KnownOn (K N : Knowledge) (before now : ℕ) : Type 0 where
  pub later : before ≤ now
  pub files : (id : ℕ) → id < before → GoesOn K N id
  pub owners : (w n : ℕ) → K.owner w n ≡ None → N.owner w n ≡ None

pub known_all : (K : Knowledge) (next : ℕ) → KnownOn K K next next
known_all K next = record {
  later = omega arith;
  files = λ id few. record { bytes = inl refl; author = λ h. h };
  owners = λ w n h. h;
}

-- ---- objects

-- a whole block of bytes stays where they get more
pub block_of-more : (all more : List ℕ) (i bs : ℕ) → (i + 1) * bs ≤ length all → block_of (all ++ more) i bs ≡ block_of all i bs
block_of-more all more i bs whole =
    let before : i * bs ≤ length all = omega arith in
    let rest : bs ≤ length (drop (i * bs) all) = omega (arith, length-drop (i * bs) all) in
    ap (take bs) (drop-append-le (i * bs) all more before) ∙ take-append-le bs (drop (i * bs) all) more rest

module _ (K N : Knowledge) (before now bs : ℕ) (on : KnownOn K N before now) where
  object_stays : (c : Copied) (bytes : List ℕ) → c.file < before → ObjectFits K bs c bytes → ObjectFits N bs c bytes
  object_stays c bytes old f =
      let g = on.files c.file old in
      record {
        len = f.len;
        block = elim g.bytes as (λ b. IfSome (N.bytes_of c.file) (λ all. bytes ≡ block_of all c.block bs)) [
          | inl same ↦ subst (λ x. IfSome x (λ all. bytes ≡ block_of all c.block bs)) (sym same) f.block
          | inr more ↦ subst (λ x. IfSome x (λ all. bytes ≡ block_of all c.block bs)) (sym more.2) (longer more.0 (K.bytes_of c.file) f.block (f.whole more.1))
        ];
        whole = λ written. elim g.bytes as (λ b. IfSome (N.bytes_of c.file) (λ all. (c.block + 1) * bs ≤ length all)) [
          | inl same ↦ subst (λ x. IfSome x (λ all. (c.block + 1) * bs ≤ length all)) (sym same) (f.whole (g.author written))
          | inr more ↦ subst (λ x. IfSome x (λ all. (c.block + 1) * bs ≤ length all)) (sym more.2) (whole_still more.0 (K.bytes_of c.file) (f.whole more.1))
        ];
      }
    where
      longer : (more : List ℕ) (x : Option (List ℕ)) → IfSome x (λ all. bytes ≡ block_of all c.block bs) → IfSome x (λ all. (c.block + 1) * bs ≤ length all) → IfSome (option_map (λ b. b ++ more) x) (λ all. bytes ≡ block_of all c.block bs)
      longer more None h k = tt
      longer more (Some all) h k = h ∙ sym (block_of-more all more c.block bs k)

      whole_still : (more : List ℕ) (x : Option (List ℕ)) → IfSome x (λ all. (c.block + 1) * bs ≤ length all) → IfSome (option_map (λ b. b ++ more) x) (λ all. (c.block + 1) * bs ≤ length all)
      whole_still more None k = tt
      whole_still more (Some all) k = longer_list all more k
        where
          longer_list : (xs ys : List ℕ) {n : ℕ} → n ≤ length xs → n ≤ length (xs ++ ys)
          longer_list xs ys h = omega (arith, h, length-append xs ys)

  module _ {S R W : Type 0} (o : objects.Ghosts S R W) where
    -- P of what is there, by a weaker Q
    weaken : {X : Type 0} (P Q : X → Type 0) (x : Option X) → ((s : X) → P s → Q s) → IsSomeAnd x P → IsSomeAnd x Q
    weaken P Q None f p = p
    weaken P Q (Some s) f p = f s p

    pub copy_stays : (v : ℕ) (node : Node S) (c : Copied) → CopyStands o K before bs v node c → CopyStands o N now bs v node c
    copy_stays v node c s = record {
      keep = s.keep;
      number = s.number;
      owner = on.owners v c.number s.owner;
      file = omega (arith, s.file, on.later);
      object = weaken _ _ (slice_get node.tiers.items c.tier) (λ t. weaken _ _ (o.told t) (λ m. weaken _ _ (m (object_key node.started c.number)) (λ bytes f. object_stays c bytes s.file f))) s.object;
    }

    -- a worker that the event leaves stands still
    pub node_stays : (v : ℕ) (node : Node S) → NodeStands o K before bs v node → NodeStands o N now bs v node
    node_stays v node s = record {
      tells = s.tells;
      copies = All-weaker _ _ (copy_stays v node) node.book.rows s.copies;
      rooms = s.rooms;
      few = s.few;
      fresh = λ k h. on.owners v k (s.fresh k h);
    }

    -- and all workers, where the event leaves them all
    pub nodes_stay : (nodes : List (Node S)) → NodesStand o K before bs nodes → NodesStand o N now bs nodes
    nodes_stay nodes s = λ i node there. node_stays (suc i) node (s i node there)

-- the copy at a worker with other reservations and litter, but the same starts, next number and tiers
module _ {S R W : Type 0} (o : objects.Ghosts S R W) where
  pub copy_moves : (K : Knowledge) (next bs v : ℕ) (a b : Node S) → b.started ≡ a.started → b.book.next ≡ a.book.next → b.tiers ≡ a.tiers → (c : Copied) → CopyStands o K next bs v a c → CopyStands o K next bs v b c
  copy_moves K next bs v a b started number tiers c s = record {
    keep = s.keep;
    number = subst (λ n. c.number < n) (sym number) s.number;
    owner = s.owner;
    file = s.file;
    object = subst (λ ts. HasObject o ts c.tier (object_key b.started c.number) (ObjectFits K bs c)) (ap (λ ts. ts.items) (sym tiers)) (subst (λ n. HasObject o a.tiers.items c.tier (object_key n c.number) (ObjectFits K bs c)) (sym started) s.object);
  }

  -- all workers stand after one of them changed, where that one does
  pub nodes_change : (K N : Knowledge) (before now bs : ℕ) → KnownOn K N before now → (old new : List (Node S)) (i : ℕ) (G : Node S → Node S → Type 0) → ChangesAt old new i G
      → ((v : ℕ) (a b : Node S) → NodeStands o K before bs v a → G a b → NodeStands o N now bs v b) → NodesStand o K before bs old → NodesStand o N now bs new
  nodes_change K N before now bs on old new i G change stands all j node there = elim (cases_eq j i) [
    | inl here ↦
        let found = both_there (slice_get old i) (slice_get new i) change.at in
        let same : node ≡ found.1 = same_Some node found.1 (sym there ∙ ap (slice_get new) here ∙ found.3) in
        subst (NodeStands o N now bs (suc j)) (sym same) (stands (suc j) found.0 found.1 (all j found.0 (ap (slice_get old) here ∙ found.2)) found.4)
    | inr away ↦ node_stays K N before now bs on o (suc j) node (all j node (sym (change.others j away) ∙ there))
  ]

  -- the same, where the change follows from what was there
  pub nodes_change_there : (K N : Knowledge) (before now bs : ℕ) → KnownOn K N before now → (old new : List (Node S)) (i : ℕ) (G : Node S → Node S → Type 0) → ChangesAt old new i G
      → ((a b : Node S) → slice_get old i ≡ Some a → G a b → NodeStands o N now bs (suc i) b) → NodesStand o K before bs old → NodesStand o N now bs new
  nodes_change_there K N before now bs on old new i G change stands all j node there = elim (cases_eq j i) [
    | inl here ↦
        let found = both_there (slice_get old i) (slice_get new i) change.at in
        let same : node ≡ found.1 = same_Some node found.1 (sym there ∙ ap (slice_get new) here ∙ found.3) in
        subst (λ k. NodeStands o N now bs (suc k) node) (sym here) (subst (NodeStands o N now bs (suc i)) (sym same) (stands found.0 found.1 found.2 found.4))
    | inr away ↦ node_stays K N before now bs on o (suc j) node (all j node (sym (change.others j away) ∙ there))
  ]

-- ---- files

-- files of which nobody writes any keep their bytes
pub record DoneOn (K N : Knowledge) (before now : ℕ) : Type 0 where
  pub later : before ≤ now
  pub files : (id : ℕ) → id < before → K.author id ≡ None → (N.bytes_of id ≡ K.bytes_of id) × (N.author id ≡ None)

module _ (K N : Knowledge) (before now bs : ℕ) (on : DoneOn K N before now) (contents : List Content) where
  done_stays : (f : File) → f.id < before → DoneFits K contents bs f → DoneFits N contents bs f
  done_stays f old d =
      let g = on.files f.id old d.written in
      record {
        bytes = subst (λ x. IsSomeAnd (content_row contents f.id) (λ c. (x ≡ Some c.bytes) × (length c.bytes ≡ f.len))) (sym g.0) d.bytes;
        short = d.short;
        written = g.1;
      }

  pub file_stays : (row : NodeRow) → FileFits K contents before bs row → FileFits N contents now bs row
  file_stays (p, machineNode.Directory) f = f
  file_stays (p, machineNode.IsFile f) h = (omega (arith, h.0, on.later), h.1, λ done. done_stays f h.0 (h.2 done))

  -- all files fit still
  pub files_stay : (nodes : List NodeRow) → All (FileFits K contents before bs) nodes → All (FileFits N contents now bs) nodes
  files_stay nodes all = All-weaker _ _ file_stays nodes all
