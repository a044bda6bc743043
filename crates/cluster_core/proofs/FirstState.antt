-- A core that begins stands for each state that a play begins with.
use Rattle.std.proofs.Common.{◌≡◌, ◌⊎◌, inl, inr, not, Ok, ℕ, zero, suc, pred, ◌<◌, true, false, ◌&&◌, List, [], ◌∷◌, map, length, get_or, nat_lt, Option, Some, None, option_map, refl, sym, ap, ◌∙◌, subst, arith, IsTrue}
use Rattle.std.specs.Prelude.{IsSomeAnd, IsSome, slice_get}
use Rattle.std.specs.Global.{Vec}
use Rattle.std.specs.List.{All}
use Rattle.std.proofs.lemmas.List.{get_or-replicate, map-id}
use Rattle.std.proofs.lemmas.Option.{slice_get-map}
use Rattle.std.proofs.lemmas.List.Elements.{All-nil, All-cons, All-head, All-tail}
use Rattle.fs_model.specs.declared.setup.Setup.{Setup}
use Rattle.fs_model.specs.State.{State, Whole, Worker, Registration, Node as machineNode, RoomRow}
use Rattle.fs_model.specs.Lookups.{no_worker, unregistered}
use Rattle.fs_model.specs.Words.{update_at}
use Rattle.fs_model.specs.Begins.{Begins}
use Rattle.outside.specs.Contents.{Contents}
use Rattle.outside.specs.declared.disk.Disk as disks
use Rattle.outside.specs.declared.objects.Objects as objects
use Rattle.outside.specs.declared.objects.ObjectRead as reads
use Rattle.outside.specs.declared.objects.ObjectWrite as writes
use Rattle.outside.specs.declared.media.Media.{Media}
use Rattle.tier_book.specs.Rows.{BookView}
use Rattle.cluster_core.specs.Begun.{TiersEmpty, IsEmptyTier, HasNone, fresh_book, idle_row, first_runs}
use Rattle.cluster_core.specs.LabelsView.{LabelsView}
use Rattle.cluster_core.specs.Hands.{Matches}
use Rattle.cluster_core.specs.HandFits.{HandFits}
use Rattle.cluster_core.specs.Knowledge.{Knowledge}
use Rattle.fs_model.specs.State.{Names}
use Rattle.fs_model.specs.Opening.{fresh_names}
use Rattle.outside.specs.Fuse.{Fusing}
use Rattle.journal_entry.proofs.CheckpointLengths.{length-checkpoint}
use Rattle.journal_disk.specs.Areas.{journal_of}
use Rattle.journal_disk.specs.Opening.{Tell}
use Rattle.master_node.specs.Mastering.{Mastering, Standing, names_of, standing_of}
use Rattle.master_node.specs.Recovery.{IsAgain, IsFirst, IsOver, first_standing}
use Rattle.cluster_core.specs.NamesStand.{NamesStand}
use Rattle.cluster_core.specs.Nodes.{node_row}
use Rattle.cluster_core.specs.Stands.{Stands, WorkersStand, HandsStand, FilesStand, FileFits, NodesStand, CopyStands, TierTells}
use Rattle.cluster_core.specs.declared.node.Node.{Node}
use Rattle.cluster_core.specs.declared.hand.Hand.{Hand}
use Rattle.cluster_core.specs.declared.cluster.Core.{Core}
use Rattle.cluster_core.proofs.Places.{second_is}
use Rattle.cluster_core.proofs.Standing.{stands_by}
use Rattle.cluster_core.specs.AreasStand.{content_row}
use Rattle.journal_disk.specs.Journaling.{BothTell, area_0, area_1, fused_0, fused_1}
use Rattle.cluster_core.proofs.Sides.{fused_sides}
use Rattle.master_node.specs.Mastering.{IsKept}
use Rattle.cluster_core.proofs.AreaFacts.{areas_kept, standing_is}

-- ---- lists

-- a function over what another gave
maps_twice : {X Y Z : Type 0} (f : Y → Z) (g : X → Y) (xs : List X) → map f (map g xs) ≡ map (λ x. f (g x)) xs
maps_twice f g [] = refl
maps_twice f g (x ∷ xs) = ap (λ l. f (g x) ∷ l) (maps_twice f g xs)

-- what all have, the one at a place has
pub all_got : {X : Type 0} (P : X → Type 0) (xs : List X) (i : ℕ) (x : X) → All P xs → slice_get xs i ≡ Some x → P x
all_got P [] i x all is = absurd (cc)
all_got P (y ∷ ys) zero x all is = subst (λ o. IsSomeAnd o P) is (All-head P y ys all)
all_got P (y ∷ ys) (suc i) x all is = all_got P ys i x (All-tail P y ys all) is

-- so it is at each place
all_at : {X : Type 0} (P : X → Type 0) (xs : List X) (i : ℕ) → All P xs → i < length xs → IsSomeAnd (slice_get xs i) P
all_at P [] i all within = absurd (omega (arith, within))
all_at P (y ∷ ys) zero all within = All-head P y ys all
all_at P (y ∷ ys) (suc i) all within = all_at P ys i (All-tail P y ys all) (omega (arith, within))

weaker : {X : Type 0} (P Q : X → Type 0) (x : Option X) → ((y : X) → P y → Q y) → IsSomeAnd x P → IsSomeAnd x Q
weaker P Q None f h = h
weaker P Q (Some y) f h = f y h

-- ---- workers

-- workers that never ran
rows_idle : (tiers : List (List ℕ)) → map idle_row (map fresh_book tiers) ≡ map (λ t. no_worker) tiers
rows_idle tiers = maps_twice idle_row fresh_book tiers

-- what the master knows of a worker that has this row
abbrev known_by : Worker → Registration
known_by W = record { known = W.running; awaited = false; silence = 0 }

registrations_are : (tiers : List (List ℕ)) → map known_by (first_runs (map (λ t. no_worker) tiers)) ≡ update_at 0 unregistered (λ r. record r { known = true }) (map (λ t. unregistered) tiers)
registrations_are [] = refl
registrations_are (t ∷ tiers) = ap (λ l. record { known = true; awaited = false; silence = 0 } ∷ l) (maps_twice known_by (λ (s : List ℕ). no_worker) tiers)

-- each of the others never ran
others_idle : (tiers : List (List ℕ)) (k : ℕ) → get_or (map (λ t. no_worker) tiers) k no_worker ≡ no_worker
others_idle [] k = refl
others_idle (t ∷ tiers) zero = refl
others_idle (t ∷ tiers) (suc k) = others_idle tiers k

first_alone : (tiers : List (List ℕ)) (w : ℕ) → (nat_lt 0 w && (get_or (first_runs (map (λ t. no_worker) tiers)) (pred w) no_worker).running) ≡ true → w ≡ 1
first_alone tiers zero is = absurd (cc)
first_alone tiers (suc zero) is = refl
first_alone [] (suc (suc k)) is = let no : false ≡ true = second_is (nat_lt 0 (suc (suc k))) false is in absurd (cc)
first_alone (t ∷ tiers) (suc (suc k)) is = let no : false ≡ true = ap (λ (W : Worker). W.running) (sym (others_idle tiers k)) ∙ second_is (nat_lt 0 (suc (suc k))) (get_or (map (λ (s : List ℕ). no_worker) tiers) k no_worker).running is in absurd (cc)

first_there : (tiers : List (List ℕ)) → 0 < length (first_runs (map (λ t. no_worker) tiers)) → (get_or (first_runs (map (λ t. no_worker) tiers)) 0 no_worker).running ≡ true
first_there [] some = absurd (omega (arith, some))
first_there (t ∷ tiers) some = refl

-- a book that begins has nothing, and its next number is 1
record IsFresh (b : BookView) : Type 0 where
  pub rows_none : b.rows ≡ []
  pub rooms_none : b.rooms ≡ []
  pub next_one : b.next ≡ 1

books_fresh : (tiers : List (List ℕ)) → All IsFresh (map fresh_book tiers)
books_fresh [] = All-nil IsFresh
books_fresh (t ∷ tiers) = All-cons IsFresh (fresh_book t) (map fresh_book tiers) (record { rows_none = refl; rooms_none = refl; next_one = refl }) (books_fresh tiers)

-- ---- the whole

-- ---- the names

-- over fresh areas a master is opened with its first checkpoint
pub fresh_first : {D : Type 0} (d : disks.Ghosts D) (U : Setup) (a b : Fusing D) (m : Mastering D) → IsOver d U a b m → Tell d a b → journal_of (d.history a.disk).now.held (d.history b.disk).now.held ≡ Ok None → standing_of m ≡ first_standing U
fresh_first d U a b m over tell none = by over.from
  where
    by : IsAgain d a b m ⊎ IsFirst d U a b m → standing_of m ≡ first_standing U
    by (inl again) = let found = again.found tell in absurd (let never = sym none ∙ found.1 in cc)
    by (inr first) = first.standing

-- the areas tell afterwards where they did before
pub over_tells : {D : Type 0} (d : disks.Ghosts D) (U : Setup) (a b : Fusing D) (m : Mastering D) → IsOver d U a b m → Tell d a b → BothTell d m.journal
over_tells d U a b m over tell = by over.from
  where
    side : ((fused_0 m.journal).disk ≡ area_0 m.journal) × ((fused_1 m.journal).disk ≡ area_1 m.journal)
    side = fused_sides m.journal

    by : IsAgain d a b m ⊎ IsFirst d U a b m → BothTell d m.journal
    by (inl again) = (subst IsTrue (sym (ap d.tells (sym side.0) ∙ again.areas.tells_0)) tell.0, subst IsTrue (sym (ap d.tells (sym side.1) ∙ again.areas.tells_1)) tell.1)
    by (inr first) = (subst IsTrue (sym (ap d.tells (sym side.0) ∙ first.areas.tells_0 ∙ first.areas.opening.tells_0)) tell.0, subst IsTrue (sym (ap d.tells (sym side.1) ∙ first.areas.tells_1 ∙ first.areas.opening.tells_1)) tell.1)

-- it stands for the names of each state that a play begins with
first_stands : {D : Type 0} (U : Setup) (V : Whole) → Begins U V → (m : Mastering D) → standing_of m ≡ first_standing U → m.journal.failed ≡ false → m.journal.here.fuse ≡ None → NamesStand m V.body
first_stands U V b m standing up unfused = record {
  names = ap (λ (A : State). A.names) b.body ∙ sym (ap (λ (s : Standing). s.names) standing);
  gate = λ _. ap (λ (A : State). A.master.gate) b.body ∙ sym (length-checkpoint (fresh_names U)) ∙ sym (ap (λ (s : Standing). s.gate) standing);
  generation = λ _. ap (λ (A : State). A.master.generation) b.body ∙ sym (ap (λ (s : Standing). s.generation) standing);
  fuse = ap (λ (A : State). A.master.fuse) b.body ∙ sym unfused;
  down = ap (λ (A : State). not A.master.up) b.body ∙ sym up;
  unlocked = ap (λ (A : State). A.names.locks) b.body;
  unseen = ap (λ (A : State). A.names.seen) b.body;
}

-- nothing is known of files
abbrev nothing : Knowledge
nothing = record { bytes_of = λ n. None; author = λ n. None; owner = λ w n. None }

module _ {S R W : Type 0} (o : objects.Ghosts S R W) (r : reads.Ghosts R) (w : writes.Ghosts W) (U : Setup) (V : Whole) (b : Begins U V) where
  workers_stand : (nodes : List (Node S)) → map node_row nodes ≡ first_runs (map idle_row (map fresh_book U.tiers)) → WorkersStand nodes V.body
  workers_stand nodes rows =
      let are : map node_row nodes ≡ first_runs (map (λ t. no_worker) U.tiers) = rows ∙ ap first_runs (rows_idle U.tiers) in
      let body : V.body.workers ≡ first_runs (map (λ t. no_worker) U.tiers) = ap (λ (A : State). A.workers) b.body in
      record {
        rows = body ∙ sym are;
        registrations = ap (λ (A : State). A.registrations) b.body ∙ sym (registrations_are U.tiers) ∙ ap (map known_by) (sym are) ∙ maps_twice known_by node_row nodes;
        first = λ v is. first_alone U.tiers v (ap (λ rows. nat_lt 0 v && (get_or rows (pred v) no_worker).running) (sym body) ∙ is);
        one = λ some. ap (λ rows. (get_or rows 0 no_worker).running) body ∙ first_there U.tiers (subst (λ rows. 0 < length rows) body some);
      }

  hands_stand : (nodes : List (Node S)) (labels : List (LabelsView (Hand R W))) → length labels ≡ 64 → All HasNone labels → HandsStand r w nothing nodes 1 U.block V.hands labels
  hands_stand nodes labels actors none = record {
    actors = ap length b.hands;
    each = λ i within.
        let empty : get_or V.hands i [] ≡ [] = ap (λ all. get_or all i []) b.hands ∙ get_or-replicate 64 i [] [] within in
        let there : IsSomeAnd (slice_get labels i) (Matches (λ l. HandFits r w nothing nodes 1 U.block (suc i, l)) []) = weaker HasNone (Matches (λ l. HandFits r w nothing nodes 1 U.block (suc i, l)) []) (slice_get labels i) (λ s h. record { hands = λ l. subst (λ x. HandFits r w nothing nodes 1 U.block (suc i, l) None x) (sym (h.hands l)) tt; counts = sym h.counts; distinct = refl }) (all_at HasNone labels i none (omega (arith, within, actors))) in
        subst (λ H. IsSomeAnd (slice_get labels i) (Matches (λ l. HandFits r w nothing nodes 1 U.block (suc i, l)) H)) (sym empty) there;
  }

  files_stand : FilesStand nothing 1 U.block (([], machineNode.Directory) ∷ []) V.body.contents
  files_stand =
      let none : V.body.contents ≡ [] = ap (λ (A : State). A.contents) b.body in
      record {
        each = All-cons (FileFits nothing V.body.contents 1 U.block) ([], machineNode.Directory) [] tt (All-nil (FileFits nothing V.body.contents 1 U.block));
        written = λ id is. absurd (cc);
        fresh = λ id late. (ap (λ contents. content_row contents id) none, refl);
      }

  tells_all : (s : S) → IsEmptyTier o s → TierTells o s
  tells_all s h = weaker (λ (m : Contents). (key : List (List ℕ)) → m key ≡ None) (λ (m : Contents). (key : List (List ℕ)) → IsSome (m key) → length key ≡ 2) (o.told s) (λ m none key some. let no : false ≡ true = subst IsSome (none key) some in absurd (cc)) h

  nodes_stand : {D : Type 0} (m : Media D S) (nodes : List (Node S)) → map (λ n. n.book) nodes ≡ map fresh_book U.tiers → map (λ n. n.tiers) nodes ≡ m.tiers.items → TiersEmpty o m → NodesStand o nothing 1 U.block nodes
  nodes_stand m nodes books tiers empty i node at =
      let begun : IsFresh node.book = all_got IsFresh (map fresh_book U.tiers) i node.book (books_fresh U.tiers) (ap (λ l. slice_get l i) (sym books) ∙ slice_get-map (λ (n : Node S). n.book) nodes i ∙ ap (option_map (λ (n : Node S). n.book)) at) in
      let bare : All (IsEmptyTier o) node.tiers.items = all_got (λ (v : Vec S). All (IsEmptyTier o) v.items) m.tiers.items i node.tiers empty (ap (λ l. slice_get l i) (sym tiers) ∙ slice_get-map (λ (n : Node S). n.tiers) nodes i ∙ ap (option_map (λ (n : Node S). n.tiers)) at) in
      record {
        tells = λ t s here. tells_all s (all_got (IsEmptyTier o) node.tiers.items t s bare here);
        copies = subst (All (CopyStands o nothing 1 U.block (suc i) node)) (sym begun.rows_none) (All-nil (CopyStands o nothing 1 U.block (suc i) node));
        rooms = subst (All (λ (x : RoomRow). x.number < node.book.next)) (sym begun.rooms_none) (All-nil (λ (x : RoomRow). x.number < node.book.next));
        few = let one : node.book.next ≡ 1 = begun.next_one in omega (arith, one);
        fresh = λ k late. refl;
      }

module _ {D S R W : Type 0} {d : disks.Ghosts D} (o : objects.Ghosts S R W) (r : reads.Ghosts R) (w : writes.Ghosts W) (U : Setup) (V : Whole) (b : Begins U V) where
  -- the core stands for the state
  pub begin_stands : (m : Media D S) (C : Core D S R W d w) → C.block ≡ U.block → C.master.journal.limit ≡ U.area → standing_of C.master ≡ first_standing U → C.master.journal.failed ≡ false → C.master.journal.here.fuse ≡ None
      → map (λ n. n.book) C.workers.items ≡ map fresh_book U.tiers → map node_row C.workers.items ≡ first_runs (map idle_row (map fresh_book U.tiers)) → map (λ n. n.tiers) C.workers.items ≡ m.tiers.items
      → length C.hands.items ≡ 64 → All HasNone C.hands.items → TiersEmpty o m → BothTell d C.master.journal → IsKept d C.master → Stands d o r w U C V
  begin_stands m C block area standing up unfused books rows tiers actors none empty tell kept =
      let names : names_of C.master ≡ fresh_names U = ap (λ (s : Standing). s.names) standing in
      let named = first_stands U V b C.master standing up unfused in
      stands_by o r w U C V nothing U.block U.area C.master C.workers.items C.hands.items block area refl refl refl (record {
        setup = record { block = refl; area = refl; tiers = sym (map-id U.tiers) ∙ sym (maps_twice (λ (x : BookView). x.sizes) fresh_book U.tiers) ∙ ap (map (λ (x : BookView). x.sizes)) (sym books) ∙ maps_twice (λ (x : BookView). x.sizes) (λ (n : Node S). n.book) C.workers.items };
        named = named;
        areas = areas_kept d nothing V.body.contents U.block C.master V.body.names V.body.master tell kept (standing_is C.master V.body named up) (ap (λ (A : State). A.master.doubt) b.body);
        workers = workers_stand o r w U V b C.workers.items rows;
        hands = subst (λ (N : Names). HandsStand r w nothing C.workers.items N.next_id U.block V.hands C.hands.items) (sym names) (hands_stand o r w U V b C.workers.items C.hands.items actors none);
        files = subst (λ (N : Names). FilesStand nothing N.next_id U.block N.nodes V.body.contents) (sym names) (files_stand o r w U V b);
        objects = subst (λ (N : Names). NodesStand o nothing N.next_id U.block C.workers.items) (sym names) (nodes_stand o r w U V b m C.workers.items books tiers empty);
      })
