-- The opening of a file as a step of the file machine.
use Rattle.std.proofs.Common.{◌≡◌, ℕ, suc, pred, ◌+◌, ◌-◌, ◌*◌, ◌/◌, ◌<◌, ◌≤◌, true, false, cond, not, ◌&&◌, List, [], ◌∷◌, length, get_or, nat_eq, nat_le, nat_lt, Option, Some, None, is_some, is_none, option_map, unwrap_or, inl, inr, refl, sym, ap, ◌∙◌, subst, arith}
use Rattle.std.specs.Prelude.{IsSomeAnd, slice_get}
use Rattle.std.specs.Option.{option_and_then}
use Rattle.std.proofs.lemmas.List.{length-map}
use Rattle.std.proofs.lemmas.Nat.{le-div, div_below}
use Rattle.std.proofs.lemmas.Bool.{cases_lt, lt-ltb, le-ltb}
use Rattle.fs_model.specs.declared.setup.Setup.{Setup}
use Rattle.fs_model.specs.declared.path.Path.{Path}
use Rattle.fs_model.specs.declared.label.Label.{Label}
use Rattle.fs_model.specs.declared.event.Event.{Event}
use Rattle.fs_model.specs.declared.event.ReadType.{ReadType}
use Rattle.fs_model.specs.declared.reply.Reply.{Reply}
use Rattle.fs_model.specs.declared.reply.Refusal.{Refusal}
use Rattle.fs_model.specs.declared.reply.Which.{Which}
use Rattle.fs_model.specs.Spelled.{is_actor}
use Rattle.fs_model.specs.State as machine
use Rattle.fs_model.specs.State.{State, Whole, Hands, Node as machineNode, NodeRow, File, Content}
use Rattle.fs_model.specs.Words.{first, block_count, name_eq}
use Rattle.fs_model.specs.Lookups.{hand_at, has_label, find_node, file_in, walk_nodes, is_configured, is_live}
use Rattle.fs_model.specs.NamesEvents.{id_at}
use Rattle.fs_model.specs.Tests.{refuse, walk_fault, past}
use Rattle.fs_model.specs.Updates.{add_hand, content}
use Rattle.fs_model.specs.BytesOutcomes.{Outcome}
use Rattle.fs_model.specs.Choices.{fault_free}
use Rattle.fs_model.specs.Journaling.{fuse_serves}
use Rattle.fs_model.specs.Machine.{refusal, accepted, hands_of, put_back}
use Rattle.fs_model.specs.Step.{Step}
use Rattle.outside.specs.declared.disk.Disk as disks
use Rattle.outside.specs.declared.objects.Objects as objects
use Rattle.outside.specs.declared.objects.ObjectRead as reads
use Rattle.outside.specs.declared.objects.ObjectWrite as writes
use Rattle.master_node.specs.Mastering.{Mastering}
use Rattle.cluster_core.proofs.Named.{nodes_are, serves_none}
use Rattle.cluster_core.specs.Names.{stop_test}
use Rattle.cluster_core.specs.NamesStand.{NamesStand}
use Rattle.cluster_core.specs.Tests.{Circumstance, open_test, done_test, file_there, passes_file}
use Rattle.cluster_core.specs.Openings.{has_here, count_here, here}
use Rattle.cluster_core.specs.Tiers.{ChangesAt}
use Rattle.cluster_core.specs.LabelsView.{LabelsView, hand_in, count, HasRoom}
use Rattle.cluster_core.specs.Hands.{Matches}
use Rattle.cluster_core.specs.HandChanges.{AddsHand, KeepsHands}
use Rattle.cluster_core.specs.HandFits.{HandFits, StreamFits}
use Rattle.cluster_core.specs.Knowledge.{Knowledge}
use Rattle.cluster_core.specs.Kept.{KeepsRest}
use Rattle.cluster_core.specs.Stands.{Stands, HandsStand, FileFits, DoneFits, sizes_of}
use Rattle.cluster_core.specs.Goes.{Steps, Rises, no_rise}
use Rattle.cluster_core.specs.declared.cluster.Core.{Core}
use Rattle.cluster_core.specs.declared.hand.Hand.{Hand}
use Rattle.cluster_core.specs.declared.node.Node.{Node}
use Rattle.cluster_core.proofs.KeptHands.{hands_kept}
use Rattle.cluster_core.proofs.NamesSteps.{behind}
use Rattle.cluster_core.proofs.NamesGo.{file_anywhere}
use Rattle.cluster_core.proofs.Rows.{node_of_all}
use Rattle.cluster_core.proofs.Standing.{stands_by, goes_refused, goes_short}
use Rattle.cluster_core.proofs.Labelled.{hands_added, absent_at, leaves_all}
use Rattle.cluster_core.proofs.CloseGo.{by_actor}
use Rattle.cluster_core.specs.AreasStand.{content_row}

-- ---- the tests

-- three answers of a list within a list
first_three : {X : Type 0} (a b c : Option X) (rest : List (Option X)) → first (first (a ∷ b ∷ c ∷ []) ∷ rest) ≡ first (a ∷ b ∷ c ∷ rest)
first_three None None None rest = refl
first_three None None (Some z) rest = refl
first_three None (Some y) c rest = refl
first_three (Some x) b c rest = refl

-- the tests behind that of the file
abbrev open_rest : {D : Type 0} → ℕ → Mastering D → Circumstance → Path → List (Option Reply)
open_rest bs master c p =
    refuse (Refusal.NoWorker c.worker) (not (nat_eq c.worker 0) && not c.configured)
    ∷ past Which.Labels (nat_le 64 c.labels)
    ∷ past Which.Blocks (passes_file (λ f. nat_lt 65536 (block_count f.len bs)) (file_there master p))
    ∷ []

pub open_refusal : {D : Type 0} (S : Setup) (master : Mastering D) (A : State) (H : Hands) (l : Label) (p : Path) (kind : ReadType) (w : ℕ) → NamesStand master A
    → refusal S A H (Event.OpenFile l p kind w) ≡ open_test S.block master (record { taken = has_label H l; labels = length H; worker = w; configured = is_configured S w; live = is_live A w }) p
open_refusal S master A H l p kind w s =
    let c : Circumstance = record { taken = has_label H l; labels = length H; worker = w; configured = is_configured S w; live = is_live A w } in
    let a = walk_fault (walk_nodes master.kept.names.nodes p) in
    let b = refuse Refusal.IsDirectory (is_none (file_there master p)) in
    let d = refuse Refusal.Incomplete (passes_file (λ f. not f.done) (file_there master p)) in
    rw (s.down, s.unlocked, nodes_are s) (behind (refuse Refusal.BadLabel (has_label H l)) (stop_test master ∷ None ∷ a ∷ b ∷ d ∷ open_rest S.block master c p) (stop_test master ∷ done_test master p ∷ open_rest S.block master c p) (behind (stop_test master) (None ∷ a ∷ b ∷ d ∷ open_rest S.block master c p) (done_test master p ∷ open_rest S.block master c p) (sym (first_three a b d (open_rest S.block master c p)))))

-- more blocks than a file may have
pub is_past : (len bs : ℕ) → 0 < bs → nat_lt (65536 * bs) len ≡ nat_lt 65536 (block_count len bs)
is_past len bs some = elim (cases_lt (65536 * bs) len) as (λ c. nat_lt (65536 * bs) len ≡ nat_lt 65536 (block_count len bs)) [
  | inl more ↦ lt-ltb (65536 * bs) len more ∙ sym (lt-ltb 65536 (block_count len bs) (let q : 65537 ≤ (len + bs - 1) / bs = le-div 65537 (len + bs - 1) bs some (omega (arith, more, some)) in omega (arith, q)))
  | inr few ↦ le-ltb (65536 * bs) len few ∙ sym (le-ltb 65536 (block_count len bs) (let q : (len + bs - 1) / bs < 65537 = div_below (len + bs - 1) bs 65537 some (omega (arith, few, some)) in omega (arith, q)))
]

-- ---- what the core knows is what the machine has

-- what is known where an actor's labels are looked up
known_there : {T : Type 0} (P : LabelsView T → Type 0) (x : Option (LabelsView T)) → IsSomeAnd x P → (s : LabelsView T) × (x ≡ Some s) × P s
known_there P None h = absurd h
known_there P (Some s) h = (s, refl, h)

module _ {S R W : Type 0} (r : reads.Ghosts R) (w : writes.Ghosts W) (K : Knowledge) (nodes : List (Node S)) (next bs : ℕ) (all : List Hands) (labels : List (LabelsView (Hand R W))) (was : HandsStand r w K nodes next bs all labels) (i : ℕ) (within : i < 64) (l : List ℕ) where
  same_there : (h : Option machine.Hand) (t : Option (Hand R W)) → HandFits r w K nodes next bs (suc i, l) h t → is_some h ≡ is_some t
  same_there None None f = refl
  same_there None (Some t) f = absurd f
  same_there (Some h) None f = absurd f
  same_there (Some h) (Some t) f = refl

  pub taken_here : has_label (get_or all i []) l ≡ has_here labels (suc i) l
  taken_here =
      let at = known_there (Matches (λ m. HandFits r w K nodes next bs (suc i, m)) (get_or all i [])) (slice_get labels i) (was.each i within) in
      same_there (hand_at (get_or all i []) l) (hand_in at.0 l) (at.2.hands l) ∙ sym (ap (λ x. is_some (option_and_then (λ s. hand_in s l) x)) at.1)

  pub counted_here : length (get_or all i []) ≡ count_here labels (suc i)
  counted_here =
      let at = known_there (Matches (λ m. HandFits r w K nodes next bs (suc i, m)) (get_or all i [])) (slice_get labels i) (was.each i within) in
      at.2.counts ∙ sym (ap (λ x. unwrap_or (option_map (λ s. count s) x) 0) at.1)

-- the file at a path is found there
file_row_there : (x : Option machineNode) (f : File) → option_and_then file_in x ≡ Some f → x ≡ Some (machineNode.IsFile f)
file_row_there None f h = absurd (cc)
file_row_there (Some machineNode.Directory) f h = absurd (cc)
file_row_there (Some (machineNode.IsFile g)) f h = ap (λ o. Some (machineNode.IsFile (unwrap_or o g))) h

-- its number in the state
id_there : {D : Type 0} (A : State) (master : Mastering D) (p : Path) → NamesStand master A → (f : File) → file_there master p ≡ Some f → id_at A p ≡ f.id
id_there A master p s f there = ap (λ (x : Option File). elim x as (λ o. ℕ) [ None ↦ 0 | Some g ↦ g.id ]) (ap (λ rows. option_and_then file_in (find_node rows p)) (nodes_are s) ∙ there)

-- the bytes of a file that is done
bytes_there : (K : Knowledge) (contents : List Content) (f : File) → IsSomeAnd (content_row contents f.id) (λ c. (K.bytes_of f.id ≡ Some c.bytes) × (length c.bytes ≡ f.len)) → (K.bytes_of f.id ≡ Some (unwrap_or (option_map (λ c. c.bytes) (content_row contents f.id)) [])) × (length (unwrap_or (option_map (λ c. c.bytes) (content_row contents f.id)) []) ≡ f.len)
bytes_there K contents f h = by_row (content_row contents f.id) h
  where
    by_row : (x : Option Content) → IsSomeAnd x (λ c. (K.bytes_of f.id ≡ Some c.bytes) × (length c.bytes ≡ f.len)) → (K.bytes_of f.id ≡ Some (unwrap_or (option_map (λ c. c.bytes) x) [])) × (length (unwrap_or (option_map (λ c. c.bytes) x) []) ≡ f.len)
    by_row None h = absurd h
    by_row (Some c) h = h

-- the label isn't there, and there is room, also after a change that keeps all labels
pub free_still : {T : Type 0} (i : ℕ) (l k : List ℕ) (old mid : List (LabelsView T)) → k ≡ l → has_here old (suc i) l ≡ false → ChangesAt old mid i KeepsHands → IsSomeAnd (slice_get mid i) HasRoom → IsSomeAnd (slice_get mid i) (λ s. (hand_in s k ≡ None) × HasRoom s)
free_still {T} i l k old mid same free kept room = by_cases (slice_get old i) (slice_get mid i) free kept.at room
  where
    none_of : (x : Option T) → is_some x ≡ false → x ≡ None
    none_of None h = refl
    none_of (Some t) h = absurd (cc)

    by_cases : (x y : Option (LabelsView T)) → is_some (option_and_then (λ s. hand_in s l) x) ≡ false → IsSomeAnd x (λ s. IsSomeAnd y (λ u. KeepsHands s u)) → IsSomeAnd y HasRoom → IsSomeAnd y (λ s. (hand_in s k ≡ None) × HasRoom s)
    by_cases None y free kept room = absurd kept
    by_cases (Some s) None free kept room = absurd kept
    by_cases (Some s) (Some u) free kept room = (ap (hand_in u) same ∙ kept.hands l ∙ none_of (hand_in s l) free, room)

-- a label that comes after a change that keeps all
pub adds_after : {T : Type 0} (i : ℕ) (l k : List ℕ) (t : T) (old mid new : List (LabelsView T)) → k ≡ l → ChangesAt old mid i KeepsHands → ChangesAt mid new i (AddsHand k t) → ChangesAt old new i (AddsHand l t)
adds_after {T} i l k t old mid new same kept added = record {
  same_length = added.same_length ∙ kept.same_length;
  at = by_cases (slice_get old i) (slice_get mid i) (slice_get new i) kept.at added.at;
  others = λ j differs. added.others j differs ∙ kept.others j differs;
}
  where
    one : (a b c : LabelsView T) → KeepsHands a b → AddsHand k t b c → AddsHand l t a c
    one a b c keeps adds = record {
      absent = sym (keeps.hands l) ∙ ap (hand_in b) (sym same) ∙ adds.absent;
      hands = λ m. adds.hands m ∙ ap (λ q. cond (name_eq q m) (Some t) (hand_in b m)) same ∙ ap (cond (name_eq l m) (Some t)) (keeps.hands m);
      count = adds.count ∙ ap (λ n. n + 1) keeps.count;
    }

    by_cases : (x y z : Option (LabelsView T)) → IsSomeAnd x (λ s. IsSomeAnd y (λ u. KeepsHands s u)) → IsSomeAnd y (λ s. IsSomeAnd z (λ u. AddsHand k t s u)) → IsSomeAnd x (λ s. IsSomeAnd z (λ u. AddsHand l t s u))
    by_cases None y z g h = absurd g
    by_cases (Some a) None z g h = absurd g
    by_cases (Some a) (Some b) None g h = absurd h
    by_cases (Some a) (Some b) (Some c) g h = one a b c g h

-- what was absent, where a hand was added
pub add_absent : {T : Type 0} (i : ℕ) (l : List ℕ) (t : T) (old new : List (LabelsView T)) → ChangesAt old new i (AddsHand l t) → IsSomeAnd (slice_get old i) (λ s. hand_in s l ≡ None)
add_absent {T} i l t old new c = by_cases (slice_get old i) (slice_get new i) c.at
  where
    by_cases : (x y : Option (LabelsView T)) → IsSomeAnd x (λ s. IsSomeAnd y (λ u. AddsHand l t s u)) → IsSomeAnd x (λ s. hand_in s l ≡ None)
    by_cases None y g = absurd g
    by_cases (Some s) None g = absurd g
    by_cases (Some s) (Some u) g = g.absent

-- ---- the event

module _ {D S R W : Type 0} {d : disks.Ghosts D} (o : objects.Ghosts S R W) (r : reads.Ghosts R) (w : writes.Ghosts W) (old new : Core D S R W d w) (l : Label) (p : Path) (v i : ℕ) (within : i < 64) where
  -- the tests say the same of the core and of the machine
  tests_alike : (U : Setup) (V : Whole) (s : Stands d o r w U old V) → refusal U V.body (hands_of V (suc i)) (Event.OpenFile l p ReadType.NoCache v) ≡ open_test old.block old.master (here old.workers.items old.hands.items (suc i) l v) p
  tests_alike U V s =
      let H = hands_of V (suc i) in
      let live = is_live V.body v in
      open_refusal U old.master V.body H l p ReadType.NoCache v s.names
      ∙ ap (λ b. open_test b old.master (record { taken = has_label H l; labels = length H; worker = v; configured = is_configured U v; live = live }) p) s.setup.block
      ∙ ap (λ t. open_test old.block old.master (record { taken = t; labels = length H; worker = v; configured = is_configured U v; live = live }) p) (taken_here r w s.known old.workers.items old.master.kept.names.next_id old.block V.hands old.hands.items s.hands i within l)
      ∙ ap (λ n. open_test old.block old.master (record { taken = has_here old.hands.items (suc i) l; labels = n; worker = v; configured = is_configured U v; live = live }) p) (counted_here r w s.known old.workers.items old.master.kept.names.next_id old.block V.hands old.hands.items s.hands i within l)
      ∙ ap (λ n. open_test old.block old.master (record { taken = has_here old.hands.items (suc i) l; labels = count_here old.hands.items (suc i); worker = v; configured = nat_lt 0 v && nat_le v n; live = live }) p) (ap length s.setup.tiers ∙ length-map old.workers.items sizes_of)

  pub refused_at : (why : Refusal) → open_test old.block old.master (here old.workers.items old.hands.items (suc i) l v) p ≡ Some (Reply.Refused why) → Steps d o r w old old (suc i) (Event.OpenFile l p ReadType.NoCache v) (Reply.Refused why)
  refused_at why h = λ U V s. goes_refused o r w U old old V (suc i) (Event.OpenFile l p ReadType.NoCache v) (Reply.Refused why) s (tests_alike U V s ∙ h) refl refl

  pub short_at : KeepsRest old new → new.workers ≡ old.workers → ChangesAt old.hands.items new.hands.items i KeepsHands → Steps d o r w old new (suc i) (Event.OpenFile l p ReadType.NoCache v) (Reply.Refused Refusal.Memory)
  short_at rest workers hands = λ U V s. goes_short o r w U old new V (suc i) (Event.OpenFile l p ReadType.NoCache v) (stands_by o r w U new V s.known old.block old.master.journal.limit old.master old.workers.items new.hands.items rest.block (ap (λ k. k.journal.limit) rest.master) rest.master (ap (λ x. x.items) workers) refl (record {
    setup = s.setup;
    named = s.names;
    areas = s.areas;
    workers = s.workers;
    hands = hands_kept r w s.known old.workers.items old.master.kept.names.next_id old.block i V.hands old.hands.items new.hands.items s.hands within hands;
    files = s.files;
    objects = s.objects;
  })) refl

  -- what is known of a file that is done
  done_known : (U : Setup) (V : Whole) (s : Stands d o r w U old V) (f : File) → file_there old.master p ≡ Some f → f.done ≡ true → (f.id < old.master.kept.names.next_id) × DoneFits s.known V.body.contents old.block f
  done_known U V s f there done =
      let row = file_row_there (find_node old.master.kept.names.nodes p) f there in
      let fits : FileFits s.known V.body.contents old.master.kept.names.next_id old.block (p, machineNode.IsFile f) = node_of_all (FileFits s.known V.body.contents old.master.kept.names.next_id old.block) p (machineNode.IsFile f) old.master.kept.names.nodes (file_anywhere s.known V.body.contents old.master.kept.names.next_id old.block) s.files.each row in
      (fits.0, fits.2 done)

  pub opened_at : (f : File) → open_test old.block old.master (here old.workers.items old.hands.items (suc i) l v) p ≡ None → file_there old.master p ≡ Some f → f.done ≡ true → KeepsRest old new → new.workers ≡ old.workers
      → ChangesAt old.hands.items new.hands.items i (AddsHand l (Hand.Reading (record { file = f.id; len = f.len; at = 0; worker = v; source = None }))) → Steps d o r w old new (suc i) (Event.OpenFile l p ReadType.NoCache v) (Reply.Opened f.len)
  opened_at f passes there done rest workers hands = λ U V s.
      let H = hands_of V (suc i) in
      let known = done_known U V s f there done in
      let content_is = bytes_there s.known V.body.contents f known.1.bytes in
      let id : id_at V.body p ≡ f.id = id_there V.body old.master p s.names f there in
      let m : machine.Stream = record { file = id_at V.body p; bs = U.block; bytes = content V.body (id_at V.body p); at = 0; kind = ReadType.NoCache; worker = v; source = None; cache = None } in
      let len : length (content V.body (id_at V.body p)) ≡ f.len = ap (λ n. length (content V.body n)) id ∙ content_is.1 in
      let after = put_back V (suc i) V.body (add_hand l (machine.Hand.Reading m) H) in
      let fits : StreamFits r s.known old.master.kept.names.next_id old.block m (record { file = f.id; len = f.len; at = 0; worker = v; source = None }) = record {
        file = id;
        bs = s.setup.block;
        len = len;
        short = omega (arith, len, known.1.short);
        at = refl;
        kind = refl;
        worker = refl;
        cache = refl;
        source = refl;
        reader = tt;
        old = subst (λ n. n < old.master.kept.names.next_id) (sym id) known.0;
        bytes = ap s.known.bytes_of id ∙ content_is.0 ∙ ap (λ n. Some (content V.body n)) (sym id);
        written = ap s.known.author id ∙ known.1.written;
      } in
      let shown : ◌≡◌ {A = Outcome} (Reply.Opened f.len, V.body, add_hand l (machine.Hand.Reading m) H) (accepted U (fault_free 0) V.body H (suc i) (Event.OpenFile l p ReadType.NoCache v)) = ap (λ n. let x : Outcome = (Reply.Opened n, V.body, add_hand l (machine.Hand.Reading m) H) in x) (sym len) in
      record {
        after = after;
        rise = no_rise;
        made = None;
        stands = stands_by o r w U new after s.known old.block old.master.journal.limit old.master old.workers.items new.hands.items rest.block (ap (λ k. k.journal.limit) rest.master) rest.master (ap (λ x. x.items) workers) refl (record {
          setup = s.setup;
          named = s.names;
          areas = s.areas;
          workers = s.workers;
          hands = hands_added r w s.known s.known old.workers.items old.workers.items old.master.kept.names.next_id old.master.kept.names.next_id old.block i l (leaves_all (suc i, l) s.known old.workers.items old.master.kept.names.next_id) V.hands old.hands.items new.hands.items s.hands within (Hand.Reading (record { file = f.id; len = f.len; at = 0; worker = v; source = None })) (machine.Hand.Reading m) (absent_at r w s.known old.workers.items old.master.kept.names.next_id old.block V.hands old.hands.items s.hands i within l (add_absent i l (Hand.Reading (record { file = f.id; len = f.len; at = 0; worker = v; source = None })) old.hands.items new.hands.items hands)) hands fits;
          files = s.files;
          objects = s.objects;
        });
        rises = Rises.Nothing;
        step = record {
          body = V.body;
          hands = add_hand l (machine.Hand.Reading m) H;
          step = Step.Accepted (fault_free 0) (tests_alike U V s ∙ passes) refl (serves_none V.body.master.fuse) refl shown refl;
          after = refl;
        };
      }

-- ---- for any actor

-- what two events leave as it was
pub rest_both : {D S R W : Type 0} {d : disks.Ghosts D} {w : writes.Ghosts W} {old mid new : Core D S R W d w} → KeepsRest old mid → KeepsRest mid new → KeepsRest old new
rest_both a b = record { block = b.block ∙ a.block; master = b.master ∙ a.master; stores = b.stores ∙ a.stores }

module _ {D S R W : Type 0} {d : disks.Ghosts D} (o : objects.Ghosts S R W) (r : reads.Ghosts R) (w : writes.Ghosts W) (old : Core D S R W d w) (who : ℕ) (actor : is_actor who ≡ true) (l : Label) (p : Path) (v : ℕ) where
  pub open_refused : (why : Refusal) → open_test old.block old.master (here old.workers.items old.hands.items who l v) p ≡ Some (Reply.Refused why) → Steps d o r w old old who (Event.OpenFile l p ReadType.NoCache v) (Reply.Refused why)
  open_refused why = by_actor (λ k. open_test old.block old.master (here old.workers.items old.hands.items k l v) p ≡ Some (Reply.Refused why) → Steps d o r w old old k (Event.OpenFile l p ReadType.NoCache v) (Reply.Refused why)) (λ i within. refused_at o r w old old l p v i within why) who actor

  pub open_short : (new : Core D S R W d w) → KeepsRest old new → new.workers ≡ old.workers → ChangesAt old.hands.items new.hands.items (pred who) KeepsHands → Steps d o r w old new who (Event.OpenFile l p ReadType.NoCache v) (Reply.Refused Refusal.Memory)
  open_short new rest workers = by_actor (λ k. ChangesAt old.hands.items new.hands.items (pred k) KeepsHands → Steps d o r w old new k (Event.OpenFile l p ReadType.NoCache v) (Reply.Refused Refusal.Memory)) (λ i within. short_at o r w old new l p v i within rest workers) who actor

  pub open_done : (mid new : Core D S R W d w) (f : File) (k : Label) → k ≡ l → open_test old.block old.master (here old.workers.items old.hands.items who l v) p ≡ None → file_there old.master p ≡ Some f → f.done ≡ true
      → KeepsRest old mid → mid.workers ≡ old.workers → ChangesAt old.hands.items mid.hands.items (pred who) KeepsHands
      → KeepsRest mid new → new.workers ≡ mid.workers → ChangesAt mid.hands.items new.hands.items (pred who) (AddsHand k (Hand.Reading (record { file = f.id; len = f.len; at = 0; worker = v; source = None })))
      → Steps d o r w old new who (Event.OpenFile l p ReadType.NoCache v) (Reply.Opened f.len)
  open_done mid new f k same passes there done rest workers kept more more_workers added =
      by_actor (λ j. open_test old.block old.master (here old.workers.items old.hands.items j l v) p ≡ None → ChangesAt old.hands.items mid.hands.items (pred j) KeepsHands → ChangesAt mid.hands.items new.hands.items (pred j) (AddsHand k (Hand.Reading (record { file = f.id; len = f.len; at = 0; worker = v; source = None }))) → Steps d o r w old new j (Event.OpenFile l p ReadType.NoCache v) (Reply.Opened f.len))
      (λ i within passes kept added. opened_at o r w old new l p v i within f passes there done (rest_both rest more) (more_workers ∙ workers) (adds_after i l k (Hand.Reading (record { file = f.id; len = f.len; at = 0; worker = v; source = None })) old.hands.items mid.hands.items new.hands.items same kept added)) who actor passes kept added
