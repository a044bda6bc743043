-- What events of a stream share: its label's hand, the block of its position, and its source.
use Rattle.std.proofs.Common.{◌≡◌, ℕ, zero, suc, pred, ◌+◌, ◌*◌, ◌/◌, ◌%◌, ◌<◌, ◌≤◌, true, false, cond, List, length, get_or, nat_lt, Option, Some, None, refl, sym, ap, ◌∙◌, subst, arith}
use Rattle.std.specs.Prelude.{IsSomeAnd, IfSome, slice_get}
use Rattle.std.proofs.lemmas.Nat.{div-mul-add, div-add-mod', mod_below, div_below}
use Rattle.fs_model.specs.declared.setup.Setup.{Setup}
use Rattle.fs_model.specs.declared.label.Label.{Label}
use Rattle.fs_model.specs.Words.{name_eq}
use Rattle.fs_model.specs.State as machine
use Rattle.fs_model.specs.State.{State, Whole, Hands, Source}
use Rattle.fs_model.specs.Lookups.{hand_at}
use Rattle.fs_model.specs.Updates.{set_hand}
use Rattle.fs_model.specs.Machine.{hands_of, put_back}
use Rattle.fs_model.specs.Faults.{rose, Device}
use Rattle.fs_model.specs.BytesOutcomes.{block_end}
use Rattle.outside.specs.declared.disk.Disk as disks
use Rattle.outside.specs.declared.objects.Objects as objects
use Rattle.outside.specs.declared.objects.ObjectRead as reads
use Rattle.outside.specs.declared.objects.ObjectWrite as writes
use Rattle.cluster_core.specs.Tiers.{ChangesAt, At}
use Rattle.cluster_core.specs.LabelsView.{LabelsView, hand_in}
use Rattle.cluster_core.specs.HandChanges.{SetsHand, KeepsHands}
use Rattle.cluster_core.specs.HandFits.{Fits, StreamFits, ReaderFits, source_of}
use Rattle.cluster_core.specs.Knowledge.{Knowledge}
use Rattle.cluster_core.specs.Kept.{KeepsRest}
use Rattle.cluster_core.specs.Polls.{SamePlace, SameFile}
use Rattle.cluster_core.specs.Stands.{Stands}
use Rattle.cluster_core.specs.Goes.{one_at, tier_rise}
use Rattle.cluster_core.specs.declared.cluster.Core.{Core}
use Rattle.cluster_core.specs.declared.hand.Hand.{Hand}
use Rattle.cluster_core.specs.declared.hand.BlockSource.{BlockSource}
use Rattle.cluster_core.specs.declared.hand.Stream.{Stream}
use Rattle.cluster_core.proofs.SameLabels.{alike, like_itself}
use Rattle.cluster_core.proofs.NodeChanges.{changes_by}
use Rattle.cluster_core.proofs.Standing.{stands_by}
use Rattle.cluster_core.proofs.Labelled.{hands_set, leaves_all}
use Rattle.cluster_core.proofs.KeptHands.{hands_kept}

-- ---- the label's hand

-- a hand that is put back as it was
pub sets_same : {T : Type 0} (i : ℕ) (l : List ℕ) (t : T) (old new : List (LabelsView T)) → ChangesAt old new i (SetsHand l t t) → ChangesAt old new i KeepsHands
sets_same {T} i l t old new c = changes_by old new i c one
  where
    one : (a b : LabelsView T) → SetsHand l t t a b → KeepsHands a b
    one a b s = record {
      hands = λ m. s.hands m ∙ (elim (name_eq l m) as (λ k. name_eq l m ≡ k → cond k (Some t) (hand_in a m) ≡ hand_in a m) [
        | true ↦ λ same. sym s.there ∙ ap (hand_in a) (alike l m same)
        | false ↦ λ other. refl
      ] refl);
      count = s.count;
    }

-- what the label had and has
pub at_set : {T : Type 0} (P : T → T → Type 0) (i : ℕ) (l : List ℕ) (t u : T) (old new : List (LabelsView T)) → ChangesAt old new i (SetsHand l t u) → P t u → At old new i (λ a b. IsSomeAnd (hand_in a l) (λ h. IsSomeAnd (hand_in b l) (λ k. P h k)))
at_set {T} P i l t u old new c p = by_cases (slice_get old i) (slice_get new i) c.at
  where
    both : (x y : Option T) → x ≡ Some t → y ≡ Some u → IsSomeAnd x (λ h. IsSomeAnd y (λ k. P h k))
    both x y first second = subst (λ z. IsSomeAnd z (λ h. IsSomeAnd y (λ k. P h k))) (sym first) (subst (λ z. IsSomeAnd z (λ k. P t k)) (sym second) p)

    by_cases : (x y : Option (LabelsView T)) → IsSomeAnd x (λ a. IsSomeAnd y (λ b. SetsHand l t u a b)) → IsSomeAnd x (λ a. IsSomeAnd y (λ b. IsSomeAnd (hand_in a l) (λ h. IsSomeAnd (hand_in b l) (λ k. P h k))))
    by_cases None y g = absurd g
    by_cases (Some a) None g = absurd g
    by_cases (Some a) (Some b) g = both (hand_in a l) (hand_in b l) g.there (g.hands l ∙ ap (λ k. cond k (Some u) (hand_in a l)) (like_itself l))

module _ {D S R W : Type 0} {d : disks.Ghosts D} (o : objects.Ghosts S R W) (r : reads.Ghosts R) (w : writes.Ghosts W) (old new : Core D S R W d w) (l : Label) (i : ℕ) (within : i < 64) (rest : KeepsRest old new) (workers : new.workers.items ≡ old.workers.items) (U : Setup) (V : Whole) (s : Stands d o r w U old V) where
  -- the core stands for the same state where no label changes
  pub stays_kept : ChangesAt old.hands.items new.hands.items i KeepsHands → Stands d o r w U new V
  stays_kept hands = stands_by o r w U new V s.known old.block old.master.journal.limit old.master old.workers.items new.hands.items rest.block (ap (λ k. k.journal.limit) rest.master) rest.master workers refl (record {
    setup = s.setup;
    named = s.names;
    areas = s.areas;
    workers = s.workers;
    hands = hands_kept r w s.known old.workers.items old.master.kept.names.next_id old.block i V.hands old.hands.items new.hands.items s.hands within hands;
    files = s.files;
    objects = s.objects;
  })

  -- and for one with another hand of the label
  pub stays_set : (t u : Hand R W) (k h : machine.Hand) → hand_at (hands_of V (suc i)) l ≡ Some k → ChangesAt old.hands.items new.hands.items i (SetsHand l t u) → Fits r w s.known old.workers.items old.master.kept.names.next_id old.block (suc i, l) h u → Stands d o r w U new (put_back V (suc i) V.body (set_hand l h (hands_of V (suc i))))
  stays_set t u k h at hands fits = stands_by o r w U new (put_back V (suc i) V.body (set_hand l h (hands_of V (suc i)))) s.known old.block old.master.journal.limit old.master old.workers.items new.hands.items rest.block (ap (λ k. k.journal.limit) rest.master) rest.master workers refl (record {
    setup = s.setup;
    named = s.names;
    areas = s.areas;
    workers = s.workers;
    hands = hands_set r w s.known s.known old.workers.items old.workers.items old.master.kept.names.next_id old.master.kept.names.next_id old.block i l (leaves_all (suc i, l) s.known old.workers.items old.master.kept.names.next_id) V.hands old.hands.items new.hands.items s.hands within t u k h at hands fits;
    files = s.files;
    objects = s.objects;
  })

-- ---- the block of a position

-- a position before the file's end is before that of its block
pub before_end : (bs len at : ℕ) → 0 < bs → at < len → at < block_end bs len (at / bs)
before_end bs len at some inside =
    let split : at / bs * bs + at % bs ≡ at = div-add-mod' at bs in
    let low : at % bs < bs = mod_below at bs some in
    omega (arith, split, low, inside)

-- bytes within a block leave the position in it
pub same_block : (bs len at n : ℕ) → 0 < bs → at + n < block_end bs len (at / bs) → (at + n) / bs ≡ at / bs
same_block bs len at n some inside =
    let split : at / bs * bs + at % bs ≡ at = div-add-mod' at bs in
    let few : at % bs + n < bs = omega (arith, split, inside) in
    ap (λ k. k / bs) (omega (arith, split)) ∙ div-mul-add (at / bs) bs (at % bs + n) few

-- a file has no more than 65,536 blocks
pub block_number : (bs len at : ℕ) → 0 < bs → len ≤ 65536 * bs → at < len → at / bs < 65536
block_number bs len at some short inside = div_below at bs 65536 some (omega (arith, short, inside))

-- ---- sources

-- a source at the same place
pub same_source : {R : Type 0} (r : reads.Ghosts R) (x y : BlockSource R) → SamePlace r x y → source_of (Some y) ≡ source_of (Some x)
same_source r x y p =
    ap (λ b. cond b None (Some (Source.AtWorker y.worker y.tier))) p.failed
    ∙ ap (λ v. cond x.failed None (Some (Source.AtWorker v y.tier))) p.worker
    ∙ ap (λ t. cond x.failed None (Some (Source.AtWorker x.worker t))) p.tier

-- a source that hasn't failed
pub good_source : {R : Type 0} (x : BlockSource R) → x.failed ≡ false → source_of (Some x) ≡ Some (Source.AtWorker x.worker x.tier)
good_source x good = ap (λ b. cond b None (Some (Source.AtWorker x.worker x.tier))) good

-- a number is that of itself
pub one_there : (n : ℕ) → get_or (one_at n) n 0 ≡ 1
one_there zero = refl
one_there (suc n) = one_there n

-- the count of the worker's tiers rose
pub tier_rose : (v : ℕ) → rose (tier_rise v) (Device.TiersOf v) ≡ true
tier_rose v = ap (λ n. nat_lt 0 n) (one_there (pred v))

-- what an option has
pub there_is : {X : Type 0} (P : X → Type 0) (x : Option X) → IsSomeAnd x P → (b : X) × (x ≡ Some b) × P b
there_is P None h = absurd h
there_is P (Some b) h = (b, refl, h)

-- ---- a stream that stays at its place

-- it fits still with another source
pub fits_in_place : {R : Type 0} (r : reads.Ghosts R) (K : Knowledge) (next bs : ℕ) (m : machine.Stream) (x y : Stream R) → StreamFits r K next bs m x → (k : machine.Stream) → k.file ≡ m.file → k.bs ≡ m.bs → k.bytes ≡ m.bytes → k.at ≡ m.at → k.kind ≡ m.kind → k.worker ≡ m.worker → k.cache ≡ None → SameFile r x y x.at → k.source ≡ source_of y.source → IfSome y.source (λ z. z.failed ≡ false → ReaderFits r k z) → StreamFits r K next bs k y
fits_in_place r K next bs m x y fits k file size bytes place kind worker cache same source reader = record {
  file = file ∙ fits.file ∙ sym same.file;
  bs = size ∙ fits.bs;
  len = ap length bytes ∙ fits.len ∙ sym same.len;
  short = subst (λ b. length b ≤ 65536 * bs) (sym bytes) fits.short;
  at = place ∙ fits.at ∙ sym same.position;
  kind = kind ∙ fits.kind;
  worker = worker ∙ fits.worker ∙ sym same.worker;
  cache = cache;
  source = source;
  reader = reader;
  old = subst (λ f. f < next) (sym file) fits.old;
  bytes = ap K.bytes_of file ∙ fits.bytes ∙ ap Some (sym bytes);
  written = ap K.author file ∙ fits.written;
}
