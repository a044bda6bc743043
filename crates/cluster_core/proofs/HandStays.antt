-- What other labels have fits still after an event of one label.
use Rattle.std.proofs.Common.{◌≡◌, inl, inr, ℕ, Bool, false, List, Option, Some, None, sym, ap, ◌∙◌, arith}
use Rattle.std.specs.Prelude.{IfSome, unwrap_or}
use Rattle.fs_model.specs.Words.{name_eq}
use Rattle.fs_model.specs.State as machine
use Rattle.outside.specs.declared.objects.ObjectRead as reads
use Rattle.outside.specs.declared.objects.ObjectWrite as writes
use Rattle.cluster_core.specs.declared.node.Node.{Node}
use Rattle.cluster_core.specs.declared.hand.Hand.{Hand}
use Rattle.cluster_core.specs.declared.hand.Stream.{Stream}
use Rattle.cluster_core.specs.declared.hand.Writer.{Writer}
use Rattle.cluster_core.specs.Knowledge.{Knowledge, Holder, HasRoomOf, Leaves}
use Rattle.cluster_core.specs.HandFits.{Writes, StreamFits, WriterFits, HandFits}
use Rattle.cluster_core.proofs.SameLabels.{like_itself}

-- what is there twice is the same
pub some_same : {X : Type 0} (x y : X) → Some x ≡ Some y → x ≡ y
some_same x y e = ap (λ o. unwrap_or o x) e

-- another label of the same actor
pub other_label : (who : ℕ) (l m : List ℕ) → name_eq l m ≡ false → ◌≡◌ {A = Holder} (who, m) (who, l) → ⊥
other_label who l m other same = let k : false ≡ name_eq l l = sym other ∙ ap (λ (h : Holder). name_eq l h.1) same in let t = like_itself l in cc

-- a label of another actor
pub other_actor : (who v : ℕ) (l m : List ℕ) → (v ≡ who → ⊥) → ◌≡◌ {A = Holder} (v, m) (who, l) → ⊥
other_actor who v l m other same = other (ap (λ (h : Holder). h.0) same)

module _ {S R W : Type 0} (r : reads.Ghosts R) (w : writes.Ghosts W) (K N : Knowledge) (old new : List (Node S)) (before now bs : ℕ) (b : Holder) (left : Leaves b K N old new before now) where
  stream_stays : (s : machine.Stream) (x : Stream R) → StreamFits r K before bs s x → StreamFits r N now bs s x
  stream_stays s x f =
      let kept = left.files s.file f.old (λ e. let k : None ≡ Some b = sym f.written ∙ e in cc) in
      record {
        file = f.file;
        bs = f.bs;
        len = f.len;
        short = f.short;
        at = f.at;
        kind = f.kind;
        worker = f.worker;
        cache = f.cache;
        source = f.source;
        reader = f.reader;
        old = omega (arith, f.old, left.later);
        bytes = kept.0 ∙ f.bytes;
        written = kept.1 ∙ f.written;
      }

  module _ (a : Holder) (other : a ≡ b → ⊥) where
    reserved_stays : (worker started : ℕ) (o : Option ℕ) → IfSome o (λ n. (K.owner worker n ≡ Some a) × HasRoomOf old worker started n bs) → IfSome o (λ n. (N.owner worker n ≡ Some a) × HasRoomOf new worker started n bs)
    reserved_stays worker started None h = h
    reserved_stays worker started (Some n) h = (left.owners worker n a h.0 other, left.rooms worker started n bs a h.0 other h.1)

    -- the file isn't another's
    not_other : (id : ℕ) (broken : Bool) → Writes K id a broken → K.author id ≡ Some b → ⊥
    not_other id broken (inl mine) e = other (some_same a b (sym mine ∙ e))
    not_other id broken (inr none) e = let never : None ≡ Some b = sym none.1 ∙ e in absurd (cc)

    writes_on : (id : ℕ) (broken : Bool) → N.author id ≡ K.author id → Writes K id a broken → Writes N id a broken
    writes_on id broken same (inl mine) = inl (same ∙ mine)
    writes_on id broken same (inr none) = inr (none.0, same ∙ none.1)

    writer_stays : (m : machine.Writer) (x : Writer W) → WriterFits w K old before bs a m x → WriterFits w N new now bs a m x
    writer_stays m x f =
        let kept = left.files m.file f.old (not_other m.file x.broken f.author) in
        record {
          file = f.file;
          bs = f.bs;
          blocks = f.blocks;
          placed = f.placed;
          kind = f.kind;
          worker = f.worker;
          start = f.start;
          broken = f.broken;
          room = f.room;
          short = f.short;
          on = f.on;
          reserved = reserved_stays x.worker x.started x.room f.reserved;
          old = omega (arith, f.old, left.later);
          bytes = kept.0 ∙ f.bytes;
          author = writes_on m.file x.broken kept.1 f.author;
        }

    pub hand_stays : (h : Option machine.Hand) (t : Option (Hand R W)) → HandFits r w K old before bs a h t → HandFits r w N new now bs a h t
    hand_stays None None f = f
    hand_stays None (Some t) f = f
    hand_stays (Some h) None f = f
    hand_stays (Some (machine.Hand.Reading s)) (Some (Hand.Reading x)) f = stream_stays s x f
    hand_stays (Some (machine.Hand.Writing m)) (Some (Hand.Writing x)) f = writer_stays m x f
    hand_stays (Some (machine.Hand.Reading s)) (Some (Hand.Writing x)) f = f
    hand_stays (Some (machine.Hand.Writing m)) (Some (Hand.Reading x)) f = f
    hand_stays (Some (machine.Hand.Moving m)) (Some (Hand.Reading x)) f = f
    hand_stays (Some (machine.Hand.Moving m)) (Some (Hand.Writing x)) f = f
    hand_stays (Some (machine.Hand.Storing m)) (Some (Hand.Reading x)) f = f
    hand_stays (Some (machine.Hand.Storing m)) (Some (Hand.Writing x)) f = f
