-- Room behind a commit, by what the calls after it say of the writer that it left.
use Rattle.std.proofs.Common.{◌≡◌, ℕ, pred, true, false, List, Option, Some, None, refl, sym, ap, ◌∙◌, subst, inl, inr}
use Rattle.std.specs.Prelude.{IsSomeAnd, IfSome, slice_get, ◌⊎◌}
use Rattle.fs_model.specs.declared.label.Label.{Label}
use Rattle.fs_model.specs.declared.event.Event.{Event}
use Rattle.fs_model.specs.declared.reply.Reply.{Reply}
use Rattle.fs_model.specs.declared.reply.Refusal.{Refusal}
use Rattle.fs_model.specs.Spelled.{is_actor}
use Rattle.outside.specs.declared.disk.Disk as disks
use Rattle.outside.specs.declared.objects.Objects as objects
use Rattle.outside.specs.declared.objects.ObjectRead as reads
use Rattle.outside.specs.declared.objects.ObjectWrite as writes
use Rattle.file_writer.specs.Writing.{Writing, block_writer, wants_room}
use Rattle.file_writer.specs.Taken.{HasTaken}
use Rattle.cluster_core.specs.Tiers.{ChangesAt}
use Rattle.cluster_core.specs.HandChanges.{AddsHand}
use Rattle.cluster_core.specs.Kept.{KeepsRest}
use Rattle.cluster_core.specs.Writers.{Commits, Loses, StepsFrom, room_test}
use Rattle.cluster_core.specs.Committed.{finished_of, key_at, closed_writer, closed_bytes}
use Rattle.cluster_core.specs.Opened.{Spaces, IsFull, FailsNode, KeepsNode, OpensBlock, SameBytes, TellsAt}
use Rattle.cluster_core.specs.declared.cluster.Core.{Core}
use Rattle.cluster_core.specs.declared.hand.Hand.{Hand}
use Rattle.cluster_core.specs.declared.hand.Writer.{Writer}
use Rattle.cluster_core.specs.declared.node.Node.{Node}
use Rattle.cluster_core.proofs.KeptHands.{kept_twice}
use Rattle.cluster_core.proofs.RoomSteps.{ends_short, ends_lost, ends_opened, ends_full, ends_closed, ends_failed}

closed_size : {W : Type 0} (e : Option ℕ) (x : Writing W) → (closed_bytes e x).bs ≡ x.bs
closed_size None x = refl
closed_size (Some n) x = refl

-- ---- the commit went wrong

module _ {D S R W : Type 0} {d : disks.Ghosts D} (o : objects.Ghosts S R W) (r : reads.Ghosts R) (w : writes.Ghosts W) (now mid new : Core D S R W d w) (l : Label) (who : ℕ) (actor : is_actor who ≡ true) (x y : Writer W) (rest : KeepsRest now mid) (hands : mid.hands ≡ now.hands) (after : KeepsRest mid new) (workers : new.workers ≡ mid.workers) (put : ChangesAt mid.hands.items new.hands.items (pred who) (AddsHand l (Hand.Writing y))) where
  puts : ChangesAt now.hands.items new.hands.items (pred who) (AddsHand l (Hand.Writing y))
  puts = subst (λ z. ChangesAt z.items new.hands.items (pred who) (AddsHand l (Hand.Writing y))) hands put

  pub after_short : mid.workers ≡ now.workers → y ≡ x → StepsFrom d o r w now new who l x (Event.Room l) (Reply.Refused Refusal.Memory)
  after_short same is = ends_short o r w now new l who actor x y (kept_twice now mid new rest after) puts (workers ∙ same) is

  pub after_lost : None ≡ room_test now.master now.workers.items now.block x → wants_room x.bytes ≡ true → (x.room ≡ None → ⊥) → IfSome x.room (λ n. IfSome (block_writer x.bytes) (λ pen. ChangesAt now.workers.items mid.workers.items (pred x.worker) (Loses o w n (key_at now.workers.items x.worker n) pen (finished_of now.master.kept.names.nodes now.block x)))) → y ≡ closed_writer true x → StepsFrom d o r w now new who l x (Event.Room l) (Reply.Refused (Refusal.TierFault x.worker))
  after_lost h wanted some lost is = ends_lost o r w now new l who actor x y (kept_twice now mid new rest after) puts h wanted some (subst (λ z. IfSome x.room (λ n. IfSome (block_writer x.bytes) (λ pen. ChangesAt now.workers.items z.items (pred x.worker) (Loses o w n (key_at now.workers.items x.worker n) pen (finished_of now.master.kept.names.nodes now.block x))))) (sym workers) lost) is

-- ---- the commit was done

module _ {D S R W : Type 0} {d : disks.Ghosts D} (o : objects.Ghosts S R W) (r : reads.Ghosts R) (w : writes.Ghosts W) (now mid at new : Core D S R W d w) (l : Label) (who : ℕ) (actor : is_actor who ≡ true) (x y : Writer W) (first : KeepsRest now mid) (taken : mid.hands ≡ now.hands) (then : KeepsRest mid at) (held : at.hands ≡ mid.hands) (after : KeepsRest at new) (workers : new.workers ≡ at.workers) (put : ChangesAt at.hands.items new.hands.items (pred who) (AddsHand l (Hand.Writing y)))
    (h : None ≡ room_test now.master now.workers.items now.block x) (wanted : wants_room x.bytes ≡ true)
    (done : IfSome x.room (λ n. IfSome (block_writer x.bytes) (λ pen. ChangesAt now.workers.items mid.workers.items (pred x.worker) (Commits o w n (key_at now.workers.items x.worker n) pen (finished_of now.master.kept.names.nodes now.block x)))))
    (kept : x.room ≡ None → mid.workers ≡ now.workers) where
  all : KeepsRest now new
  all = kept_twice now at new (kept_twice now mid at first then) after

  later : ChangesAt now.hands.items new.hands.items (pred who) (AddsHand l (Hand.Writing y))
  later = subst (λ z. ChangesAt z.items new.hands.items (pred who) (AddsHand l (Hand.Writing y))) (held ∙ taken) put

  left : x.room ≡ None → mid.workers.items ≡ now.workers.items
  left e = ap (λ k. k.items) (kept e)

  -- a change of the worker from the commit on
  Change : (ℕ → Node S → Node S → Type 0) → Core D S R W d w → Writer W → Type 0
  Change P c z = ChangesAt mid.workers.items c.workers.items (pred z.worker) (P z.bytes.bs)

  change : (P : ℕ → Node S → Node S → Type 0) (z : Writer W) → z ≡ closed_writer false x → ChangesAt mid.workers.items at.workers.items (pred z.worker) (P z.bytes.bs) → ChangesAt mid.workers.items new.workers.items (pred x.worker) (P x.bytes.bs)
  change P z is said = subst (λ v. ChangesAt mid.workers.items v.items (pred x.worker) (P x.bytes.bs)) (sym workers) (subst (λ n. ChangesAt mid.workers.items at.workers.items (pred x.worker) (P n)) (closed_size x.room x.bytes) (subst (λ v. ChangesAt mid.workers.items at.workers.items (pred v.worker) (P v.bytes.bs)) is said))

  pub after_opened : (z : Writer W) → z ≡ closed_writer false x → IsSomeAnd y.room (λ n. ChangesAt mid.workers.items at.workers.items (pred z.worker) (Spaces o n z.bytes.bs)) → OpensBlock w z y → IsSomeAnd (slice_get mid.workers.items (pred z.worker)) (TellsAt o z.bytes.bs (block_writer y.bytes) w) → ((bytes : List ℕ) → HasTaken w z.bytes bytes → HasTaken w y.bytes bytes) → StepsFrom d o r w now new who l x (Event.Room l) Reply.Done
  after_opened z is space opens tells has = by_room y.room refl space
    where
      by_room : (e : Option ℕ) → y.room ≡ e → IsSomeAnd e (λ n. ChangesAt mid.workers.items at.workers.items (pred z.worker) (Spaces o n z.bytes.bs)) → StepsFrom d o r w now new who l x (Event.Room l) Reply.Done
      by_room None reserved said = absurd said
      by_room (Some k) reserved said =
          ends_opened o r w now new l who actor x y all later mid.workers.items h wanted done left k reserved (change (Spaces o k) z is said) (subst (λ v. OpensBlock w v y) is opens)
          (subst (λ n. IsSomeAnd (slice_get mid.workers.items (pred x.worker)) (TellsAt o n (block_writer y.bytes) w)) (closed_size x.room x.bytes) (subst (λ v. IsSomeAnd (slice_get mid.workers.items (pred v.worker)) (TellsAt o v.bytes.bs (block_writer y.bytes) w)) is tells))
          (subst (λ v. (bytes : List ℕ) → HasTaken w v.bytes bytes → HasTaken w y.bytes bytes) is has)

  pub after_full : (z : Writer W) → z ≡ closed_writer false x → ChangesAt mid.workers.items at.workers.items (pred z.worker) (IsFull o z.bytes.bs) → StepsFrom d o r w now new who l x (Event.Room l) (Reply.Refused (Refusal.NoRoom x.worker))
  after_full z is said = ends_full o r w now new l who actor x y all later mid.workers.items h wanted done left (change (IsFull o) z is said)

  pub after_closed : (z : Writer W) → z ≡ closed_writer false x → (at.workers ≡ mid.workers) ⊎ ChangesAt mid.workers.items at.workers.items (pred z.worker) (KeepsNode o z.bytes.bs) → SameBytes w z y → StepsFrom d o r w now new who l x (Event.Room l) (Reply.Refused Refusal.Memory)
  after_closed z is said same = ends_closed o r w now new l who actor x y all later mid.workers.items h wanted done left (elim said [
    | inl e ↦ inl (ap (λ k. k.items) (workers ∙ e))
    | inr e ↦ inr (change (KeepsNode o) z is e)
  ]) (subst (λ v. SameBytes w v y) is same)

  pub after_failed : (z : Writer W) → z ≡ closed_writer false x → ChangesAt mid.workers.items at.workers.items (pred z.worker) (FailsNode o z.bytes.bs) → (v : Writer W) → SameBytes w z v → y ≡ record v { broken = true } → StepsFrom d o r w now new who l x (Event.Room l) (Reply.Refused (Refusal.TierFault x.worker))
  after_failed z is said v same broke = ends_failed o r w now new l who actor x y all later mid.workers.items h wanted done left (change (FailsNode o) z is said) v (subst (λ k. SameBytes w k v) is same) broke
