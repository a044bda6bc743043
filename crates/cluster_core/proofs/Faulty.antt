-- Which tier's count rose where a worker failed a writer.
use Rattle.std.proofs.Common.{◌≡◌, ℕ, ◌+◌, ◌-◌, ◌≤◌, ◌^◌, min, length, get_or, Option, Some, None, inl, inr, refl, sym, ap, ◌∙◌, subst, arith}
use Rattle.std.specs.Prelude.{IsSome, IsSomeAnd, IfSome, slice_get}
use Rattle.std.proofs.lemmas.Bool.{cases_eq}
use Rattle.std.proofs.lemmas.Option.{same_Some, slice_get_within, slice_get-get_or}
use Rattle.fs_model.specs.State.{Copied, RoomRow}
use Rattle.fs_model.specs.BytesOutcomes.{room_to_litter}
use Rattle.outside.specs.Causes.{Rose}
use Rattle.outside.specs.Keys.{KeyNames}
use Rattle.outside.specs.declared.objects.Objects as objects
use Rattle.outside.specs.declared.objects.ObjectWrite as writes
use Rattle.tier_book.specs.Rows.{room_numbered, row_of}
use Rattle.cluster_core.specs.Tiers.{ChangesAt, At, IsPut, IsFaultOrCrossed, object_key}
use Rattle.cluster_core.specs.Stands.{NodeStands}
use Rattle.cluster_core.specs.Writers.{Commits, Loses}
use Rattle.cluster_core.specs.Knowledge.{Knowledge}
use Rattle.cluster_core.specs.declared.node.Node.{Node}
use Rattle.cluster_core.specs.declared.node.Finished.{Finished}
use Rattle.cluster_core.proofs.NodeChanges.{RowChanges, both_there}
use Rattle.cluster_core.proofs.Crossing.{none_crossed}

module _ {S R W : Type 0} (o : objects.Ghosts S R W) where
  -- no tier's count fell
  abbrev pub NoLess : Node S → Node S → Type 0
  NoLess a b = (t : ℕ) (s u : S) → slice_get a.tiers.items t ≡ Some s → slice_get b.tiers.items t ≡ Some u → o.faults s ≤ o.faults u

  -- where the tiers are the same
  pub same_no_less : (a b : Node S) → b.tiers ≡ a.tiers → NoLess a b
  same_no_less a b same t s u was is =
      let k : s ≡ u = same_Some s u (sym was ∙ ap (λ ts. slice_get ts.items t) (sym same) ∙ is) in
      subst (λ q. o.faults s ≤ o.faults q) k (omega arith)

  -- where one changed
  pub one_no_less : (G : S → S → Type 0) → ((s u : S) → G s u → o.faults s ≤ o.faults u) → (a b : Node S) (i : ℕ) → ChangesAt a.tiers.items b.tiers.items i G → NoLess a b
  one_no_less G gives a b i change t s u was is = elim (cases_eq t i) [
    | inl here ↦
        let both = both_there (slice_get a.tiers.items i) (slice_get b.tiers.items i) change.at in
        let first : both.0 ≡ s = same_Some both.0 s (sym both.2 ∙ ap (slice_get a.tiers.items) (sym here) ∙ was) in
        let second : both.1 ≡ u = same_Some both.1 u (sym both.3 ∙ ap (slice_get b.tiers.items) (sym here) ∙ is) in
        subst (λ q. o.faults q ≤ o.faults u) first (subst (λ q. o.faults both.0 ≤ o.faults q) second (gives both.0 both.1 both.4))
    | inr away ↦
        let k : s ≡ u = same_Some s u (sym was ∙ sym (change.others t away) ∙ is) in
        subst (λ q. o.faults s ≤ o.faults q) k (omega arith)
  ]

  -- after a commit in a reservation that is there
  pub commit_no_less : (w : writes.Ghosts W) (n : ℕ) (key : KeyNames) (pen : W) (b : Finished) (old new : Node S) (q : RoomRow) → room_numbered n old.book.rooms ≡ Some q → b.len ≤ q.bytes → Commits o w n key pen b old new → NoLess old new
  commit_no_less w n key pen b old new q found fits c = by_row (row_of b.file b.block old.book.rows) refl
    where
      by_row : (x : Option Copied) → row_of b.file b.block old.book.rows ≡ x → NoLess old new
      by_row (Some d) there = same_no_less old new (c.there (subst IsSome (sym there) refl))
      by_row None absent = one_no_less (IsPut o w pen key) (λ s u p. p.faults) old new q.tier (subst (λ x. IfSome x (λ r. b.len ≤ r.bytes → ChangesAt old.tiers.items new.tiers.items r.tier (IsPut o w pen key))) found (c.done absent) fits)

  -- a tier's count rose between two nodes
  abbrev pub RoseAt : ℕ → Node S → Node S → Type 0
  RoseAt t a b = At a.tiers.items b.tiers.items t (λ s u. Rose (o.faults s) (o.faults u))

  -- where it rose after it fell nowhere
  later_rose : (f g h : ℕ) → f ≤ g → Rose g h → Rose f h
  later_rose f g h less rose = let k : min (g + 1) (2 ^ 64 - 1) ≤ h = rose in omega (arith, less, k)

  pub rose_later : (t : ℕ) (a b c : Node S) → length b.tiers.items ≡ length a.tiers.items → NoLess a b → RoseAt t b c → RoseAt t a c
  rose_later t a b c same less rose =
      let both = both_there (slice_get b.tiers.items t) (slice_get c.tiers.items t) rose in
      by_old (slice_get a.tiers.items t) refl both.0 both.1 both.2 both.3 both.4
    where
      by_old : (x : Option S) → slice_get a.tiers.items t ≡ x → (s u : S) → slice_get b.tiers.items t ≡ Some s → slice_get c.tiers.items t ≡ Some u → Rose (o.faults s) (o.faults u) → IsSomeAnd x (λ k. IsSomeAnd (slice_get c.tiers.items t) (λ u. Rose (o.faults k) (o.faults u)))
      by_old None gone s u is now h =
          let within = slice_get_within b.tiers.items t s is in
          let there : slice_get a.tiers.items t ≡ Some (get_or a.tiers.items t s) = slice_get-get_or a.tiers.items t s (omega (arith, within, same)) in
          absurd (let k = sym gone ∙ there in cc)
      by_old (Some k) was s u is now h = subst (λ y. IsSomeAnd y (λ u. Rose (o.faults k) (o.faults u))) (sym now) (later_rose (o.faults k) (o.faults s) (o.faults u) (less t k s was is) h)

  -- ---- a commit that failed

  -- the count of the reservation's tier rose, since keys of two names don't cross
  pub loss_rose : (w : writes.Ghosts W) (K : Knowledge) (next bs v n : ℕ) (pen : W) (b : Finished) (old new : Node S) (q : RoomRow) → room_numbered n old.book.rooms ≡ Some q → NodeStands o K next bs v old → Loses o w n (object_key old.started n) pen b old new → RoseAt q.tier old new
  loss_rose w K next bs v n pen b old new q found stands c =
      let change = subst (λ x. IsSomeAnd x (λ r. ChangesAt old.tiers.items new.tiers.items r.tier (IsFaultOrCrossed o (object_key old.started n)))) found c.failed in
      let both = both_there (slice_get old.tiers.items q.tier) (slice_get new.tiers.items q.tier) change.at in
      let rose : Rose (o.faults both.0) (o.faults both.1) = elim both.4 [
        | inl rose ↦ rose
        | inr missed ↦ absurd (none_crossed o both.0 (object_key old.started n) refl (stands.tells q.tier both.0 both.2) missed.1)
      ] in
      subst (λ x. IsSomeAnd x (λ s. IsSomeAnd (slice_get new.tiers.items q.tier) (λ u. Rose (o.faults s) (o.faults u)))) (sym both.2) (subst (λ x. IsSomeAnd x (λ u. Rose (o.faults both.0) (o.faults u))) (sym both.3) rose)

  -- the worker's row
  pub row_lost : (w : writes.Ghosts W) (n : ℕ) (key : KeyNames) (pen : W) (b : Finished) (old new : Node S) → Loses o w n key pen b old new → RowChanges (room_to_litter n) old new
  row_lost w n key pen b old new c = record {
    row = λ j. record { running = c.freed.running j; start = c.freed.started j; next = c.freed.next j; copies = c.freed.rows j; rooms = c.freed.rooms j; litter = c.freed.litter j };
    running = c.freed.running;
    sizes = c.freed.sizes;
  }
