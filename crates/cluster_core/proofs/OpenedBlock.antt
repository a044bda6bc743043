-- A writer with a new block.
use Rattle.std.proofs.Common.{◌≡◌, ℕ, ◌+◌, ◌-◌, ◌*◌, ◌/◌, ◌<◌, ◌≤◌, true, false, cond, List, [], ◌∷◌, ◌++◌, length, nat_eq, nat_le, Option, Some, None, is_some, option_map, refl, sym, ap, ◌∙◌, subst, arith}
use Rattle.std.specs.Prelude.{IsSome, IsSomeAnd, IfSome, slice_get, option_and_then, unwrap_or}
use Rattle.std.specs.List.{All}
use Rattle.std.proofs.lemmas.List.Elements.{All-head, All-tail}
use Rattle.std.proofs.lemmas.Bool.{eq-eqb, eqb-true, leb-true, leb-false}
use Rattle.std.proofs.lemmas.Nat.{le-div}
use Rattle.fs_model.specs.Words.{block_count}
use Rattle.fs_model.specs.State.{RoomRow, OpenBlock}
use Rattle.outside.specs.declared.objects.Objects as objects
use Rattle.outside.specs.declared.objects.ObjectWrite as writes
use Rattle.outside.specs.Contents.{Contents}
use Rattle.tier_book.specs.Rows.{fitting, room_numbered}
use Rattle.file_writer.specs.declared.parts.Block.{Block}
use Rattle.file_writer.specs.declared.parts.Object.{Object}
use Rattle.file_writer.specs.declared.pen.Pen.{Pen}
use Rattle.file_writer.specs.declared.pen.Pen.TheVariants.{Open, Broken, Gone}
use Rattle.file_writer.specs.Pens.{pen_tells, writer_of}
use Rattle.file_writer.specs.Parts.{ObjectKeeps, block_tells}
use Rattle.file_writer.specs.Writing.{Writing, block_writer}
use Rattle.cluster_core.specs.declared.node.Node.{Node}
use Rattle.cluster_core.specs.declared.hand.Writer.{Writer}
use Rattle.cluster_core.specs.Opened.{SameBytes, TellsAt}
use Rattle.cluster_core.specs.HandFits.{open_of}
use Rattle.cluster_core.specs.Stands.{TierTells}

-- ---- the new block

module _ {W : Type 0} (w : writes.Ghosts W) where
  pen_by : (p : Pen W) (pen : W) → writer_of p ≡ Some pen → is_some (w.taken pen) ≡ true → pen_tells w p ≡ true
  pen_by (Open q) pen is tells = let k : q ≡ pen = ap (λ o. unwrap_or o q) is in ap (λ z. is_some (w.taken z)) k ∙ tells
  pen_by (Broken q) pen is tells = let k : q ≡ pen = ap (λ o. unwrap_or o q) is in ap (λ z. is_some (w.taken z)) k ∙ tells
  pen_by Gone pen is tells = absurd (cc)

  block_by : (b : Option (Block W)) (pen : W) → option_and_then (λ (c : Block W). writer_of c.pen) b ≡ Some pen → is_some (w.taken pen) ≡ true → block_tells w b ≡ true
  block_by None pen is tells = absurd (cc)
  block_by (Some q) pen is tells = pen_by q.pen pen is tells

  -- no object comes
  pub no_object : (e d : Option (Object W)) → e ≡ None → ObjectKeeps w e d → d ≡ None
  no_object e d none keeps = subst (λ z. ObjectKeeps w z d) none keeps

  -- a writer with no object that was given room for one has what it had
  pub same_writer : (z y : Writer W) → z.bytes.object ≡ None → SameBytes w z y → y ≡ z
  same_writer z y none s =
      let object : y.bytes.object ≡ z.bytes.object = no_object z.bytes.object y.bytes.object none s.object ∙ sym none in
      let bytes : y.bytes ≡ z.bytes = s.bytes ∙ ap (λ q. record z.bytes { object = q }) object in
      s.fields ∙ ap (λ q. record z { bytes = q }) bytes

  -- an empty block, beside the machine's
  pub empty_block : (n : ℕ) (b : Option (Block W)) → IsSomeAnd b (λ q. q.len ≡ 0) → (let k : Option OpenBlock = Some (record { room = Some n; len = 0 }) in k) ≡ open_of (Some n) b
  empty_block n None h = absurd h
  empty_block n (Some q) h = ap (λ len. let k : Option OpenBlock = Some (record { room = Some n; len = len }) in k) (sym h)

  pub empty_within : (k : ℕ) (b : Option (Block W)) → IsSomeAnd b (λ q. q.len ≡ 0) → IfSome b (λ q. q.len ≤ k)
  empty_within k None h = absurd h
  empty_within k (Some q) h = let z : q.len ≡ 0 = h in omega (arith, z)

  -- its writer tells, since its tier does
  pub block_tells_at : {S R : Type 0} (o : objects.Ghosts S R W) (len t : ℕ) (node : Node S) (x : Writing W) → fitting node.book len ≡ Some t → TellsAt o len (block_writer x) w node → ((s : S) → slice_get node.tiers.items t ≡ Some s → TierTells o s) → block_tells w x.block ≡ true
  block_tells_at {S} o len t node x fits tells stands = by_tier (slice_get node.tiers.items t) refl (subst (λ y. IsSomeAnd y (λ k. IsSomeAnd (slice_get node.tiers.items k) (λ s. IsSomeAnd (block_writer x) (λ p. w.taken p ≡ option_map (λ _. []) (o.told s))))) fits tells)
    where
      by_told : (s : S) (y : Option Contents) → o.told s ≡ y → IsSomeAnd y (λ (m : Contents). (key : List (List ℕ)) → IsSome (m key) → length key ≡ 2) → (p : W) → w.taken p ≡ option_map (λ _. []) (o.told s) → is_some (w.taken p) ≡ true
      by_told s None is h p taken = absurd h
      by_told s (Some m) is h p taken = ap is_some (taken ∙ ap (option_map (λ _. [])) is)

      by_pen : (s : S) → slice_get node.tiers.items t ≡ Some s → (y : Option W) → block_writer x ≡ y → IsSomeAnd y (λ p. w.taken p ≡ option_map (λ _. []) (o.told s)) → block_tells w x.block ≡ true
      by_pen s there None is h = absurd h
      by_pen s there (Some p) is h = block_by x.block p is (by_told s (o.told s) refl (stands s there) p h)

      by_tier : (y : Option S) → slice_get node.tiers.items t ≡ y → IsSomeAnd y (λ s. IsSomeAnd (block_writer x) (λ p. w.taken p ≡ option_map (λ _. []) (o.told s))) → block_tells w x.block ≡ true
      by_tier None there h = absurd h
      by_tier (Some s) there h = by_pen s there (block_writer x) refl h

-- ---- numbers

-- a reservation behind those with lesser numbers is found
pub found_last : (n : ℕ) (r : RoomRow) (rooms : List RoomRow) → All (λ q. q.number < n) rooms → r.number ≡ n → room_numbered n (rooms ++ r ∷ []) ≡ Some r
found_last n r [] all is = ap (λ b. cond b (Some r) None) (eq-eqb r.number n is)
found_last n r (q ∷ rooms) all is =
    elim (nat_eq q.number n) as (λ b. nat_eq q.number n ≡ b → cond b (Some q) (room_numbered n (rooms ++ r ∷ [])) ≡ Some r) [
      | true ↦ λ h. let k : q.number ≡ n = eqb-true q.number n h in let less : q.number < n = All-head (λ (d : RoomRow). d.number < n) q rooms all in absurd (omega (arith, k, less))
      | false ↦ λ h. found_last n r rooms (All-tail (λ (d : RoomRow). d.number < n) q rooms all) is
    ] refl

-- a file with fewer blocks than the most has room for one more
pub one_more : (len bs : ℕ) → 0 < bs → nat_le 65536 (block_count len bs) ≡ false → len + bs ≤ 65536 * bs
one_more len bs some few =
    let less : block_count len bs < 65536 = leb-false 65536 (block_count len bs) few in
    elim (nat_le (65536 * bs) (len + bs - 1)) as (λ b. nat_le (65536 * bs) (len + bs - 1) ≡ b → len + bs ≤ 65536 * bs) [
      | true ↦ λ h. let k : 65536 ≤ (len + bs - 1) / bs = le-div 65536 (len + bs - 1) bs some (leb-true (65536 * bs) (len + bs - 1) h) in absurd (omega (arith, k, less))
      | false ↦ λ h. let k : len + bs - 1 < 65536 * bs = leb-false (65536 * bs) (len + bs - 1) h in omega (arith, k)
    ] refl
