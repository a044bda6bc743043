-- Rows in their order: what stands where while flags are set and a row is moved.
use Rattle.std.proofs.Common.{◌≡◌, ℕ, suc, ◌+◌, ◌-◌, ◌<◌, ◌≤◌, Bool, true, false, cond, not, inl, inr, List, [], ◌∷◌, ◌++◌, map, length, take, drop, get_or, set, Some, nat_eq, nat_le, refl, sym, ap, ◌∙◌, arith}
use Rattle.std.specs.List.{filter, find, range_with_len}
use Rattle.std.proofs.lemmas.List.{append-nil, append_assoc, length-drop, map-append, map_push, map-set, length-map, length-take-le, get_or-map, get_or_at, set_at, take_more, drop_more, take_all, drop_all, take_at, drop_at, drop-drop, drop-take, take-take}
use Rattle.std.proofs.lemmas.List.Elements.{filter_more}
use Rattle.std.proofs.lemmas.List.Filters.{length-filter_both}
use Rattle.std.proofs.lemmas.Bool.Decides.{leb_tells}
use Rattle.fs_model.specs.State.{Copied}
use Rattle.fs_model.specs.Updates.{used}
use Rattle.tier_book.specs.declared.row.BlockRow.{BlockRow}
use Rattle.tier_book.specs.declared.row.Flags.{Flags}
use Rattle.tier_book.specs.Rows.{copied_of, is_block, with_flags, flagged}
use Rattle.tier_book.proofs.Changes.{filter-map}

-- ---- flags

-- one more row has its flags
pub flag_step : (f b : ℕ) (F : Flags) (old rows next : List BlockRow) (k : ℕ) (x y : BlockRow) → map copied_of rows ≡ flagged f b F (map copied_of (take k old)) ++ map copied_of (drop k old) → k < length old → length rows ≡ length old
    → x ≡ get_or rows k x → copied_of y ≡ cond (is_block f b (copied_of x)) (with_flags F (copied_of x)) (copied_of x) → next ≡ set rows k y
    → map copied_of next ≡ flagged f b F (map copied_of (take (k + 1) old)) ++ map copied_of (drop (k + 1) old)
flag_step f b F old rows next k x y inv lt long read is writes =
    let g : Copied → Copied = λ c. cond (is_block f b c) (with_flags F c) c in
    let d : BlockRow = get_or old k x in
    let A : List Copied = flagged f b F (map copied_of (take k old)) in
    let R : List Copied = map copied_of (drop (k + 1) old) in
    let front : length A ≡ k = length-map (map copied_of (take k old)) g ∙ length-map (take k old) copied_of ∙ length-take-le k old (omega arith) in
    let now : map copied_of rows ≡ A ++ copied_of d ∷ R = inv ∙ ap (λ l. A ++ map copied_of l) (drop_more old k x lt) in
    let here : copied_of x ≡ copied_of d =
    ap copied_of read ∙ sym (get_or-map copied_of rows k x (copied_of x) (omega arith)) ∙ ap (λ l. get_or l k (copied_of x)) now ∙ get_or_at A (copied_of d) R (copied_of x) k front in
    let write : map copied_of next ≡ A ++ copied_of y ∷ R = ap (map copied_of) writes ∙ map-set copied_of rows k y ∙ ap (λ l. set l k (copied_of y)) now ∙ set_at A (copied_of d) R (copied_of y) k front in
    let more : flagged f b F (map copied_of (take (k + 1) old)) ≡ A ++ g (copied_of d) ∷ [] =
    ap (λ l. flagged f b F (map copied_of l)) (take_more old k x lt) ∙ ap (map g) (map_push copied_of (take k old) d) ∙ map_push g (map copied_of (take k old)) (copied_of d) in
    write ∙ ap (λ c. A ++ c ∷ R) (is ∙ ap g here) ∙ sym (append_assoc A (g (copied_of d) ∷ []) R) ∙ ap (λ l. l ++ R) (sym more)

-- ---- the order of use

module _ {X : Type 0} (p : X → Bool) where
  -- the first k of the old list parted, the others as they were
  abbrev pub parted : List X → ℕ → List X
  parted old k = filter (λ x. not (p x)) (take k old) ++ filter p (take k old) ++ drop k old

  parts : (old : List X) (k : ℕ) → k ≤ length old → length (filter (λ x. not (p x)) (take k old) ++ filter p (take k old)) ≡ k
  parts old k le =
      let both = length-filter_both p (λ x. not (p x)) (λ _. refl) (take k old) in
      let short = length-take-le k old le in
      length-both (filter (λ x. not (p x)) (take k old)) (filter p (take k old)) ∙ omega arith
    where
      length-both : (xs ys : List X) → length (xs ++ ys) ≡ length xs + length ys
      length-both [] ys = omega arith
      length-both (x ∷ xs) ys = let e = length-both xs ys in omega arith

  module _ (old rows : List X) (k : ℕ) (x : X) (inv : rows ≡ parted old k) (lt : k < length old) where
    abbrev keeps : List X
    keeps = filter (λ y. not (p y)) (take k old)

    abbrev moves : List X
    moves = filter p (take k old)

    abbrev at_next : X
    at_next = get_or old k x

    now : rows ≡ (keeps ++ moves) ++ at_next ∷ drop (k + 1) old
    now = inv ∙ ap (λ l. (keeps ++ moves) ++ l) (drop_more old k x lt)

    -- the next element is still where it was
    pub next_is : get_or rows k x ≡ get_or old k x
    next_is = ap (λ l. get_or l k x) now ∙ get_or_at (keeps ++ moves) at_next (drop (k + 1) old) x k (parts old k (omega arith))

    -- one that goes behind stays in its place
    pub parted_stays : p (get_or rows k x) ≡ true → (length (filter (λ y. not (p y)) (take (k + 1) old)) ≡ length (filter (λ y. not (p y)) (take k old))) × (rows ≡ parted old (k + 1))
    parted_stays h =
        let here : p at_next ≡ true = ap p (sym next_is) ∙ h in
        let a : filter (λ y. not (p y)) (take (k + 1) old) ≡ keeps = filter_more (λ y. not (p y)) old k x lt ∙ ap (λ b. keeps ++ cond (not b) (at_next ∷ []) []) here ∙ append-nil keeps in
        let b : filter p (take (k + 1) old) ≡ moves ++ at_next ∷ [] = filter_more p old k x lt ∙ ap (λ b. moves ++ cond b (at_next ∷ []) []) here in (
          ap length a,
          now ∙ sym (append_assoc (keeps ++ moves) (at_next ∷ []) (drop (k + 1) old)) ∙ ap (λ l. l ++ drop (k + 1) old) (append_assoc keeps moves (at_next ∷ []))
              ∙ (λ i. sym a i ++ sym b i ++ drop (k + 1) old),
        )

    -- another goes before those that go behind
    pub parted_moves : (next : List X) (q : ℕ) → p (get_or rows k x) ≡ false → q ≡ length (filter (λ y. not (p y)) (take k old))
        → next ≡ take q rows ++ take 1 (drop k rows) ++ take (k - q) (drop q rows) ++ drop (k + 1) rows
        → (length (filter (λ y. not (p y)) (take (k + 1) old)) ≡ q + 1) × (next ≡ parted old (k + 1))
    parted_moves next q h is moved =
        let here : p at_next ≡ false = ap p (sym next_is) ∙ h in
        let long : length (keeps ++ moves) ≡ k = parts old k (omega arith) in
        let a : filter (λ y. not (p y)) (take (k + 1) old) ≡ keeps ++ at_next ∷ [] = filter_more (λ y. not (p y)) old k x lt ∙ ap (λ b. keeps ++ cond (not b) (at_next ∷ []) []) here in
        let b : filter p (take (k + 1) old) ≡ moves = filter_more p old k x lt ∙ ap (λ b. moves ++ cond b (at_next ∷ []) []) here ∙ append-nil moves in
        let split : rows ≡ keeps ++ (moves ++ at_next ∷ drop (k + 1) old) = now ∙ append_assoc keeps moves (at_next ∷ drop (k + 1) old) in
        let one : take q rows ≡ keeps = ap (take q) split ∙ take_at keeps _ q (sym is) in
        let two : take 1 (drop k rows) ≡ at_next ∷ [] = ap (λ l. take 1 (drop k l)) now ∙ ap (take 1) (drop_at (keeps ++ moves) (at_next ∷ drop (k + 1) old) k long) in
        let rest : length moves ≡ k - q = length-rest keeps moves k q long is in
        let three : take (k - q) (drop q rows) ≡ moves = ap (λ l. take (k - q) (drop q l)) split ∙ ap (take (k - q)) (drop_at keeps _ q (sym is)) ∙ take_at moves _ (k - q) rest in
        let four : drop (k + 1) rows ≡ drop (k + 1) old = ap (drop (k + 1)) (now ∙ sym (append_assoc (keeps ++ moves) (at_next ∷ []) (drop (k + 1) old))) ∙ drop_at ((keeps ++ moves) ++ at_next ∷ []) _ (k + 1) (length-push (keeps ++ moves) at_next k long) in
        (ap length a ∙ length-push keeps at_next q (sym is), moved ∙ (λ i. one i ++ two i ++ three i ++ four i) ∙ (λ i. sym a i ++ sym b i ++ drop (k + 1) old))
      where
        length-both : (xs ys : List X) → length (xs ++ ys) ≡ length xs + length ys
        length-both [] ys = omega arith
        length-both (y ∷ xs) ys = let e = length-both xs ys in omega arith

        length-push : (xs : List X) (y : X) (n : ℕ) → length xs ≡ n → length (xs ++ y ∷ []) ≡ n + 1
        length-push xs y n e = length-both xs (y ∷ []) ∙ omega arith

        length-rest : (xs ys : List X) (n m : ℕ) → length (xs ++ ys) ≡ n → m ≡ length xs → length ys ≡ n - m
        length-rest xs ys n m e is' = let l = length-both xs ys in omega arith

-- a row moved forward, as a turn of the part from `front` to `place`
pub turned : {X : Type 0} (rows : List X) (front place : ℕ) (part new : List X) → front ≤ place → place < length rows → part ≡ take (place + 1 - front) (drop front rows) → length part ≡ place + 1 - front
    → new ≡ drop (length part - 1) part ++ take (length part - 1) part → new ≡ take 1 (drop place rows) ++ take (place - front) (drop front rows)
turned rows front place part new le lt is long turns =
    let size : length part - 1 ≡ place - front = omega arith in
    let last : drop (place - front) part ≡ take 1 (drop place rows) =
    ap (drop (place - front)) (is ∙ ap (λ n. take n (drop front rows)) (let e : place + 1 - front ≡ place - front + 1 = omega arith in e)) ∙ drop-take (place - front) 1 (drop front rows)
    ∙ ap (take 1) (drop-drop (place - front) front rows ∙ ap (λ n. drop n rows) (let e : front + (place - front) ≡ place = omega arith in e)) in
    let first : take (place - front) part ≡ take (place - front) (drop front rows) = ap (take (place - front)) is ∙ take-take (place - front) (place + 1 - front) (drop front rows) (omega arith) in
    turns ∙ (λ i. drop (size i) part ++ take (size i) part) ∙ (λ i. last i ++ first i)

-- all rows are parted
pub parted_all : (n : ℕ) (old rows : List BlockRow) (k : ℕ) → rows ≡ parted (λ r. nat_eq r.number n) old k → length old ≤ k → map copied_of rows ≡ used n (map copied_of old)
parted_all n old rows k is le =
    let whole : rows ≡ filter (λ (r : BlockRow). not (nat_eq r.number n)) old ++ filter (λ r. nat_eq r.number n) old =
    is ∙ (λ i. filter (λ (r : BlockRow). not (nat_eq r.number n)) (all i) ++ filter (λ (r : BlockRow). nat_eq r.number n) (all i) ++ none i) ∙ append-nil _ in
    ap (map copied_of) whole ∙ map-append copied_of (filter (λ (r : BlockRow). not (nat_eq r.number n)) old) (filter (λ r. nat_eq r.number n) old)
    ∙ (λ i. filter-map copied_of (λ c. not (nat_eq c.number n)) old i ++ filter-map copied_of (λ c. nat_eq c.number n) old i)
  where
    all : take k old ≡ old
    all = take_all k old le

    none : drop k old ≡ []
    none = drop_all k old le

-- ---- the first tier with room

pub leb_yes : (a b : ℕ) → a ≤ b → nat_le a b ≡ true
leb_yes a b le = elim (leb_tells a b) [ inl e ↦ e.0 | inr e ↦ absurd (omega arith) ]

pub leb_no : (a b : ℕ) → b < a → nat_le a b ≡ false
leb_no a b lt = elim (leb_tells a b) [ inl e ↦ absurd (omega arith) | inr e ↦ e.0 ]

module _ (p : ℕ → Bool) (t n : ℕ) (lt : t < n) where
  ahead : find p (range_with_len t (n - t)) ≡ cond (p t) (Some t) (find p (range_with_len (t + 1) (n - (t + 1))))
  ahead = ap (λ k. find p (range_with_len t k)) (let e : n - t ≡ suc (n - (t + 1)) = omega arith in e)

  pub fits_here : p t ≡ true → find p (range_with_len t (n - t)) ≡ Some t
  fits_here h = ahead ∙ ap (λ b. cond b (Some t) (find p (range_with_len (t + 1) (n - (t + 1))))) h

  pub fits_later : p t ≡ false → find p (range_with_len t (n - t)) ≡ find p (range_with_len (t + 1) (n - (t + 1)))
  fits_later h = ahead ∙ ap (λ b. cond b (Some t) (find p (range_with_len (t + 1) (n - (t + 1))))) h

-- the whole list after the turn
pub move_back : {X : Type 0} (rows : List X) (front place : ℕ) (new : List X) → front ≤ place → place < length rows
    → (let part : List X = take (place + 1 - front) (drop front rows) in new ≡ drop (length part - 1) part ++ take (length part - 1) part)
    → take front rows ++ (new ++ drop (place + 1 - front) (drop front rows)) ≡ take front rows ++ take 1 (drop place rows) ++ take (place - front) (drop front rows) ++ drop (place + 1) rows
move_back rows front place new le lt turns =
    let long : length (take (place + 1 - front) (drop front rows)) ≡ place + 1 - front = length-take-le (place + 1 - front) (drop front rows) (let d = length-drop front rows in omega arith) in
    let part : new ≡ take 1 (drop place rows) ++ take (place - front) (drop front rows) = turned rows front place (take (place + 1 - front) (drop front rows)) new le lt refl long turns in
    let end : drop (place + 1 - front) (drop front rows) ≡ drop (place + 1) rows = drop-drop (place + 1 - front) front rows ∙ ap (λ n. drop n rows) (let e : front + (place + 1 - front) ≡ place + 1 = omega arith in e) in
    (λ i. take front rows ++ (part i ++ end i))
    ∙ sym (append_assoc (take front rows) (take 1 (drop place rows) ++ take (place - front) (drop front rows)) (drop (place + 1) rows))
    ∙ ap (λ l. l ++ drop (place + 1) rows) (sym (append_assoc (take front rows) (take 1 (drop place rows)) (take (place - front) (drop front rows))))
