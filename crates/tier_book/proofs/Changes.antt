-- What stays true of a book when it changes.
use Rattle.std.proofs.Common.{◌≡◌, ℕ, ◌+◌, ◌-◌, ◌<◌, ◌≤◌, Bool, true, false, cond, not, inl, inr, List, [], ◌∷◌, ◌++◌, map, length, get_or, set, Option, Some, None, nat_eq, refl, sym, ap, subst, ◌∙◌, arith, is_some, option_map}
use Rattle.std.specs.List.{All, filter, sum_by, find}
use Rattle.std.specs.Prelude.{IfSome}
use Rattle.std.specs.Option.{IsSomeAnd}
use Rattle.std.proofs.lemmas.List.{length-set}
use Rattle.std.proofs.lemmas.List.Elements.{All-push, All-filter, All-head, All-tail, All-append, All-map, All-weaker}
use Rattle.std.proofs.lemmas.List.Sums.{sum_by_push, sum_by-cons, sum_by-append}
use Rattle.std.proofs.lemmas.List.Filters.{sum_by-filter_both, length-filter_both}
use Rattle.std.proofs.lemmas.Bool.Decides.{eqb_tells}
use Rattle.fs_model.specs.State.{Copied, RoomRow}
use Rattle.fs_model.specs.Updates.{used}
use Rattle.tier_book.specs.declared.room.Room.{Room}
use Rattle.tier_book.specs.declared.row.BlockRow.{BlockRow}
use Rattle.tier_book.specs.declared.row.Flags.{Flags}
use Rattle.tier_book.specs.Rows.{copied_of, room_row, row_of, room_sum, row_sum, is_block, rooms_with, rooms_without, room_numbered, rows_with, rows_without, with_flags, flagged}
use Rattle.tier_book.specs.Kept.{IsKept}
use Rattle.tier_book.proofs.Freed.{set_at, same}
use Rattle.tier_book.proofs.Tiers.{room_at, row_at, row_at_is}

-- a filter of a list that is seen through f
pub filter-map : {X Y : Type 0} (f : X → Y) (p : Y → Bool) (xs : List X) → map f (filter (λ x. p (f x)) xs) ≡ filter p (map f xs)
filter-map f p [] = refl
filter-map f p (x ∷ xs) = one (p (f x)) ∙ ap (λ ys. cond (p (f x)) (f x ∷ ys) ys) (filter-map f p xs)
  where
    one : (b : Bool) → map f (cond b (x ∷ filter (λ z. p (f z)) xs) (filter (λ z. p (f z)) xs)) ≡ cond b (f x ∷ map f (filter (λ z. p (f z)) xs)) (map f (filter (λ z. p (f z)) xs))
    one true = refl
    one false = refl

-- ---- bytes are taken

-- the sums at every tier after n bytes more at one
added : (taken : List ℕ) (size t s n old : ℕ) (more : ℕ) → t < size → length taken ≡ size → get_or taken s 0 ≡ old → more ≡ cond (nat_eq t s) n 0 → get_or (set taken t (get_or taken t 0 + n)) s 0 ≡ old + more
added taken size t s n old more lt long is here =
    let write = set_at taken t s (get_or taken t 0 + n) (omega arith) in
    elim (eqb_tells t s) [
      | inl e ↦
          let a : get_or (set taken t (get_or taken t 0 + n)) s 0 ≡ get_or taken t 0 + n = write ∙ ap (λ b. cond b (get_or taken t 0 + n) (get_or taken s 0)) e.0 in
          let b : more ≡ n = here ∙ ap (λ b. cond b n 0) e.0 in
          let d : get_or taken t 0 ≡ get_or taken s 0 = ap (λ k. get_or taken k 0) e.1 in
          omega arith
      | inr e ↦
          let a : get_or (set taken t (get_or taken t 0 + n)) s 0 ≡ get_or taken s 0 = write ∙ ap (λ b. cond b (get_or taken t 0 + n) (get_or taken s 0)) e.0 in
          let b : more ≡ 0 = here ∙ ap (λ b. cond b n 0) e.0 in
          omega arith
    ]

-- every tier has as much as is taken, where the one of which bytes were taken has
still_fits : (sizes taken : List ℕ) (t s n : ℕ) → t < length taken → get_or taken t 0 + n ≤ get_or sizes t 0 → get_or taken s 0 ≤ get_or sizes s 0 → get_or (set taken t (get_or taken t 0 + n)) s 0 ≤ get_or sizes s 0
still_fits sizes taken t s n lt fits other =
    let write = set_at taken t s (get_or taken t 0 + n) lt in
    elim (eqb_tells t s) [
      | inl e ↦
          let a : get_or (set taken t (get_or taken t 0 + n)) s 0 ≡ get_or taken t 0 + n = write ∙ ap (λ b. cond b (get_or taken t 0 + n) (get_or taken s 0)) e.0 in
          let d : get_or sizes t 0 ≡ get_or sizes s 0 = ap (λ k. get_or sizes k 0) e.1 in
          omega arith
      | inr e ↦
          let a : get_or (set taken t (get_or taken t 0 + n)) s 0 ≡ get_or taken s 0 = write ∙ ap (λ b. cond b (get_or taken t 0 + n) (get_or taken s 0)) e.0 in
          omega arith
    ]

-- a reservation is made
pub room_added : (sizes taken : List ℕ) (rooms : List RoomRow) (rows : List Copied) (r : RoomRow) → IsKept sizes taken rooms rows → r.tier < length sizes → get_or taken r.tier 0 + r.bytes ≤ get_or sizes r.tier 0 → IsKept sizes (set taken r.tier (get_or taken r.tier 0 + r.bytes)) (rooms ++ r ∷ []) rows
room_added sizes taken rooms rows r k lt fits = record {
  few = k.few;
  long = length-set taken r.tier _ ∙ k.long;
  sums = λ s in'.
      let more = added taken (length sizes) r.tier s r.bytes (room_sum s rooms + row_sum s rows) (room_at s r) lt k.long (k.sums s in') refl in
      let push = sum_by_push (room_at s) rooms r in
      omega arith;
  fits = λ s in'. still_fits sizes taken r.tier s r.bytes (let e = k.long in omega arith) fits (k.fits s in');
  rooms_at = All-push (λ x. x.tier < length sizes) rooms r k.rooms_at lt;
  rows_at = k.rows_at;
}

-- a row is added
pub row_added : (sizes taken : List ℕ) (rooms : List RoomRow) (rows : List Copied) (c : Copied) → IsKept sizes taken rooms rows → c.tier < length sizes → get_or taken c.tier 0 + c.len ≤ get_or sizes c.tier 0 → IsKept sizes (set taken c.tier (get_or taken c.tier 0 + c.len)) rooms (rows ++ c ∷ [])
row_added sizes taken rooms rows c k lt fits = record {
  few = k.few;
  long = length-set taken c.tier _ ∙ k.long;
  sums = λ s in'.
      let more = added taken (length sizes) c.tier s c.len (room_sum s rooms + row_sum s rows) (row_at s c) lt k.long (k.sums s in') (row_at_is s c) in
      let push = sum_by_push (row_at s) rows c in
      omega arith;
  fits = λ s in'. still_fits sizes taken c.tier s c.len (let e = k.long in omega arith) fits (k.fits s in');
  rooms_at = k.rooms_at;
  rows_at = All-push (λ x. x.tier < length sizes) rows c k.rows_at lt;
}

-- ---- bytes are given back

-- the reservations of a number are taken out
pub rooms_freed : (sizes taken now : List ℕ) (rooms : List RoomRow) (rows : List Copied) (n : ℕ) → IsKept sizes taken rooms rows → length now ≡ length taken
    → ((t : ℕ) → t < length taken → get_or now t 0 + room_sum t (rooms_with n rooms) ≡ get_or taken t 0) → IsKept sizes now (rooms_without n rooms) rows
rooms_freed sizes taken now rooms rows n k long freed = record {
  few = k.few;
  long = long ∙ k.long;
  sums = λ t in'.
      let at = freed t (let e = k.long in omega arith) in
      let was = k.sums t in' in
      let both = sum_by-filter_both (λ (r : RoomRow). nat_eq r.number n) (λ r. not (nat_eq r.number n)) (λ _. refl) (room_at t) rooms in
      omega arith;
  fits = λ t in'.
      let at = freed t (let e = k.long in omega arith) in
      let was = k.fits t in' in
      omega arith;
  rooms_at = All-filter (λ (r : RoomRow). not (nat_eq r.number n)) (λ r. r.tier < length sizes) rooms k.rooms_at;
  rows_at = k.rows_at;
}

-- the rows of a block are taken out
pub rows_freed : (sizes taken now : List ℕ) (rooms : List RoomRow) (rows : List Copied) (f i : ℕ) → IsKept sizes taken rooms rows → length now ≡ length taken
    → ((t : ℕ) → t < length taken → get_or now t 0 + row_sum t (rows_with f i rows) ≡ get_or taken t 0) → IsKept sizes now rooms (rows_without f i rows)
rows_freed sizes taken now rooms rows f i k long freed = record {
  few = k.few;
  long = long ∙ k.long;
  sums = λ t in'.
      let at = freed t (let e = k.long in omega arith) in
      let was = k.sums t in' in
      let both = sum_by-filter_both (is_block f i) (λ c. not (is_block f i c)) (λ _. refl) (row_at t) rows in
      omega arith;
  fits = λ t in'.
      let at = freed t (let e = k.long in omega arith) in
      let was = k.fits t in' in
      omega arith;
  rooms_at = k.rooms_at;
  rows_at = All-filter (λ c. not (is_block f i c)) (λ c. c.tier < length sizes) rows k.rows_at;
}

-- ---- searches

-- two tests that agree find the same
pub find_agree : {X : Type 0} (p q : X → Bool) → ((x : X) → p x ≡ q x) → (xs : List X) → find p xs ≡ find q xs
find_agree p q agree [] = refl
find_agree p q agree (x ∷ xs) = ap (λ b. cond b (Some x) (find p xs)) (agree x) ∙ ap (cond (q x) (Some x)) (find_agree p q agree xs)

module _ {X : Type 0} (p : X → Bool) where
  some_is : (x y : X) → Some y ≡ Some x → y ≡ x
  some_is x y e = cc

  -- the first that passes, or one behind it
  first_has : (P : X → Type 0) (y x : X) (rest : Option X) (b : Bool) → P y → (rest ≡ Some x → P x) → cond b (Some y) rest ≡ Some x → P x
  first_has P y x rest true one more e = subst P (some_is x y e) one
  first_has P y x rest false one more e = more e

  -- what was found has what all have
  pub found_has : (P : X → Type 0) (xs : List X) (x : X) → find p xs ≡ Some x → All P xs → P x
  found_has P [] x h all = cc
  found_has P (y ∷ ys) x h all = first_has P y x (find p ys) (p y) (All-head P y ys all) (λ e. found_has P ys x e (All-tail P y ys all)) h

  first_le : (f : X → ℕ) (y x : X) (ys : List X) (rest : Option X) (b : Bool) → (rest ≡ Some x → f x ≤ sum_by f ys) → cond b (Some y) rest ≡ Some x → f x ≤ sum_by f (cond b (y ∷ ys) ys)
  first_le f y x ys rest true more e = let own : f y ≡ f x = ap f (some_is x y e) in let s = sum_by-cons f y ys in omega arith
  first_le f y x ys rest false more e = more e

  -- and no more than all that pass have together
  pub found_le : (f : X → ℕ) (xs : List X) (x : X) → find p xs ≡ Some x → f x ≤ sum_by f (filter p xs)
  found_le f [] x h = cc
  found_le f (y ∷ ys) x h = first_le f y x (filter p ys) (find p ys) (p y) (λ e. found_le f ys x e) h

  first_out : (y x : X) (ys out : List X) (rest : Option X) (b : Bool) → length out ≤ length ys → (rest ≡ Some x → length out < length ys) → cond b (Some y) rest ≡ Some x → length (cond (not b) (y ∷ out) out) < length (y ∷ ys)
  first_out y x ys out rest true le more e = omega arith
  first_out y x ys out rest false le more e = let lt = more e in omega arith

  -- one at least is left out with it
  pub found_out : (xs : List X) (x : X) → find p xs ≡ Some x → length (filter (λ y. not (p y)) xs) < length xs
  found_out [] x h = cc
  found_out (y ∷ ys) x h =
      first_out y x ys (filter (λ z. not (p z)) ys) (find p ys) (p y) (let both = length-filter_both p (λ z. not (p z)) (λ _. refl) ys in omega arith) (λ e. found_out ys x e) h

-- what a reservation that is there has
pub there : {X : Type 0} (o : Option X) (P : X → Type 0) → IsSomeAnd o P → (x : X) × (o ≡ Some x)
there None P h = absurd h
there (Some x) P h = (x, refl)

pub has : {X : Type 0} (o : Option X) (P : X → Type 0) (x : X) → o ≡ Some x → IsSomeAnd o P → P x
has {X} o P x e h = subst (λ q. IsSomeAnd q P) e h

-- what `commit` may rest on once the bytes of the reservation are given back
pub record MayCommit (sizes now : List ℕ) (rooms : List RoomRow) (n : ℕ) (c : Copied) : Type 0 where
  pub within : c.tier < length sizes
  pub fits : get_or now c.tier 0 + c.len ≤ get_or sizes c.tier 0
  pub fewer : length (rooms_without n rooms) < length rooms

pub may_commit : (sizes taken now : List ℕ) (rooms : List RoomRow) (rows : List Copied) (n : ℕ) (c : Copied) → IsKept sizes taken rooms rows
    → ((t : ℕ) → t < length taken → get_or now t 0 + room_sum t (rooms_with n rooms) ≡ get_or taken t 0)
    → IsSomeAnd (room_numbered n rooms) (λ r. c.tier ≡ r.tier) → IsSomeAnd (room_numbered n rooms) (λ r. c.len ≤ r.bytes) → MayCommit sizes now rooms n c
may_commit sizes taken now rooms rows n c k freed tier len =
    let p : RoomRow → Bool = λ r. nat_eq r.number n in
    let r = there (room_numbered n rooms) (λ r. c.tier ≡ r.tier) tier in
    let at : c.tier ≡ r.0.tier = has (room_numbered n rooms) (λ r. c.tier ≡ r.tier) r.0 r.1 tier in
    let le : c.len ≤ r.0.bytes = has (room_numbered n rooms) (λ r. c.len ≤ r.bytes) r.0 r.1 len in
    let in' : r.0.tier < length sizes = found_has p (λ r. r.tier < length sizes) rooms r.0 r.1 k.rooms_at in
    let part : room_at c.tier r.0 ≤ room_sum c.tier (rooms_with n rooms) = found_le p (room_at c.tier) rooms r.0 r.1 in
    let own : room_at c.tier r.0 ≡ r.0.bytes = ap (λ t. room_at t r.0) at ∙ ap (λ b. cond b r.0.bytes 0) (same r.0.tier) in
    let within : c.tier < length sizes = omega arith in
    let sum = freed c.tier (let e = k.long in omega arith) in
    let top = k.fits c.tier within in
    record { within = within; fits = omega arith; fewer = found_out p rooms r.0 r.1 }

-- ---- rows change their order or flags

-- the same bytes at each tier, at tiers of the worker
rows_again : (sizes taken : List ℕ) (rooms : List RoomRow) (rows next : List Copied) → IsKept sizes taken rooms rows → ((t : ℕ) → row_sum t next ≡ row_sum t rows) → All (λ c. c.tier < length sizes) next → IsKept sizes taken rooms next
rows_again sizes taken rooms rows next k sums all = record {
  few = k.few;
  long = k.long;
  sums = λ t in'. let e = sums t in let s = k.sums t in' in omega arith;
  fits = k.fits;
  rooms_at = k.rooms_at;
  rows_at = all;
}

-- a row was used
pub used_kept : (sizes taken : List ℕ) (rooms : List RoomRow) (rows : List Copied) (n : ℕ) → IsKept sizes taken rooms rows → IsKept sizes taken rooms (used n rows)
used_kept sizes taken rooms rows n k =
    let p : Copied → Bool = λ c. nat_eq c.number n in
    rows_again sizes taken rooms rows (used n rows) k
    (λ t.
    let both = sum_by-filter_both p (λ c. not (p c)) (λ _. refl) (row_at t) rows in
    let sum = sum_by-append (row_at t) (filter (λ c. not (p c)) rows) (filter p rows) in
    omega arith)
    (All-append (λ c. c.tier < length sizes) (filter (λ c. not (p c)) rows) (filter p rows) (All-filter (λ c. not (p c)) (λ c. c.tier < length sizes) rows k.rows_at) (All-filter p (λ c. c.tier < length sizes) rows k.rows_at))

module _ (f i : ℕ) (F : Flags) where
  -- what a row becomes when the flags of the block are set
  abbrev pub after_flag : Copied → Copied
  after_flag c = cond (is_block f i c) (with_flags F c) c

  tier_stays : (b : Bool) (c : Copied) → (cond b (with_flags F c) c).tier ≡ c.tier
  tier_stays true c = refl
  tier_stays false c = refl

  bytes_stay : (t : ℕ) (b : Bool) (c : Copied) → row_at t (cond b (with_flags F c) c) ≡ row_at t c
  bytes_stay t true c = refl
  bytes_stay t false c = refl

  flagged_sums : (t : ℕ) (cs : List Copied) → row_sum t (flagged f i F cs) ≡ row_sum t cs
  flagged_sums t [] = refl
  flagged_sums t (c ∷ cs) =
      sum_by-cons (row_at t) (after_flag c) (flagged f i F cs) ∙ (λ j. bytes_stay t (is_block f i c) c j + flagged_sums t cs j) ∙ sym (sum_by-cons (row_at t) c cs)

  -- flags are set
  pub flagged_kept : (sizes taken : List ℕ) (rooms : List RoomRow) (rows : List Copied) → IsKept sizes taken rooms rows → IsKept sizes taken rooms (flagged f i F rows)
  flagged_kept sizes taken rooms rows k =
      rows_again sizes taken rooms rows (flagged f i F rows) k (λ t. flagged_sums t rows)
      (All-map (λ c. c.tier < length sizes) after_flag rows (All-weaker (λ c. c.tier < length sizes) (λ c. (after_flag c).tier < length sizes) (λ c h. subst (λ t. t < length sizes) (sym (tier_stays (is_block f i c) c)) h) rows k.rows_at))

-- ---- what a call has in hand

-- the reservations of a number are taken out of the lists as they were read
pub rooms_out : (sizes taken held now : List ℕ) (rooms seen left : List RoomRow) (rows : List Copied) (n : ℕ) → IsKept sizes taken rooms rows → held ≡ taken → seen ≡ rooms → length now ≡ length held
    → ((t : ℕ) → t < length held → get_or now t 0 + room_sum t (rooms_with n seen) ≡ get_or held t 0) → left ≡ rooms_without n rooms → IsKept sizes now left rows
rooms_out sizes taken held now rooms seen left rows n k e s long freed l =
    let k' : IsKept sizes held seen rows = subst (λ x. IsKept sizes x seen rows) (sym e) (subst (λ x. IsKept sizes taken x rows) (sym s) k) in
    subst (λ x. IsKept sizes now x rows) (ap (rooms_without n) s ∙ sym l) (rooms_freed sizes held now seen rows n k' long freed)

-- so are the rows of a block
pub rows_out : (sizes taken held now : List ℕ) (rooms : List RoomRow) (rows seen left : List Copied) (f i : ℕ) → IsKept sizes taken rooms rows → held ≡ taken → seen ≡ rows → length now ≡ length held
    → ((t : ℕ) → t < length held → get_or now t 0 + row_sum t (rows_with f i seen) ≡ get_or held t 0) → left ≡ rows_without f i rows → IsKept sizes now rooms left
rows_out sizes taken held now rooms rows seen left f i k e s long freed l =
    let k' : IsKept sizes held rooms seen = subst (λ x. IsKept sizes x rooms seen) (sym e) (subst (λ x. IsKept sizes taken rooms x) (sym s) k) in
    subst (λ x. IsKept sizes now rooms x) (ap (rows_without f i) s ∙ sym l) (rows_freed sizes held now rooms seen f i k' long freed)

-- what `commit` may rest on, of the lists as they were read
pub commit_rests : (sizes taken held now : List ℕ) (rooms seen told : List RoomRow) (rows : List Copied) (n : ℕ) (c : Copied) → IsKept sizes taken rooms rows → held ≡ taken → seen ≡ rooms → rooms ≡ told
    → ((t : ℕ) → t < length held → get_or now t 0 + room_sum t (rooms_with n seen) ≡ get_or held t 0)
    → IsSomeAnd (room_numbered n told) (λ r. c.tier ≡ r.tier) → IsSomeAnd (room_numbered n told) (λ r. c.len ≤ r.bytes) → MayCommit sizes now rooms n c
commit_rests sizes taken held now rooms seen told rows n c k e s v freed tier len =
    let k' : IsKept sizes held seen rows = subst (λ x. IsKept sizes x seen rows) (sym e) (subst (λ x. IsKept sizes taken x rows) (sym s) k) in
    let back : told ≡ seen = sym (s ∙ v) in
    subst (λ x. MayCommit sizes now x n c) s
    (may_commit sizes held now seen rows n c k' freed (subst (λ x. IsSomeAnd (room_numbered n x) (λ r. c.tier ≡ r.tier)) back tier) (subst (λ x. IsSomeAnd (room_numbered n x) (λ r. c.len ≤ r.bytes)) back len))

-- a row is added, by the lists as they were read
pub row_in : (sizes now held next : List ℕ) (rooms : List RoomRow) (rows after : List Copied) (n : ℕ) (were : List RoomRow) (c : Copied) → IsKept sizes now rooms rows → MayCommit sizes now were n c → held ≡ now
    → next ≡ set held c.tier (get_or held c.tier 0 + c.len) → after ≡ rows ++ c ∷ [] → IsKept sizes next rooms after
row_in sizes now held next rooms rows after n were c k may e w a =
    subst (λ x. IsKept sizes x rooms after) (ap (λ h. set h c.tier (get_or h c.tier 0 + c.len)) (sym e) ∙ sym w)
    (subst (λ x. IsKept sizes (set now c.tier (get_or now c.tier 0 + c.len)) rooms x) (sym a) (row_added sizes now rooms rows c k may.within may.fits))

-- a reservation is added, by the lists as they were read
pub room_in : (sizes taken held next : List ℕ) (rooms after : List RoomRow) (rows same' : List Copied) (r : RoomRow) → IsKept sizes taken rooms rows → r.tier < length sizes → r.bytes ≤ get_or sizes r.tier 0 - room_sum r.tier rooms - row_sum r.tier rows
    → held ≡ taken → next ≡ set held r.tier (get_or held r.tier 0 + r.bytes) → after ≡ rooms ++ r ∷ [] → same' ≡ rows → IsKept sizes next after same'
room_in sizes taken held next rooms after rows same' r k lt le e w a s =
    let sum = k.sums r.tier lt in
    let top = k.fits r.tier lt in
    subst (IsKept sizes next after) (sym s)
    (subst (λ x. IsKept sizes x after rows) (ap (λ h. set h r.tier (get_or h r.tier 0 + r.bytes)) (sym e) ∙ sym w)
    (subst (λ x. IsKept sizes (set taken r.tier (get_or taken r.tier 0 + r.bytes)) x rows) (sym a) (room_added sizes taken rooms rows r k lt (omega arith))))

-- what is there, where something is
pub some_there : {X : Type 0} (o : Option X) → is_some o ≡ true → (x : X) × (o ≡ Some x)
some_there None h = cc
some_there (Some x) h = (x, refl)

-- the reservation that is found is at a tier of the worker, as all are
pub found_room_at : (o : Option Room) (rooms : List RoomRow) (n k : ℕ) → option_map room_row o ≡ room_numbered n rooms → All (λ r. r.tier < k) rooms → IfSome o (λ r. r.tier < k)
found_room_at None rooms n k e all = tt
found_room_at (Some r) rooms n k e all = found_has (λ x. nat_eq x.number n) (λ x. x.tier < k) rooms (room_row r) (sym e) all

-- the row that is found is at a tier of the worker, as all are
pub found_row_at : (o : Option BlockRow) (rows : List Copied) (f i k : ℕ) → option_map copied_of o ≡ row_of f i rows → All (λ c. c.tier < k) rows → IfSome o (λ r. r.tier < k)
found_row_at None rows f i k e all = tt
found_row_at (Some r) rows f i k e all = found_has (is_block f i) (λ c. c.tier < k) rows (copied_of r) (sym e) all

-- without one that is there, one at least is gone
pub room_gone : (rooms rest : List RoomRow) (n : ℕ) (x : RoomRow) → rest ≡ rooms_without n rooms → room_numbered n rooms ≡ Some x → length rest + 1 ≤ length rooms
room_gone rooms rest n x same e = let lt : length (rooms_without n rooms) < length rooms = found_out (λ r. nat_eq r.number n) rooms x e in let len = ap length same in omega arith
