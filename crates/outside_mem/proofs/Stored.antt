-- What the objects of a list hold, and what changes of the list do to it.
use Rattle.std.proofs.Common.{◌≡◌, ℕ, zero, Bool, true, false, ◌<◌, suc, List, [], ◌∷◌, length, take, ◌⊎◌, inl, inr, refl, sym, ap, ◌∙◌, subst, arith}
use Rattle.std.specs.Prelude.{not, ◌&&◌, ◌||◌, Some, None, IsSome, is_some, option_map, if◌then◌else◌, cond}
use Rattle.std.specs.declared.option.Option.{Option}
use Rattle.outside.specs.Contents.{put_at, moved, IsCrossed, IsMoveCrossed}
use Rattle.outside.specs.KeyOrder.{key_equiv}
use Rattle.outside.specs.Keys.{KeyNames, key_eq, is_below, crosses}
use Rattle.outside.proofs.Deciding.{key_same, key_self, or_true, both_true}
use Rattle.outside_mem.specs.Stored.{held, with_key, without, first_at, renamed, is_crossed, is_move_crossed}
use Rattle.outside_mem.specs.declared.writers.MemObject.{MemObject}

same_either : {A : Type 0} (b : Bool) (x : A) → (if b then x else x) ≡ x
same_either true x = refl
same_either false x = refl

-- ---- objects that are left, put and moved

without_step : (o : MemObject) (key k : KeyNames) (os : List MemObject) → held (without key os) k ≡ put_at key None (held os) k → (a c : Bool) → key_eq o.key key ≡ a → key_eq key k ≡ c → held (cond (not a) (o ∷ without key os) (without key os)) k ≡ (if c then None else held (o ∷ os) k)
without_step o key k os before true true e d = before ∙ rw d refl
without_step o key k os before true false e d =
    let same : key_eq o.key k ≡ false = rw (key_same o.key key e) d in
    before ∙ rw (d, same) refl
without_step o key k os before false true e d =
    let other : key_eq o.key k ≡ false = subst (λ z. key_eq o.key z ≡ false) (key_same key k d) e in
    rw other (before ∙ rw d refl)
without_step o key k os before false false e d = ap (λ rest. if key_eq o.key k then Some o.bytes.items else rest) (before ∙ rw d refl)

-- objects that are left hold nothing at the key, and all else as before
pub held-without : (key k : KeyNames) (objects : List MemObject) → held (without key objects) k ≡ put_at key None (held objects) k
held-without key k [] = sym (same_either (key_eq key k) None)
held-without key k (o ∷ os) = without_step o key k os (held-without key k os) (key_eq o.key key) (key_eq key k) refl refl

put_step : (o : MemObject) (k : KeyNames) (os : List MemObject) (c : Bool) → key_eq o.key k ≡ c → (if c then Some o.bytes.items else held (without o.key os) k) ≡ (if c then Some o.bytes.items else held os k)
put_step o k os true e = refl
put_step o k os false e = held-without o.key k os ∙ rw e refl

-- an object in front of those with other keys holds its bytes at its key, and all else is as before
pub held-put : (o : MemObject) (k : KeyNames) (objects : List MemObject) → held (o ∷ without o.key objects) k ≡ put_at o.key (Some o.bytes.items) (held objects) k
held-put o k os = put_step o k os (key_eq o.key k) refl

-- the test of an option is that of what is made of it
pub some_of : {A B : Type 0} (f : A → B) (x : Option A) (y : Option B) → option_map f x ≡ y → is_some x ≡ true → is_some y ≡ true
some_of f None y e h = cc
some_of f (Some x) y e h = sym (ap is_some e)

-- the bytes at a key are those of the first object with it
pub held-first : (key : KeyNames) (objects : List MemObject) (bytes : List ℕ) → held objects key ≡ Some bytes → (others : List MemObject) (to k : KeyNames) → held (first_at to (with_key key objects) others) k ≡ (if key_eq to k then Some bytes else held others k)
held-first key [] bytes e others to k = cc
held-first key (o ∷ os) bytes e others to k = step (key_eq o.key key) refl e (held-first key os bytes)
  where
    step : (a : Bool) → key_eq o.key key ≡ a → (if a then Some o.bytes.items else held os key) ≡ Some bytes → (held os key ≡ Some bytes → (others : List MemObject) (to k : KeyNames) → held (first_at to (with_key key os) others) k ≡ (if key_eq to k then Some bytes else held others k)) → held (first_at to (cond a (o ∷ with_key key os) (with_key key os)) others) k ≡ (if key_eq to k then Some bytes else held others k)
    step true p q more = ap (λ first. if key_eq to k then first else held others k) q
    step false p q more = more q others to k

pub with_key-some : (key : KeyNames) (objects : List MemObject) → is_some (held objects key) ≡ true → 0 < length (with_key key objects)
with_key-some key [] e = cc
with_key-some key (o ∷ os) e = step (key_eq o.key key) e (with_key-some key os)
  where
    step : (a : Bool) → is_some (if a then Some o.bytes.items else held os key) ≡ true → (is_some (held os key) ≡ true → 0 < length (with_key key os)) → 0 < length (cond a (o ∷ with_key key os) (with_key key os))
    step true p more = omega arith
    step false p more = more p

moved_step : (from to k : KeyNames) (objects : List MemObject) (bytes : List ℕ) (c : Bool) → key_eq to k ≡ c → (if c then Some bytes else held (without to (without from objects)) k) ≡ (if c then Some bytes else (if key_eq from k then None else held objects k))
moved_step from to k os bytes true e = refl
moved_step from to k os bytes false e = held-without to k (without from os) ∙ rw e (held-without from k os)

-- a renamed object holds its bytes at the other key alone
pub held-renamed : (from to k : KeyNames) (objects : List MemObject) → held (renamed from to objects) k ≡ moved from to (held objects) k
held-renamed from to k os = step (held os from) refl
  where
    step : (m : Option (List ℕ)) → held os from ≡ m → held (if is_some m then first_at to (with_key from os) (without to (without from os)) else os) k ≡ (if is_some m then (if key_eq to k then m else (if key_eq from k then None else held os k)) else held os k)
    step None e = refl
    step (Some bytes) e = held-first from os bytes e (without to (without from os)) to k ∙ moved_step from to k os bytes (key_eq to k) refl

-- ---- keys that cross

kept_some : (left k : KeyNames) (o : MemObject) (m : KeyNames → Option (List ℕ)) → IsSome (put_at left None m k) → IsSome (put_at left None (λ l. if key_eq o.key l then Some o.bytes.items else m l) k)
kept_some left k o m = step (key_eq left k) (key_eq o.key k)
  where
    step : (a b : Bool) → IsSome (if a then None else m k) → IsSome (if a then None else (if b then Some o.bytes.items else m k))
    step true b h = h
    step false true h = refl
    step false false h = h

-- an object that crosses a key is at a key that crosses it
pub crossed-is : (left key : KeyNames) (objects : List MemObject) → is_crossed left key objects ≡ true → IsCrossed (Some (put_at left None (held objects))) key
crossed-is left key [] e = cc
crossed-is left key (o ∷ os) e = step (key_eq o.key left) (crosses key o.key) refl refl e (crossed-is left key os)
  where
    found : key_eq o.key left ≡ false → IsSome (put_at left None (held (o ∷ os)) o.key)
    found p =
        let back : key_eq left o.key ≡ false = key_equiv.symm left o.key ∙ p in
        rw (back, key_self o.key) refl

    step : (a b : Bool) → key_eq o.key left ≡ a → crosses key o.key ≡ b → ((not a && b) || is_crossed left key os) ≡ true → (is_crossed left key os ≡ true → IsCrossed (Some (put_at left None (held os))) key) → IsCrossed (Some (put_at left None (held (o ∷ os)))) key
    step true b p q h more = let m = more h in (m.0, m.1, kept_some left m.0 o (held os) m.2)
    step false true p q h more = (o.key, q, found p)
    step false false p q h more = let m = more h in (m.0, m.1, kept_some left m.0 o (held os) m.2)

-- where a key that crosses it has an object, the test finds it
pub is-crossed : (left key : KeyNames) (objects : List MemObject) → IsCrossed (Some (put_at left None (held objects))) key → is_crossed left key objects ≡ true
is-crossed left key [] m = absurd (none (key_eq left m.0) m.2)
  where
    none : (a : Bool) → is_some {T = List ℕ} (if a then None else None) ≡ true → ⊥
    none true h = cc
    none false h = cc
is-crossed left key (o ∷ os) m = step (key_eq left m.0) (key_eq o.key m.0) refl refl m.2 (λ h. is-crossed left key os (m.0, m.1, h))
  where
    head : key_eq left m.0 ≡ false → key_eq o.key m.0 ≡ true → (not (key_eq o.key left) && crosses key o.key) ≡ true
    head p e =
        let same = key_same o.key m.0 e in
        let other : key_eq o.key left ≡ false = subst (λ z. key_eq z left ≡ false) (sym same) (key_equiv.symm m.0 left ∙ p) in
        let crossing : crosses key o.key ≡ true = subst (λ z. crosses key z ≡ true) (sym same) m.1 in
        rw (other, crossing) refl

    step : (a b : Bool) → key_eq left m.0 ≡ a → key_eq o.key m.0 ≡ b → IsSome (if a then None else (if b then Some o.bytes.items else held os m.0)) → (IsSome (put_at left None (held os) m.0) → is_crossed left key os ≡ true) → is_crossed left key (o ∷ os) ≡ true
    step true b p e h more = cc
    step false true p e h more = ap (λ first. first || is_crossed left key os) (head p e)
    step false false p e h more =
        let rest = more (subst (λ a. IsSome (if a then None else held os m.0)) (sym p) h) in
        ap (λ more. (not (key_eq o.key left) && crosses key o.key) || more) rest ∙ or_true _

off_key : (key k : KeyNames) → crosses key k ≡ true → key_eq key k ≡ false
off_key key k h = step (key_eq key k) h
  where
    step : (a : Bool) → (not a && (is_below key k || is_below k key)) ≡ true → a ≡ false
    step true h = cc
    step false h = refl

-- what crosses a key isn't at the key itself
pub own_crossed : (key : KeyNames) (objects : List MemObject) → is_crossed key key objects ≡ true → IsCrossed (Some (held objects)) key
own_crossed key os e =
    let m = crossed-is key key os e in
    let off = off_key key m.0 m.1 in
    (m.0, m.1, subst (λ a. IsSome (if a then None else held os m.0)) off m.2)

pub own-crossed : (key : KeyNames) (objects : List MemObject) → IsCrossed (Some (held objects)) key → is_crossed key key objects ≡ true
own-crossed key os m = is-crossed key key os (m.0, m.1, subst (λ a. IsSome (if a then None else held os m.0)) (sym (off_key key m.0 m.1)) m.2)

pub move_crossed : (from to : KeyNames) (objects : List MemObject) → is_move_crossed from to objects ≡ true → IsMoveCrossed (Some (held objects)) from to
move_crossed from to os e =
    let m = both_true (is_some (held os from)) (is_crossed from to os) e in
    (m.0, crossed-is from to os m.1)

pub move-crossed : (from to : KeyNames) (objects : List MemObject) → IsMoveCrossed (Some (held objects)) from to → is_move_crossed from to objects ≡ true
move-crossed from to os m = rw (m.0, is-crossed from to os m.1) refl

-- ---- objects that are gone

-- of the first objects of a list each is as it was, or gone
pub held-take : (n : ℕ) (objects : List MemObject) (k : KeyNames) → (held (take n objects) k ≡ held objects k) ⊎ (held (take n objects) k ≡ None)
held-take zero os k = inr refl
held-take (suc n) [] k = inl refl
held-take (suc n) (o ∷ os) k = step (key_eq o.key k) (held-take n os k)
  where
    step : (a : Bool) → (held (take n os) k ≡ held os k) ⊎ (held (take n os) k ≡ None) → ((if a then Some o.bytes.items else held (take n os) k) ≡ (if a then Some o.bytes.items else held os k)) ⊎ ((if a then Some o.bytes.items else held (take n os) k) ≡ None)
    step true h = inl refl
    step false h = h
