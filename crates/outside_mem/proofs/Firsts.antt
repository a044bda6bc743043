-- The first of the wanted objects by their keys.
use Rattle.std.proofs.Common.{◌≡◌, ℕ, Bool, true, false, List, [], ◌∷◌, length, refl, sym, ap, ◌∙◌, subst}
use Rattle.std.specs.Prelude.{◌&&◌, Some, None, IsSomeAnd, is_some, option_map, if◌then◌else◌}
use Rattle.std.specs.declared.option.Option.{Option}
use Rattle.std.specs.declared.cmp.Ordering.{Ordering}
use Rattle.std.specs.declared.cmp.Ordering.TheVariants.{Less, Equal, Greater}
use Rattle.std.specs.Ordering.{is_lt}
use Rattle.std.specs.Cmp.{tied_itself}
use Rattle.outside.specs.Contents.{Contents, IsFirst}
use Rattle.outside.specs.KeyOrder.{key_total}
use Rattle.outside.specs.Keys.{KeyNames, key_eq, key_lt}
use Rattle.outside.proofs.Deciding.{key_same, key_self, both_true}
use Rattle.outside_mem.specs.Stored.{held, better, first_wanted, found_as}
use Rattle.outside_mem.specs.declared.writers.MemObject.{MemObject}

less_is : (r : Ordering) → is_lt r ≡ true → r ≡ Less
less_is Less h = refl
less_is Equal h = cc
less_is Greater h = cc

lt_trans : (j k l : KeyNames) → key_lt j k ≡ true → key_lt k l ≡ true → key_lt j l ≡ true
lt_trans j k l p q = ap is_lt (key_total.trans j k l (less_is _ p) (less_is _ q))

lt_self : (k : KeyNames) → key_lt k k ≡ false
lt_self k = ap is_lt (tied_itself key_total k)

-- what is held, and then what an object adds
abbrev pub over : Contents → MemObject → Contents
over m o k = if is_some (m k) then m k else (if key_eq o.key k then Some o.bytes.items else None)

over_none : (m : Contents) (o : MemObject) (k : KeyNames) → m k ≡ None → key_eq o.key k ≡ false → over m o k ≡ None
over_none m o k e h = rw (e, h) refl

over_new : (m : Contents) (o : MemObject) → m o.key ≡ None → over m o o.key ≡ Some o.bytes.items
over_new m o e = rw (e, key_self o.key) refl

over_kept : (m : Contents) (o : MemObject) (k : KeyNames) (P : List ℕ → Type 0) → IsSomeAnd (m k) P → IsSomeAnd (over m o k) P
over_kept m o k P h = step (m k) h
  where
    step : (x : Option (List ℕ)) → IsSomeAnd x P → IsSomeAnd (if is_some x then x else (if key_eq o.key k then Some o.bytes.items else None)) P
    step None h = absurd h
    step (Some bytes) h = h

-- a key that isn't the object's own, since the one has what the other hasn't
apart : (P : KeyNames → Type 0) (o : MemObject) (k : KeyNames) → P k → (P o.key → ⊥) → key_eq o.key k ≡ false
apart P o k h n = step (key_eq o.key k) refl
  where
    step : (a : Bool) → key_eq o.key k ≡ a → a ≡ false
    step true e = absurd (n (subst P (sym (key_same o.key k e)) h))
    step false e = refl

both_false : (a b : Bool) → a ≡ true → b ≡ true → (a && b) ≡ false → ⊥
both_false a b p q h = cc (p, q, h)

both : (a b : Bool) → a ≡ true → b ≡ true → (a && b) ≡ true
both a b p q = rw (p, q) refl

-- an object takes its part in the search
pub first-better : (is_wanted : KeyNames → Bool) (found : Option MemObject) (o : MemObject) (m : Contents) → IsFirst is_wanted (option_map found_as found) m → IsFirst is_wanted (option_map found_as (better is_wanted found o)) (over m o)
first-better w None o m h = step (w o.key) refl
  where
    step : (a : Bool) → w o.key ≡ a → IsFirst w (option_map found_as (if a then Some o else None)) (over m o)
    step true e = (
      e,
      subst (λ x. IsSomeAnd x (λ bytes. length bytes ≡ length o.bytes.items)) (sym (over_new m o (h o.key e))) refl,
      λ k q.
          let p = both_true (w k) (key_lt k o.key) q in
          over_none m o k (h k p.0) (apart (λ l. key_lt l o.key ≡ true) o k p.1 (λ r. cc (r, lt_self o.key))),
    )
    step false e = λ k q. over_none m o k (h k q) (apart (λ l. w l ≡ true) o k q (λ r. cc (r, e)))
first-better w (Some f) o m h = step (w o.key && key_lt o.key f.key) refl
  where
    step : (a : Bool) → (w o.key && key_lt o.key f.key) ≡ a → IsFirst w (option_map found_as (if a then Some o else Some f)) (over m o)
    step true e =
        let own = both_true (w o.key) (key_lt o.key f.key) e in (
          own.0,
          subst (λ x. IsSomeAnd x (λ bytes. length bytes ≡ length o.bytes.items)) (sym (over_new m o (h.2 o.key e))) refl,
          λ k q.
              let p = both_true (w k) (key_lt k o.key) q in
              over_none m o k (h.2 k (both _ _ p.0 (lt_trans k o.key f.key p.1 own.1))) (apart (λ l. key_lt l o.key ≡ true) o k p.1 (λ r. cc (r, lt_self o.key))),
        )
    step false e = (h.0, over_kept m o f.key _ h.1, λ k q. over_none m o k (h.2 k q) (apart (λ l. (w l && key_lt l f.key) ≡ true) o k q (λ r. cc (r, e))))

-- what is held, and then what objects add
abbrev pub all_over : Contents → List MemObject → Contents
all_over m [] = m
all_over m (o ∷ os) = all_over (over m o) os

first-all : (is_wanted : KeyNames → Bool) (found : Option MemObject) (m : Contents) (objects : List MemObject) → IsFirst is_wanted (option_map found_as found) m → IsFirst is_wanted (option_map found_as (first_wanted is_wanted found objects)) (all_over m objects)
first-all w found m [] h = h
first-all w found m (o ∷ os) h = first-all w (better w found o) (over m o) os (first-better w found o m h)

all_over-held : (m : Contents) (objects : List MemObject) (k : KeyNames) → all_over m objects k ≡ (if is_some (m k) then m k else held objects k)
all_over-held m [] k = step (m k)
  where
    step : (x : Option (List ℕ)) → x ≡ (if is_some x then x else None)
    step None = refl
    step (Some bytes) = refl
all_over-held m (o ∷ os) k = all_over-held (over m o) os k ∙ step (m k) (key_eq o.key k)
  where
    step : (x : Option (List ℕ)) (b : Bool) → (if is_some (if is_some x then x else (if b then Some o.bytes.items else None)) then (if is_some x then x else (if b then Some o.bytes.items else None)) else held os k) ≡ (if is_some x then x else (if b then Some o.bytes.items else held os k))
    step None true = refl
    step None false = refl
    step (Some bytes) b = refl

first_same : (is_wanted : KeyNames → Bool) (found : Option (KeyNames × ℕ)) (m n : Contents) → ((k : KeyNames) → m k ≡ n k) → IsFirst is_wanted found m → IsFirst is_wanted found n
first_same w None m n e h = λ k q. sym (e k) ∙ h k q
first_same w (Some (key, len)) m n e h = (h.0, subst (λ x. IsSomeAnd x (λ bytes. length bytes ≡ len)) (e key) h.1, λ k q. sym (e k) ∙ h.2 k q)

-- the search finds the first wanted key of those that are held
pub first-wanted : (is_wanted : KeyNames → Bool) (objects : List MemObject) → IsFirst is_wanted (option_map found_as (first_wanted is_wanted None objects)) (held objects)
first-wanted w os = first_same w _ _ (held os) (all_over-held (λ k. None) os) (first-all w None (λ k. None) os (λ k q. refl))
