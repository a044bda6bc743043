-- What a store of objects holds, where it tells, and what its calls do to it.
use Rattle.std.specs.Prelude.{ℕ, ◌≡◌, ◌⊎◌, ◌+◌, ◌≤◌, ⊤, Bool, true, false, ◌&&◌, IsTrue, IsSome, IsSomeAnd, List, take, drop, length, nat_lt, is_some, OnOk, Result, option_map, None, Some, if◌then◌else◌}
use Rattle.std.specs.declared.option.Option.{Option}
use Rattle.outside.specs.Keys.{KeyNames, key_eq, key_lt, is_below, crosses}

-- the bytes at each key
abbrev pub Contents : Type 0
Contents = KeyNames → Option (List ℕ)

-- the same bytes at each key; a store that doesn't tell before doesn't tell after, and the other way round
abbrev pub IsSame : Option Contents → Option Contents → Type 0
IsSame None None = ⊤
IsSame None (Some n) = ⊥
IsSame (Some m) None = ⊥
IsSame (Some m) (Some n) = (k : KeyNames) → n k ≡ m k

-- a call that changes the contents so has happened, or it failed and has happened whole or not at all
abbrev pub Happens : {T E : Type 0} → (Contents → Contents) → Option Contents → Option Contents → Result T E → Type 0
Happens change old new result = IsSame (option_map change old) new ⊎ (OnOk result ⊥ × IsSame old new)

-- an object changes only where the count of changes goes up by one
abbrev pub Changes : Option Contents → Option Contents → ℕ → ℕ → Type 0
Changes old new before now = ((now ≡ before) × IsSame old new) ⊎ (now ≡ before + 1)

-- ---- one key

-- these bytes, or nothing, at the key, and all else as it was
abbrev pub put_at : KeyNames → Option (List ℕ) → Contents → Contents
put_at key bytes m k = if key_eq key k then bytes else m k

-- the object goes from one key to the other
abbrev pub carried : KeyNames → KeyNames → Contents → Contents
carried from to m k = if key_eq to k then m from else (if key_eq from k then None else m k)

-- the object at one key, if there is one, goes to the other
abbrev pub moved : KeyNames → KeyNames → Contents → Contents
moved from to m k = if is_some (m from) then carried from to m k else m k

-- another key with an object can't have one beside this key
abbrev pub IsCrossed : Option Contents → KeyNames → Type 0
IsCrossed None key = ⊥
IsCrossed (Some m) key = (k : KeyNames) × IsTrue (crosses key k) × IsSome (m k)

-- the object at one key can't go to the other, beside the objects at other keys
abbrev pub IsMoveCrossed : Option Contents → KeyNames → KeyNames → Type 0
IsMoveCrossed None from to = ⊥
IsMoveCrossed (Some m) from to = IsSome (m from) × IsCrossed (Some (put_at from None m)) to

-- whether an object is at the key, where the store tells
abbrev pub SaysThere : Option Contents → KeyNames → Bool → Type 0
SaysThere None key there = ⊤
SaysThere (Some m) key there = there ≡ is_some (m key)

-- ---- ranges of an object, and the next one

-- there is no object, or it ends before this place
abbrev pub ends_before : ℕ → Option (List ℕ) → Bool
ends_before end None = true
ends_before end (Some bytes) = nat_lt (length bytes) end

-- the object at the key is absent or ends before this place, where the store tells
abbrev pub is_short : Option Contents → KeyNames → ℕ → Bool
is_short None key end = false
is_short (Some m) key end = ends_before end (m key)

-- the bytes of a range of the object at the key; a reader tells where its store does
abbrev pub IsRange : Option Contents → KeyNames → ℕ → ℕ → Option (List ℕ) → Type 0
IsRange None key at len left = left ≡ None
IsRange (Some m) key at len left = IsSomeAnd (m key) (λ bytes. (at + len ≤ length bytes) × (left ≡ Some (take len (drop at bytes))))

-- the key is at or below the one, and stands after the other, if there is one
abbrev pub is_after : KeyNames → Option KeyNames → KeyNames → Bool
is_after under None key = is_below key under
is_after under (Some after) key = is_below key under && key_lt after key

-- no object has such a key before this one, or none at all
abbrev pub IsFirst : (KeyNames → Bool) → Option (KeyNames × ℕ) → Contents → Type 0
IsFirst is_wanted None m = (k : KeyNames) → IsTrue (is_wanted k) → m k ≡ None
IsFirst is_wanted (Some (key, len)) m = IsTrue (is_wanted key) × IsSomeAnd (m key) (λ bytes. length bytes ≡ len) × ((k : KeyNames) → IsTrue (is_wanted k && key_lt k key) → m k ≡ None)

-- ---- all objects

-- no object is left
abbrev pub emptied : Contents → Contents
emptied m k = None

-- each object is as it was, or gone
abbrev pub IsThinned : Option Contents → Option Contents → Type 0
IsThinned None None = ⊤
IsThinned None (Some n) = ⊥
IsThinned (Some m) None = ⊥
IsThinned (Some m) (Some n) = (k : KeyNames) → (n k ≡ m k) ⊎ (n k ≡ None)
