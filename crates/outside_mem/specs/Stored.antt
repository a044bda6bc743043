-- What a store in memory holds, as a list of objects.
use Rattle.std.specs.Prelude.{ℕ, Bool, not, ◌&&◌, List, [], ◌∷◌, Some, None, length, is_some, if◌then◌else◌}
use Rattle.std.specs.declared.option.Option.{Option}
use Rattle.std.specs.List.{filter, list_any}
use Rattle.outside.specs.Keys.{KeyNames, key_eq, key_lt, crosses}
use Rattle.outside_mem.specs.declared.writers.MemObject.{MemObject}

-- the bytes of the first object with the key
abbrev pub held : List MemObject → KeyNames → Option (List ℕ)
held [] key = None
held (object ∷ objects) key = if key_eq object.key key then Some object.bytes.items else held objects key

-- the objects with the key
abbrev pub with_key : KeyNames → List MemObject → List MemObject
with_key key = filter (λ object. key_eq object.key key)

-- the objects with other keys
abbrev pub without : KeyNames → List MemObject → List MemObject
without key = filter (λ object. not (key_eq object.key key))

-- an object, other than those at a key that it leaves, can't stand beside one at the key
abbrev pub is_crossed : KeyNames → KeyNames → List MemObject → Bool
is_crossed left key = list_any (λ object. not (key_eq object.key left) && crosses key object.key)

-- an object at the one key that is to go to the other can't stand there beside the other objects
abbrev pub is_move_crossed : KeyNames → KeyNames → List MemObject → Bool
is_move_crossed from to objects = is_some (held objects from) && is_crossed from to objects

-- the first of some objects, with the key, and then the others
abbrev pub first_at : KeyNames → List MemObject → List MemObject → List MemObject
first_at key [] others = others
first_at key (object ∷ objects) others = (record object { key = key }) ∷ others

-- the object at one key, if there is one, has the other, in place of any there
abbrev pub renamed : KeyNames → KeyNames → List MemObject → List MemObject
renamed from to objects = if is_some (held objects from) then first_at to (with_key from objects) (without to (without from objects)) else objects

-- the object, where it is wanted and its key stands before that of the other
abbrev pub better : (KeyNames → Bool) → Option MemObject → MemObject → Option MemObject
better is_wanted None object = if is_wanted object.key then Some object else None
better is_wanted (Some found) object = if is_wanted object.key && key_lt object.key found.key then Some object else Some found

-- the first of the wanted objects by their keys, among one that was found and these
abbrev pub first_wanted : (KeyNames → Bool) → Option MemObject → List MemObject → Option MemObject
first_wanted is_wanted found [] = found
first_wanted is_wanted found (object ∷ objects) = first_wanted is_wanted (better is_wanted found object) objects

-- the key and the length of an object
abbrev pub found_as : MemObject → KeyNames × ℕ
found_as object = (object.key, length object.bytes.items)
