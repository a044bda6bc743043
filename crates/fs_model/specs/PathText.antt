-- How the text of a path is read.
use Rattle.std.specs.Prelude.{ℕ, ◌+◌, ◌≡◌, ◌==◌, nat_lt, List, [], ◌∷◌, length, map, Result, Ok, Err, if◌then◌else◌}
use Rattle.std.specs.List.{slice_split}
use Rattle.std.specs.Borrow.{Bor}
use Rattle.fs_model.specs.PathForm.{is_name}
use Rattle.fs_model.specs.declared.path.PathFault.{PathFault}
use Rattle.fs_model.specs.declared.path.PathFault.TheVariants.{TooLong, BadName, Memory}

-- a name before the names that were read
abbrev pub onto : List ℕ → Result (List (List ℕ)) PathFault → Result (List (List ℕ)) PathFault
onto n (Ok ns) = Ok (n ∷ ns)
onto n (Err e) = Err e

-- the names that these parts are, or the place of the first that is none
unfoldable pub names_of : ℕ → List (List ℕ) → Result (List (List ℕ)) PathFault
names_of place [] = Ok []
names_of place (p ∷ ps) = if is_name p then onto p (names_of (place + 1) ps) else Err (BadName place)

-- slices as lists
abbrev pub slices : List (Bor (List ℕ)) → List (List ℕ)
slices bs = map (λ b. b.now) bs

-- the parts of a text, cut at each byte b
abbrev pub parts_at : ℕ → List ℕ → List (List ℕ)
parts_at b text = slice_split (λ x. x == b) text

-- the path of a text that isn't too long: `/`, or a slash and parts that are names
abbrev pub spelled : List ℕ → Result (List (List ℕ)) PathFault
spelled [] = Err (BadName 0)
spelled (b ∷ []) = if b == 47 then Ok [] else Err (BadName 0)
spelled (b ∷ c ∷ rest) = if b == 47 then names_of 0 (parts_at 47 (c ∷ rest)) else Err (BadName 0)

-- the path that a text spells, or its first fault
abbrev pub read_path : List ℕ → Result (List (List ℕ)) PathFault
read_path text = if nat_lt 4096 (length text) then Err TooLong else spelled text

-- a fault is the one that reading gives; want of memory is free
abbrev pub Fails : {Y : Type 0} → PathFault → Result Y PathFault → Type 0
Fails Memory read = Unit {0}
Fails TooLong read = read ≡ Err TooLong
Fails (BadName n) read = read ≡ Err (BadName n)

-- what a function found is what reading gives, unless memory ran out
abbrev pub Gives : {X Y : Type 0} → (X → Y) → Result X PathFault → Result Y PathFault → Type 0
Gives view (Ok x) read = read ≡ Ok (view x)
Gives view (Err e) read = Fails e read
