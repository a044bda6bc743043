-- Reading names one after the other, as a loop does.
use Rattle.std.proofs.Common.{◌≡◌, ℕ, ◌+◌, ◌<◌, ◌≤◌, true, false, List, [], ◌∷◌, ◌++◌, length, drop, get_or, Result, Ok, Err, refl, sym, ap, ◌∙◌, append_assoc}
use Rattle.std.proofs.lemmas.List.{append-nil, drop_more, drop_all}
use Rattle.std.specs.Borrow.{Bor}
use Rattle.fs_model.specs.declared.path.PathFault.{PathFault}
use Rattle.fs_model.specs.declared.path.PathFault.TheVariants.{BadName}
use Rattle.fs_model.specs.PathForm.{is_name}
use Rattle.fs_model.specs.PathText.{onto, names_of, slices}

-- what was read before, and what is still read
abbrev pub with_front : List (List ℕ) → Result (List (List ℕ)) PathFault → Result (List (List ℕ)) PathFault
with_front front (Ok ns) = Ok (front ++ ns)
with_front front (Err e) = Err e

regroup : (front : List (List ℕ)) (n : List ℕ) (read : Result (List (List ℕ)) PathFault) → with_front front (onto n read) ≡ with_front (front ++ n ∷ []) read
regroup front n (Ok ns) = ap (λ (x : List (List ℕ)). Ok x) (sym (append_assoc front (n ∷ []) ns))
regroup front n (Err e) = refl

-- the slices that are left, as lists
abbrev pub left : ℕ → List (Bor (List ℕ)) → List (List ℕ)
left i bs = slices (drop i bs)

-- a part that is a name is read
pub goes_on : (front : List (List ℕ)) (bs : List (Bor (List ℕ))) (i : ℕ) (d : Bor (List ℕ)) (n : List ℕ) (total : Result (List (List ℕ)) PathFault) → i < length bs → n ≡ (get_or bs i d).now → is_name n ≡ true
    → with_front front (names_of i (left i bs)) ≡ total → with_front (front ++ n ∷ []) (names_of (i + 1) (left (i + 1) bs)) ≡ total
unfolding names_of
goes_on front bs i d n total lt at good so_far =
    let one : with_front front (names_of i (left i bs)) ≡ with_front (front ++ n ∷ []) (names_of (i + 1) (left (i + 1) bs)) = rw (drop_more bs i d lt, ← at, good) (regroup front n (names_of (i + 1) (left (i + 1) bs))) in
    sym one ∙ so_far

-- a part that is none is the fault
pub stops : (front : List (List ℕ)) (bs : List (Bor (List ℕ))) (i : ℕ) (d : Bor (List ℕ)) (total : Result (List (List ℕ)) PathFault) → i < length bs → is_name (get_or bs i d).now ≡ false
    → with_front front (names_of i (left i bs)) ≡ total → total ≡ Err (BadName i)
unfolding names_of
stops front bs i d total lt bad so_far =
    let one : with_front front (names_of i (left i bs)) ≡ Err (BadName i) = rw (drop_more bs i d lt, bad) refl in
    sym so_far ∙ one

-- at the end each part was read
pub is_done : (front : List (List ℕ)) (bs : List (Bor (List ℕ))) (i : ℕ) (total : Result (List (List ℕ)) PathFault) → length bs ≤ i
    → with_front front (names_of i (left i bs)) ≡ total → total ≡ Ok front
unfolding names_of
is_done front bs i total le so_far =
    let one : with_front front (names_of i (left i bs)) ≡ Ok front = rw (drop_all i bs le) (ap (λ (x : List (List ℕ)). Ok x) (append-nil front)) in
    sym so_far ∙ one
