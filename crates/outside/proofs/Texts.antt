-- Texts that are equal one by one.
use Rattle.std.proofs.Common.{◌≡◌, ◌∷◌, [], List, ℕ, map, refl}
use Rattle.std.specs.List.{AllZip}

-- copies whose texts are equal have equal texts in the same order
pub same_texts : {A : Type 0} (text : A → List ℕ) (xs ys : List A) → AllZip (λ x y. text y ≡ text x) xs ys → map text ys ≡ map text xs
same_texts text [] [] e = refl
same_texts text [] (y ∷ ys) e = absurd e
same_texts text (x ∷ xs) [] e = absurd e
same_texts text (x ∷ xs) (y ∷ ys) e = λ i. e.0 i ∷ same_texts text xs ys e.1 i

-- so it is with lists of texts
pub same_lists : {A V : Type 0} (text : A → List ℕ) (items : V → List A) (More : V → V → Type 0) (xs ys : List V) → AllZip (λ x y. AllZip (λ s t. text t ≡ text s) (items x) (items y) × More x y) xs ys → map (λ x. map text (items x)) ys ≡ map (λ x. map text (items x)) xs
same_lists text items More [] [] e = refl
same_lists text items More [] (y ∷ ys) e = absurd e
same_lists text items More (x ∷ xs) [] e = absurd e
same_lists text items More (x ∷ xs) (y ∷ ys) e = λ i. same_texts text (items x) (items y) e.0.0 i ∷ same_lists text items More xs ys e.1 i
