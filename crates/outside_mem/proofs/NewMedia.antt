-- New stores, one for each name.
use Rattle.std.proofs.Common.{◌≡◌, ◌<◌, ◌+◌, ℕ, suc, List, [], ◌∷◌, ◌++◌, length, map, drop, get_or, refl, sym, ap, ◌∙◌, append_assoc, subst, arith}
use Rattle.std.specs.List.{All, AllZip}
use Rattle.std.proofs.lemmas.List.{drop_more, map-append}
use Rattle.std.proofs.lemmas.List.Elements.{All-push}
use Rattle.outside.specs.Shelf.{EachNamed, HasShape, NameLists}
use Rattle.outside.specs.declared.media.Media.{Media}
use Rattle.outside_mem.specs.Named.{IsNew}
use Rattle.outside_mem.specs.declared.disk.MemDisk.{MemDisk}
use Rattle.outside_mem.specs.declared.store.MemObjects.{MemObjects}

-- one more list of the length of the next
pub lens_on : {V W : Type 0} (f : V → ℕ) (g : W → ℕ) (vs : List V) (v : V) (pushed : List V) (ws : List W) (i : ℕ) (d : W) (all : List ℕ) → pushed ≡ vs ++ v ∷ [] → i < length ws → f v ≡ g (get_or ws i d) → map f vs ++ map g (drop i ws) ≡ all → map f pushed ++ map g (drop (i + 1) ws) ≡ all
lens_on f g vs v pushed ws i d all p h e before =
    let next = rw (drop_more ws i d h) at before in
    ap (λ vs. map f vs ++ map g (drop (i + 1) ws)) p ∙ ap (λ front. front ++ map g (drop (i + 1) ws)) (map-append f vs (v ∷ [])) ∙ append_assoc (map f vs) (f v ∷ []) (map g (drop (i + 1) ws)) ∙ ap (λ n. map f vs ++ n ∷ map g (drop (i + 1) ws)) e ∙ next

pub all_pushed : {X : Type 0} (P : X → Type 0) (xs : List X) (x : X) (pushed : List X) → pushed ≡ xs ++ x ∷ [] → All P xs → P x → All P pushed
all_pushed P xs x pushed p all one = subst (All P) (sym p) (All-push P xs x all one)

-- ---- relations from lengths, and lengths from relations

zip_new : (names : List (List ℕ)) (stores : List MemObjects) → length stores ≡ length names → All IsNew stores → AllZip (λ name. IsNew) names stores
zip_new [] [] e new = tt
zip_new [] (store ∷ stores) e new = absurd (omega (arith, e))
zip_new (name ∷ names) [] e new = absurd (omega (arith, e))
zip_new (name ∷ names) (store ∷ stores) e new = (new 0 store (omega arith), zip_new names stores (omega (arith, e)) (λ k d l. new (suc k) d (omega (arith, l))))

zip_new_tiers : {V : Type 0} (items : V → List MemObjects) (workers : List (List (List ℕ))) (tiers : List V) → map (λ own. length (items own)) tiers ≡ map length workers → All (λ own. All IsNew (items own)) tiers → AllZip (λ worker own. AllZip (λ name. IsNew) worker (items own)) workers tiers
zip_new_tiers items [] [] e new = tt
zip_new_tiers items [] (own ∷ tiers) e new = cc
zip_new_tiers items (worker ∷ workers) [] e new = cc
zip_new_tiers items (worker ∷ workers) (own ∷ tiers) e new =
    let first : length (items own) ≡ length worker = cc in
    let rest : map (λ own. length (items own)) tiers ≡ map length workers = cc in
    (zip_new worker (items own) first (new 0 own (omega arith)), zip_new_tiers items workers tiers rest (λ k d l. new (suc k) d (omega (arith, l))))

pub each_new : (names : NameLists) (media : Media MemDisk MemObjects) → HasShape names media → All IsNew media.stores.items → All (λ own. All IsNew own.items) media.tiers.items → EachNamed (λ name. IsNew) names media
each_new names media shape stores tiers = record {
  stores = zip_new names.stores media.stores.items shape.stores stores;
  tiers = zip_new_tiers (λ own. own.items) names.tiers media.tiers.items shape.tiers tiers;
}

zip_len : {A B : Type 0} (R : A → B → Type 0) (xs : List A) (ys : List B) → AllZip R xs ys → length ys ≡ length xs
zip_len R [] [] z = refl
zip_len R [] (y ∷ ys) z = absurd z
zip_len R (x ∷ xs) [] z = absurd z
zip_len R (x ∷ xs) (y ∷ ys) z = ap suc (zip_len R xs ys z.1)

zip_lens : {A B V : Type 0} (R : A → B → Type 0) (items : V → List B) (xs : List (List A)) (vs : List V) → AllZip (λ x v. AllZip R x (items v)) xs vs → map (λ v. length (items v)) vs ≡ map length xs
zip_lens R items [] [] z = refl
zip_lens R items [] (v ∷ vs) z = absurd z
zip_lens R items (x ∷ xs) [] z = absurd z
zip_lens R items (x ∷ xs) (v ∷ vs) z = λ i. zip_len R x (items v) z.0 i ∷ zip_lens R items xs vs z.1 i

pub shape_of : {D S : Type 0} (R : List ℕ → S → Type 0) (names : NameLists) (media : Media D S) → EachNamed R names media → HasShape names media
shape_of R names media each = record {
  stores = zip_len R names.stores media.stores.items each.stores;
  tiers = zip_lens R (λ own. own.items) names.tiers media.tiers.items each.tiers;
}
