-- The opening of a core: lists that move into workers, and the numbers of a setup.
use Rattle.std.proofs.Common.{take, drop, nat_le, ◌^◌, ◌≡◌, ℕ, ◌+◌, ◌<◌, ◌≤◌, true, List, [], ◌∷◌, ◌++◌, map, length, refl, sym, ap, ◌∙◌, subst, arith}
use Rattle.std.proofs.lemmas.List.{length-append, length-map, length-take}
use Rattle.std.proofs.lemmas.Bool.{leb-true}
use Rattle.fs_model.specs.declared.setup.Setup.{Setup}
use Rattle.fs_model.specs.Spelled.{is_setup, is_within}
use Rattle.outside.specs.declared.media.Media.{Media}
use Rattle.std.specs.Global.{Vec}
use Rattle.std.specs.List.{All}
use Rattle.std.proofs.lemmas.List.Elements.{All-nil, All-cons, All-tail, All-append}
use Rattle.tier_book.specs.Rows.{BookView}
use Rattle.cluster_core.specs.Begun.{MediaFit, fresh_book, FitBooks, Moved, IsUnreserved, tier_counts}
use Rattle.cluster_core.proofs.Places.{first_is, second_is}
use Rattle.cluster_core.specs.declared.node.Node.{Node}

-- ---- lists

-- lists of which the parts are as many as numbers say are empty where the others are
pub none_of_none : {X : Type 0} (size : X → ℕ) (xs : List X) → map size xs ≡ [] → xs ≡ []
none_of_none size [] e = refl
none_of_none size (x ∷ xs) e = absurd (cc)

module _ {S : Type 0} where
  -- what fits still fits without the first
  pub rest_fits : (books : List BookView) (tiers : List (Vec S)) (b : BookView) (left : List BookView) (t : Vec S) (rest : List (Vec S)) → books ≡ b ∷ left → tiers ≡ t ∷ rest → FitBooks books tiers → FitBooks left rest
  rest_fits books tiers b left t rest is are f =
      let sizes : tier_counts (t ∷ rest) ≡ map (λ (x : BookView). length x.sizes) (b ∷ left) = ap tier_counts (sym are) ∙ f.sizes_fit ∙ ap (map (λ (x : BookView). length x.sizes)) is in
      record { sizes_fit = ap tail sizes; unreserved = All-tail IsUnreserved b left (subst (All IsUnreserved) is f.unreserved) }
    where
      tail : List ℕ → List ℕ
      tail [] = []
      tail (x ∷ xs) = xs

  -- without books there are no tiers
  pub no_tiers : (books : List BookView) (tiers : List (Vec S)) → books ≡ [] → FitBooks books tiers → tiers ≡ []
  no_tiers books tiers is f = none_of_none (λ (v : Vec S). length v.items) tiers (f.sizes_fit ∙ ap (map (λ (x : BookView). length x.sizes)) is)

  -- nothing moved yet
  pub none_moved : (books : List BookView) (tiers : List (Vec S)) (nodes : List (Node S)) → Moved books tiers nodes books tiers nodes
  none_moved books tiers nodes = record { rows_stay = refl; books_stay = refl; tiers_stay = refl }

  -- what moved, and then more
  pub moved_more : (books : List BookView) (tiers : List (Vec S)) (nodes : List (Node S)) (bs : List BookView) (ts : List (Vec S)) (ns : List (Node S)) (cs : List BookView) (us : List (Vec S)) (ms : List (Node S))
      → Moved books tiers nodes bs ts ns → Moved bs ts ns cs us ms → Moved books tiers nodes cs us ms
  moved_more books tiers nodes bs ts ns cs us ms a b = record { rows_stay = b.rows_stay ∙ a.rows_stay; books_stay = b.books_stay ∙ a.books_stay; tiers_stay = b.tiers_stay ∙ a.tiers_stay }

-- one element more
pub one_more : {X : Type 0} (xs : List X) (x : X) (ys : List X) (n : ℕ) → ys ≡ xs ++ x ∷ [] → length xs ≡ n → length ys ≡ n + 1
one_more xs x ys n is count = ap length is ∙ length-append xs (x ∷ []) ∙ ap (λ k. k + 1) count

-- all have P, and so has one more
pub all_more : {X : Type 0} (P : X → Type 0) (xs : List X) (x : X) (ys : List X) → ys ≡ xs ++ x ∷ [] → P x → All P xs → All P ys
all_more P xs x ys is here all = subst (All P) (sym is) (All-append P xs (x ∷ []) all (All-cons P x [] here (All-nil P)))

-- the numbers of a setup
pub block_is : (U : Setup) → is_setup U ≡ true → 0 < U.block
block_is U h =
    let within : is_within 1 67108864 U.block ≡ true = first_is _ _ (first_is _ _ (first_is _ _ (first_is _ _ (first_is _ _ (first_is _ _ h))))) in
    leb-true 1 U.block (first_is (nat_le 1 U.block) (nat_le U.block 67108864) within)

pub block_short : (U : Setup) → is_setup U ≡ true → U.block < 2 ^ 32
block_short U h =
    let within : is_within 1 67108864 U.block ≡ true = first_is _ _ (first_is _ _ (first_is _ _ (first_is _ _ (first_is _ _ (first_is _ _ h))))) in
    let few : U.block ≤ 67108864 = leb-true U.block 67108864 (second_is (nat_le 1 U.block) (nat_le U.block 67108864) within) in
    omega (arith, few)

pub area_is : (U : Setup) → is_setup U ≡ true → U.area ≤ 2 ^ 30
area_is U h =
    let within : is_within 64 1073741824 U.area ≡ true = second_is _ _ (first_is _ _ (first_is _ _ (first_is _ _ (first_is _ _ h)))) in
    leb-true U.area 1073741824 (second_is (nat_le 64 U.area) (nat_le U.area 1073741824) within)

-- books that begin have nothing reserved
all_unreserved : (tiers : List (List ℕ)) → All IsUnreserved (map fresh_book tiers)
all_unreserved [] = All-nil IsUnreserved
all_unreserved (t ∷ tiers) = All-cons IsUnreserved (fresh_book t) (map fresh_book tiers) refl (all_unreserved tiers)

-- the sizes of books that begin
sizes_are : (tiers : List (List ℕ)) → map (λ (x : BookView). length x.sizes) (map fresh_book tiers) ≡ map (λ (sizes : List ℕ). length sizes) tiers
sizes_are [] = refl
sizes_are (t ∷ tiers) = ap (λ l. length t ∷ l) (sizes_are tiers)

module _ {S : Type 0} where
  -- the media fit the books that begin
  pub books_fit : (U : Setup) (tiers : Vec (Vec S)) (books : List BookView) → books ≡ map fresh_book U.tiers → tier_counts tiers.items ≡ map (λ (sizes : List ℕ). length sizes) U.tiers → FitBooks books tiers.items
  books_fit U tiers books is f = record {
    sizes_fit = f ∙ sym (sizes_are U.tiers) ∙ ap (map (λ (x : BookView). length x.sizes)) (sym is);
    unreserved = subst (All IsUnreserved) (sym is) (all_unreserved U.tiers);
  }

  -- as many workers as lists of tiers
  pub moved_count : (books : List BookView) (tiers : List (Vec S)) (nodes : List (Node S)) (bs : List BookView) (ts : List (Vec S)) (more : List (Node S)) → Moved books tiers nodes bs ts more → nodes ≡ [] → ts ≡ [] → length more ≡ length tiers
  moved_count books tiers nodes bs ts more h none gone =
      let a : length (map (λ (n : Node S). n.tiers) more ++ ts) ≡ length (map (λ (n : Node S). n.tiers) nodes ++ tiers) = ap length h.tiers_stay in
      let b : length (map (λ (n : Node S). n.tiers) more ++ ts) ≡ length more = ap (λ l. length (map (λ (n : Node S). n.tiers) more ++ l)) gone ∙ length-append (map (λ (n : Node S). n.tiers) more) [] ∙ omega arith ∙ length-map more (λ (n : Node S). n.tiers) in
      let c : length (map (λ (n : Node S). n.tiers) nodes ++ tiers) ≡ length tiers = ap (λ l. length (map (λ (n : Node S). n.tiers) l ++ tiers)) none in
      sym b ∙ a ∙ c

  -- a list of workers that was written whole has as many
  pub shelf_holds : (n : ℕ) (nodes ws : List (Node S)) (tiers : List (Vec S)) (cap : ℕ) → length nodes ≡ length tiers → n ≡ length nodes → length tiers ≤ cap → length (take n (ws ++ drop (length ws) nodes)) ≤ cap
  shelf_holds n nodes ws tiers cap same len few = omega (arith, length-take n (ws ++ drop (length ws) nodes), same, len, few)
