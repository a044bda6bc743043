-- How a run of calls goes on, and what the images of its moments are.
use Rattle.std.proofs.Common.{◌≡◌, ℕ, ◌≤◌, ◌<◌, Bool, true, false, List, [], ◌∷◌, ◌++◌, length, drop, refl, sym, ◌∙◌, ap, subst, arith, append_assoc}
use Rattle.std.proofs.lemmas.List.{ext_get_or}
use Rattle.std.proofs.lemmas.List.Prefix.{front_from_reads, front_reads, front_fits}
use Rattle.outside.specs.History.{Moment, History, IsOutside, IsImage, Each, Since, Images, Leaves, moments, greatest_end}
use Rattle.journal_disk.specs.Areas.{first_of, second_of}

-- each image of the moment has Q
abbrev pub Sees : (List ℕ → Type 0) → Moment → Type 0
Sees Q m = (c : List ℕ) → IsImage m c → Q c

-- ---- runs
pub started : (s : History) (P : Moment → Type 0) → P s.now → Since s s P
started s P here = record { front = []; goes_on = refl; start = here; each = tt }

pub one_more : (s0 s : History) (P : Moment → Type 0) (m : Moment) → Since s0 s P → P m → Since s0 (record { now = m; past = s.now ∷ s.past }) P
one_more s0 s P m so_far here = record {
  front = m ∷ so_far.front;
  goes_on = ap (λ (l : List Moment). m ∷ l) so_far.goes_on;
  start = so_far.start;
  each = (here, so_far.each);
}

each_map : (P R : Moment → Type 0) → ((m : Moment) → P m → R m) → (ms : List Moment) → Each P ms → Each R ms
each_map P R f [] all = tt
each_map P R f (m ∷ ms) all = (f m all.0, each_map P R f ms all.1)

pub since_map : (P R : Moment → Type 0) (s x : History) → ((m : Moment) → P m → R m) → Since s x P → Since s x R
since_map P R s x f since = record {
  front = since.front;
  goes_on = since.goes_on;
  start = f s.now since.start;
  each = each_map P R f since.front since.each;
}

each_append : (P : Moment → Type 0) (xs ys : List Moment) → Each P xs → Each P ys → Each P (xs ++ ys)
each_append P [] ys l r = r
each_append P (x ∷ xs) ys l r = (l.0, each_append P xs ys l.1 r)

-- a run and then another
pub since_then : (s x y : History) (P : Moment → Type 0) → Since s x P → Since x y P → Since s y P
since_then s x y P a b = record {
  front = b.front ++ a.front;
  goes_on = b.goes_on ∙ ap (λ (l : List Moment). b.front ++ l) a.goes_on ∙ sym (append_assoc b.front a.front (moments s));
  start = a.start;
  each = each_append P b.front a.front b.each a.each;
}

-- the one disk went on, the other stood still
pub leaves_side : (side : Bool) (Q : List ℕ → Type 0) (P : List ℕ → List ℕ → Type 0) (s x u : History) → Since s x (Sees Q) → ((c d : List ℕ) → Q c → IsImage u.now d → P (first_of side c d) (second_of side c d)) → Leaves (first_of side s u) (first_of side x u) (second_of side s u) (second_of side x u) P
leaves_side false Q P s x u since both = since_map (Sees Q) (λ m. Since u u (λ n. Images P m n)) s x (λ m sees. started u (λ n. Images P m n) (λ a b i j. both a b (sees a i) j)) since
leaves_side true Q P s x u since both = started u (λ m. Since s x (λ n. Images P m n)) (since_map (Sees Q) (λ n. Images P u.now n) s x (λ n sees. λ a b i j. both b a (sees b j) i) since)

-- ---- images
-- a front that no write touched stands in each image
pub front_stands : (m : Moment) (c front rest : List ℕ) → IsImage m c → m.synced ≡ front ++ rest → ((place : ℕ) → place < length front → IsOutside m.written place) → c ≡ front ++ drop (length front) c
front_stands m c front rest image is outside =
    let fits : length front ≤ length m.synced = front_fits m.synced front rest is in
    front_from_reads 0 c front (omega (arith, fits, image.no_shorter))
    (λ i l. image.kept i (omega (arith, l, fits)) (outside i l) ∙ front_reads 0 m.synced front rest is i l)

-- the only image of a moment with no write since the sync
pub only_synced : (m : Moment) (c : List ℕ) → m.written ≡ [] → IsImage m c → c ≡ m.synced
only_synced m c none image =
    let no_longer : length c ≤ length m.synced = subst (λ (l : List (ℕ × ℕ)). length c ≤ greatest_end l (length m.synced)) none image.no_longer in
    ext_get_or 0 c m.synced (omega (arith, no_longer, image.no_shorter))
    (λ i l. image.kept i (omega (arith, l, no_longer)) (subst (λ (l : List (ℕ × ℕ)). IsOutside l i) (sym none) tt))
