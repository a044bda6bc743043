-- Closing a head gate.
use Rattle.std.proofs.Common.{◌≡◌, ◌⊎◌, inl, inr, ⊎_elim, ℕ, suc, ◌≤◌, ◌<◌, List, [], ◌∷◌, length, drop, get_or, max, None, Bool, false, refl, sym, ◌∙◌, ap, subst, arith, length-drop}
use Rattle.std.specs.Prelude.{nat_eq}
use Rattle.std.proofs.lemmas.List.{ext_get_or, get_or-drop}
use Rattle.std.proofs.lemmas.Bool.{cases_eq, cases_lt, lt-leb}
use Rattle.std.proofs.lemmas.Bool.Decides.{nat_tests}
use Rattle.outside.specs.History.{History, IsOutside, after_write, after_sync, greatest_end}
use Rattle.journal_disk.specs.AreaText.{head_of, is_shut}
use Rattle.journal_disk.specs.Closing.{IsKnown, KeepsHead}
use Rattle.journal_disk.proofs.Moments.{Sees, only_synced}
use Rattle.journal_disk.proofs.Shut.{shut_head}

-- ---- the test of a head gate
open_or_none : (bytes : List ℕ) → is_shut bytes ≡ false → (length bytes ≡ 0) ⊎ (get_or bytes 0 0 ≡ 0 → ⊥)
open_or_none [] is = inl refl
open_or_none (gate ∷ bytes) is = inr (apart gate is)
  where
    apart : (x : ℕ) → nat_eq x 0 ≡ false → x ≡ 0 → ⊥
    apart x test zero = grind (arith, nat_tests)

-- ---- images under another first byte
-- the same bytes behind another first one
pub same_rest : (b c : List ℕ) → length c ≡ length b → 1 ≤ length b → ((place : ℕ) → place < length b → 1 ≤ place → get_or c place 0 ≡ get_or b place 0) → c ≡ get_or c 0 0 ∷ drop 1 b
same_rest b [] same long kept = absurd (omega (arith, same, long))
same_rest b (x ∷ c) same long kept = ap (λ (l : List ℕ). x ∷ l) (ext_get_or 0 c (drop 1 b) (omega (arith, same, length-drop 1 b))
    (λ i lt. kept (suc i) (omega (arith, lt, same)) (omega arith) ∙ ap (λ (k : ℕ). get_or b k 0) (omega arith) ∙ sym (get_or-drop 1 b i 0)))

-- another open gate keeps the head
same_head : (x y : ℕ) (l : List ℕ) → (x ≡ 0 → ⊥) → (y ≡ 0 → ⊥) → head_of (x ∷ l) ≡ head_of (y ∷ l)
unfolding head_of
same_head x y l nx ny =
    let ex : nat_eq x 0 ≡ false = grind (arith, nat_tests) in
    let ey : nat_eq y 0 ≡ false = grind (arith, nat_tests) in
    rw (ex, ey) refl

short_head : (c : List ℕ) → length c < 10 → head_of c ≡ None
unfolding head_of
short_head c short = rw (lt-leb 10 (length c) short) refl

-- an image while the head gate is closed by a write
closing : (bytes c : List ℕ) → (length bytes ≡ 0) ⊎ (get_or bytes 0 0 ≡ 0 → ⊥) → length bytes ≤ length c → length c ≤ max 1 (length bytes) → ((place : ℕ) → place < length bytes → 1 ≤ place → get_or c place 0 ≡ get_or bytes place 0) → KeepsHead bytes c
closing bytes c was no_shorter no_longer kept = ⊎_elim (λ (short : length c < 10). inl (short_head c short)) (λ le. long le was) (cases_lt (length c) 10)
  where
    long : 10 ≤ length c → (length bytes ≡ 0) ⊎ (get_or bytes 0 0 ≡ 0 → ⊥) → KeepsHead bytes c
    long le (inl empty) = absurd (omega (arith, le, empty, no_longer))
    long le (inr is_open) =
        let same : length c ≡ length bytes = omega (arith, le, no_shorter, no_longer) in
        let here : c ≡ get_or c 0 0 ∷ drop 1 bytes = same_rest bytes c same (omega (arith, le, same)) kept in
        let there : bytes ≡ get_or bytes 0 0 ∷ drop 1 bytes = same_rest bytes bytes refl (omega (arith, le, same)) (λ place lt one. refl) in
        ⊎_elim (λ (shut : get_or c 0 0 ≡ 0). inl (shut_head c shut))
        (λ apart. inr (ap head_of here ∙ same_head (get_or c 0 0) (get_or bytes 0 0) (drop 1 bytes) apart is_open ∙ ap head_of (sym there))) (cases_eq (get_or c 0 0) 0)

-- ---- what closing leaves
pub sees_closing : (s : History) (held : List ℕ) → IsKnown false s.now → Sees (KeepsHead s.now.held) (after_write 0 1 held s).now
sees_closing s held known c image =
    let same = known.rest.same in
    let long : length s.now.held ≤ length c = omega (arith, ap length same, image.no_shorter) in
    let short : length c ≤ max 1 (length s.now.held) = subst (λ (l : List (ℕ × ℕ)). length c ≤ max 1 (greatest_end l (length s.now.held))) known.rest.none
    (subst (λ (l : List ℕ). length c ≤ max 1 (greatest_end s.now.written (length l))) same image.no_longer) in
    closing s.now.held c (open_or_none s.now.held known.closed) long short
    (λ place lt one. image.kept place (omega (arith, lt, ap length same)) (inr (omega (arith, one)), subst (λ (l : List (ℕ × ℕ)). IsOutside l place) (sym known.rest.none) tt) ∙ ap (λ (l : List ℕ). get_or l place 0) same)

pub sees_known : (shut : Bool) (s : History) → IsKnown shut s.now → Sees (KeepsHead s.now.held) s.now
sees_known shut s known c image = inr (ap head_of (only_synced s.now c known.rest.none image ∙ known.rest.same))

pub sees_held : (s : History) (bytes : List ℕ) → KeepsHead bytes s.now.held → Sees (KeepsHead bytes) (after_sync s).now
sees_held s bytes keeps c image = subst (λ (l : List ℕ). KeepsHead bytes l) (sym (only_synced (after_sync s).now c refl image)) keeps
