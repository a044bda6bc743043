-- Readers that read just the texts of some values, and how two of them make a third.
use Rattle.std.proofs.Common.{◌≡◌, ℕ, suc, ◌+◌, ◌<◌, Bool, true, false, cond, ◌&&◌, List, [], ◌∷◌, ◌++◌, length, get_or, take, drop, Option, Some, None, refl, sym, ap, subst, ◌∙◌, append_assoc, arith, inl, inr, eqb}
use Rattle.std.proofs.lemmas.Bool.{cases_lt, eqb-true}
use Rattle.std.proofs.lemmas.List.{append-nil, nil_from_length, get_or-drop, get_or-take, get_or_past, length-take}
use Rattle.journal_entry.specs.declared.entry.Entry.{Entry}
use Rattle.journal_entry.specs.Reading.{Reader, ◌>>=◌, ◌then◌, tested, meaning, whole}

-- each is a byte
abbrev pub IsBytes : List ℕ → Type 0
IsBytes bytes = (i : ℕ) → get_or bytes i 0 < 256

pub IsBytes-drop : (n : ℕ) (bytes : List ℕ) → IsBytes bytes → IsBytes (drop n bytes)
IsBytes-drop n bytes h i = rw get_or-drop (h (n + i))

pub IsBytes-take : (n : ℕ) (bytes : List ℕ) → IsBytes bytes → IsBytes (take n bytes)
IsBytes-take n bytes h i =
    elim (cases_lt i n) [
      | inl lt ↦ rw (get_or-take n bytes i 0 lt) (h i)
      | inr le ↦ rw (get_or_past (take n bytes) i 0 (omega (arith, length-take n bytes))) (omega arith)
    ]

pub IsBytes-rest : (b : ℕ) (bytes : List ℕ) → IsBytes (b ∷ bytes) → IsBytes bytes
IsBytes-rest b bytes h i = h (suc i)

-- ---- steps

-- the value of a step that found something
pub bind_some : {A B : Type 0} (o : Option A) (f : A → Option B) (y : B) → (o >>= f) ≡ Some y → (x : A) × (o ≡ Some x) × (f x ≡ Some y)
bind_some (Some x) f y e = (x, refl, e)
bind_some None f y e = absurd cc

-- what a test let through
pub let_through : {A : Type 0} (b : Bool) (x y : A) → cond b (Some x) None ≡ Some y → (b ≡ true) × (x ≡ y)
let_through true x y e = (refl, cc)
let_through false x y e = absurd cc

-- what a test kept out
pub kept_out : {A : Type 0} (b : Bool) (x y : A) → cond b None (Some x) ≡ Some y → (b ≡ false) × (x ≡ y)
kept_out true x y e = absurd cc
kept_out false x y e = (refl, cc)

abbrev some : {A : Type 0} → A → Option A
some x = Some x

pub some_is : {A : Type 0} (x y : A) → some x ≡ some y → x ≡ y
some_is x y e = cc

pub first_true : (a b : Bool) → (a && b) ≡ true → a ≡ true
first_true true b h = refl
first_true false b h = cc

pub second_true : (a b : Bool) → (a && b) ≡ true → b ≡ true
second_true true b h = h
second_true false b h = cc

pub both : (a b : Bool) → a ≡ true → b ≡ true → (a && b) ≡ true
both true b h k = k
both false b h k = h

-- ---- readers

-- what a reader took from the front
pub record Takes (bytes text rest : List ℕ) : Type 0 where
  pub parts : bytes ≡ text ++ rest
  pub rest_fits : IsBytes rest

pub Takes-then : (a x b y c : List ℕ) → Takes a x b → Takes b y c → Takes a (x ++ y) c
Takes-then a x b y c p q = record { parts = p.parts ∙ ap (λ (t : List ℕ). x ++ t) q.parts ∙ sym (append_assoc x y c); rest_fits = q.rest_fits }

-- a reader reads the texts of these values, and nothing else
pub record Reads (X : Type 0) (text : X → List ℕ) (Is : X → Type 0) (read : Reader X) : Type 0 where
  pub takes : (bytes : List ℕ) (x : X) (rest : List ℕ) → IsBytes bytes → read bytes ≡ Some (x, rest) → Takes bytes (text x) rest × Is x
  pub again : (x : X) (rest : List ℕ) → Is x → read (text x ++ rest) ≡ Some (x, rest)

pub then_reads : {X Y : Type 0} {t : X → List ℕ} {I : X → Type 0} {r : Reader X} {u : Y → List ℕ} {J : Y → Type 0} {s : Reader Y}
    → Reads X t I r → Reads Y u J s → Reads (X × Y) (λ x. t x.0 ++ u x.1) (λ x. I x.0 × J x.1) (r then s)
then_reads {X = X} {Y = Y} {t = t} {I = I} {r = r} {u = u} {J = J} {s = s} p q = record {
  takes = λ bytes x rest fits e.
      let a = bind_some (r bytes) (λ x. s x.1 >>= λ y. Some ((x.0, y.0), y.1)) (x, rest) e in
      let b = bind_some (s a.0.1) (λ y. Some ((a.0.0, y.0), y.1)) (x, rest) a.2 in
      let one = p.takes bytes a.0.0 a.0.1 fits a.1 in
      let two = q.takes a.0.1 b.0.0 b.0.1 one.0.rest_fits b.1 in
      subst (λ (z : (X × Y) × List ℕ). Takes bytes (t z.0.0 ++ u z.0.1) z.1 × (I z.0.0 × J z.0.1)) (some_is ((a.0.0, b.0.0), b.0.1) (x, rest) b.2)
      (Takes-then bytes (t a.0.0) a.0.1 (u b.0.0) b.0.1 one.0 two.0, (one.1, two.1));
  again = λ x rest h. ap (r then s) (append_assoc (t x.0) (u x.1) rest) ∙ rw (p.again x.0 (u x.1 ++ rest) h.0, q.again x.1 rest h.1) refl;
}

pub tested_reads : {X : Type 0} {t : X → List ℕ} {I : X → Type 0} {r : Reader X} (test : X → Bool) → Reads X t I r → Reads X t (λ x. I x × (test x ≡ true)) (tested test r)
tested_reads {X = X} {t = t} {I = I} {r = r} test p = record {
  takes = λ bytes x rest fits e.
      let a = bind_some (r bytes) (λ x. cond (test x.0) (Some x) None) (x, rest) e in
      let g = let_through (test a.0.0) a.0 (x, rest) a.2 in
      let one = p.takes bytes a.0.0 a.0.1 fits a.1 in
      subst (λ (z : X × List ℕ). Takes bytes (t z.0) z.1 × (I z.0 × (test z.0 ≡ true))) g.1 (one.0, (one.1, g.0));
  again = λ x rest h. rw (p.again x rest h.0, h.1) refl;
}

-- what is read stands for something else
pub record Means (X Y : Type 0) (text : X → List ℕ) (Is : X → Type 0) (of : X → Option Y) (words : Y → List ℕ) (IsOf : Y → Type 0) : Type 0 where
  pub found : (x : X) (y : Y) → Is x → of x ≡ Some y → (text x ≡ words y) × IsOf y
  pub again : (y : Y) → IsOf y → (x : X) × Is x × (of x ≡ Some y) × (text x ≡ words y)

pub meaning_reads : {X Y : Type 0} {t : X → List ℕ} {I : X → Type 0} {r : Reader X} {of : X → Option Y} {u : Y → List ℕ} {J : Y → Type 0}
    → Reads X t I r → Means X Y t I of u J → Reads Y u J (meaning of r)
meaning_reads {X = X} {Y = Y} {t = t} {I = I} {r = r} {of = of} {u = u} {J = J} p m = record {
  takes = λ bytes y rest fits e.
      let a = bind_some (r bytes) (λ x. of x.0 >>= λ y. Some (y, x.1)) (y, rest) e in
      let b = bind_some (of a.0.0) (λ y. Some (y, a.0.1)) (y, rest) a.2 in
      let one = p.takes bytes a.0.0 a.0.1 fits a.1 in
      let two = m.found a.0.0 b.0 one.1 b.1 in
      subst (λ (z : Y × List ℕ). Takes bytes (u z.0) z.1 × J z.0) (some_is (b.0, a.0.1) (y, rest) b.2)
      (record { parts = one.0.parts ∙ ap (λ (w : List ℕ). w ++ a.0.1) two.0; rest_fits = one.0.rest_fits }, two.1);
  again = λ y rest h.
      let x = m.again y h in
      ap (λ (w : List ℕ). meaning of r (w ++ rest)) (sym x.3) ∙ rw (p.again x.0 rest x.1, x.2) refl;
}

-- ---- all of the bytes

pub whole_found : {X : Type 0} {t : X → List ℕ} {I : X → Type 0} {r : Reader X} (make : X → Entry) → Reads X t I r → (bytes : List ℕ) (e : Entry) → IsBytes bytes → whole make r bytes ≡ Some e
    → (x : X) × (bytes ≡ t x) × I x × (make x ≡ e)
whole_found {t = t} {r = r} make p bytes e fits h =
    let a = bind_some (r bytes) (λ x. cond (eqb (length x.1) 0) (Some (make x.0)) None) e h in
    let g = let_through (eqb (length a.0.1) 0) (make a.0.0) e a.2 in
    let one = p.takes bytes a.0.0 a.0.1 fits a.1 in
    let none : a.0.1 ≡ [] = nil_from_length a.0.1 (eqb-true (length a.0.1) 0 g.0) in
    (a.0.0, one.0.parts ∙ ap (λ (w : List ℕ). t a.0.0 ++ w) none ∙ append-nil (t a.0.0), one.1, g.1)

pub whole_again : {X : Type 0} {t : X → List ℕ} {I : X → Type 0} {r : Reader X} (make : X → Entry) → Reads X t I r → (x : X) → I x → whole make r (t x) ≡ Some (make x)
whole_again {t = t} {r = r} make p x h =
    ap (whole make r) (sym (append-nil (t x))) ∙ rw (p.again x [] h) refl
