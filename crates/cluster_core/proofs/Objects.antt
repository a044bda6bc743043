-- The objects in the tiers of a worker after one tier has changed.
use Rattle.std.proofs.Common.{◌≡◌, ℕ, ◌<◌, ◌^◌, true, false, List, [], ◌∷◌, length, Option, Some, None, option_map, if◌then◌else◌, inl, inr, refl, sym, ap, ◌∙◌, subst}
use Rattle.std.specs.Prelude.{⊤, IsSome, IsSomeAnd, slice_get, ◌⊎◌}
use Rattle.std.proofs.lemmas.Bool.{cases_eq}
use Rattle.std.proofs.lemmas.Fmt.{decimal_injective}
use Rattle.std.proofs.lemmas.Option.{same_Some}
use Rattle.outside.specs.Keys.{KeyNames, key_eq}
use Rattle.outside.specs.Contents.{Contents, IsSame, put_at}
use Rattle.outside.specs.declared.objects.Objects as objects
use Rattle.outside.specs.declared.objects.ObjectWrite as writes
use Rattle.outside.proofs.Deciding.{key_same}
use Rattle.cluster_core.specs.Tiers.{ChangesAt, IsPut, IsPutOrNot, Keeps, object_key}
use Rattle.cluster_core.specs.Stands.{HasObject, TierTells}

-- ---- two lists, place by place

-- P of both, or nothing on both sides
abbrev pub BothOr : {X : Type 0} → (X → X → Type 0) → Option X → Option X → Type 0
BothOr P None None = ⊤
BothOr P None (Some y) = ⊥
BothOr P (Some x) None = ⊥
BothOr P (Some x) (Some y) = P x y

module _ {X : Type 0} (P : X → X → Type 0) where
  same_both : ((s : X) → P s s) → (x y : Option X) → y ≡ x → BothOr P x y
  same_both each None y same = subst (BothOr P None) (sym same) tt
  same_both each (Some s) y same = subst (BothOr P (Some s)) (sym same) (each s)

  changed_both : (G : X → X → Type 0) → ((s u : X) → G s u → P s u) → (x y : Option X) → IsSomeAnd x (λ s. IsSomeAnd y (λ u. G s u)) → BothOr P x y
  changed_both G gives None y g = absurd g
  changed_both G gives (Some s) None g = absurd g
  changed_both G gives (Some s) (Some u) g = gives s u g

  -- where one element changes, and P holds of each with itself
  pub each_both : (G : X → X → Type 0) (old new : List X) (i : ℕ) → ChangesAt old new i G → ((s u : X) → G s u → P s u) → ((s : X) → P s s) → (j : ℕ) → BothOr P (slice_get old j) (slice_get new j)
  each_both G old new i change gives each j = elim (cases_eq j i) [
    | inl here ↦ subst (λ k. BothOr P (slice_get old k) (slice_get new k)) (sym here) (changed_both G gives (slice_get old i) (slice_get new i) change.at)
    | inr away ↦ same_both each (slice_get old j) (slice_get new j) (change.others j away)
  ]

-- ---- keys

-- objects of two numbers have two keys
pub other_key : (started n m : ℕ) → n < 2 ^ 64 → m < 2 ^ 64 → (n ≡ m → ⊥) → key_eq (object_key started n) (object_key started m) ≡ false
other_key started n m few fewer differs = elim (key_eq (object_key started n) (object_key started m)) as (λ b. key_eq (object_key started n) (object_key started m) ≡ b → b ≡ false) [
  | true ↦ λ is. absurd (differs (decimal_injective n m few fewer (second (object_key started n) (object_key started m) (key_same (object_key started n) (object_key started m) is))))
  | false ↦ λ isnt. refl
] refl
  where
    last_name : KeyNames → List ℕ
    last_name [] = []
    last_name (a ∷ []) = []
    last_name (a ∷ b ∷ rest) = b

    second : (k l : KeyNames) → k ≡ l → last_name k ≡ last_name l
    second k l same = ap last_name same

module _ {S R W : Type 0} (o : objects.Ghosts S R W) (key : KeyNames) where
  -- what the tier tells at other keys stays
  abbrev pub TierKeeps : S → S → Type 0
  TierKeeps s u = (m : Contents) → o.told s ≡ Some m → (n : Contents) × (o.told u ≡ Some n) × ((k : KeyNames) → key_eq key k ≡ false → n k ≡ m k)

  pub keeps_itself : (s : S) → TierKeeps s s
  keeps_itself s m tells = (m, tells, λ k other. refl)

  -- a tier that tells what it told
  pub keeps_told : (s u : S) → Keeps o s u → TierKeeps s u
  keeps_told s u c m tells = (m, c.told ∙ tells, λ k other. refl)

  -- what is the same as told contents
  pub same_as : (f : Contents → Contents) (m : Contents) (y : Option Contents) → IsSame (Some (f m)) y → (n : Contents) × (y ≡ Some n) × ((k : KeyNames) → n k ≡ f m k)
  same_as f m None h = absurd h
  same_as f m (Some n) h = (n, refl, h)

  elsewhere : (bytes : List ℕ) (m : Contents) (k : KeyNames) → key_eq key k ≡ false → put_at key (Some bytes) m k ≡ m k
  elsewhere bytes m k other = ap (λ b. if b then Some bytes else m k) other

  -- an object is put at the key
  pub keeps_put : (w : writes.Ghosts W) (pen : W) (bytes : List ℕ) → w.taken pen ≡ Some bytes → (s u : S) → IsPut o w pen key s u → TierKeeps s u
  keeps_put w pen bytes taken s u c m tells =
      let same : IsSame (Some (put_at key (Some bytes) m)) (o.told u) = subst (λ x. IsSame (option_map (put_at key (Some bytes)) x) (o.told u)) tells (c.bytes bytes (taken ∙ ap (option_map (λ _. bytes)) (sym tells))) in
      let n = same_as (put_at key (Some bytes)) m (o.told u) same in
      (n.0, n.1, λ k other. n.2 k ∙ elsewhere bytes m k other)

  -- an object is put at the key, or not
  pub keeps_maybe : (w : writes.Ghosts W) (pen : W) (bytes : List ℕ) → w.taken pen ≡ Some bytes → (s u : S) → IsPutOrNot o w pen key s u → TierKeeps s u
  keeps_maybe w pen bytes taken s u c m tells = elim (subst (λ x. IsSame (option_map (put_at key (Some bytes)) x) (o.told u) ⊎ IsSame x (o.told u)) tells (c.bytes bytes (taken ∙ ap (option_map (λ _. bytes)) (sym tells)))) [
    | inl put ↦ let n = same_as (put_at key (Some bytes)) m (o.told u) put in (n.0, n.1, λ k other. n.2 k ∙ elsewhere bytes m k other)
    | inr not ↦ let n = same_as (λ c. c) m (o.told u) not in (n.0, n.1, λ k other. n.2 k)
  ]

  -- ---- what stands still

  -- an object at another key
  pub object_kept : (old new : List S) (t : ℕ) (k : KeyNames) (P : List ℕ → Type 0) → BothOr TierKeeps (slice_get old t) (slice_get new t) → key_eq key k ≡ false → HasObject o old t k P → HasObject o new t k P
  object_kept old new t k P both other has = in_tier (slice_get old t) (slice_get new t) both has
    where
      in_contents : (s u : S) (x : Option Contents) → o.told s ≡ x → TierKeeps s u → IsSomeAnd x (λ m. IsSomeAnd (m k) P) → IsSomeAnd (o.told u) (λ m. IsSomeAnd (m k) P)
      in_contents s u None tells keeps h = absurd h
      in_contents s u (Some m) tells keeps h = let n = keeps m tells in subst (λ y. IsSomeAnd y (λ c. IsSomeAnd (c k) P)) (sym n.1) (subst (λ b. IsSomeAnd b P) (sym (n.2 k other)) h)

      in_tier : (x y : Option S) → BothOr TierKeeps x y → IsSomeAnd x (λ s. IsSomeAnd (o.told s) (λ m. IsSomeAnd (m k) P)) → IsSomeAnd y (λ s. IsSomeAnd (o.told s) (λ m. IsSomeAnd (m k) P))
      in_tier None y keeps h = absurd h
      in_tier (Some s) None keeps h = absurd keeps
      in_tier (Some s) (Some u) keeps h = in_contents s u (o.told s) refl keeps h

  -- a tier tells still, with keys of two names
  pub tells_kept : length key ≡ 2 → (old new : List S) (t : ℕ) → BothOr TierKeeps (slice_get old t) (slice_get new t) → ((s : S) → slice_get old t ≡ Some s → TierTells o s) → (u : S) → slice_get new t ≡ Some u → TierTells o u
  tells_kept two old new t both tells u there = of_both (slice_get old t) (slice_get new t) refl there both
    where
      names : (m n : Contents) → ((k : KeyNames) → key_eq key k ≡ false → n k ≡ m k) → ((k : KeyNames) → IsSome (m k) → length k ≡ 2) → (k : KeyNames) → IsSome (n k) → length k ≡ 2
      names m n same were k is = elim (key_eq key k) as (λ b. key_eq key k ≡ b → length k ≡ 2) [
        | true ↦ λ own. ap length (sym (key_same key k own)) ∙ two
        | false ↦ λ other. were k (subst IsSome (same k other) is)
      ] refl

      of_tier : (s v : S) (x : Option Contents) → o.told s ≡ x → TierKeeps s v → IsSomeAnd x (λ m. (k : KeyNames) → IsSome (m k) → length k ≡ 2) → TierTells o v
      of_tier s v None tell keeps h = absurd h
      of_tier s v (Some m) tell keeps h = let n = keeps m tell in subst (λ y. IsSomeAnd y (λ c. (k : KeyNames) → IsSome (c k) → length k ≡ 2)) (sym n.1) (names m n.0 n.2 h)

      of_both : (x y : Option S) → slice_get old t ≡ x → y ≡ Some u → BothOr TierKeeps x y → TierTells o u
      of_both None None was is keeps = absurd (cc)
      of_both None (Some v) was is keeps = absurd keeps
      of_both (Some s) None was is keeps = absurd keeps
      of_both (Some s) (Some v) was is keeps = subst (TierTells o) (same_Some v u is) (of_tier s v (o.told s) refl keeps (tells s was))
