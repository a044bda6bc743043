-- The file machine's list of labels: what its three changes do to look-ups, length and distinctness.
use Rattle.std.proofs.Common.{◌≡◌, ℕ, ◌+◌, true, false, cond, not, List, [], ◌∷◌, length, Option, Some, None, is_some, option_map, find, refl, sym, ap, ◌∙◌, arith}
use Rattle.std.proofs.lemmas.Bool.{and_parts, and_from, not-true}
use Rattle.std.proofs.lemmas.List.{length-map, length-append}
use Rattle.fs_model.specs.Words.{name_eq}
use Rattle.fs_model.specs.State.{Hand, Hands, LabelRow}
use Rattle.fs_model.specs.Lookups.{hand_at, has_label}
use Rattle.fs_model.specs.Updates.{add_hand, set_hand, end_hand}
use Rattle.cluster_core.specs.Hands.{is_distinct}
use Rattle.cluster_core.proofs.SameLabels.{alike, turned, like_the_same, apart}

-- the first row decides, where the label is its own
hand_at-cons : (r : LabelRow) (H : Hands) (l : List ℕ) → hand_at (r ∷ H) l ≡ cond (name_eq r.label l) (Some r.hand) (hand_at H l)
hand_at-cons r H l = elim (name_eq r.label l) as (λ b. option_map (λ (q : LabelRow). q.hand) (cond b (Some r) (find (λ (q : LabelRow). name_eq q.label l) H)) ≡ cond b (Some r.hand) (hand_at H l)) [ true ↦ refl | false ↦ refl ]

-- where a label is absent, the first row's is another, and it is absent from the rest
absent_parts : (r : LabelRow) (H : Hands) (l : List ℕ) → hand_at (r ∷ H) l ≡ None → (name_eq r.label l ≡ false) × (hand_at H l ≡ None)
absent_parts r H l none =
    elim (name_eq r.label l) as (λ b. cond b (Some r.hand) (hand_at H l) ≡ None → (b ≡ false) × (hand_at H l ≡ None)) [
      | true ↦ λ h. absurd (cc)
      | false ↦ λ h. (refl, h)
    ] (sym (hand_at-cons r H l) ∙ none)

module _ (l : List ℕ) (h : Hand) where
  -- ---- a label comes

  -- it has its hand, and each other label the same
  pub hand_at-add : (H : Hands) (m : List ℕ) → hand_at H l ≡ None → hand_at (add_hand l h H) m ≡ cond (name_eq l m) (Some h) (hand_at H m)
  hand_at-add [] m none = hand_at-cons (record { label = l; hand = h }) [] m
  hand_at-add (r ∷ H) m none =
      let parts = absent_parts r H l none in
      hand_at-cons r (add_hand l h H) m ∙ elim (name_eq r.label m) as (λ b. name_eq r.label m ≡ b → cond b (Some r.hand) (hand_at (add_hand l h H) m) ≡ cond (name_eq l m) (Some h) (cond b (Some r.hand) (hand_at H m))) [
        | true ↦ λ same. sym (ap (λ b. cond b (Some h) (Some r.hand)) (apart r.label l m parts.0 same))
        | false ↦ λ other. hand_at-add H m parts.1
      ] refl ∙ ap (cond (name_eq l m) (Some h)) (sym (hand_at-cons r H m))

  -- there is one label more
  pub length-add : (H : Hands) → length (add_hand l h H) ≡ length H + 1
  length-add H = length-append H _

  -- none is twice afterwards
  pub is_distinct-add : (H : Hands) → hand_at H l ≡ None → is_distinct H ≡ true → is_distinct (add_hand l h H) ≡ true
  is_distinct-add [] none distinct = refl
  is_distinct-add (r ∷ H) none distinct =
      let parts = absent_parts r H l none in
      let was = and_parts _ _ distinct in
      let same : hand_at (add_hand l h H) r.label ≡ hand_at H r.label = hand_at-add H r.label parts.1 ∙ ap (λ b. cond b (Some h) (hand_at H r.label)) (turned l r.label ∙ parts.0) in
      and_from _ _ (ap (λ o. not (is_some o)) same ∙ was.0) (is_distinct-add H parts.1 was.1)

  -- ---- a label has another hand

  -- a row, changed where it is the label's
  abbrev renewed : LabelRow → LabelRow
  renewed r = cond (name_eq r.label l) (record r { hand = h }) r

  -- its label stays
  renewed_label : (r : LabelRow) → (renewed r).label ≡ r.label
  renewed_label r = elim (name_eq r.label l) as (λ b. (cond b (record r { hand = h }) r).label ≡ r.label) [ true ↦ refl | false ↦ refl ]

  -- its hand changes where it is the label's
  renewed_hand : (r : LabelRow) → (renewed r).hand ≡ cond (name_eq r.label l) h r.hand
  renewed_hand r = elim (name_eq r.label l) as (λ b. (cond b (record r { hand = h }) r).hand ≡ cond b h r.hand) [ true ↦ refl | false ↦ refl ]

  -- a hand under the label is the new one, and each other label has the same
  hand_at-renew : (H : Hands) (m : List ℕ) → hand_at (set_hand l h H) m ≡ cond (name_eq l m) (option_map (λ _. h) (hand_at H m)) (hand_at H m)
  hand_at-renew [] m = elim (name_eq l m) as (λ b. ◌≡◌ {A = Option Hand} None (cond b None None)) [ true ↦ refl | false ↦ refl ]
  hand_at-renew (r ∷ H) m =
      let first : hand_at (set_hand l h (r ∷ H)) m ≡ cond (name_eq r.label m) (Some (cond (name_eq r.label l) h r.hand)) (hand_at (set_hand l h H) m) =
      hand_at-cons (renewed r) (set_hand l h H) m ∙ (λ i. cond (name_eq (renewed_label r i) m) (Some (renewed_hand r i)) (hand_at (set_hand l h H) m)) in
      first ∙ elim (name_eq r.label m) as (λ b. name_eq r.label m ≡ b → cond b (Some (cond (name_eq r.label l) h r.hand)) (hand_at (set_hand l h H) m) ≡ cond (name_eq l m) (option_map (λ _. h) (cond b (Some r.hand) (hand_at H m))) (cond b (Some r.hand) (hand_at H m))) [
        | true ↦ λ same. elim (name_eq r.label l) as (λ b. name_eq r.label l ≡ b → Some (cond b h r.hand) ≡ cond (name_eq l m) (Some h) (Some r.hand)) [
          | true ↦ λ own. sym (ap (λ b. cond b (Some h) (Some r.hand)) (sym (like_the_same r.label l m own) ∙ same))
          | false ↦ λ other. sym (ap (λ b. cond b (Some h) (Some r.hand)) (apart r.label l m other same))
        ] refl
        | false ↦ λ other. hand_at-renew H m
      ] refl ∙ ap (λ o. cond (name_eq l m) (option_map (λ _. h) o) o) (sym (hand_at-cons r H m))

  -- where the label is there it has the hand
  pub hand_at-set : (H : Hands) (m : List ℕ) → has_label H l ≡ true → hand_at (set_hand l h H) m ≡ cond (name_eq l m) (Some h) (hand_at H m)
  hand_at-set H m there =
      hand_at-renew H m ∙ elim (name_eq l m) as (λ b. name_eq l m ≡ b → cond b (option_map (λ _. h) (hand_at H m)) (hand_at H m) ≡ cond b (Some h) (hand_at H m)) [
        | true ↦ λ same. any_hand (hand_at H m) (ap (λ k. is_some (hand_at H k)) (sym (alike l m same)) ∙ there)
        | false ↦ λ other. refl
      ] refl
    where
      any_hand : (o : Option Hand) → is_some o ≡ true → option_map (λ _. h) o ≡ Some h
      any_hand None is = absurd (cc)
      any_hand (Some x) is = refl

  -- there are as many labels
  pub length-set_hand : (H : Hands) → length (set_hand l h H) ≡ length H
  length-set_hand H = length-map H renewed

  -- the same labels are there
  has_label-set : (H : Hands) (m : List ℕ) → has_label (set_hand l h H) m ≡ has_label H m
  has_label-set H m =
      ap is_some (hand_at-renew H m) ∙ elim (name_eq l m) as (λ b. is_some (cond b (option_map (λ _. h) (hand_at H m)) (hand_at H m)) ≡ has_label H m) [
        | true ↦ still_some (hand_at H m)
        | false ↦ refl
      ]
    where
      still_some : (o : Option Hand) → is_some (option_map (λ _. h) o) ≡ is_some o
      still_some None = refl
      still_some (Some x) = refl

  -- none is twice afterwards
  pub is_distinct-set : (H : Hands) → is_distinct H ≡ true → is_distinct (set_hand l h H) ≡ true
  is_distinct-set [] distinct = refl
  is_distinct-set (r ∷ H) distinct =
      let was = and_parts _ _ distinct in
      and_from _ _ (ap (λ k. not (has_label (set_hand l h H) k)) (renewed_label r) ∙ ap not (has_label-set H r.label) ∙ was.0) (is_distinct-set H was.1)

module _ (l : List ℕ) where
  -- ---- a label ends

  -- an absent label's end changes nothing
  end_absent : (H : Hands) → hand_at H l ≡ None → end_hand l H ≡ H
  end_absent [] none = refl
  end_absent (r ∷ H) none =
      let parts = absent_parts r H l none in
      ap (λ b. cond (not b) (r ∷ end_hand l H) (end_hand l H)) parts.0 ∙ ap (λ K. r ∷ K) (end_absent H parts.1)

  -- it has no hand, and each other label the same
  pub hand_at-end : (H : Hands) (m : List ℕ) → hand_at (end_hand l H) m ≡ cond (name_eq l m) None (hand_at H m)
  hand_at-end [] m = elim (name_eq l m) as (λ b. ◌≡◌ {A = Option Hand} None (cond b None None)) [ true ↦ refl | false ↦ refl ]
  hand_at-end (r ∷ H) m =
      elim (name_eq r.label l) as (λ b. name_eq r.label l ≡ b → hand_at (cond (not b) (r ∷ end_hand l H) (end_hand l H)) m ≡ cond (name_eq l m) None (cond (name_eq r.label m) (Some r.hand) (hand_at H m))) [
        | true ↦ λ own. hand_at-end H m ∙ elim (name_eq l m) as (λ b. name_eq l m ≡ b → cond b None (hand_at H m) ≡ cond b None (cond (name_eq r.label m) (Some r.hand) (hand_at H m))) [
          | true ↦ λ same. refl
          | false ↦ λ other. sym (ap (λ b. cond b (Some r.hand) (hand_at H m)) (like_the_same r.label l m own ∙ other))
        ] refl
        | false ↦ λ other. hand_at-cons r (end_hand l H) m ∙ elim (name_eq r.label m) as (λ b. name_eq r.label m ≡ b → cond b (Some r.hand) (hand_at (end_hand l H) m) ≡ cond (name_eq l m) None (cond b (Some r.hand) (hand_at H m))) [
          | true ↦ λ same. sym (ap (λ b. cond b None (Some r.hand)) (apart r.label l m other same))
          | false ↦ λ differs. hand_at-end H m
        ] refl
      ] refl ∙ ap (cond (name_eq l m) None) (sym (hand_at-cons r H m))

  -- the first row's label isn't there again
  once_only : (r : LabelRow) (H : Hands) → is_distinct (r ∷ H) ≡ true → name_eq r.label l ≡ true → hand_at H l ≡ None
  once_only r H distinct own = is_absent (hand_at H l) (ap (λ k. is_some (hand_at H k)) (sym (alike r.label l own)) ∙ not-true _ (and_parts _ _ distinct).0)
    where
      is_absent : (o : Option Hand) → is_some o ≡ false → o ≡ None
      is_absent None is = refl
      is_absent (Some x) is = absurd (cc)

  -- there is one label fewer, where it was there
  pub length-end : (H : Hands) → is_distinct H ≡ true → has_label H l ≡ true → length H ≡ length (end_hand l H) + 1
  length-end [] distinct there = absurd (cc)
  length-end (r ∷ H) distinct there =
      elim (name_eq r.label l) as (λ b. name_eq r.label l ≡ b → length (r ∷ H) ≡ length (cond (not b) (r ∷ end_hand l H) (end_hand l H)) + 1) [
        | true ↦ λ own. let rest : length (end_hand l H) ≡ length H = ap length (end_absent H (once_only r H distinct own)) in omega (arith, rest)
        | false ↦ λ other.
            let later : has_label H l ≡ true = ap (λ b. is_some (cond b (Some r.hand) (hand_at H l))) (sym other) ∙ ap is_some (sym (hand_at-cons r H l)) ∙ there in
            let rest : length H ≡ length (end_hand l H) + 1 = length-end H (and_parts (not (has_label H r.label)) (is_distinct H) distinct).1 later in
            omega (arith, rest)
      ] refl

  -- none is twice afterwards
  pub is_distinct-end : (H : Hands) → is_distinct H ≡ true → is_distinct (end_hand l H) ≡ true
  is_distinct-end [] distinct = refl
  is_distinct-end (r ∷ H) distinct =
      let was = and_parts _ _ distinct in
      let rest = is_distinct-end H was.1 in
      elim (name_eq r.label l) as (λ b. name_eq r.label l ≡ b → is_distinct (cond (not b) (r ∷ end_hand l H) (end_hand l H)) ≡ true) [
        | true ↦ λ own. rest
        | false ↦ λ other.
            let same : hand_at (end_hand l H) r.label ≡ hand_at H r.label = hand_at-end H r.label ∙ ap (λ b. cond b None (hand_at H r.label)) (turned l r.label ∙ other) in
            and_from _ _ (ap (λ o. not (is_some o)) same ∙ was.0) rest
      ] refl
