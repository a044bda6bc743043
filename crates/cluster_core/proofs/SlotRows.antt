-- The row with a label among the slots of a slab: what a removal and an insert change.
use Rattle.std.proofs.Common.{◌≡◌, ◌≢◌, ℕ, zero, suc, ◌+◌, Bool, true, false, cond, List, [], ◌∷◌, map, get_or, Option, Some, None, is_some, option_map, find, unwrap_or, inl, inr, refl, sym, ap, ap₂, ◌∙◌, arith}
use Rattle.std.proofs.lemmas.Bool.{cases_eq}
use Rattle.std.proofs.lemmas.List.{length-map}
use Rattle.slab.specs.Slab.{Slab, get, Updates, slab_len, entries, entries_from}
use Rattle.slab.proofs.SlabLemmas.{length-entries}
use Rattle.fs_model.specs.Words.{name_eq}
use Rattle.cluster_core.specs.LabelsView.{hand_in, count}
use Rattle.cluster_core.specs.LabelSlots.{row_in, same_label, IsOnce, labels_of}
use Rattle.cluster_core.specs.declared.labels.Labelled.{Labelled}
use Rattle.cluster_core.proofs.SameLabels.{alike, like_itself, turned, both_like}

-- what is in equal options is equal
some_same : {X : Type 0} (x y : X) → Some x ≡ Some y → x ≡ y
some_same x y same = ap (λ o. unwrap_or o x) same

module _ {T : Type 0} where
  -- the entry's row has the label
  abbrev pub labelled : List ℕ → ℕ × Labelled T → Bool
  labelled l e = name_eq e.1.label l

  -- ---- entries and slots

  -- the row with a label is that of the first entry with it
  row_in-find : (first : ℕ) (slots : List (Option (Labelled T))) (l : List ℕ) → option_map (λ e. e.1) (find (labelled l) (entries_from first slots)) ≡ row_in slots l
  row_in-find first [] l = refl
  row_in-find first (None ∷ rest) l = row_in-find (first + 1) rest l
  row_in-find first (Some r ∷ rest) l =
      elim (name_eq r.label l) as (λ b. option_map (λ e. e.1) (cond b (Some (first, r)) (find (labelled l) (entries_from (first + 1) rest))) ≡ cond b (Some r) (row_in rest l)) [
        | true ↦ refl
        | false ↦ row_in-find (first + 1) rest l
      ]

  -- an entry that was found has a slot
  slot_of_found : (first : ℕ) (slots : List (Option (Labelled T))) (l : List ℕ) (key : ℕ) (r : Labelled T) → find (labelled l) (entries_from first slots) ≡ Some (key, r) → (at : ℕ) × (key ≡ first + at) × (get_or slots at None ≡ Some r)
  slot_of_found first [] l key r found = absurd (cc)
  slot_of_found first (None ∷ rest) l key r found =
      let later = slot_of_found (first + 1) rest l key r found in
      (suc later.0, omega (arith, later.1), later.2)
  slot_of_found first (Some q ∷ rest) l key r found =
      elim (name_eq q.label l) as (λ b. cond b (Some (first, q)) (find (labelled l) (entries_from (first + 1) rest)) ≡ Some (key, r) → (at : ℕ) × (key ≡ first + at) × (get_or (Some q ∷ rest) at None ≡ Some r)) [
        | true ↦ λ here. let same : (first, q) ≡ (key, r) = some_same _ _ here in (0, omega (arith, ap (λ e. e.0) same), ap (λ e. Some e.1) same)
        | false ↦ λ there.
            let later = slot_of_found (first + 1) rest l key r there in
            (suc later.0, omega (arith, later.1), later.2)
      ] found

  -- a search that has come to an entry with the label
  pub found_here : (s : Slab (Labelled T)) (l : List ℕ) (left rest : List (ℕ × Labelled T)) (key : ℕ) (r : Labelled T) → find (labelled l) left ≡ find (labelled l) (entries s) → left ≡ (key, r) ∷ rest → true ≡ name_eq r.label l → find (labelled l) (entries s) ≡ Some (key, r)
  found_here s l left rest key r among is same = sym among ∙ ap (find (labelled l)) is ∙ ap (λ b. cond b (Some (key, r)) (find (labelled l) rest)) (sym same)

  -- the first entry with the label is under the key of the row with the label
  pub key_found : (s : Slab (Labelled T)) (l : List ℕ) (key : ℕ) (r : Labelled T) → find (labelled l) (entries s) ≡ Some (key, r) → get s key ≡ row_in s.slots l
  key_found s l key r found =
      let at = slot_of_found 0 s.slots l key r found in
      let here : key ≡ at.0 = omega (arith, at.1) in
      ap (get s) here ∙ at.2 ∙ sym (ap (option_map (λ e. e.1)) found) ∙ row_in-find 0 s.slots l

  -- the row with a label, by what a search of the entries found
  pub is_there : (s : Slab (Labelled T)) (l : List ℕ) (o : Option (ℕ × Labelled T)) → find (labelled l) (entries s) ≡ o → row_in s.slots l ≡ option_map (λ e. e.1) o
  is_there s l o found = sym (row_in-find 0 s.slots l) ∙ ap (option_map (λ e. e.1)) found

  -- ---- what a contract sees

  -- the hand under a label is that of the row with it, from any key on
  hand_in_slots : (first : ℕ) (slots : List (Option (Labelled T))) (l : List ℕ) → option_map (λ r. r.1) (find (λ (r : List ℕ × T). name_eq r.0 l) (map (λ e. (e.1.label, e.1.hand)) (entries_from first slots))) ≡ option_map (λ r. r.hand) (row_in slots l)
  hand_in_slots first [] l = refl
  hand_in_slots first (None ∷ rest) l = hand_in_slots (first + 1) rest l
  hand_in_slots first (Some r ∷ rest) l =
      elim (name_eq r.label l) as (λ b. option_map (λ r. r.1) (cond b (Some (r.label, r.hand)) (find (λ (r : List ℕ × T). name_eq r.0 l) (map (λ e. (e.1.label, e.1.hand)) (entries_from (first + 1) rest)))) ≡ option_map (λ r. r.hand) (cond b (Some r) (row_in rest l))) [
        | true ↦ refl
        | false ↦ hand_in_slots (first + 1) rest l
      ]

  -- the hand under a label is that of the row with it
  pub hand_in_slab : (s : Slab (Labelled T)) (l : List ℕ) → hand_in (labels_of s) l ≡ option_map (λ r. r.hand) (row_in s.slots l)
  hand_in_slab s l = hand_in_slots 0 s.slots l

  -- where there is a row with the label
  pub hand_in-some : (s : Slab (Labelled T)) (l : List ℕ) (r : Labelled T) → row_in s.slots l ≡ Some r → hand_in (labels_of s) l ≡ Some r.hand
  hand_in-some s l r is = hand_in_slab s l ∙ ap (option_map (λ x. x.hand)) is

  -- where there is no such row
  pub hand_in-none : (s : Slab (Labelled T)) (l : List ℕ) → is_some (row_in s.slots l) ≡ false → hand_in (labels_of s) l ≡ None
  hand_in-none s l none = hand_in_slab s l ∙ no_row (row_in s.slots l) none
    where
      no_row : (o : Option (Labelled T)) → is_some o ≡ false → option_map (λ x. x.hand) o ≡ None
      no_row None is = refl
      no_row (Some r) is = absurd (cc)

  -- a label has a hand exactly where there is a row with it
  pub hand_in-is_some : (s : Slab (Labelled T)) (l : List ℕ) → is_some (hand_in (labels_of s) l) ≡ is_some (row_in s.slots l)
  hand_in-is_some s l = ap is_some (hand_in_slab s l) ∙ as_rows (row_in s.slots l)
    where
      as_rows : (o : Option (Labelled T)) → is_some (option_map (λ x. x.hand) o) ≡ is_some o
      as_rows None = refl
      as_rows (Some r) = refl

  -- where a label is absent, what is left without it is the same
  pub hands_without_none : (s : Slab (Labelled T)) (l m : List ℕ) → is_some (row_in s.slots l) ≡ false → hand_in (labels_of s) m ≡ cond (name_eq l m) None (hand_in (labels_of s) m)
  hands_without_none s l m none = elim (name_eq l m) as (λ b. name_eq l m ≡ b → hand_in (labels_of s) m ≡ cond b None (hand_in (labels_of s) m)) [
    | true ↦ λ same. ap (hand_in (labels_of s)) (sym (alike l m same)) ∙ hand_in-none s l none
    | false ↦ λ other. refl
  ] refl

  -- there are as many labels as values in the slab
  pub count_in_slab : (s : Slab (Labelled T)) → count (labels_of s) ≡ slab_len s
  count_in_slab s = length-map (entries s) (λ e. (e.1.label, e.1.hand)) ∙ length-entries s

  -- ---- the row with a label and its slot

  -- the row with a label has a slot, and the label
  place_of : (slots : List (Option (Labelled T))) (l : List ℕ) (r : Labelled T) → row_in slots l ≡ Some r → (k : ℕ) × (get_or slots k None ≡ Some r) × (name_eq r.label l ≡ true)
  place_of [] l r is = absurd (cc)
  place_of (None ∷ rest) l r is = let later = place_of rest l r is in (suc later.0, later.1, later.2)
  place_of (Some q ∷ rest) l r is =
      elim (name_eq q.label l) as (λ b. name_eq q.label l ≡ b → cond b (Some q) (row_in rest l) ≡ Some r → (k : ℕ) × (get_or (Some q ∷ rest) k None ≡ Some r) × (name_eq r.label l ≡ true)) [
        | true ↦ λ same here. (0, here, ap (λ x. name_eq x.label l) (sym (some_same q r here)) ∙ same)
        | false ↦ λ other there. let later = place_of rest l r there in (suc later.0, later.1, later.2)
      ] refl is

  -- a row in a slot isn't missed
  not_missed : (slots : List (Option (Labelled T))) (l : List ℕ) (k : ℕ) (r : Labelled T) → get_or slots k None ≡ Some r → name_eq r.label l ≡ true → row_in slots l ≡ None → ⊥
  not_missed [] l k r at same none = cc
  not_missed (None ∷ rest) l zero r at same none = cc
  not_missed (None ∷ rest) l (suc k) r at same none = not_missed rest l k r at same none
  not_missed (Some q ∷ rest) l zero r at same none =
      let here : name_eq q.label l ≡ true = ap (λ x. name_eq x.label l) (some_same q r at) ∙ same in
      let found : Some q ≡ None = sym (ap (λ b. cond b (Some q) (row_in rest l)) here) ∙ none in
      cc
  not_missed (Some q ∷ rest) l (suc k) r at same none =
      elim (name_eq q.label l) as (λ b. cond b (Some q) (row_in rest l) ≡ None → ⊥) [
        | true ↦ λ found. cc
        | false ↦ λ there. not_missed rest l k r at same there
      ] none

  -- where no label is twice, a row in a slot is the row with its label
  row_at : (slots : List (Option (Labelled T))) (l : List ℕ) (k : ℕ) (r : Labelled T) → IsOnce slots → get_or slots k None ≡ Some r → name_eq r.label l ≡ true → row_in slots l ≡ Some r
  row_at slots l k r once at same =
      elim (row_in slots l) as (λ o. row_in slots l ≡ o → o ≡ Some r) [
        | None ↦ λ is. absurd (not_missed slots l k r at same is)
        | Some q ↦ λ is.
            let found = place_of slots l q is in
            let here : found.0 ≡ k = once found.0 k (ap₂ same_label found.1 at ∙ both_like q.label r.label l found.2 same) in
            sym found.1 ∙ ap (λ i. get_or slots i None) here ∙ at
      ] refl

  -- the row with a label has it
  pub has_its_label : (slots : List (Option (Labelled T))) (l : List ℕ) (r : Labelled T) → row_in slots l ≡ Some r → r.label ≡ l
  has_its_label slots l r is = alike r.label l (place_of slots l r is).2

  -- what is left without a label hasn't it
  pub gone_without : (s : Slab (Labelled T)) (l : List ℕ) (x : Option T) → hand_in (labels_of s) l ≡ cond (name_eq l l) None x → hand_in (labels_of s) l ≡ None
  gone_without s l x left = left ∙ ap (λ b. cond b None x) (like_itself l)

  -- no row is like an empty slot
  none_alike : (a : Option (Labelled T)) → same_label a None ≡ false
  none_alike None = refl
  none_alike (Some r) = refl

  -- ---- a row leaves

  module _ (old new : Slab (Labelled T)) (key : ℕ) (r : Labelled T) (once : IsOnce old.slots) (was : get old key ≡ Some r) (updates : Updates old new key None) where
    -- no label is twice afterwards
    pub once_without : IsOnce new.slots
    once_without i j same = elim (cases_eq i key) [
      | inl here ↦ let never : false ≡ true = sym (ap (λ o. same_label o (get new j)) (ap (get new) here ∙ updates.changed)) ∙ same in absurd (cc)
      | inr left ↦ elim (cases_eq j key) [
        | inl here ↦ let never : false ≡ true = sym (ap (same_label (get new i)) (ap (get new) here ∙ updates.changed) ∙ none_alike (get new i)) ∙ same in absurd (cc)
        | inr right ↦ once i j (sym (ap₂ same_label (updates.others i left) (updates.others j right)) ∙ same)
      ]
    ]

    -- a row of the new slots is one of the old, elsewhere
    stood : (l : List ℕ) (q : Labelled T) → row_in new.slots l ≡ Some q → (k : ℕ) × (k ≢ key) × (get old k ≡ Some q) × (name_eq q.label l ≡ true)
    stood l q is =
        let found = place_of new.slots l q is in
        let elsewhere : found.0 ≢ key = λ here. let never : Some q ≡ None = sym found.1 ∙ ap (get new) here ∙ updates.changed in cc in
        (found.0, elsewhere, sym (updates.others found.0 elsewhere) ∙ found.1, found.2)

    -- its label has no row, and each other label the same
    pub row_without : (l : List ℕ) → row_in new.slots l ≡ cond (name_eq r.label l) None (row_in old.slots l)
    row_without l = elim (name_eq r.label l) as (λ b. name_eq r.label l ≡ b → row_in new.slots l ≡ cond b None (row_in old.slots l)) [
      | true ↦ λ same. elim (row_in new.slots l) as (λ o. row_in new.slots l ≡ o → o ≡ None) [
        | None ↦ λ is. refl
        | Some q ↦ λ is.
            let s = stood l q is in
            absurd (s.1 (once s.0 key (ap₂ same_label s.2 was ∙ both_like q.label r.label l s.3 same)))
      ] refl
      | false ↦ λ other. elim (row_in old.slots l) as (λ o. row_in old.slots l ≡ o → row_in new.slots l ≡ o) [
        | None ↦ λ none. elim (row_in new.slots l) as (λ o. row_in new.slots l ≡ o → o ≡ None) [
          | None ↦ λ is. refl
          | Some q ↦ λ is. let s = stood l q is in absurd (not_missed old.slots l s.0 q s.2 s.3 none)
        ] refl
        | Some q ↦ λ is.
            let found = place_of old.slots l q is in
            let elsewhere : found.0 ≢ key = λ here.
            let same : q ≡ r = some_same q r (sym found.1 ∙ ap (get old) here ∙ was) in
            let never : true ≡ false = sym found.2 ∙ ap (λ x. name_eq x.label l) same ∙ other in
            cc in
            row_at new.slots l found.0 q once_without (updates.others found.0 elsewhere ∙ found.1) found.2
      ] refl
    ] refl

    -- and so of the hands
    pub hands_without : (l : List ℕ) → hand_in (labels_of new) l ≡ cond (name_eq r.label l) None (hand_in (labels_of old) l)
    hands_without l =
        hand_in_slab new l ∙ ap (option_map (λ x. x.hand)) (row_without l)
        ∙ elim (name_eq r.label l) as (λ b. option_map (λ x. x.hand) (cond b None (row_in old.slots l)) ≡ cond b None (hand_in (labels_of old) l)) [
          | true ↦ refl
          | false ↦ sym (hand_in_slab old l)
        ]

  -- ---- a row comes

  module _ (old new : Slab (Labelled T)) (key : ℕ) (r : Labelled T) (once : IsOnce old.slots) (was : get old key ≡ None) (updates : Updates old new key (Some r)) (absent : hand_in (labels_of old) r.label ≡ None) where
    -- no old row has its label
    none_there : row_in old.slots r.label ≡ None
    none_there = elim (row_in old.slots r.label) as (λ o. option_map (λ x. x.hand) o ≡ None → o ≡ None) [
      | None ↦ λ h. refl
      | Some q ↦ λ h. absurd (cc)
    ] (sym (hand_in_slab old r.label) ∙ absent)

    -- so it is like no old slot
    none_like : (o : Option (Labelled T)) (j : ℕ) → get old j ≡ o → same_label (Some r) o ≡ true → ⊥
    none_like None j at same = cc
    none_like (Some q) j at same = not_missed old.slots r.label j q at (turned q.label r.label ∙ same) none_there

    -- and none is like it
    like_none : (o : Option (Labelled T)) (j : ℕ) → get old j ≡ o → same_label o (Some r) ≡ true → ⊥
    like_none None j at same = cc
    like_none (Some q) j at same = not_missed old.slots r.label j q at same none_there

    -- no label is twice afterwards
    pub once_with : IsOnce new.slots
    once_with i j same = elim (cases_eq i key) [
      | inl left ↦ elim (cases_eq j key) [
        | inl right ↦ left ∙ sym right
        | inr right ↦ absurd (none_like (get old j) j refl (sym (ap₂ same_label (ap (get new) left ∙ updates.changed) (updates.others j right)) ∙ same))
      ]
      | inr left ↦ elim (cases_eq j key) [
        | inl right ↦ absurd (like_none (get old i) i refl (sym (ap₂ same_label (updates.others i left) (ap (get new) right ∙ updates.changed)) ∙ same))
        | inr right ↦ once i j (sym (ap₂ same_label (updates.others i left) (updates.others j right)) ∙ same)
      ]
    ]

    -- the old slots are the new ones without the row
    back : Updates new old key None
    back = record { changed = was; others = λ other differs. sym (updates.others other differs) }

    -- its label has its hand, and each other label the same
    pub hands_with : (l : List ℕ) → hand_in (labels_of new) l ≡ cond (name_eq r.label l) (Some r.hand) (hand_in (labels_of old) l)
    hands_with l = elim (name_eq r.label l) as (λ b. name_eq r.label l ≡ b → hand_in (labels_of new) l ≡ cond b (Some r.hand) (hand_in (labels_of old) l)) [
      | true ↦ λ same. hand_in_slab new l ∙ ap (option_map (λ x. x.hand)) (row_at new.slots l key r once_with updates.changed same)
      | false ↦ λ other. sym (hands_without new old key r once_with updates.changed back l ∙ ap (λ b. cond b None (hand_in (labels_of new) l)) other)
    ] refl
