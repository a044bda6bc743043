-- Media that are lent and given back as they are.
use Rattle.std.proofs.Common.{◌≡◌, ℕ, Bool, true, List, [], ◌∷◌, inl, inr, refl, sym, ◌∙◌, subst}
use Rattle.std.specs.Prelude.{None, Option, Some}
use Rattle.std.specs.List.{AllZip}
use Rattle.std.specs.Str.{bytes_eq}
use Rattle.outside.specs.AreaShelf.{AreFresh, AreaShelf, HoldsAreas, KeepsAreas, KeepsAreasBut}
use Rattle.outside.specs.Contents.{Contents, IsSame}
use Rattle.outside.specs.Fuse.{Fusing}
use Rattle.outside.specs.History.{History}
use Rattle.outside.specs.Shelf.{EachNamed, KeepsBut, NameLists, Shelf, TellsHeld, all_names, is_among, tier_names, under}
use Rattle.outside.specs.declared.media.Media.{Media}
use Rattle.outside.proofs.NamesApart.{among-append, either_true, name_same}
use Rattle.outside.proofs.Deciding.{true_or_false}

pub same_then : (a b c : Option Contents) → IsSame a b → IsSame b c → IsSame a c
same_then None None c h k = k
same_then None (Some n) c h k = absurd h
same_then (Some m) None c h k = absurd h
same_then (Some m) (Some n) None h k = absurd k
same_then (Some m) (Some n) (Some o) h k = λ key. k key ∙ h key

pub same_turned : (a b : Option Contents) → IsSame a b → IsSame b a
same_turned None None h = tt
same_turned None (Some n) h = absurd h
same_turned (Some m) None h = absurd h
same_turned (Some m) (Some n) h = λ key. sym (h key)

module _ {S : Type 0} (told : S → Option Contents) (old new : Option Shelf) where
  both_tell : (name : List ℕ) (store : S) → TellsHeld told old name store → TellsHeld told new name store → IsSame (under old name) (under new name)
  both_tell name store h k = same_then (under old name) (told store) (under new name) h (same_turned (under new name) (told store) k)

  zip_tells : (names : List (List ℕ)) (stores : List S) (name : List ℕ) → AllZip (TellsHeld told old) names stores → AllZip (TellsHeld told new) names stores → is_among names name ≡ true → IsSame (under old name) (under new name)
  zip_tells [] [] name h k e = cc
  zip_tells [] (store ∷ stores) name h k e = absurd h
  zip_tells (one ∷ names) [] name h k e = absurd h
  zip_tells (one ∷ names) (store ∷ stores) name h k e = elim (either_true _ (is_among names name) e) [ inl p ↦ subst (λ name. IsSame (under old name) (under new name)) (sym (name_same name one p)) (both_tell one store h.0 k.0) | inr p ↦ zip_tells names stores name h.1 k.1 p ]

  tiers_tell : {V : Type 0} (items : V → List S) (workers : List (List (List ℕ))) (tiers : List V) (name : List ℕ) → AllZip (λ worker own. AllZip (TellsHeld told old) worker (items own)) workers tiers → AllZip (λ worker own. AllZip (TellsHeld told new) worker (items own)) workers tiers → is_among (tier_names workers) name ≡ true → IsSame (under old name) (under new name)
  tiers_tell items [] [] name h k e = cc
  tiers_tell items [] (own ∷ tiers) name h k e = absurd h
  tiers_tell items (worker ∷ workers) [] name h k e = absurd h
  tiers_tell items (worker ∷ workers) (own ∷ tiers) name h k e = elim (either_true (is_among worker name) (is_among (tier_names workers) name) (sym (among-append worker (tier_names workers) name) ∙ e)) [ inl p ↦ zip_tells worker (items own) name h.0 k.0 p | inr p ↦ tiers_tell items workers tiers name h.1 k.1 p ]

  each_tells : {D : Type 0} (names : NameLists) (media : Media D S) (name : List ℕ) → EachNamed (TellsHeld told old) names media → EachNamed (TellsHeld told new) names media → is_among (all_names names) name ≡ true → IsSame (under old name) (under new name)
  each_tells names media name h k e = elim (either_true (is_among names.stores name) (is_among (tier_names names.tiers) name) (sym (among-append names.stores (tier_names names.tiers) name) ∙ e)) [ inl p ↦ zip_tells names.stores media.stores.items name h.stores k.stores p | inr p ↦ tiers_tell (λ own. own.items) names.tiers media.tiers.items name h.tiers k.tiers p ]

-- a world that lends media and gets them back as they are holds what it held
pub same_returned : {D S : Type 0} (told : S → Option Contents) (old mid new : Option Shelf) (names : NameLists) (media : Media D S) → EachNamed (TellsHeld told old) names media → EachNamed (TellsHeld told new) names media → KeepsBut (all_names names) old mid → KeepsBut (all_names names) mid new → KeepsBut [] old new
same_returned told old mid new names media lent back first next = λ name _. elim (true_or_false (is_among (all_names names) name)) [ inl e ↦ each_tells told old new names media name lent back e | inr e ↦ same_then (under old name) (under mid name) (under new name) (first name e) (next name e) ]

-- and so it is with areas
pub areas_returned : {D : Type 0} (tells : D → Bool) (history : D → History) (old mid new : Option AreaShelf) (name : List ℕ) (pair : Fusing D × Fusing D) → AreFresh tells old pair → HoldsAreas tells history old name pair → HoldsAreas tells history new name pair → KeepsAreasBut name old mid → KeepsAreasBut name mid new → KeepsAreas old new
areas_returned tells history None mid new name pair fresh lent back first next = record { tells = next.tells ∙ first.tells; each = tt }
areas_returned tells history (Some before) None new name pair fresh lent back first next = let e = first.tells in cc
areas_returned tells history (Some before) (Some between) None name pair fresh lent back first next = let e = next.tells in cc
areas_returned tells history (Some before) (Some between) (Some after) name pair fresh lent back first next = record { tells = refl; each = λ other. elim (true_or_false (bytes_eq name other)) [ inl e ↦ subst (λ other. after other ≡ before other) (name_same name other e) same | inr e ↦ next.others other e ∙ first.others other e ] }
  where
    front : (after name).0 ≡ (before name).0
    front = back.first fresh.tell.0 ∙ sym (lent.first fresh.tell.0)

    behind : (after name).1 ≡ (before name).1
    behind = back.second fresh.tell.1 ∙ sym (lent.second fresh.tell.1)

    same : after name ≡ before name
    same = λ i. (front i, behind i)
