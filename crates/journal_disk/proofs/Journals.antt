-- What a journal that is ready stands for, and what its calls leave of it.
use Rattle.std.proofs.Common.{◌≡◌, inl, inr, ⊎_elim, ℕ, zero, suc, Bool, true, false, List, [], ◌∷◌, ◌++◌, length, Option, Some, None, Ok, IsTrue, if◌then◌else◌, refl, sym, ◌∙◌, ap, subst, arith}
use Rattle.std.specs.Prelude.{unwrap_or, nat_eq, nat_le, cond, ◌&&◌}
use Rattle.std.proofs.lemmas.Bool.Decides.{nat_tests}
use Rattle.outside.specs.History.{History, IsImage, Since, Leaves}
use Rattle.outside.specs.Fuse.{Fusing}
use Rattle.outside.specs.declared.disk.Disk as disks
use Rattle.journal_entry.specs.declared.entry.Entry.{Entry}
use Rattle.journal_disk.specs.AreaText.{Read, area_of, head_of, is_shut, next_gate}
use Rattle.journal_disk.specs.Areas.{Current, IsBeforeOrAfter, chosen, current_of, first_of, second_of, in_area, journal_by, journal_of}
use Rattle.journal_disk.specs.Journaling.{BothTell, IsArea, IsAtRest, IsReady, Journaling, LeavesAreas, StaysAs, current_in, with_entry}
use Rattle.journal_disk.specs.Staging.{IsAreaOrMore, IsResting}
use Rattle.journal_disk.proofs.Moments.{Sees, started, leaves_side, only_synced}

-- an open head gate is not closed
pub open_gate : (bytes : List ℕ) (generation : ℕ) → head_of bytes ≡ Some generation → is_shut bytes ≡ false
unfolding head_of
open_gate [] generation is = absurd cc
open_gate (zero ∷ bytes) generation is = absurd (none (nat_le 10 (length (0 ∷ bytes))) _ _ is)
  where
    none : (b : Bool) (x : Option ℕ) (y : ℕ) → cond (b && false) x None ≡ Some y → ⊥
    none true x y is = cc
    none false x y is = cc
open_gate (suc gate ∷ bytes) generation is = let apart : nat_eq (suc gate) 0 ≡ false = grind (arith, nat_tests) in apart

-- ---- the choice between the areas
pub both : {D : Type 0} (P : D → Type 0) (second : Bool) (h t : D) → P (first_of second h t) × P (second_of second h t) → P h × P t
both P false h t told = told
both P true h t told = (told.1, told.0)

pub choose : (second : Bool) (c d : List ℕ) (generation : ℕ) (entries : List Entry) (gate : ℕ) → IsArea c generation entries gate → chosen second (Some generation) (head_of d) ≡ Some second
    → journal_of (first_of second c d) (second_of second c d) ≡ Ok (Some (record { second = second; generation = generation; entries = entries; gate = gate }))
choose false c d generation entries gate has current =
    ap (λ (o : Option Bool). journal_by o c d) (ap (λ (h : Option ℕ). current_of h (head_of d)) has.head ∙ current)
    ∙ ap (λ (h : Option ℕ). in_area false (unwrap_or h 0) (area_of c)) has.head ∙ ap (λ (r : Read). in_area false generation r) has.area
choose true c d generation entries gate has current =
    ap (λ (o : Option Bool). journal_by o d c) (ap (λ (h : Option ℕ). current_of (head_of d) h) has.head ∙ current)
    ∙ ap (λ (h : Option ℕ). in_area true (unwrap_or h 0) (area_of c)) has.head ∙ ap (λ (r : Read). in_area true generation r) has.area

-- neither area is open
pub choose_none : (second : Bool) (c d : List ℕ) → head_of c ≡ None → head_of d ≡ None → journal_of (first_of second c d) (second_of second c d) ≡ Ok None
choose_none false c d here there = rw (here, there) refl
choose_none true c d here there = rw (there, here) refl

-- the areas by number, of the current one and the other
pub leaves_areas : {D : Type 0} (history : D → History) (b : Bool) (h h' t t' : D) (P : List ℕ → List ℕ → Type 0)
    → Leaves (first_of b (history h) (history t)) (first_of b (history h') (history t')) (second_of b (history h) (history t)) (second_of b (history h') (history t')) P
    → Leaves (history (first_of b h t)) (history (first_of b h' t')) (history (second_of b h t)) (history (second_of b h' t')) P
leaves_areas history false h h' t t' P leaves = leaves
leaves_areas history true h h' t t' P leaves = leaves

module _ {D : Type 0} (w : disks.Ghosts D) where
  pub told_here : (j : Journaling D) → BothTell w j → IsTrue (w.tells j.here.disk)
  told_here j tell = (both (λ d. IsTrue (w.tells d)) j.second j.here.disk j.there.disk tell).0

  module _ (j : Journaling D) (entries : List Entry) (ready : IsReady w j entries) where
    abbrev here : History
    here = w.history j.here.disk

    abbrev there : History
    there = w.history j.there.disk

    -- what any bytes stand for that keep the current area, and the head of the other
    stands_by : (fresh : Bool) → j.fresh ≡ fresh → IsTrue (w.tells j.here.disk) → IsTrue (w.tells j.there.disk) → journal_of (first_of j.second here.now.held there.now.held) (second_of j.second here.now.held there.now.held) ≡ Ok (current_in j entries)
    stands_by true is tells_here tells_there = choose_none j.second here.now.held there.now.held (ready.fresh_here is tells_here) (ready.fresh_there is tells_there)
        ∙ ap (λ (b : Bool). Ok (if b then None else Some (record { second = j.second; generation = j.generation; entries = entries; gate = j.gate }))) (sym is)
    stands_by false is tells_here tells_there = choose j.second here.now.held there.now.held j.generation entries j.gate (ready.area is tells_here) (ready.current is tells_there)
        ∙ ap (λ (b : Bool). Ok (if b then None else Some (record { second = j.second; generation = j.generation; entries = entries; gate = j.gate }))) (sym is)

    pub stands : IsTrue (w.tells j.here.disk) → IsTrue (w.tells j.there.disk) → journal_of (first_of j.second here.now.held there.now.held) (second_of j.second here.now.held there.now.held) ≡ Ok (current_in j entries)
    stands = stands_by j.fresh refl

    pub only_here : (c : List ℕ) → IsTrue (w.tells j.here.disk) → IsImage here.now c → c ≡ here.now.held
    only_here c tells image = only_synced here.now c (ready.here tells).none image ∙ (ready.here tells).same

    pub only_there : (c : List ℕ) → IsTrue (w.tells j.there.disk) → IsImage there.now c → c ≡ there.now.held
    only_there c tells image = only_synced there.now c (ready.there tells).none image ∙ (ready.there tells).same

    -- the current area went on, the other stood still
    moved : (new : Journaling D) (P : List ℕ → List ℕ → Type 0) (Q : List ℕ → Type 0) → new.second ≡ j.second → w.history new.there.disk ≡ there → Since here (w.history new.here.disk) (Sees Q)
        → ((c d : List ℕ) → Q c → IsImage there.now d → P (first_of j.second c d) (second_of j.second c d)) → LeavesAreas w j new P
    moved new P Q second same_there since has =
        let side = leaves_side j.second Q P here (w.history new.here.disk) there since has in
        let same = subst (λ (h : History). Leaves (first_of j.second here there) (first_of j.second (w.history new.here.disk) h) (second_of j.second here there) (second_of j.second (w.history new.here.disk) h) P) (sym same_there) side in
        subst (λ (b : Bool). Leaves (w.history (first_of j.second j.here.disk j.there.disk)) (w.history (first_of b new.here.disk new.there.disk)) (w.history (second_of j.second j.here.disk j.there.disk)) (w.history (second_of b new.here.disk new.there.disk)) P) (sym second)
        (leaves_areas w.history j.second j.here.disk new.here.disk j.there.disk new.there.disk P same)

    -- neither area changed
    pub leaves_still : (new : Journaling D) (P : List ℕ → List ℕ → Type 0) → BothTell w j → new.second ≡ j.second → w.history new.here.disk ≡ here → w.history new.there.disk ≡ there
        → ((a b : List ℕ) → journal_of a b ≡ Ok (current_in j entries) → P a b) → LeavesAreas w j new P
    leaves_still new P tell second same_here same_there has =
        let told = both (λ d. IsTrue (w.tells d)) j.second j.here.disk j.there.disk tell in
        let run : Since here (w.history new.here.disk) (Sees (λ c. c ≡ here.now.held)) = subst (λ (h : History). Since here h (Sees (λ c. c ≡ here.now.held))) (sym same_here) (started here (Sees (λ c. c ≡ here.now.held)) (λ c image. only_here c told.0 image)) in
        moved new P (λ c. c ≡ here.now.held) second same_there run
        (λ c d is image. has (first_of j.second c d) (second_of j.second c d)
        (ap (λ (l : List ℕ). journal_of (first_of j.second l d) (second_of j.second l d)) is
        ∙ ap (λ (l : List ℕ). journal_of (first_of j.second here.now.held l) (second_of j.second here.now.held l)) (only_there d told.1 image) ∙ stands told.0 told.1))

    -- one entry more, or not
    pub leaves_appended : (new : Journaling D) (e : Entry) → j.fresh ≡ false → BothTell w j → new.second ≡ j.second → w.history new.there.disk ≡ there → Since here (w.history new.here.disk) (Sees (IsAreaOrMore j.generation entries j.gate e))
        → LeavesAreas w j new (IsBeforeOrAfter (current_in j entries) (with_entry j entries e))
    leaves_appended new e fresh tell second same_there since =
        let told = both (λ d. IsTrue (w.tells d)) j.second j.here.disk j.there.disk tell in
        moved new (IsBeforeOrAfter (current_in j entries) (with_entry j entries e)) (IsAreaOrMore j.generation entries j.gate e) second same_there since
        (λ c d has image.
        let current = ready.current fresh told.1 in
        let other = only_there d told.1 image in
        let chose : chosen j.second (Some j.generation) (head_of d) ≡ Some j.second = ap (λ (l : List ℕ). chosen j.second (Some j.generation) (head_of l)) other ∙ current in
        ⊎_elim
        (λ h. inl (choose j.second c d j.generation entries j.gate h chose ∙ ap (λ (b : Bool). Ok (if b then None else Some (record { second = j.second; generation = j.generation; entries = entries; gate = j.gate }))) (sym fresh)))
        (λ h. inr (choose j.second c d j.generation (entries ++ e ∷ []) (next_gate j.gate e) h chose))
        has)

    -- the journal with one entry more
    pub ready_appended : (h t : Fusing D) (e : Entry) (gate : ℕ) (prepared : ℕ) → j.fresh ≡ false → gate ≡ next_gate j.gate e → w.tells h.disk ≡ w.tells j.here.disk → w.tells t.disk ≡ w.tells j.there.disk → w.history t.disk ≡ there
        → (IsTrue (w.tells j.here.disk) → IsResting (w.history h.disk) j.generation (entries ++ e ∷ []) (next_gate j.gate e))
        → IsReady w (record j { here = h; there = t; gate = gate; prepared = prepared }) (entries ++ e ∷ [])
    ready_appended h t e gate prepared fresh place tells_here tells_there same_there rests = record {
      here = λ tells. (rests (subst IsTrue tells_here tells)).rest;
      there = λ tells. subst (λ (h : History). IsAtRest h.now) (sym same_there) (ready.there (subst IsTrue tells_there tells));
      here_shut = λ tells.
          let was = subst IsTrue tells_here tells in
          open_gate (w.history h.disk).now.held j.generation (rests was).area.head ∙ sym (open_gate here.now.held j.generation (ready.area fresh was).head) ∙ ready.here_shut was;
      there_shut = λ tells. ap (λ (h : History). is_shut h.now.held) same_there ∙ ready.there_shut (subst IsTrue tells_there tells);
      area = λ is tells. subst (λ (n : ℕ). IsArea (w.history h.disk).now.held j.generation (entries ++ e ∷ []) n) (sym place) (rests (subst IsTrue tells_here tells)).area;
      current = λ is tells. ap (λ (h : History). chosen j.second (Some j.generation) (head_of h.now.held)) same_there ∙ ready.current is (subst IsTrue tells_there tells);
      fresh_here = λ is tells. absurd (let no = sym is ∙ fresh in cc);
      fresh_there = λ is tells. absurd (let no = sym is ∙ fresh in cc);
      none = λ is. absurd (let no = sym is ∙ fresh in cc);
    }

  -- ---- a journal that stays as it was, whatever was reserved, and then goes on
  same_area : (b : Bool) (h h' t t' : D) → w.history h' ≡ w.history h → w.history t' ≡ w.history t → (w.history (first_of b h' t') ≡ w.history (first_of b h t)) × (w.history (second_of b h' t') ≡ w.history (second_of b h t))
  same_area false h h' t t' here there = (here, there)
  same_area true h h' t t' here there = (there, here)

  both_again : (b : Bool) (h h' t t' : D) → w.tells h' ≡ w.tells h → w.tells t' ≡ w.tells t → IsTrue (w.tells (first_of b h t)) × IsTrue (w.tells (second_of b h t)) → IsTrue (w.tells (first_of b h' t')) × IsTrue (w.tells (second_of b h' t'))
  both_again false h h' t t' here there told = (subst IsTrue (sym here) told.0, subst IsTrue (sym there) told.1)
  both_again true h h' t t' here there told = (subst IsTrue (sym there) told.0, subst IsTrue (sym here) told.1)

  module _ (j k : Journaling D) (stays : StaysAs w j k) where
    pub same_second : k.second ≡ j.second
    same_second = ap (λ (x : Journaling D). x.second) stays.rest

    pub tell_again : BothTell w j → BothTell w k
    tell_again tell =
        subst (λ (b : Bool). IsTrue (w.tells (first_of b k.here.disk k.there.disk)) × IsTrue (w.tells (second_of b k.here.disk k.there.disk))) (sym same_second)
        (both_again j.second j.here.disk k.here.disk j.there.disk k.there.disk stays.tells_here stays.tells_there tell)

    -- what a journal leaves that went on from there
    pub leaves_from : (new : Journaling D) (P : List ℕ → List ℕ → Type 0) → LeavesAreas w k new P → LeavesAreas w j new P
    leaves_from new P leaves =
        let areas = same_area j.second j.here.disk k.here.disk j.there.disk k.there.disk stays.here stays.there in
        let first : w.history (first_of k.second k.here.disk k.there.disk) ≡ w.history (first_of j.second j.here.disk j.there.disk) = ap (λ (b : Bool). w.history (first_of b k.here.disk k.there.disk)) same_second ∙ areas.0 in
        let second : w.history (second_of k.second k.here.disk k.there.disk) ≡ w.history (second_of j.second j.here.disk j.there.disk) = ap (λ (b : Bool). w.history (second_of b k.here.disk k.there.disk)) same_second ∙ areas.1 in
        subst (λ (h : History). Leaves h (w.history (first_of new.second new.here.disk new.there.disk)) (w.history (second_of j.second j.here.disk j.there.disk)) (w.history (second_of new.second new.here.disk new.there.disk)) P) first
        (subst (λ (h : History). Leaves (w.history (first_of k.second k.here.disk k.there.disk)) (w.history (first_of new.second new.here.disk new.there.disk)) h (w.history (second_of new.second new.here.disk new.there.disk)) P) second leaves)

    pub told_again : BothTell w j → IsTrue (w.tells k.here.disk)
    told_again tell = told_here k (tell_again tell)

    pub appended_from : (h t : Fusing D) (entries : List Entry) (e : Entry) → IsReady w j entries → k.fresh ≡ false → BothTell w j → w.history t.disk ≡ w.history k.there.disk
        → Since (w.history k.here.disk) (w.history h.disk) (Sees (IsAreaOrMore k.generation entries k.gate e)) → LeavesAreas w j (record k { here = h; there = t }) (IsBeforeOrAfter (current_in j entries) (with_entry j entries e))
    appended_from h t entries e ready fresh tell there since =
        let new : Journaling D = record k { here = h; there = t } in
        leaves_from new _ (subst (λ (o : Option Current). LeavesAreas w k new (IsBeforeOrAfter o (with_entry j entries e))) (ap (λ (x : Journaling D). current_in x entries) stays.rest)
        (subst (λ (o : Option Current). LeavesAreas w k new (IsBeforeOrAfter (current_in k entries) o)) (ap (λ (x : Journaling D). with_entry x entries e) stays.rest)
        (leaves_appended k entries (stays.ready entries ready) new e fresh (tell_again tell) refl there since)))
