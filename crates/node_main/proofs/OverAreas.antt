-- What the areas that a world tells say of a run's end.
use Rattle.std.proofs.Common.{◌≡◌, ℕ, ◌+◌, Bool, true, false, List, Option, Some, None, Ok, Err, ◌⊎◌, inl, inr, refl, sym, ap, ◌∙◌, subst, nat_lt, ◌==◌, ◌||◌}
use Rattle.std.specs.Prelude.{IfSome, IsSomeAnd, if◌then◌else◌}
use Rattle.std.proofs.lemmas.Bool.{lt-ltb, ltb-true}
use Rattle.fs_model.specs.declared.setup.Setup.{Setup}
use Rattle.fs_model.specs.declared.stop.Stop.{Stop}
use Rattle.fs_model.specs.Examples.{two_workers}
use Rattle.outside.specs.AreaShelf.{AreaShelf}
use Rattle.outside.specs.Shelf.{Shelf}
use Rattle.outside.specs.declared.disk.Disk as disks
use Rattle.outside.specs.declared.media.Media.{Media}
use Rattle.outside.specs.declared.objects.Objects as objects
use Rattle.outside.specs.declared.objects.ObjectRead as reads
use Rattle.outside.specs.declared.objects.ObjectWrite as writes
use Rattle.journal_disk.specs.Areas.{Found, journal_of}
use Rattle.master_node.specs.Mastering.{Mastering, StandsFor, standing_of}
use Rattle.master_node.specs.Recovery.{Finds, IsOver, IsTooLong, IsUnserved, first_standing, is_served}
use Rattle.master_state.specs.Effect.{meaning}
use Rattle.node_main.specs.declared.run.End.{End}
use Rattle.node_main.specs.declared.run.End.TheVariants as ends
use Rattle.node_main.specs.Ends.{Ended, Held, IsLent, IsUnplayed, Kept, PlaysSo, end_of_areas, end_of_journal, media_names, status_of}
use Rattle.node_main.specs.Words.{play_words}

-- ---- by what the areas stand for

if_true : (test : Bool) (a b : End) → test ≡ true → (if test then a else b) ≡ a
if_true true a b e = refl
if_true false a b e = absurd (cc)

if_false : (test : Bool) (a b : End) → test ≡ false → (if test then a else b) ≡ b
if_false true a b e = absurd (cc)
if_false false a b e = refl

served : (U : Setup) (found : Found) → (c : _) × (found ≡ Ok (Some c)) × (is_served U (meaning c.entries) ≡ true) → end_of_journal U found ≡ ends.Done
served U found s = ap (end_of_journal U) s.1 ∙ if_true (is_served U (meaning s.0.entries)) ends.Done ends.BadSetup s.2

unserved : (U : Setup) (found : Found) → (c : _) × (found ≡ Ok (Some c)) × (is_served U (meaning c.entries) ≡ false) → end_of_journal U found ≡ ends.BadSetup
unserved U found s = ap (end_of_journal U) s.1 ∙ if_false (is_served U (meaning s.0.entries)) ends.Done ends.BadSetup s.2

short : (U : Setup) (found : Found) → found ≡ Ok None → (IsTooLong U → ⊥) → end_of_journal U found ≡ ends.Done
short U found e not_long = ap (end_of_journal U) e ∙ by_test (nat_lt U.area ((first_standing U).gate + 1)) refl
  where
    by_test : (test : Bool) → nat_lt U.area ((first_standing U).gate + 1) ≡ test → (if test then ends.BadSetup else ends.Done) ≡ ends.Done
    by_test true t = absurd (not_long (ltb-true _ _ t))
    by_test false t = refl

long : (U : Setup) (found : Found) → found ≡ Ok None → IsTooLong U → end_of_journal U found ≡ ends.BadSetup
long U found e too = ap (end_of_journal U) e ∙ if_true (nat_lt U.area ((first_standing U).gate + 1)) ends.BadSetup ends.Done (lt-ltb _ _ too)

-- ---- statuses

-- the status is one of which areas say when it comes
abbrev IsOfAreas : ℕ → Type 0
IsOfAreas status = (status ≡ 0) ⊎ (status ≡ 3) ⊎ (status ≡ 7)

abbrev is_of_areas : ℕ → Bool
is_of_areas status = status == 0 || status == 3 || status == 7

apart : (status : ℕ) → is_of_areas status ≡ false → IsOfAreas status → ⊥
apart status test (inl e) = let h : true ≡ false = subst (λ n. is_of_areas n ≡ false) e test in cc
apart status test (inr (inl e)) = let h : true ≡ false = subst (λ n. is_of_areas n ≡ false) e test in cc
apart status test (inr (inr e)) = let h : true ≡ false = subst (λ n. is_of_areas n ≡ false) e test in cc

some_and : {T : Type 0} (o : Option T) (P : T → Type 0) (Q : Type 0) → ((x : T) → P x → Q) → IsSomeAnd o P → Q
some_and None P Q f a = absurd a
some_and (Some x) P Q f a = f x a

-- ---- over media that were lent

module _ {D S R W : Type 0} (d : disks.Ghosts D) (o : objects.Ghosts S R W) (r : reads.Ghosts R) (w : writes.Ghosts W) (shelf : Option Shelf) (areas : AreaShelf) (new : Kept) where
  abbrev old : Kept
  old = (shelf, Some areas)

  abbrev pair : List ℕ × List ℕ
  pair = areas media_names.journal

  -- what a read of areas that were lent gives is what the world holds
  found : (lent : Media D S) → IsLent d o r w old lent → (P : List ℕ → List ℕ → Type 0) → Finds d (lent.areas).0 (lent.areas).1 P → P pair.0 pair.1
  found lent is P finds =
      let tell = is.fresh.tell in
      subst (λ x. P x pair.1) (sym (is.held.areas.first tell.0)) (subst (λ y. P (d.history (lent.areas).0.disk).now.held y) (sym (is.held.areas.second tell.1)) (finds tell))

  -- a cluster was opened over them
  opened : (lent : Media D S) → IsLent d o r w old lent → (m : Mastering D) → IsOver d two_workers (lent.areas).0 (lent.areas).1 m → end_of_areas two_workers pair ≡ ends.Done
  opened lent is m over = elim over.from [
    | inl again ↦ (let s = found lent is (StandsFor (standing_of m)) again.found in served two_workers (journal_of pair.0 pair.1) (s.0, s.1, subst (λ names. is_served two_workers names ≡ true) (sym (ap (λ t. t.names) s.2)) over.served))
    | inr first ↦ short two_workers (journal_of pair.0 pair.1) (found lent is (λ x y. journal_of x y ≡ Ok None) first.areas.none) first.short
  ]

  -- none was, since the setup doesn't serve what they keep
  bad_setup : IsUnplayed d o r w old new Stop.Setup → end_of_areas two_workers pair ≡ ends.BadSetup
  bad_setup u = elim u.given.unopened [
    | inl early ↦ absurd (let e = early.0 in cc)
    | inr late ↦ elim (late.0.unserved refl) [
      | inl keeps ↦ unserved two_workers (journal_of pair.0 pair.1) (found u.lent u.held (IsUnserved two_workers) keeps)
      | inr too ↦ long two_workers (journal_of pair.0 pair.1) (found u.lent u.held (λ x y. journal_of x y ≡ Ok None) too.0) too.1
    ]
  ]

  -- none was, since the current one is damaged
  damaged : (area place : ℕ) → IsUnplayed d o r w old new (Stop.Damaged area place) → end_of_areas two_workers pair ≡ ends.Damaged area place
  damaged area place u = elim u.given.unopened [
    | inl early ↦ absurd (let e = early.0 in cc)
    | inr late ↦ ap (end_of_journal two_workers) (found u.lent u.held (λ x y. journal_of x y ≡ Err (area, place)) (late.0.damaged area place refl))
  ]

  -- a script was played to its end over them
  played : (T : _) (is_script : _) → PlaysSo d o r w old new T is_script → end_of_areas two_workers pair ≡ ends.Done
  played T is_script p = opened p.lent p.held p.played.between.first.master p.played.between.opened.over

  module _ (held : Option Held) (words : List (List ℕ)) (before after : Option (List ℕ)) (world input sink : Type 0) where
    -- the ends of statuses 0, 3 and 7 are those that the areas tell
    as_told : (end : End) → Ended d o r w old new held words before after world input sink end → IsOfAreas (status_of end) → end_of_areas two_workers pair ≡ end
    as_told ends.Done a h = some_and (play_words words) _ _ (λ names p. played _ _ p) a
    as_told ends.BadSetup a h = bad_setup a.0.1
    as_told (ends.Damaged area place) a h = damaged area place a.0.1
    as_told ends.BadWords a h = absurd (apart 2 refl h)
    as_told (ends.BadScript line) a h = absurd (apart 4 refl h)
    as_told ends.ReadFault a h = absurd (apart 5 refl h)
    as_told ends.WriteFault a h = absurd (apart 6 refl h)
    as_told ends.Memory a h = absurd (apart 8 refl h)
    as_told ends.TooLong a h = absurd (apart 9 refl h)
    as_told ends.OpenFault a h = absurd (apart 10 refl h)
    as_told ends.JournalFault a h = absurd (apart 11 refl h)

module _ {D S R W : Type 0} (d : disks.Ghosts D) (o : objects.Ghosts S R W) (r : reads.Ghosts R) (w : writes.Ghosts W) (shelf : Option Shelf) (new : Kept) (held : Option Held) (words : List (List ℕ)) (before after : Option (List ℕ)) (world input sink : Type 0) where
  pub over_areas : (areas : Option AreaShelf) (end : End) → Ended d o r w (shelf, areas) new held words before after world input sink end → (status : ℕ) → status ≡ status_of end → IfSome areas (λ told. IsOfAreas status → status ≡ status_of (end_of_areas two_workers (told media_names.journal)))
  over_areas None end a status is = tt
  over_areas (Some told) end a status is = λ h. is ∙ ap status_of (sym (as_told d o r w shelf told new held words before after world input sink end a (subst IsOfAreas is h)))
