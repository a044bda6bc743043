-- What the areas stand for after an event.
use Rattle.std.proofs.Common.{◌≡◌, ◌⊎◌, inl, inr, ℕ, ◌<◌, Bool, true, false, not, IsTrue, List, [], ◌∷◌, ◌++◌, get_or, Option, Some, None, refl, sym, ap, ◌∙◌, subst}
use Rattle.fs_model.specs.declared.change.Change.{Change}
use Rattle.fs_model.specs.State.{Content, Doubt, Master, Names, State}
use Rattle.outside.specs.History.{Each, History, Images, Leaves, Moment, Since, moments}
use Rattle.outside.specs.declared.disk.Disk as disks
use Rattle.journal_disk.specs.Journaling.{BothTell, GoesOn, Journaling, area_0, area_1}
use Rattle.master_node.specs.Mastering.{IsKept, LeavesStanding, Mastering, Standing, StandsFor, names_of, standing_of}
use Rattle.cluster_core.specs.AreasStand.{AreasStand, ChangeFits, DoubtFits, doubted_at, standing_at}
use Rattle.cluster_core.specs.Entering.{HasStopped, Stays}
use Rattle.cluster_core.specs.Knowledge.{Knowledge}
use Rattle.cluster_core.specs.NamesStand.{NamesStand}
use Rattle.cluster_core.proofs.Sides.{same_sides}

-- ---- the last moment of a call

since_last : (s x : History) (P : Moment → Type 0) → Since s x P → P x.now
since_last s x P since = by since.front since.goes_on since.each
  where
    by : (front : List Moment) → moments x ≡ front ++ moments s → Each P front → P x.now
    by [] is each = subst P (ap (λ l. get_or l 0 s.now) (sym is)) since.start
    by (m ∷ front) is each = subst P (ap (λ l. get_or l 0 m) (sym is)) each.0

leaves_last : (a x b y : History) (P : List ℕ → List ℕ → Type 0) → Leaves a x b y P → Images P x.now y.now
leaves_last a x b y P leaves = since_last b y (λ n. Images P x.now n) (since_last a x (λ m. Since b y (λ n. Images P m n)) leaves)

-- ---- the areas

-- what a master stands for is what the state has
pub standing_is : {D : Type 0} (m : Mastering D) (A : State) → NamesStand m A → m.journal.failed ≡ false → standing_of m ≡ standing_at A.names A.master
standing_is m A s up = λ i. record { names = sym s.names i; gate = sym (s.gate up) i; generation = sym (s.generation up) i }

-- the master of the state is up where this one is
pub up_is : {D : Type 0} (m : Mastering D) (A : State) → NamesStand m A → m.journal.failed ≡ false → A.master.up ≡ true
up_is m A s up = by A.master.up (s.down ∙ up)
  where
    by : (b : Bool) → not b ≡ false → b ≡ true
    by true h = refl
    by false h = absurd (cc)

module _ {D : Type 0} (d : disks.Ghosts D) where
  -- more is known, of files that somebody writes
  pub areas_known : (K N : Knowledge) (contents : List Content) (bs : ℕ) (m : Mastering D) (names : Names) (M : Master) → ((id : ℕ) → id < names.next_id → K.author id ≡ None → (N.bytes_of id ≡ K.bytes_of id) × (N.author id ≡ None)) → AreasStand d K contents bs m names M → AreasStand d N contents bs m names M
  areas_known K N contents bs m names M on a = record { tell = a.tell; images = a.images; certain = a.certain; fits = doubt_on M.doubt a.fits }
    where
      change_on : (c : Change) (bytes : List ℕ) → ChangeFits K contents names.next_id bs c bytes → ChangeFits N contents names.next_id bs c bytes
      change_on (Change.Done id len stored plan) bytes f =
          let same = on id f.old f.written in
          record { old = f.old; unstored = f.unstored; planless = f.planless; bytes = same.0 ∙ f.bytes; len = f.len; short = f.short; written = same.1; unkept = f.unkept }
      change_on c bytes f = f

      doubt_on : (o : Option Doubt) → DoubtFits K contents names.next_id bs o → DoubtFits N contents names.next_id bs o
      doubt_on None f = f
      doubt_on (Some (Doubt.InChange c bytes)) f = change_on c bytes f
      doubt_on (Some Doubt.InCheckpoint) f = f

  -- nothing is in doubt, whatever is known and kept
  pub areas_sure : (K N : Knowledge) (contents more : List Content) (bs : ℕ) (m : Mastering D) (names : Names) (M : Master) → M.doubt ≡ None → AreasStand d K contents bs m names M → AreasStand d N more bs m names M
  areas_sure K N contents more bs m names M none a = record { tell = a.tell; images = a.images; certain = a.certain; fits = subst (DoubtFits N more names.next_id bs) (sym none) tt }

  -- another fuse
  pub areas_fused : (K : Knowledge) (contents : List Content) (bs : ℕ) (m : Mastering D) (names : Names) (M : Master) (fuse : Option ℕ) → AreasStand d K contents bs m names M → AreasStand d K contents bs m names (record M { fuse = fuse })
  areas_fused K contents bs m names M fuse a = record { tell = a.tell; images = a.images; certain = a.certain; fits = a.fits }

  -- another master over the same areas
  pub areas_same : (K : Knowledge) (contents : List Content) (bs : ℕ) (old new : Mastering D) (names : Names) (M : Master) → d.history (area_0 new.journal) ≡ d.history (area_0 old.journal) → d.history (area_1 new.journal) ≡ d.history (area_1 old.journal) → d.tells (area_0 new.journal) ≡ d.tells (area_0 old.journal) → d.tells (area_1 new.journal) ≡ d.tells (area_1 old.journal)
      → AreasStand d K contents bs old names M → AreasStand d K contents bs new names M
  areas_same K contents bs old new names M same_0 same_1 tells_0 tells_1 a = record {
    tell = (subst IsTrue (sym tells_0) a.tell.0, subst IsTrue (sym tells_1) a.tell.1);
    images = subst (λ (h : History). Images (λ x y. StandsFor (standing_at names M) x y ⊎ StandsFor (doubted_at names M) x y) h.now (d.history (area_1 new.journal)).now) (sym same_0)
        (subst (λ (h : History). Images (λ x y. StandsFor (standing_at names M) x y ⊎ StandsFor (doubted_at names M) x y) (d.history (area_0 old.journal)).now h.now) (sym same_1) a.images);
    certain = a.certain;
    fits = a.fits;
  }

  -- no area was called
  pub areas_stay : (K : Knowledge) (contents : List Content) (bs : ℕ) (old new : Mastering D) (names : Names) (M : Master) → Stays d old new → AreasStand d K contents bs old names M → AreasStand d K contents bs new names M
  areas_stay K contents bs old new names M h =
      let history = same_sides d h.journal d.history h.journal.here h.journal.there in
      let tells = same_sides d h.journal d.tells h.journal.tells_here h.journal.tells_there in
      areas_same K contents bs old new names M history.0 history.1 tells.0 tells.1

  tell_on : {old new : Journaling D} → GoesOn d old new → BothTell d old → BothTell d new
  tell_on g tell = (subst IsTrue (sym g.tells_0) tell.0, subst IsTrue (sym g.tells_1) tell.1)

  -- what was acknowledged stands in each image
  pub areas_kept : (K : Knowledge) (contents : List Content) (bs : ℕ) (m : Mastering D) (names : Names) (M : Master) → BothTell d m.journal → IsKept d m → standing_of m ≡ standing_at names M → M.doubt ≡ None → AreasStand d K contents bs m names M
  areas_kept K contents bs m names M tell kept is none = record {
    tell = tell;
    images = λ a b i j. inl (subst (λ s. StandsFor s a b) is (kept tell a b i j));
    certain = λ up. none;
    fits = subst (DoubtFits K contents names.next_id bs) (sym none) tt;
  }

  -- so it is after a call that went on from there
  pub areas_entered : (K : Knowledge) (contents : List Content) (bs : ℕ) (old new : Mastering D) (names : Names) (M : Master) → BothTell d old.journal → GoesOn d old.journal new.journal → IsKept d new → standing_of new ≡ standing_at names M → M.doubt ≡ None → AreasStand d K contents bs new names M
  areas_entered K contents bs old new names M tell goes kept is none = areas_kept K contents bs new names M (tell_on goes tell) kept is none

  -- after a call that failed the change is in doubt
  pub areas_stopped : (K : Knowledge) (contents : List Content) (bs calls : ℕ) (s : Standing) (old new : Mastering D) (names : Names) (M : Master) → BothTell d old.journal → HasStopped d calls s old new → standing_of old ≡ standing_at names M → s ≡ doubted_at names M → M.up ≡ false → DoubtFits K contents names.next_id bs M.doubt → AreasStand d K contents bs new names M
  areas_stopped K contents bs calls s old new names M tell h is doubt down fits = record {
    tell = tell_on h.goes_on tell;
    images = subst (λ t. Images (λ x y. StandsFor (standing_at names M) x y ⊎ StandsFor t x y) (d.history (area_0 new.journal)).now (d.history (area_1 new.journal)).now) doubt
        (subst (λ t. Images (λ x y. StandsFor t x y ⊎ StandsFor s x y) (d.history (area_0 new.journal)).now (d.history (area_1 new.journal)).now) is
        (leaves_last (d.history (area_0 old.journal)) (d.history (area_0 new.journal)) (d.history (area_1 old.journal)) (d.history (area_1 new.journal)) (λ x y. StandsFor (standing_of old) x y ⊎ StandsFor s x y) (h.moments tell)));
    certain = λ up. absurd (let no = sym up ∙ down in cc);
    fits = fits;
  }
