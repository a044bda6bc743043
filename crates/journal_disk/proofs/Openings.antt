-- What the opening does to one area, and what that makes of both.
use Rattle.std.proofs.Common.{◌≡◌, ℕ, ◌≤◌, Bool, false, List, Option, Some, None, OnOk, OnErr, Result, Ok, Err, IsTrue, refl, sym, ◌∙◌, ap, subst, arith}
use Rattle.outside.specs.History.{History, IsImage, Images, Since, Leaves, after_sync}
use Rattle.outside.specs.Fuse.{Fusing, IsNoLonger}
use Rattle.outside.specs.declared.disk.Disk as disks
use Rattle.journal_entry.specs.declared.entry.Entry.{Entry}
use Rattle.journal_disk.specs.Journaling.{Journaling}
use Rattle.journal_disk.specs.Opening.{IsBroken, IsHeaded, IsRead, IsRecovered, Opens}
use Rattle.journal_disk.specs.declared.fault.RecoverFault.{RecoverFault}
use Rattle.journal_disk.proofs.Moments.{Sees, started, one_more, only_synced, since_map}
use Rattle.journal_disk.proofs.Fronts.{none_stays}
use Rattle.journal_disk.proofs.Journals.{open_gate}

-- a sync leaves images alone that there were
synced : {E : Type 0} (s x : History) (answer : Result Unit E) → IsImage s.now s.now.held → OnOk answer (x ≡ after_sync s) → OnErr answer (x ≡ s) → Since s x (Sees (IsImage s.now))
synced s x (Ok v) law ok err = subst (λ (h : History). Since s h (Sees (IsImage s.now))) (sym ok)
    (one_more s s (Sees (IsImage s.now)) (after_sync s).now (started s (Sees (IsImage s.now)) (λ c image. image))
    (λ c image. subst (λ (l : List ℕ). IsImage s.now l) (sym (only_synced (after_sync s).now c refl image)) law))
synced s x (Err e) law ok err = subst (λ (h : History). Since s h (Sees (IsImage s.now))) (sym err) (started s (Sees (IsImage s.now)) (λ c image. image))

same_held : {E : Type 0} (s x : History) (answer : Result Unit E) → OnOk answer (x ≡ after_sync s) → OnErr answer (x ≡ s) → x.now.held ≡ s.now.held
same_held s x (Ok v) ok err = ap (λ (h : History). h.now.held) ok
same_held s x (Err e) ok err = ap (λ (h : History). h.now.held) err

module _ {D : Type 0} (w : disks.Ghosts D) where
  -- one area, from the call's start on
  pub record Half (x y : Fusing D) : Type 0 where
    pub tells : w.tells y.disk ≡ w.tells x.disk
    pub held : IsTrue (w.tells x.disk) → (w.history y.disk).now.held ≡ (w.history x.disk).now.held
    pub own : w.faults x.disk ≤ w.faults y.disk
    pub fuse : y.fuse ≡ None
    pub images : IsTrue (w.tells x.disk) → Since (w.history x.disk) (w.history y.disk) (Sees (IsImage (w.history x.disk).now))

  pub still : (x y : Fusing D) → w.tells y.disk ≡ w.tells x.disk → w.history y.disk ≡ w.history x.disk → w.faults x.disk ≤ w.faults y.disk → y.fuse ≡ None → Half x y
  still x y tells history own fuse = record {
    tells = tells;
    held = λ _. ap (λ (h : History). h.now.held) history;
    own = own;
    fuse = fuse;
    images = λ _. subst (λ (h : History). Since (w.history x.disk) h (Sees (IsImage (w.history x.disk).now))) (sym history) (started (w.history x.disk) (Sees (IsImage (w.history x.disk).now)) (λ c image. image));
  }

  pub synced_half : {E : Type 0} (x y z : Fusing D) (answer : Result Unit E) → ((d : D) → IsTrue (w.tells d) → IsImage (w.history d).now (w.history d).now.held)
      → w.tells y.disk ≡ w.tells x.disk → w.history y.disk ≡ w.history x.disk → w.faults x.disk ≤ w.faults y.disk → y.fuse ≡ None
      → (IsTrue (w.tells y.disk) → OnOk answer (w.history z.disk ≡ after_sync (w.history y.disk))) → (IsTrue (w.tells y.disk) → OnErr answer (w.history z.disk ≡ w.history y.disk))
      → w.tells z.disk ≡ w.tells y.disk → w.faults y.disk ≤ w.faults z.disk → IsNoLonger y.fuse z.fuse → Half x z
  synced_half x y z answer law tells history own fuse ok err tells_on own_on shorter = record {
    tells = tells_on ∙ tells;
    held = λ told.
        let there = subst IsTrue (sym tells) told in
        same_held (w.history y.disk) (w.history z.disk) answer (ok there) (err there) ∙ ap (λ (h : History). h.now.held) history;
    own = omega (arith, own, own_on);
    fuse = none_stays _ _ shorter fuse;
    images = λ told.
        let there = subst IsTrue (sym tells) told in
        subst (λ (h : History). Since h (w.history z.disk) (Sees (IsImage h.now))) history (synced (w.history y.disk) (w.history z.disk) answer (law y.disk there) (ok there) (err there));
  }

  -- and then reads
  pub read_on : (x y z : Fusing D) → Half x y → IsRead w y z → Half x z
  read_on x y z half read = record {
    tells = read.tells ∙ half.tells;
    held = λ told. ap (λ (h : History). h.now.held) read.history ∙ half.held told;
    own = omega (arith, half.own, read.own);
    fuse = read.fuse half.fuse;
    images = λ told. subst (λ (h : History). Since (w.history x.disk) h (Sees (IsImage (w.history x.disk).now))) (sym read.history) (half.images told);
  }

  -- both areas, at a moment of each
  pub both_halves : (a b a' b' : Fusing D) → Half a a' → Half b b' → Opens w a b a' b'
  both_halves a b a' b' x y = record {
    tells_0 = x.tells;
    tells_1 = y.tells;
    held_0 = x.held;
    held_1 = y.held;
    own_0 = x.own;
    own_1 = y.own;
    fuse_0 = x.fuse;
    fuse_1 = y.fuse;
    images = λ tell. since_map (Sees (IsImage (w.history a.disk).now)) (λ m. Since (w.history b.disk) (w.history b'.disk) (λ n. Images (λ s t. IsImage (w.history a.disk).now s × IsImage (w.history b.disk).now t) m n)) (w.history a.disk) (w.history a'.disk)
        (λ m sees. since_map (Sees (IsImage (w.history b.disk).now)) (λ n. Images (λ s t. IsImage (w.history a.disk).now s × IsImage (w.history b.disk).now t) m n) (w.history b.disk) (w.history b'.disk)
        (λ n seen. λ s t i j. (sees s i, seen t j)) (y.images tell.1))
        (x.images tell.0);
  }

  -- after further reads of both
  pub reads_on : (a b x y x' y' : Fusing D) → Opens w a b x y → IsRead w x x' → IsRead w y y' → Opens w a b x' y'
  reads_on a b x y x' y' opens here there = record {
    tells_0 = here.tells ∙ opens.tells_0;
    tells_1 = there.tells ∙ opens.tells_1;
    held_0 = λ told. ap (λ (h : History). h.now.held) here.history ∙ opens.held_0 told;
    held_1 = λ told. ap (λ (h : History). h.now.held) there.history ∙ opens.held_1 told;
    own_0 = omega (arith, opens.own_0, here.own);
    own_1 = omega (arith, opens.own_1, there.own);
    fuse_0 = here.fuse opens.fuse_0;
    fuse_1 = there.fuse opens.fuse_1;
    images = λ tell.
        subst (λ (h : History). Leaves (w.history a.disk) h (w.history b.disk) (w.history y'.disk) (λ s t. IsImage (w.history a.disk).now s × IsImage (w.history b.disk).now t)) (sym here.history)
        (subst (λ (h : History). Leaves (w.history a.disk) (w.history x.disk) (w.history b.disk) h (λ s t. IsImage (w.history a.disk).now s × IsImage (w.history b.disk).now t)) (sym there.history) (opens.images tell));
  }

  pub unread : (x : Fusing D) → IsRead w x x
  unread x = record { tells = refl; history = refl; own = omega arith; fuse = λ none. none }

  -- an area under a generation isn't closed
  pub headed : (area : Fusing D) (generation : Option ℕ) (shut : Bool) (n : ℕ) → generation ≡ Some n → IsHeaded w area generation shut → IsHeaded w area (Some n) false
  headed area generation shut n is h = record {
    rest = h.rest;
    head = λ told. h.head told ∙ is;
    closed = λ told. open_gate (w.history area.disk).now.held n (h.head told ∙ is);
  }

  -- what is said of an opening says nothing of the fuse before it
  opens_fused : (a b x y : Fusing D) → Opens w (record a { fuse = None }) (record b { fuse = None }) x y → Opens w a b x y
  opens_fused a b x y o = record {
    tells_0 = o.tells_0;
    tells_1 = o.tells_1;
    held_0 = o.held_0;
    held_1 = o.held_1;
    own_0 = o.own_0;
    own_1 = o.own_1;
    fuse_0 = o.fuse_0;
    fuse_1 = o.fuse_1;
    images = o.images;
  }

  pub recovered_fused : (a b p q : Fusing D) (limit : ℕ) (j : Journaling D) (entries : List Entry) → p ≡ record a { fuse = None } → q ≡ record b { fuse = None } → IsRecovered w p q limit j entries → IsRecovered w a b limit j entries
  recovered_fused a b p q limit j entries first second r =
      let here : IsRecovered w (record a { fuse = None }) (record b { fuse = None }) limit j entries = subst (λ s. IsRecovered w (record a { fuse = None }) s limit j entries) second (subst (λ s. IsRecovered w s q limit j entries) first r) in
      record { stands = here.stands; ready = here.ready; sound = here.sound; limited = here.limited; first = here.first; areas = opens_fused a b _ _ here.areas }

  pub broken_fused : (a b p q x y : Fusing D) (why : RecoverFault) → p ≡ record a { fuse = None } → q ≡ record b { fuse = None } → IsBroken w p q x y why → IsBroken w a b x y why
  broken_fused a b p q x y why first second r =
      let here : IsBroken w (record a { fuse = None }) (record b { fuse = None }) x y why = subst (λ s. IsBroken w (record a { fuse = None }) s x y why) second (subst (λ s. IsBroken w s q x y why) first r) in
      record { damaged = here.damaged; failed = here.failed; areas = opens_fused a b x y here.areas }
