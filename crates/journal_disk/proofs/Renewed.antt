-- An area that is written anew.
use Rattle.std.proofs.Common.{◌≡◌, inl, inr, ⊎_elim, ℕ, ◌+◌, ◌≤◌, List, [], ◌∷◌, ◌++◌, length, take, drop, get_or, max, OnOk, OnErr, Result, refl, sym, ◌∙◌, ap, subst, arith}
use Rattle.std.proofs.lemmas.List.{take_all}
use Rattle.std.proofs.lemmas.Bool.{cases_eq}
use Rattle.outside.specs.History.{Moment, History, IsOutside, Since, after_write, after_sync, greatest_end, overwritten, written}
use Rattle.journal_disk.specs.Closing.{IsShut, IsClosed, IsWriting, KeepsHead, Replaces}
use Rattle.journal_disk.specs.Staging.{IsStage}
use Rattle.journal_disk.proofs.Moments.{Sees, one_more, since_map, since_then, only_synced}
use Rattle.journal_disk.proofs.Stage.{stage_has}
use Rattle.journal_disk.proofs.Shut.{shut_head, sees_shut}
use Rattle.journal_disk.proofs.Heads.{same_rest}
use Rattle.journal_disk.proofs.Anew.{Keeping, synced_one}

-- the whole text behind a closed head gate
full : (text h : List ℕ) → 1 ≤ length h → get_or h 0 0 ≡ 0 → (r : List ℕ) × (overwritten 1 (take (length text) text) h ≡ 0 ∷ (text ++ r))
full text [] long zero = absurd (omega (arith, long))
full text (b ∷ h) long zero =
    let r = drop (1 + length (take (length text) text)) (b ∷ h) in
    (r, ap (λ (l : List ℕ). b ∷ (l ++ r)) (take_all (length text) text (omega arith)) ∙ ap (λ (x : ℕ). x ∷ (text ++ r)) zero)

module _ (text bytes : List ℕ) where
  abbrev pub R : Moment → Type 0
  R = Sees (Replaces text bytes)

  shut_has : (m : Moment) → IsShut m → R m
  shut_has m shut c image = inl (inl (sees_shut m shut c image))

  -- the last write, over a closed gate that is on the disk
  opening : (held : List ℕ) (d : History) (r : List ℕ) → d.now.synced ≡ 0 ∷ (text ++ r) → d.now.written ≡ [] → R (after_write 0 1 held d).now
  opening held d r is none c image =
      let size : length d.now.synced ≡ length (0 ∷ (text ++ r)) = ap length is in
      let short : length c ≤ max 1 (length d.now.synced) = subst (λ (l : List (ℕ × ℕ)). length c ≤ max 1 (greatest_end l (length d.now.synced))) none image.no_longer in
      let same : length c ≡ length (0 ∷ (text ++ r)) = omega (arith, size, short, image.no_shorter) in
      let here : c ≡ get_or c 0 0 ∷ (text ++ r) = same_rest (0 ∷ (text ++ r)) c same (omega arith)
      (λ place lt one. image.kept place (omega (arith, lt, size)) (inr (omega (arith, one)), subst (λ (l : List (ℕ × ℕ)). IsOutside l place) (sym none) tt) ∙ ap (λ (l : List ℕ). get_or l place 0) is) in
      ⊎_elim (λ (shut : get_or c 0 0 ≡ 0). inl (inl (shut_head c shut))) (λ apart. inr (get_or c 0 0, apart, r, here)) (cases_eq (get_or c 0 0) 0)

  -- closing
  pub kept : (s x : History) → s.now.held ≡ bytes → Since s x (Keeping s) → Since s x R
  kept s x is since = since_map (Keeping s) R s x (λ m sees c image. inl (subst (λ (l : List ℕ). KeepsHead l c) is (sees c image))) since

  -- writing behind the closed gate
  pub shut_run : (s a b : History) → Since s a R → Since a b IsShut → Since s b R
  shut_run s a b so_far since = since_then s a b R so_far (since_map IsShut R a b shut_has since)

  -- syncing it
  pub synced_run : {E : Type 0} (s a b d : History) (r : Result Unit E) → IsClosed a.now → Since s b R → IsWriting text (length text) a b → OnOk r (d ≡ after_sync b) → OnErr r (d ≡ b) → Since s d R
  synced_run s a b d r closed so_far w ok err =
      let all = full text a.now.held closed.long closed.zero in
      synced_one s b d R r so_far
      (λ c image. inl (inl (shut_head c (ap (λ (l : List ℕ). get_or l 0 0) (only_synced (after_sync b).now c refl image ∙ w.held ∙ all.1))))) ok err

  -- opening the gate
  pub opened_run : (s a b d e : History) → IsClosed a.now → Since s b R → IsWriting text (length text) a b → d ≡ after_sync b → Since d e (IsStage 0 (1 ∷ []) d) → Since s e R
  opened_run s a b d e closed so_far w is since =
      let all = full text a.now.held closed.long closed.zero in
      let held : b.now.held ≡ 0 ∷ (text ++ all.0) = w.held ∙ all.1 in
      let mid = after_sync b in
      let at_sync : R mid.now = λ c image. inl (inl (shut_head c (ap (λ (l : List ℕ). get_or l 0 0) (only_synced mid.now c refl image ∙ held)))) in
      let at_end : R (after_sync (written 0 (1 ∷ []) mid)).now = λ c image.
      inr (1, (λ (f : 1 ≡ 0). omega (arith, f)), all.0, only_synced (after_sync (written 0 (1 ∷ []) mid)).now c refl image ∙ ap (λ (l : List ℕ). overwritten 0 (1 ∷ []) l) held) in
      let later : Since mid e (IsStage 0 (1 ∷ []) mid) = subst (λ (z : History). Since z e (IsStage 0 (1 ∷ []) z)) is since in
      since_then s mid e R (one_more s b R mid.now so_far at_sync) (since_map (IsStage 0 (1 ∷ []) mid) R mid e (stage_has 0 (1 ∷ []) mid R at_sync (λ h. opening h mid all.0 held refl) at_end) later)
