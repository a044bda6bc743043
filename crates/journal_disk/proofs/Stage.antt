-- The moments of a write with a sync behind it.
use Rattle.std.proofs.Common.{◌≡◌, inl, inr, ⊎_elim, ℕ, List, length, OnOk, OnErr, Result, Ok, Err, refl, sym, ◌∙◌, ap, subst}
use Rattle.outside.specs.History.{Moment, History, MayWrite, Since, after_write, after_sync, overwritten, written}
use Rattle.journal_disk.specs.Staging.{IsStage}
use Rattle.journal_disk.proofs.Moments.{started, one_more}

to_written : (at : ℕ) (piece : List ℕ) (s : History) → Since s (written at piece s) (IsStage at piece s)
to_written at piece s = one_more s s (IsStage at piece s) (written at piece s).now (started s (IsStage at piece s) (inl refl)) (inr (inl (overwritten at piece s.now.held, refl)))

-- after the write, whatever it answered
pub write_stage : {E : Type 0} (at : ℕ) (piece : List ℕ) (s x : History) (r : Result Unit E) → OnOk r (x ≡ written at piece s) → OnErr r (MayWrite at piece s x) → Since s x (IsStage at piece s)
write_stage at piece s x (Ok v) ok err = subst (λ (y : History). Since s y (IsStage at piece s)) (sym ok) (to_written at piece s)
write_stage at piece s x (Err e) ok err = ⊎_elim
    (λ (same : x ≡ s). subst (λ (y : History). Since s y (IsStage at piece s)) (sym same) (started s (IsStage at piece s) (inl refl)))
    (λ torn. subst (λ (y : History). Since s y (IsStage at piece s)) (sym torn.2) (one_more s s (IsStage at piece s) (after_write at (length piece) torn.0 s).now (started s (IsStage at piece s) (inl refl)) (inr (inl (torn.0, refl)))))
    err

passed_stage : (at : ℕ) (piece : List ℕ) (s x : History) → x ≡ written at piece s → Since s x (IsStage at piece s)
passed_stage at piece s x is = subst (λ (y : History). Since s y (IsStage at piece s)) (sym is) (to_written at piece s)

-- after the sync, where the write passed
pub sync_stage : {E : Type 0} (at : ℕ) (piece : List ℕ) (s x y : History) (r : Result Unit E) → x ≡ written at piece s → OnOk r (y ≡ after_sync x) → OnErr r (y ≡ x) → Since s y (IsStage at piece s)
sync_stage at piece s x y (Ok v) is ok err =
    subst (λ (z : History). Since s z (IsStage at piece s)) (sym (ok ∙ ap after_sync is)) (one_more s (written at piece s) (IsStage at piece s) (after_sync (written at piece s)).now (to_written at piece s) (inr (inr refl)))
sync_stage at piece s x y (Err e) is ok err = passed_stage at piece s y (err ∙ is)

pub stage_has : (at : ℕ) (piece : List ℕ) (s : History) (P : Moment → Type 0) → P s.now → ((held : List ℕ) → P (after_write at (length piece) held s).now) → P (after_sync (written at piece s)).now → (m : Moment) → IsStage at piece s m → P m
stage_has at piece s P start write sync m (inl is) = subst P (sym is) start
stage_has at piece s P start write sync m (inr (inl w)) = subst P (sym w.1) (write w.0)
stage_has at piece s P start write sync m (inr (inr is)) = subst P (sym is) sync
