-- What closing a head gate and writing behind it leave.
use Rattle.std.proofs.Common.{◌≡◌, inl, inr, ⊎_elim, ℕ, ◌+◌, List, [], ◌∷◌, length, OnOk, OnErr, Result, Ok, Err, true, false, refl, sym, ap, subst, arith}
use Rattle.outside.specs.History.{Moment, History, MayWrite, Since, after_write, after_sync, overwritten, written}
use Rattle.journal_disk.specs.AreaText.{head_of}
use Rattle.journal_disk.specs.Closing.{IsKnown, IsShut, IsWriting, KeepsHead}
use Rattle.journal_disk.specs.Staging.{IsStage}
use Rattle.journal_disk.proofs.Moments.{Sees, started, one_more, since_map}
use Rattle.journal_disk.proofs.Stage.{stage_has}
use Rattle.journal_disk.proofs.Heads.{sees_known, sees_closing, sees_held}
use Rattle.journal_disk.proofs.Shut.{shut_head, write_shut}

-- ---- one call more
-- a sync, whatever it answered
pub synced_one : {E : Type 0} (s0 s x : History) (P : Moment → Type 0) (r : Result Unit E) → Since s0 s P → P (after_sync s).now → OnOk r (x ≡ after_sync s) → OnErr r (x ≡ s) → Since s0 x P
synced_one s0 s x P (Ok v) so_far here ok err = subst (λ (y : History). Since s0 y P) (sym ok) (one_more s0 s P (after_sync s).now so_far here)
synced_one s0 s x P (Err e) so_far here ok err = subst (λ (y : History). Since s0 y P) (sym err) so_far

-- a write, whatever it answered
written_one : {E : Type 0} (at : ℕ) (piece : List ℕ) (s0 s x : History) (P : Moment → Type 0) (r : Result Unit E) → Since s0 s P → ((held : List ℕ) → P (after_write at (length piece) held s).now) → OnOk r (x ≡ written at piece s) → OnErr r (MayWrite at piece s x) → Since s0 x P
written_one at piece s0 s x P (Ok v) so_far here ok err = subst (λ (y : History). Since s0 y P) (sym ok) (one_more s0 s P (written at piece s).now so_far (here (overwritten at piece s.now.held)))
written_one at piece s0 s x P (Err e) so_far here ok err = ⊎_elim
    (λ (same : x ≡ s). subst (λ (y : History). Since s0 y P) (sym same) so_far)
    (λ torn. subst (λ (y : History). Since s0 y P) (sym torn.2) (one_more s0 s P (after_write at (length piece) torn.0 s).now so_far (here torn.0))) err

-- ---- closing
abbrev pub Keeping : History → Moment → Type 0
Keeping s = Sees (KeepsHead s.now.held)

-- by a write and a sync
pub close_stage : (s x : History) → IsKnown false s.now → Since s x (IsStage 0 (0 ∷ []) s) → Since s x (Keeping s)
close_stage s x known since = since_map (IsStage 0 (0 ∷ []) s) (Keeping s) s x
    (stage_has 0 (0 ∷ []) s (Keeping s) (sees_known false s known) (λ held. sees_closing s held known) (sees_held (written 0 (0 ∷ []) s) s.now.held (inl (shut_head (overwritten 0 (0 ∷ []) s.now.held) refl)))) since

-- where it is closed already, by two syncs
pub close_sync : {E : Type 0} (s x : History) (r : Result Unit E) → IsKnown true s.now → OnOk r (x ≡ after_sync s) → OnErr r (x ≡ s) → Since s x (Keeping s)
close_sync s x r known ok err = synced_one s s x (Keeping s) r (started s (Keeping s) (sees_known true s known)) (sees_held s s.now.held (inr refl)) ok err

pub close_syncs : {E : Type 0} (s x y : History) (r : Result Unit E) → IsKnown true s.now → x ≡ after_sync s → OnOk r (y ≡ after_sync x) → OnErr r (y ≡ x) → Since s y (Keeping s)
close_syncs s x y r known is ok err =
    let first : Since s x (Keeping s) = subst (λ (z : History). Since s z (Keeping s)) (sym is) (one_more s s (Keeping s) (after_sync s).now (started s (Keeping s) (sees_known true s known)) (sees_held s s.now.held (inr refl))) in
    synced_one s x y (Keeping s) r first (sees_held x s.now.held (inr (ap (λ (z : History). head_of z.now.held) is))) ok err

-- ---- writing behind it
pub stays_shut : {E : Type 0} (text piece : List ℕ) (at : ℕ) (s0 s x : History) (r : Result Unit E) → IsWriting text at s0 s → OnOk r (x ≡ written (1 + at) piece s) → OnErr r (MayWrite (1 + at) piece s x) → Since s0 x IsShut
stays_shut text piece at s0 s x r w ok err = written_one (1 + at) piece s0 s x IsShut r w.since (λ held. write_shut s (1 + at) (length piece) held (omega arith) w.shut) ok err
