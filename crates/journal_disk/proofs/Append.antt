-- What each call of an append leaves.
use Rattle.std.proofs.Common.{◌≡◌, inl, inr, ℕ, ◌+◌, ◌≤◌, List, [], ◌∷◌, ◌++◌, length, take, drop, get_or, true, OnOk, Result, Ok, Err, refl, sym, ◌∙◌, ap, subst, arith, append_assoc, length-append}
use Rattle.std.proofs.lemmas.List.{take_at, drop_at, drop_more, append-nil}
use Rattle.std.proofs.lemmas.List.Prefix.{at_from_reads, at_reads}
use Rattle.outside.specs.History.{History, IsOutside, overwritten, written, after_write, after_sync, Since}
use Rattle.journal_entry.specs.declared.entry.Entry.{Entry}
use Rattle.journal_entry.specs.EntryText.{entry_text, is_entry}
use Rattle.journal_disk.specs.AreaText.{next_gate}
use Rattle.journal_disk.specs.Journaling.{IsArea}
use Rattle.journal_disk.specs.Staging.{IsStage, IsResting, IsAreaOrMore}
use Rattle.journal_disk.proofs.Moments.{Sees, since_map, since_then, front_stands, only_synced}
use Rattle.journal_disk.proofs.Area.{Lead, lead_of, closed, opened, either}
use Rattle.journal_disk.proofs.Stage.{stage_has}

-- the current area, with a lead up to its closed gate
pub long : (h : History) (generation : ℕ) (entries : List Entry) (gate : ℕ) → IsResting h generation entries gate → gate + 1 ≤ length h.now.held
long h generation entries gate r =
    let at = lead_of h.now.held entries gate r.area.area in
    omega (arith, ap length at.is, at.size, length-append at.lead (0 ∷ at.rest))

module _ (generation : ℕ) (entries : List Entry) (gate : ℕ) (e : Entry) (s : History) (r : IsResting s generation entries gate) (entry : is_entry e ≡ true) where
  pub at : Lead s.now.held entries gate
  at = lead_of s.now.held entries gate r.area.area

  abbrev pub piece : List ℕ
  piece = entry_text e ++ 0 ∷ []

  abbrev pub Q : List ℕ → Type 0
  Q = IsAreaOrMore generation entries gate e

  -- the bytes behind the new text
  abbrev pub after : List ℕ
  after = drop (gate + 1 + length piece) s.now.held

  abbrev pub staged : List ℕ
  staged = overwritten (gate + 1) piece s.now.held

  lead_size : length (at.lead ++ 0 ∷ []) ≡ gate + 1
  lead_size = omega (arith, length-append at.lead (0 ∷ []), at.size)

  pub staged_is : staged ≡ at.lead ++ 0 ∷ (entry_text e ++ 0 ∷ after)
  staged_is =
      let front : take (gate + 1) s.now.held ≡ at.lead ++ 0 ∷ [] = ap (λ (l : List ℕ). take (gate + 1) l) (at.is ∙ sym (append_assoc at.lead (0 ∷ []) at.rest)) ∙ take_at (at.lead ++ 0 ∷ []) at.rest (gate + 1) lead_size in
      ap (λ (l : List ℕ). l ++ piece ++ after) front
      ∙ append_assoc (at.lead ++ 0 ∷ []) piece after
      ∙ append_assoc at.lead (0 ∷ []) (piece ++ after)
      ∙ ap (λ (l : List ℕ). at.lead ++ 0 ∷ l) (append_assoc (entry_text e) (0 ∷ []) after)

  pub long_staged : gate ≤ length staged
  long_staged = omega (arith, ap length staged_is, length-append at.lead (0 ∷ (entry_text e ++ 0 ∷ after)), at.size)

  staged_back : drop (gate + 1) staged ≡ entry_text e ++ 0 ∷ after
  staged_back =
      ap (λ (l : List ℕ). drop (gate + 1) l) (staged_is ∙ sym (append_assoc at.lead (0 ∷ []) (entry_text e ++ 0 ∷ after)))
      ∙ drop_at (at.lead ++ 0 ∷ []) (entry_text e ++ 0 ∷ after) (gate + 1) lead_size

  abbrev pub final : List ℕ
  final = overwritten gate (1 ∷ []) staged

  pub final_is : final ≡ at.lead ++ 1 ∷ (entry_text e ++ 0 ∷ after)
  final_is =
      ap (λ (l : List ℕ). l ++ (1 ∷ []) ++ drop (gate + 1) staged) (ap (λ (l : List ℕ). take gate l) staged_is ∙ take_at at.lead (0 ∷ (entry_text e ++ 0 ∷ after)) gate at.size)
      ∙ ap (λ (l : List ℕ). at.lead ++ (1 ∷ []) ++ l) staged_back
      ∙ append_assoc at.lead (1 ∷ []) (entry_text e ++ 0 ∷ after)

  -- after the first write and its sync, and after the gate's write
  abbrev pub s2 : History
  s2 = after_sync (written (gate + 1) piece s)

  abbrev pub s4 : History
  s4 = after_sync (written gate (1 ∷ []) s2)

  sees_start : Sees Q s.now
  sees_start c image = inl (closed s.now.held generation entries gate r.area.head at c at.rest (only_synced s.now c r.rest.none image ∙ r.rest.same ∙ at.is))

  sees_write : (held : List ℕ) → Sees Q (after_write (gate + 1) (length piece) held s).now
  sees_write held c image =
      let is : s.now.synced ≡ (at.lead ++ 0 ∷ []) ++ at.rest = r.rest.same ∙ at.is ∙ sym (append_assoc at.lead (0 ∷ []) at.rest) in
      let front = front_stands (after_write (gate + 1) (length piece) held s).now c (at.lead ++ 0 ∷ []) at.rest image is
      (λ place lt. (inl (omega (arith, lt, length-append at.lead (0 ∷ []), at.size)), subst (λ (l : List (ℕ × ℕ)). IsOutside l place) (sym r.rest.none) tt)) in
      inl (closed s.now.held generation entries gate r.area.head at c (drop (length (at.lead ++ 0 ∷ [])) c) (front ∙ append_assoc at.lead (0 ∷ []) (drop (length (at.lead ++ 0 ∷ [])) c)))

  sees_sync : Sees Q s2.now
  sees_sync c image = inl (closed s.now.held generation entries gate r.area.head at c (entry_text e ++ 0 ∷ after) (only_synced s2.now c refl image ∙ staged_is))

  sees_gate : (held : List ℕ) → Sees Q (after_write gate 1 held s2).now
  sees_gate held c image =
      let m = (after_write gate 1 held s2).now in
      let p = entry_text e ++ 0 ∷ after in
      let size : length staged ≡ gate + 1 + length p = omega (arith, ap length staged_is, length-append at.lead (0 ∷ p), at.size) in
      let front : c ≡ at.lead ++ drop gate c =
      front_stands m c at.lead (0 ∷ p) image staged_is (λ place lt. (inl (omega (arith, lt, at.size)), tt))
      ∙ ap (λ (n : ℕ). at.lead ++ drop n c) at.size in
      let back : drop (gate + 1) c ≡ p ++ drop (gate + 1 + length p) c =
      at_from_reads 0 c p (gate + 1) (omega (arith, size, image.no_shorter))
      (λ i l. image.kept (gate + 1 + i) (omega (arith, size, l)) (inr (omega arith), tt) ∙ at_reads 0 staged p (gate + 1) [] (staged_back ∙ sym (append-nil p)) i l) in
      let more = drop (gate + 1 + length p) c in
      let all : drop gate c ≡ get_or c gate 0 ∷ (p ++ more) = drop_more c gate 0 (omega (arith, size, image.no_shorter)) ∙ ap (λ (l : List ℕ). get_or c gate 0 ∷ l) back in
      let is : c ≡ at.lead ++ get_or c gate 0 ∷ (entry_text e ++ 0 ∷ (after ++ more)) =
      front ∙ ap (λ (l : List ℕ). at.lead ++ l) (all ∙ ap (λ (l : List ℕ). get_or c gate 0 ∷ l) (append_assoc (entry_text e) (0 ∷ after) more)) in
      either s.now.held generation entries gate r.area.head at e c (after ++ more) (get_or c gate 0) entry is

  has_more : IsArea final generation (entries ++ e ∷ []) (next_gate gate e)
  has_more = opened s.now.held generation entries gate r.area.head at e final after 1 entry final_is (λ (is : 1 ≡ 0). omega (arith, is))

  sees_final : Sees Q s4.now
  sees_final c image = inr (subst (λ (l : List ℕ). IsArea l generation (entries ++ e ∷ []) (next_gate gate e)) (sym (only_synced s4.now c refl image)) has_more)

  -- after the first stage, whatever it answered
  pub first_stage : (x : History) → Since s x (IsStage (gate + 1) piece s) → Since s x (Sees Q)
  first_stage x since = since_map (IsStage (gate + 1) piece s) (Sees Q) s x (stage_has (gate + 1) piece s (Sees Q) sees_start sees_write sees_sync) since

  -- after the second, where the first passed
  pub second_stage : (x y : History) → Since s x (IsStage (gate + 1) piece s) → x ≡ s2 → Since x y (IsStage gate (1 ∷ []) x) → Since s y (Sees Q)
  second_stage x y first is since =
      let later : Since s2 y (IsStage gate (1 ∷ []) s2) = subst (λ (z : History). Since z y (IsStage gate (1 ∷ []) z)) is since in
      let seen : Since s2 y (Sees Q) = since_map (IsStage gate (1 ∷ []) s2) (Sees Q) s2 y (stage_has gate (1 ∷ []) s2 (Sees Q) sees_sync sees_gate sees_final) later in
      since_then s s2 y (Sees Q) (subst (λ (z : History). Since s z (Sees Q)) is (first_stage x first)) seen

  -- where both passed
  pub rests_after : IsResting s4 generation (entries ++ e ∷ []) (next_gate gate e)
  rests_after = record { rest = record { same = refl; none = refl }; area = has_more }

  -- the second stage, where the first passed
  pub rest_last : {E : Type 0} (answer : Result Unit E) (x y : History) → x ≡ s2 → OnOk answer (y ≡ after_sync (written gate (1 ∷ []) x)) → OnOk answer (IsResting y generation (entries ++ e ∷ []) (next_gate gate e))
  rest_last (Ok v) x y first second = subst (λ (z : History). IsResting z generation (entries ++ e ∷ []) (next_gate gate e)) (sym (second ∙ ap (λ (z : History). after_sync (written gate (1 ∷ []) z)) first)) rests_after
  rest_last (Err f) x y first second = tt
