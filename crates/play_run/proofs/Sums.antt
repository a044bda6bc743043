-- The sums of the counts of tiers and of areas along a run.
use Rattle.std.proofs.Common.{◌≡◌, ℕ, zero, suc, Bool, true, false, cond, not, ◌||◌, None, nat_lt, true≢false, pred, ◌+◌, ◌≤◌, ◌<◌, min, List, [], ◌∷◌, length, get_or, Some, refl, sym, inl, inr, ap, ◌∙◌, subst, arith}
use Rattle.std.specs.Prelude.{slice_get, sum_by}
use Rattle.std.proofs.lemmas.List.Sums.{sum_by-cons}
use Rattle.std.proofs.lemmas.Option.{same_Some}
use Rattle.fs_model.specs.declared.setup.Setup.{Setup}
use Rattle.fs_model.specs.declared.event.Event.{Event}
use Rattle.fs_model.specs.declared.reply.Line.{Line}
use Rattle.fs_model.specs.declared.reply.Reply.{Reply}
use Rattle.fs_model.specs.declared.reply.Refusal.{Refusal}
use Rattle.fs_model.specs.State.{State, Hands, Whole}
use Rattle.fs_model.specs.Machine.{hands_of}
use Rattle.fs_model.specs.Journaling.{calls_needed, fuse_serves}
use Rattle.fs_model.specs.Faults.{Rise}
use Rattle.fs_model.specs.Step.{Observation, WholeStep, Run}
use Rattle.fs_model.specs.Laws.{is_caused}
use Rattle.fs_model.proofs.Causes.{faults_have_causes}
use Rattle.outside.specs.declared.disk.Disk as disks
use Rattle.outside.specs.declared.objects.Objects as objects
use Rattle.outside.specs.declared.objects.ObjectRead as reads
use Rattle.outside.specs.declared.objects.ObjectWrite as writes
use Rattle.journal_disk.specs.Journaling.{area_0, area_1}
use Rattle.cluster_core.proofs.MediaStay.{still_there}
use Rattle.cluster_core.proofs.NodeChanges.{both_there}
use Rattle.cluster_core.proofs.SteadyStay.{hand_rose_not, hand_waited_not}
use Rattle.cluster_core.specs.Goes.{AreaRose, Rises, TierRose}
use Rattle.cluster_core.specs.Media.{TiersStay, MediaStays}
use Rattle.cluster_core.specs.Steady.{IsSteady}
use Rattle.cluster_core.specs.declared.node.Node.{Node}
use Rattle.cluster_core.specs.declared.cluster.Core.{Core}
use Rattle.play_run.proofs.Fuses.{WholeStep-bare}
use Rattle.play_run.specs.Sums.{answers, areas_rose, areas_total, how_many, is_journal_fault, is_of_hand, is_of_journal, is_of_tier, is_of_waits, is_tier_fault, is_wait, labels, node_total, total, NoAreaLast, NoFuseSet, NoneLast, RiseAlong, own, waits}

-- ---- answers

-- the cause of a line's answer
step_caused : (U : Setup) (V M : Whole) (line : Line) (x : Observation) → WholeStep U V line M x → (A : State) × (H : Hands) × (is_caused U A H line.event x.rise line.reply ≡ true)
step_caused U V M line x step = (V.body, hands_of V line.actor, faults_have_causes U V.body step.body line.actor (hands_of V line.actor) step.hands line.event line.reply x.rise x.made step.step)

-- no tier's fault where no count of tiers rose
no_tier_fault : (S : Setup) (A : State) (H : Hands) (e : Event) (rise : Rise) (reply : Reply) → rise.tiers ≡ [] → is_caused S A H e rise reply ≡ true → is_tier_fault reply ≡ false
no_tier_fault S A H e rise (Reply.Refused (Refusal.TierFault v)) none is = sym is ∙ ap (λ tiers. nat_lt 0 (get_or tiers (pred v) 0)) none
no_tier_fault S A H e rise (Reply.Refused why) none is = refl
no_tier_fault S A H e rise reply none is = refl

-- no wait where no waits rose
no_wait : (S : Setup) (A : State) (H : Hands) (e : Event) (rise : Rise) (reply : Reply) → rise.waits ≡ 0 → is_caused S A H e rise reply ≡ true → is_wait reply ≡ false
no_wait S A H e rise Reply.NotReady none is = sym is ∙ ap (λ waits. nat_lt 0 waits) none
no_wait S A H e rise reply none is = refl

-- no fault of the journal where no area's own count rose, and there is no fuse
no_journal_fault : (S : Setup) (A : State) (H : Hands) (e : Event) (rise : Rise) (reply : Reply) → A.master.fuse ≡ None → rise.journal ≡ 0 → is_caused S A H e rise reply ≡ true → is_journal_fault reply ≡ false
no_journal_fault S A H e rise (Reply.Refused Refusal.JournalFault) bare none is =
    sym is ∙ ap (λ n. nat_lt 0 n || not (fuse_serves A.master.fuse (calls_needed S A H e))) none ∙ ap (λ fuse. not (fuse_serves fuse (calls_needed S A H e))) bare
no_journal_fault S A H e rise (Reply.Refused why) bare none is = refl
no_journal_fault S A H e rise reply bare none is = refl

-- at most one, and none where the test fails
one : (b : Bool) → cond b 1 0 ≤ 1
one true = omega arith
one false = omega arith

none_of : (b : Bool) → b ≡ false → cond b 1 0 ≤ 0
none_of true h = absurd (true≢false h)
none_of false h = omega arith

-- ---- sums

module _ {X : Type 0} (f : X → ℕ) where
  -- no term falls
  abbrev NoneFalls : List X → List X → Type 0
  NoneFalls xs ys = (i : ℕ) (x y : X) → slice_get xs i ≡ Some x → slice_get ys i ≡ Some y → f x ≤ f y

  sum_stays : (xs ys : List X) → length ys ≡ length xs → NoneFalls xs ys → sum_by f xs ≤ sum_by f ys
  sum_stays [] [] same falls = omega arith
  sum_stays (x ∷ xs) (y ∷ ys) same falls =
      let first = falls 0 x y refl refl in
      let rest = sum_stays xs ys (omega (arith, same)) (λ i a b was is. falls (suc i) a b was is) in
      omega (arith, first, rest, sum_by-cons f x xs, sum_by-cons f y ys)
  sum_stays [] (y ∷ ys) same falls = absurd (omega (arith, same))
  sum_stays (x ∷ xs) [] same falls = absurd (omega (arith, same))

  -- one term rises
  sum_rises : (xs ys : List X) (i : ℕ) (x y : X) → length ys ≡ length xs → NoneFalls xs ys → slice_get xs i ≡ Some x → slice_get ys i ≡ Some y → f x + 1 ≤ f y → sum_by f xs + 1 ≤ sum_by f ys
  sum_rises (a ∷ xs) (b ∷ ys) zero x y same falls was is rises =
      let rest = sum_stays xs ys (omega (arith, same)) (λ j p q was is. falls (suc j) p q was is) in
      let here : f a + 1 ≤ f b = subst (λ k. k + 1 ≤ f b) (ap f (same_Some x a (sym was))) (subst (λ k. f x + 1 ≤ k) (ap f (same_Some y b (sym is))) rises) in
      omega (arith, here, rest, sum_by-cons f a xs, sum_by-cons f b ys)
  sum_rises (a ∷ xs) (b ∷ ys) (suc i) x y same falls was is rises =
      let first = falls 0 a b refl refl in
      let rest = sum_rises xs ys i x y (omega (arith, same)) (λ j p q was is. falls (suc j) p q was is) was is rises in
      omega (arith, first, rest, sum_by-cons f a xs, sum_by-cons f b ys)
  sum_rises [] ys i x y same falls was is rises = absurd (cc)
  sum_rises (a ∷ xs) [] i x y same falls was is rises = absurd (omega (arith, same))

-- below its last value a count that rose is higher by one
rose_by_one : (a b last : ℕ) → min (a + 1) last ≤ b → b < last → a + 1 ≤ b
rose_by_one a b last rose few = omega (arith, rose, few)

module _ {S R W : Type 0} (o : objects.Ghosts S R W) where
  -- ---- a worker

  node_stays : {n m : Node S} → TiersStay o n m → node_total o n ≤ node_total o m
  node_stays {n} {m} stays = sum_stays o.faults n.tiers.items m.tiers.items stays.same_length stays.faults

  module _ {D : Type 0} {d : disks.Ghosts D} {w : writes.Ghosts W} where
    -- ---- a core

    -- none stood at its last value before
    none_before : (old new : Core D S R W d w) → MediaStays d o old new → NoneLast o new → NoneLast o old
    none_before old new stays none i t n s was there =
        let m = get_or new.workers.items i n in
        let is = still_there old.workers.items new.workers.items i n stays.workers.same_length was in
        let node = stays.workers.each i n m was is in
        let u = get_or m.tiers.items t s in
        let here = still_there n.tiers.items m.tiers.items t s node.same_length there in
        let less = node.faults t s u there here in
        let few = none i t m u is here in
        omega (arith, less, few)

    total_stays : (old new : Core D S R W d w) → MediaStays d o old new → total o old ≤ total o new
    total_stays old new stays = sum_stays (node_total o) old.workers.items new.workers.items stays.workers.same_length (λ i n m was is. node_stays (stays.workers.each i n m was is))

    module _ (r : reads.Ghosts R) where
      tier_rises : (old new : Core D S R W d w) (v t : ℕ) → TierRose o r w old new v t → MediaStays d o old new → NoneLast o new → total o old + 1 ≤ total o new
      tier_rises old new v t rose stays none =
          let at = both_there _ _ rose in
          let n = at.0 in
          let m = at.1 in
          let tier = both_there _ _ at.4 in
          let node = stays.workers.each (pred v) n m at.2 at.3 in
          let few = none (pred v) t m tier.1 at.3 tier.3 in
          let up = sum_rises o.faults n.tiers.items m.tiers.items t tier.0 tier.1 node.same_length node.faults tier.2 tier.3 (rose_by_one (o.faults tier.0) (o.faults tier.1) _ tier.4 few) in
          sum_rises (node_total o) old.workers.items new.workers.items (pred v) n m stays.workers.same_length (λ i a b was is. node_stays (stays.workers.each i a b was is)) at.2 at.3 up

      line_rises : (old new : Core D S R W d w) (who : ℕ) (e : Event) (rise : Rise) (h : Rises d o r w old new who e rise) → MediaStays d o old new → NoneLast o new → total o old + cond (is_of_tier d o r w old new who e rise h) 1 0 ≤ total o new
      line_rises old new who e rise (Rises.OfTier v t h) stays none = tier_rises old new v t h stays none
      line_rises old new who e rise Rises.Nothing stays none = let less = total_stays old new stays in omega (arith, less)
      line_rises old new who e rise (Rises.OfHand v l u h) stays none = let less = total_stays old new stays in omega (arith, less)
      line_rises old new who e rise (Rises.OfWaits v l u h) stays none = let less = total_stays old new stays in omega (arith, less)
      line_rises old new who e rise (Rises.OfJournal h) stays none = let less = total_stays old new stays in omega (arith, less)

      -- ---- a chain of cores

      -- none stood at its last value at the beginning, and the sum rose by one or more at each line that is counted
      along_rises : (old : Core D S R W d w) (lines : List Line) (seen : List Observation) (new : Core D S R W d w) (along : RiseAlong d o r w old lines seen new) → NoneLast o new → NoneLast o old × (total o old + own d o r w old lines seen new along ≤ total o new)
      along_rises old [] [] new along none = subst (λ (core : Core D S R W d w). NoneLast o core × (total o core + 0 ≤ total o new)) along (none, omega arith)
      along_rises old (line ∷ lines) (x ∷ more) new along none =
          let rest = along_rises along.0 lines more new along.4 none in
          let first = line_rises old along.0 line.actor line.event x.rise along.1 along.2 rest.0 in
          (none_before old along.0 along.2 rest.0, omega (arith, first, rest.1))
      along_rises old [] (x ∷ more) new along none = absurd along
      along_rises old (line ∷ lines) [] new along none = absurd along

      pub sums : (old : Core D S R W d w) (lines : List Line) (seen : List Observation) (new : Core D S R W d w) (along : RiseAlong d o r w old lines seen new) → NoneLast o new → total o old + own d o r w old lines seen new along ≤ total o new
      sums old lines seen new along none = (along_rises old lines seen new along none).1

      -- a line's answer, and what rose in it
      line_faults : (old new : Core D S R W d w) (who : ℕ) (e : Event) (rise : Rise) (h : Rises d o r w old new who e rise) (U : Setup) (A : State) (H : Hands) (reply : Reply) → is_caused U A H e rise reply ≡ true → cond (is_tier_fault reply) 1 0 ≤ cond (is_of_tier d o r w old new who e rise h) 1 0 + cond (is_of_hand d o r w old new who e rise h) 1 0
      line_faults old new who e rise Rises.Nothing U A H reply is = none_of (is_tier_fault reply) (no_tier_fault U A H e rise reply refl is)
      line_faults old new who e rise (Rises.OfTier v t h) U A H reply is = one (is_tier_fault reply)
      line_faults old new who e rise (Rises.OfHand v l u h) U A H reply is = one (is_tier_fault reply)
      line_faults old new who e rise (Rises.OfWaits v l u h) U A H reply is = none_of (is_tier_fault reply) (no_tier_fault U A H e rise reply refl is)
      line_faults old new who e rise (Rises.OfJournal h) U A H reply is = none_of (is_tier_fault reply) (no_tier_fault U A H e rise reply refl is)

      line_waits : (old new : Core D S R W d w) (who : ℕ) (e : Event) (rise : Rise) (h : Rises d o r w old new who e rise) (U : Setup) (A : State) (H : Hands) (reply : Reply) → is_caused U A H e rise reply ≡ true → cond (is_wait reply) 1 0 ≤ cond (is_of_waits d o r w old new who e rise h) 1 0
      line_waits old new who e rise Rises.Nothing U A H reply is = none_of (is_wait reply) (no_wait U A H e rise reply refl is)
      line_waits old new who e rise (Rises.OfTier v t h) U A H reply is = none_of (is_wait reply) (no_wait U A H e rise reply refl is)
      line_waits old new who e rise (Rises.OfHand v l u h) U A H reply is = none_of (is_wait reply) (no_wait U A H e rise reply refl is)
      line_waits old new who e rise (Rises.OfWaits v l u h) U A H reply is = one (is_wait reply)
      line_waits old new who e rise (Rises.OfJournal h) U A H reply is = none_of (is_wait reply) (no_wait U A H e rise reply refl is)

      -- ---- a run

      pub run_faults : (U : Setup) (V after : Whole) (old : Core D S R W d w) (lines : List Line) (seen : List Observation) (new : Core D S R W d w) (along : RiseAlong d o r w old lines seen new) → Run U V lines after seen → answers is_tier_fault lines ≤ own d o r w old lines seen new along + labels d o r w old lines seen new along
      run_faults U V after old [] [] new along run = omega arith
      run_faults U V after old (line ∷ lines) (x ∷ more) new along run =
          let c = step_caused U V run.0 line x run.1 in
          let first = line_faults old along.0 line.actor line.event x.rise along.1 U c.0 c.1 line.reply c.2 in
          let rest = run_faults U run.0 after along.0 lines more new along.4 run.2 in
          omega (arith, first, rest, sum_by-cons (λ (l : Line). cond (is_tier_fault l.reply) 1 0) line lines)
      run_faults U V after old [] (x ∷ more) new along run = absurd along
      run_faults U V after old (line ∷ lines) [] new along run = absurd along

      pub run_waits : (U : Setup) (V after : Whole) (old : Core D S R W d w) (lines : List Line) (seen : List Observation) (new : Core D S R W d w) (along : RiseAlong d o r w old lines seen new) → Run U V lines after seen → answers is_wait lines ≤ waits d o r w old lines seen new along
      run_waits U V after old [] [] new along run = omega arith
      run_waits U V after old (line ∷ lines) (x ∷ more) new along run =
          let c = step_caused U V run.0 line x run.1 in
          let first = line_waits old along.0 line.actor line.event x.rise along.1 U c.0 c.1 line.reply c.2 in
          let rest = run_waits U run.0 after along.0 lines more new along.4 run.2 in
          omega (arith, first, rest, sum_by-cons (λ (l : Line). cond (is_wait l.reply) 1 0) line lines)
      run_waits U V after old [] (x ∷ more) new along run = absurd along
      run_waits U V after old (line ∷ lines) [] new along run = absurd along

module _ {D S R W : Type 0} (d : disks.Ghosts D) (o : objects.Ghosts S R W) (r : reads.Ghosts R) (w : writes.Ghosts W) where
  -- ---- areas

  -- neither stood at its last value before
  no_area_before : (old new : Core D S R W d w) → MediaStays d o old new → NoAreaLast d new → NoAreaLast d old
  no_area_before old new stays none =
      let less_0 = stays.areas.own_0 in
      let less_1 = stays.areas.own_1 in
      (omega (arith, less_0, none.0), omega (arith, less_1, none.1))

  areas_stay : (old new : Core D S R W d w) → MediaStays d o old new → areas_total d old ≤ areas_total d new
  areas_stay old new stays =
      let less_0 = stays.areas.own_0 in
      let less_1 = stays.areas.own_1 in
      omega (arith, less_0, less_1)

  area_rises : (old new : Core D S R W d w) → AreaRose d o r w old new → MediaStays d o old new → NoAreaLast d new → areas_total d old + 1 ≤ areas_total d new
  area_rises old new (inl rose) stays none =
      let up = rose_by_one (d.faults (area_0 old.master.journal)) (d.faults (area_0 new.master.journal)) _ rose none.0 in
      let less = stays.areas.own_1 in
      omega (arith, up, less)
  area_rises old new (inr rose) stays none =
      let up = rose_by_one (d.faults (area_1 old.master.journal)) (d.faults (area_1 new.master.journal)) _ rose none.1 in
      let less = stays.areas.own_0 in
      omega (arith, up, less)

  line_areas : (old new : Core D S R W d w) (who : ℕ) (e : Event) (rise : Rise) (h : Rises d o r w old new who e rise) → MediaStays d o old new → NoAreaLast d new → areas_total d old + cond (is_of_journal d o r w old new who e rise h) 1 0 ≤ areas_total d new
  line_areas old new who e rise (Rises.OfJournal h) stays none = area_rises old new h stays none
  line_areas old new who e rise Rises.Nothing stays none = let less = areas_stay old new stays in omega (arith, less)
  line_areas old new who e rise (Rises.OfTier v t h) stays none = let less = areas_stay old new stays in omega (arith, less)
  line_areas old new who e rise (Rises.OfHand v l u h) stays none = let less = areas_stay old new stays in omega (arith, less)
  line_areas old new who e rise (Rises.OfWaits v l u h) stays none = let less = areas_stay old new stays in omega (arith, less)

  -- neither stood at its last value at the beginning, and the sum rose by one or more at each line that is counted
  along_areas : (old : Core D S R W d w) (lines : List Line) (seen : List Observation) (new : Core D S R W d w) (along : RiseAlong d o r w old lines seen new) → NoAreaLast d new → NoAreaLast d old × (areas_total d old + areas_rose d o r w old lines seen new along ≤ areas_total d new)
  along_areas old [] [] new along none = subst (λ (core : Core D S R W d w). NoAreaLast d core × (areas_total d core + 0 ≤ areas_total d new)) along (none, omega arith)
  along_areas old (line ∷ lines) (x ∷ more) new along none =
      let rest = along_areas along.0 lines more new along.4 none in
      let first = line_areas old along.0 line.actor line.event x.rise along.1 along.2 rest.0 in
      (no_area_before old along.0 along.2 rest.0, omega (arith, first, rest.1))
  along_areas old [] (x ∷ more) new along none = absurd along
  along_areas old (line ∷ lines) [] new along none = absurd along

  -- a line's answer, and what rose in it
  line_journal : (old new : Core D S R W d w) (who : ℕ) (e : Event) (rise : Rise) (h : Rises d o r w old new who e rise) (U : Setup) (A : State) (H : Hands) (reply : Reply) → A.master.fuse ≡ None → is_caused U A H e rise reply ≡ true → cond (is_journal_fault reply) 1 0 ≤ cond (is_of_journal d o r w old new who e rise h) 1 0
  line_journal old new who e rise (Rises.OfJournal h) U A H reply bare is = one (is_journal_fault reply)
  line_journal old new who e rise Rises.Nothing U A H reply bare is = none_of (is_journal_fault reply) (no_journal_fault U A H e rise reply bare refl is)
  line_journal old new who e rise (Rises.OfTier v t h) U A H reply bare is = none_of (is_journal_fault reply) (no_journal_fault U A H e rise reply bare refl is)
  line_journal old new who e rise (Rises.OfHand v l u h) U A H reply bare is = none_of (is_journal_fault reply) (no_journal_fault U A H e rise reply bare refl is)
  line_journal old new who e rise (Rises.OfWaits v l u h) U A H reply bare is = none_of (is_journal_fault reply) (no_journal_fault U A H e rise reply bare refl is)

  pub run_journal : (U : Setup) (V after : Whole) (old : Core D S R W d w) (lines : List Line) (seen : List Observation) (new : Core D S R W d w) (along : RiseAlong d o r w old lines seen new) → Run U V lines after seen → V.body.master.fuse ≡ None → NoFuseSet lines → answers is_journal_fault lines ≤ areas_rose d o r w old lines seen new along
  run_journal U V after old [] [] new along run bare unset = omega arith
  run_journal U V after old (line ∷ lines) (x ∷ more) new along run bare unset =
      let s = run.1 in
      let H = hands_of V line.actor in
      let is = faults_have_causes U V.body s.body line.actor H s.hands line.event line.reply x.rise x.made s.step in
      let first = line_journal old along.0 line.actor line.event x.rise along.1 U V.body H line.reply bare is in
      let rest = run_journal U run.0 after along.0 lines more new along.4 run.2 (WholeStep-bare U V run.0 line x s (unset 0 line (omega arith)) bare) (λ k spare lt. unset (suc k) spare (omega (arith, lt))) in
      omega (arith, first, rest, sum_by-cons (λ (l : Line). cond (is_journal_fault l.reply) 1 0) line lines)
  run_journal U V after old [] (x ∷ more) new along run bare unset = absurd along
  run_journal U V after old (line ∷ lines) [] new along run bare unset = absurd along

  pub area_sums : (old : Core D S R W d w) (lines : List Line) (seen : List Observation) (new : Core D S R W d w) (along : RiseAlong d o r w old lines seen new) → NoAreaLast d new → areas_total d old + areas_rose d o r w old lines seen new along ≤ areas_total d new
  area_sums old lines seen new along none = (along_areas old lines seen new along none).1

  -- ---- steady media

  no_hand : (old new : Core D S R W d w) (who : ℕ) (e : Event) (rise : Rise) (h : Rises d o r w old new who e rise) → IsSteady d o r w old → is_of_hand d o r w old new who e rise h ≡ false
  no_hand old new who e rise (Rises.OfHand v l u h) steady = absurd (hand_rose_not o r w old new who v l h steady)
  no_hand old new who e rise Rises.Nothing steady = refl
  no_hand old new who e rise (Rises.OfTier v t h) steady = refl
  no_hand old new who e rise (Rises.OfWaits v l u h) steady = refl
  no_hand old new who e rise (Rises.OfJournal h) steady = refl

  no_waits : (old new : Core D S R W d w) (who : ℕ) (e : Event) (rise : Rise) (h : Rises d o r w old new who e rise) → IsSteady d o r w old → is_of_waits d o r w old new who e rise h ≡ false
  no_waits old new who e rise (Rises.OfWaits v l u h) steady = absurd (hand_waited_not o r w old new who v l h steady)
  no_waits old new who e rise Rises.Nothing steady = refl
  no_waits old new who e rise (Rises.OfTier v t h) steady = refl
  no_waits old new who e rise (Rises.OfHand v l u h) steady = refl
  no_waits old new who e rise (Rises.OfJournal h) steady = refl

  -- no rise passes a test that none passes over steady media
  none_along : (test : (old new : Core D S R W d w) (who : ℕ) (e : Event) (rise : Rise) → Rises d o r w old new who e rise → Bool) → ((old new : Core D S R W d w) (who : ℕ) (e : Event) (rise : Rise) (h : Rises d o r w old new who e rise) → IsSteady d o r w old → test old new who e rise h ≡ false) → (old : Core D S R W d w) (lines : List Line) (seen : List Observation) (new : Core D S R W d w) (along : RiseAlong d o r w old lines seen new) → IsSteady d o r w old → how_many d o r w test old lines seen new along ≡ 0
  none_along test fails old [] seen new along steady = refl
  none_along test fails old (line ∷ lines) [] new along steady = absurd along
  none_along test fails old (line ∷ lines) (x ∷ more) new along steady =
      let first = ap {B = ℕ} (λ b. cond b 1 0) (fails old along.0 line.actor line.event x.rise along.1 steady) in
      let rest = none_along test fails along.0 lines more new along.4 (along.3 steady) in
      omega (arith, first, rest)

  pub steady_sums : (old : Core D S R W d w) (lines : List Line) (seen : List Observation) (new : Core D S R W d w) (along : RiseAlong d o r w old lines seen new) → IsSteady d o r w old → (labels d o r w old lines seen new along ≡ 0) × (waits d o r w old lines seen new along ≡ 0)
  steady_sums old lines seen new along steady = (none_along (is_of_hand d o r w) no_hand old lines seen new along steady, none_along (is_of_waits d o r w) no_waits old lines seen new along steady)
