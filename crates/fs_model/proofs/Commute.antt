-- A Put, Poll or Copy of one actor commutes with every event of another.
use Rattle.std.proofs.Common.{◌≡◌, ◌≢◌, ℕ, zero, suc, pred, true, Option, Some, None, is_some, IsTrue, List, [], ◌∷◌, set, refl, sym, ap, subst, ◌∙◌}
use Rattle.std.proofs.lemmas.List.{get_or-set_other}
use Rattle.std.proofs.Math.Dec.{leb-zero}
use Rattle.fs_model.specs.declared.setup.Setup.{Setup}
use Rattle.fs_model.specs.declared.event.Event.{Event}
use Rattle.fs_model.specs.declared.change.Change.{Change}
use Rattle.fs_model.specs.declared.reply.Reply.{Reply}
use Rattle.fs_model.specs.declared.reply.Line.{Line}
use Rattle.fs_model.specs.Choices.{Choices}
use Rattle.fs_model.specs.State.{State, Hands, Whole}
use Rattle.fs_model.specs.BytesOutcomes.{Outcome, BodyAndHands}
use Rattle.fs_model.specs.Journaling.{fuse_serves, calls_needed, doubt_of}
use Rattle.fs_model.specs.Faults.{Rise, Remains, clash, after_fault, may_fail}
use Rattle.fs_model.specs.Machine.{refusal, accepted, idle_body, hands_of, put_back}
use Rattle.fs_model.specs.Step.{Step, ShortOf, WholeStep, Observation, may_choose, change_made}
use Rattle.fs_model.specs.Laws.{is_own}
use Rattle.fs_model.proofs.Refused.{never}

-- ---- what an own event reads of the body: nothing

abbrev IsOwn : Event → Type 0
IsOwn e = is_own e ≡ true

own_refusal : (S : Setup) (A X : State) (H : Hands) (e : Event) → IsOwn e → refusal S X H e ≡ refusal S A H e
own_refusal S A X H (Event.Put l fill) h = refl
own_refusal S A X H (Event.Poll l limit) h = refl
own_refusal S A X H (Event.Copy l) h = refl
own_refusal S A X H e h = never h

own_idle_body : (A : State) (who : ℕ) (e : Event) (reply : Reply) → IsOwn e → idle_body who e reply A ≡ A
own_idle_body A who (Event.Put l fill) reply h = refl
own_idle_body A who (Event.Poll l limit) reply h = refl
own_idle_body A who (Event.Copy l) reply h = refl
own_idle_body A who e reply h = never h

own_clash : (A : State) (H : Hands) (e : Event) → IsOwn e → clash A H e ≡ None
own_clash A H (Event.Put l fill) h = refl
own_clash A H (Event.Poll l limit) h = refl
own_clash A H (Event.Copy l) h = refl
own_clash A H e h = never h

-- every fuse serves no call
fuse_serves_none : (fuse : Option ℕ) → IsTrue (fuse_serves fuse 0)
fuse_serves_none None = refl
fuse_serves_none (Some k) = leb-zero k

own_fuse_serves : (S : Setup) (A : State) (H : Hands) (e : Event) → IsOwn e → IsTrue (fuse_serves A.master.fuse (calls_needed S A H e))
own_fuse_serves S A H (Event.Put l fill) h = fuse_serves_none A.master.fuse
own_fuse_serves S A H (Event.Poll l limit) h = fuse_serves_none A.master.fuse
own_fuse_serves S A H (Event.Copy l) h = fuse_serves_none A.master.fuse
own_fuse_serves S A H e h = never h

own_may_choose : (S : Setup) (A X : State) (H : Hands) (e : Event) (rise : Rise) (k : Choices) → IsOwn e → may_choose S X H e rise k ≡ may_choose S A H e rise k
own_may_choose S A X H (Event.Put l fill) rise k h = refl
own_may_choose S A X H (Event.Poll l limit) rise k h = refl
own_may_choose S A X H (Event.Copy l) rise k h = refl
own_may_choose S A X H e rise k h = never h

own_may_fail : (S : Setup) (x : Remains) (A X : State) (H : Hands) (e : Event) (rise : Rise) (reply : Reply) → IsOwn e → may_fail S x X H e rise reply ≡ may_fail S x A H e rise reply
own_may_fail S x A X H (Event.Put l fill) rise reply h = refl
own_may_fail S x A X H (Event.Poll l limit) rise reply h = refl
own_may_fail S x A X H (Event.Copy l) rise reply h = refl
own_may_fail S x A X H e rise reply h = never h

own_doubt_of : (S : Setup) (A : State) (H : Hands) (e : Event) → IsOwn e → doubt_of S A H e ≡ None
own_doubt_of S A H (Event.Put l fill) h = refl
own_doubt_of S A H (Event.Poll l limit) h = refl
own_doubt_of S A H (Event.Copy l) h = refl
own_doubt_of S A H e h = never h

own_change_made : (S : Setup) (k : Choices) (A : State) (H : Hands) (e : Event) → IsOwn e → change_made S k A H e ≡ None
own_change_made S k A H (Event.Put l fill) h = refl
own_change_made S k A H (Event.Poll l limit) h = refl
own_change_made S k A H (Event.Copy l) h = refl
own_change_made S k A H e h = never h

-- it leaves the body, and over another body it does the same
own_accepted : (S : Setup) (k : Choices) (A X : State) (H : Hands) (who : ℕ) (e : Event) → IsOwn e → accepted S k X H who e ≡ ((accepted S k A H who e).0, X, (accepted S k A H who e).2)
own_accepted S k A X H who (Event.Put l fill) h = refl
own_accepted S k A X H who (Event.Poll l limit) h = refl
own_accepted S k A X H who (Event.Copy l) h = refl
own_accepted S k A X H who e h = never h

own_after_fault : (S : Setup) (x : Remains) (A X : State) (who : ℕ) (H : Hands) (e : Event) → IsOwn e → after_fault S x X who H e ≡ (X, (after_fault S x A who H e).1)
own_after_fault S x A X who H (Event.Put l fill) h = refl
own_after_fault S x A X who H (Event.Poll l limit) h = refl
own_after_fault S x A X who H (Event.Copy l) h = refl
own_after_fault S x A X who H e h = never h

-- want of memory leaves it whole
own_ShortOf : {S : Setup} {A : State} {who : ℕ} {H : Hands} {B : State} {G : Hands} {rise : Rise} {e : Event} → IsOwn e → ShortOf S A who H B G rise e → (B ≡ A) × ((X : State) → ShortOf S X who H X G rise e)
own_ShortOf h (ShortOf.Unchanged e other body hands) = (body, λ X. ShortOf.Unchanged e other refl hands)
own_ShortOf h (ShortOf.RoomClosed l w accepts at full body hands) = never h
own_ShortOf h (ShortOf.NextSettled l k s c accepts at seeks may sought body hands) = never h
own_ShortOf h (ShortOf.Unrecovered body hands) = never h

own_is_no_restart : {X : Type 0} {e : Event} → IsOwn e → e ≡ Event.Restart → X
own_is_no_restart h is = never (ap is_own (sym is) ∙ h)

-- a step of an own event leaves the body, and is one over any body
pub record Own (S : Setup) (A : State) (who : ℕ) (H : Hands) (e : Event) (reply : Reply) (B : State) (G : Hands) (rise : Rise) (made : Option Change) : Type 0 where
  pub body : B ≡ A
  pub over : (X : State) → Step S X who H e reply X G rise made

own_Step : {S : Setup} {A : State} {who : ℕ} {H : Hands} {e : Event} {reply : Reply} {B : State} {G : Hands} {rise : Rise} {made : Option Change} → IsOwn e → Step S A who H e reply B G rise made → Own S A who H e reply B G rise made
own_Step {S = S} {A = A} {who = who} {H = H} {e = e} {reply = reply} h (Step.Refused answers body hands none) = record {
  body = body ∙ own_idle_body A who e reply h;
  over = λ X. Step.Refused (own_refusal S A X H e h ∙ answers) (sym (own_idle_body X who e reply h)) hands none;
}
own_Step {S = S} {A = A} {who = who} {H = H} {e = e} {rise = rise} h (Step.Accepted k accepts clear serves may is change) = record {
  body = ap (λ (o : Outcome). o.1) (is ∙ own_accepted S k A A H who e h);
  over = λ X. Step.Accepted k (own_refusal S A X H e h ∙ accepts) (own_clash X H e h) (own_fuse_serves S X H e h) (own_may_choose S A X H e rise k h ∙ may)
      (ap (λ (o : Outcome). (o.0, X, o.2)) is ∙ sym (own_accepted S k A X H who e h)) (change ∙ own_change_made S k A H e h ∙ sym (own_change_made S k X H e h));
}
own_Step {S = S} {A = A} {who = who} {H = H} {e = e} {reply = reply} {rise = rise} h (Step.Failed x accepts may is none) = record {
  body = ap (λ (o : BodyAndHands). o.0) (is ∙ own_after_fault S x A A who H e h);
  over = λ X. Step.Failed x (own_refusal S A X H e h ∙ accepts) (own_may_fail S x A X H e rise reply h ∙ may) (ap (λ (o : BodyAndHands). (X, o.1)) is ∙ sym (own_after_fault S x A X who H e h)) none;
}
own_Step {S = S} {A = A} {H = H} {e = e} h (Step.Stops x fuse accepts clear parks says doubts may shrinks body hands none) = never (ap is_some (sym (own_doubt_of S A H e h)) ∙ doubts)
own_Step h (Step.Unrecovered restarts says rises body hands none) = own_is_no_restart h restarts
own_Step h (Step.Damaged area place restarts says body hands none) = own_is_no_restart h restarts
own_Step {S = S} {A = A} {H = H} {e = e} h (Step.Waits k accepts says may body hands none) = record {
  body = body;
  over = λ X. Step.Waits k (own_refusal S A X H e h ∙ accepts) says may refl hands none;
}
own_Step h (Step.Short says short none) = let both = own_ShortOf h short in record { body = both.0; over = λ X. Step.Short says (both.1 X) none }

-- ---- two places of a list

set-set_other : {X : Type 0} (i j : ℕ) (x y : X) (xs : List X) → i ≢ j → set (set xs i x) j y ≡ set (set xs j y) i x
set-set_other i j x y [] h = refl
set-set_other zero zero x y (z ∷ zs) h = absurd (h refl)
set-set_other zero (suc j) x y (z ∷ zs) h = refl
set-set_other (suc i) zero x y (z ∷ zs) h = refl
set-set_other (suc i) (suc j) x y (z ∷ zs) h = ap (λ r. z ∷ r) (set-set_other i j x y zs (λ e. h (ap suc e)))

-- after a step of a, the labels of b are as before
hands_of-put_back_other : (W : Whole) (a b : ℕ) (A : State) (H : Hands) → pred b ≢ pred a → hands_of (put_back W a A H) b ≡ hands_of W b
hands_of-put_back_other W a b A H h = get_or-set_other W.hands (pred a) (pred b) H [] h

-- two steps of different actors, the first of which leaves the body, leave the same whole in either order
orders_agree : (W : Whole) (a b : ℕ) (B : State) (H G : Hands) → pred a ≢ pred b → put_back (put_back W a W.body H) b B G ≡ put_back (put_back W b B G) a B H
orders_agree W a b B H G h = λ i. record { body = B; hands = set-set_other (pred a) (pred b) H G W.hands h i }

-- ---- the laws

pub own_may_come_later : (S : Setup) (W M V : Whole) (own other : Line) (o p : Observation) → IsTrue (is_own own.event) → pred own.actor ≢ pred other.actor → WholeStep S W own M o → WholeStep S M other V p → (N : Whole) × WholeStep S W other N p × WholeStep S N own V o
own_may_come_later S W M V own other o p is apart first second =
    let mine = own_Step is first.step in
    let between : M ≡ put_back W own.actor W.body first.hands = first.after ∙ ap (λ B. put_back W own.actor B first.hands) mine.body in
    let labels : hands_of M other.actor ≡ hands_of W other.actor = ap (λ X. hands_of X other.actor) between ∙ hands_of-put_back_other W own.actor other.actor W.body first.hands (λ e. apart (sym e)) in
    let step = subst (λ H. Step S W.body other.actor H other.event other.reply second.body second.hands p.rise p.made) labels
    (subst (λ A. Step S A other.actor (hands_of M other.actor) other.event other.reply second.body second.hands p.rise p.made) (ap (λ (X : Whole). X.body) between) second.step) in
    let N = put_back W other.actor second.body second.hands in
    let mine_labels : hands_of N own.actor ≡ hands_of W own.actor = hands_of-put_back_other W other.actor own.actor second.body second.hands apart in (
      N,
      record { body = second.body; hands = second.hands; step = step; after = refl },
      record {
        body = second.body;
        hands = first.hands;
        step = subst (λ H. Step S second.body own.actor H own.event own.reply second.body first.hands o.rise o.made) (sym mine_labels) (mine.over second.body);
        after = second.after ∙ ap (λ X. put_back X other.actor second.body second.hands) between ∙ orders_agree W own.actor other.actor second.body first.hands second.hands apart;
      },
    )

pub own_may_come_earlier : (S : Setup) (W M V : Whole) (own other : Line) (o p : Observation) → IsTrue (is_own own.event) → pred own.actor ≢ pred other.actor → WholeStep S W other M p → WholeStep S M own V o → (N : Whole) × WholeStep S W own N o × WholeStep S N other V p
own_may_come_earlier S W M V own other o p is apart first second =
    let mine = own_Step is second.step in
    let labels : hands_of M own.actor ≡ hands_of W own.actor = ap (λ X. hands_of X own.actor) first.after ∙ hands_of-put_back_other W other.actor own.actor first.body first.hands apart in
    let N = put_back W own.actor W.body second.hands in
    let other_labels : hands_of N other.actor ≡ hands_of W other.actor = hands_of-put_back_other W own.actor other.actor W.body second.hands (λ e. apart (sym e)) in
    let last : V ≡ put_back (put_back W other.actor first.body first.hands) own.actor first.body second.hands =
    second.after ∙ ap (λ B. put_back M own.actor B second.hands) mine.body ∙ ap (λ (X : Whole). put_back X own.actor X.body second.hands) first.after in (
      N,
      record {
        body = W.body;
        hands = second.hands;
        step = subst (λ H. Step S W.body own.actor H own.event own.reply W.body second.hands o.rise o.made) labels (mine.over W.body);
        after = refl;
      },
      record {
        body = first.body;
        hands = first.hands;
        step = subst (λ H. Step S W.body other.actor H other.event other.reply first.body first.hands p.rise p.made) (sym other_labels) first.step;
        after = last ∙ sym (orders_agree W own.actor other.actor first.body second.hands first.hands apart);
      },
    )
