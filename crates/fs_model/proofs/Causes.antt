-- A fault or a wait is answered only where its cause is there.
use Rattle.std.proofs.Common.{◌≡◌, ℕ, Bool, true, false, not, cond, ◌&&◌, ◌||◌, Option, Some, None, IsTrue, List, [], ◌∷◌, length, refl, ap, ◌∙◌, subst, nat_eq, nat_lt}
use Rattle.std.proofs.lemmas.Bool.{and_parts, eqb-true, lt-ltb, or_left}
use Rattle.std.proofs.lemmas.Option.{same_Some}
use Rattle.std.specs.Prelude.{⊤, option_map, option_and_then}
use Rattle.std.specs.List.{list_all, last_or}
use Rattle.fs_model.specs.declared.setup.Setup.{Setup}
use Rattle.fs_model.specs.declared.event.Event.{Event}
use Rattle.fs_model.specs.declared.change.Change.{Change}
use Rattle.fs_model.specs.declared.change.PlanKind.{PlanKind}
use Rattle.fs_model.specs.declared.reply.Reply.{Reply}
use Rattle.fs_model.specs.declared.reply.Refusal.{Refusal}
use Rattle.fs_model.specs.Words.{first, ◌when◌}
use Rattle.fs_model.specs.Choices.{Choices}
use Rattle.fs_model.specs.State.{State, Hand, Hands, Stream, Writer, PlanRow}
use Rattle.fs_model.specs.Lookups.{Walk}
use Rattle.fs_model.specs.Tests.{stopped, walk_fault, past_area, ◌only_if◌}
use Rattle.fs_model.specs.BytesEvents.{bad_label, copies_bytes, unbroken_at, writer_at, stream_at, finish_refusal_of, room_refusal_of, next_refusal_in}
use Rattle.fs_model.specs.BytesOutcomes.{Candidate, Outcome}
use Rattle.fs_model.specs.NodesEvents.{Load, actions_left, kill_refusal, load_refusal, load_next, pump_refusal_of}
use Rattle.fs_model.specs.Lookups.{plan_at}
use Rattle.fs_model.specs.Machine.{refusal}
use Rattle.fs_model.specs.Faults.{Rise, Device, rose, source_rose, device_eq, device_of, clash, is_clash_at, is_source, next_may_fail, by_hand, sources_for, seeks_source, may_fail, may_fail_by, Remains}
use Rattle.fs_model.specs.Step.{Step, may_wait}
use Rattle.fs_model.specs.Laws.{is_caused}
use Rattle.fs_model.proofs.Refused.{never, is_answer, IsAnswer, IsAnswer-accepted}

-- ---- no refusal is a fault or a wait

-- whatever rose, the reply has its cause
abbrev is_plain : Reply → Bool
is_plain (Reply.Refused (Refusal.TierFault w)) = false
is_plain (Reply.Refused (Refusal.UnderFault s)) = false
is_plain (Reply.Refused Refusal.JournalFault) = false
is_plain Reply.NotReady = false
is_plain reply = true

abbrev IsPlain : Option Reply → Type 0
IsPlain None = ⊤
IsPlain (Some reply) = is_plain reply ≡ true

nothing_plain : IsPlain (first [])
nothing_plain = tt

first_plain : (x : Option Reply) (xs : List (Option Reply)) → IsPlain x → IsPlain (first xs) → IsPlain (first (x ∷ xs))
first_plain None xs h k = k
first_plain (Some reply) xs h k = h

when_plain : (reply : Reply) (b : Bool) → is_plain reply ≡ true → IsPlain (reply when b)
when_plain reply true h = h
when_plain reply false h = tt

only_plain : (x : Option Reply) (b : Bool) → IsPlain x → IsPlain (x only_if b)
only_plain x true h = h
only_plain x false h = tt

map_plain : {X : Type 0} (f : X → Reply) (x : Option X) → ((a : X) → is_plain (f a) ≡ true) → IsPlain (option_map f x)
map_plain f None h = tt
map_plain f (Some a) h = h a

walk_plain : (x : Walk) → IsPlain (walk_fault x)
walk_plain (Walk.Found n) = tt
walk_plain Walk.Absent = refl
walk_plain Walk.Blocked = refl

area_plain : (S : Setup) (A : State) (c : Option Change) → IsPlain (past_area S A c)
area_plain S A None = tt
area_plain S A (Some c) = when_plain _ _ refl

then_plain : {X : Type 0} (f : X → Option Reply) (x : Option X) → ((a : X) → IsPlain (f a)) → IsPlain (option_and_then f x)
then_plain f None h = tt
then_plain f (Some a) h = h a

ruleset plain = (nothing_plain, first_plain, when_plain, only_plain, map_plain, then_plain, walk_plain, area_plain)

room_plain : (S : Setup) (A : State) (x : Option Writer) → IsPlain (elim x [ None ↦ bad_label | Some w ↦ room_refusal_of S A w ])
room_plain S A None = refl
room_plain S A (Some w) = search plain depth 20

put_plain : (x : Option Writer) → IsPlain (elim x [ None ↦ bad_label | Some w ↦ None ])
put_plain None = refl
put_plain (Some w) = tt

finish_plain : (S : Setup) (A : State) (x : Option Hand) → IsPlain (elim x [ None ↦ bad_label | Some h ↦ finish_refusal_of S A h ])
finish_plain S A None = refl
finish_plain S A (Some (Hand.Reading s)) = refl
finish_plain S A (Some (Hand.Writing w)) = search plain depth 20
finish_plain S A (Some (Hand.Moving m)) = search plain depth 20
finish_plain S A (Some (Hand.Storing j)) = search plain depth 20

next_plain : (S : Setup) (A : State) (x : Option Hand) → IsPlain (elim x [ None ↦ bad_label | Some h ↦ next_refusal_in S A h ])
next_plain S A None = refl
next_plain S A (Some (Hand.Reading s)) = search plain depth 20
next_plain S A (Some (Hand.Writing w)) = refl
next_plain S A (Some (Hand.Moving m)) = refl
next_plain S A (Some (Hand.Storing j)) = search plain depth 20

poll_plain : (x : Option Stream) → IsPlain (elim x [ None ↦ bad_label | Some s ↦ None ])
poll_plain None = refl
poll_plain (Some s) = tt

copy_plain : (x : Option Hand) → IsPlain (elim x [ None ↦ bad_label | Some h ↦ Reply.Refused Refusal.BadLabel when not (copies_bytes h) ])
copy_plain None = refl
copy_plain (Some h) = when_plain _ _ refl

load_plain : (S : Setup) (A : State) (r : PlanRow) (x : Load) → IsPlain (load_refusal S A r x)
load_plain S A r Load.Nothing = area_plain S A (Some (Change.PlanEnd r.number))
load_plain S A r (Load.PassOver x) = tt
load_plain S A r (Load.Take m x) = search plain depth 20

kind_plain : (k : PlanKind) (x y : Option Reply) → IsPlain x → IsPlain y → IsPlain (elim k as (λ k. Option Reply) [ PlanKind.Load ↦ x | _ ↦ y ])
kind_plain PlanKind.Move x y h k = k
kind_plain PlanKind.Remove x y h k = k
kind_plain PlanKind.Publish x y h k = k
kind_plain PlanKind.Load x y h k = h

pump_plain : (S : Setup) (A : State) (x : Option PlanRow) → IsPlain (elim x [ None ↦ None | Some r ↦ pump_refusal_of S A r ])
pump_plain S A None = tt
pump_plain S A (Some r) = kind_plain r.kind (load_refusal S A r (load_next S A r)) (past_area S A (Change.PlanEnd r.number when nat_eq (length (actions_left A r)) 0)) (load_plain S A r (load_next S A r)) (area_plain S A _)

cond_plain : (b : Bool) (x y : Option Reply) → IsPlain x → IsPlain y → IsPlain (cond b x y)
cond_plain true x y h k = h
cond_plain false x y h k = k

refusal_plain : (S : Setup) (A : State) (H : Hands) (e : Event) → IsPlain (refusal S A H e)
refusal_plain S A H (Event.Room l) = room_plain S A (writer_at H l)
refusal_plain S A H (Event.Put l fill) = put_plain (writer_at H l)
refusal_plain S A H (Event.Finish l) = finish_plain S A (unbroken_at H l)
refusal_plain S A H (Event.Next l) = next_plain S A (unbroken_at H l)
refusal_plain S A H (Event.Poll l limit) = poll_plain (stream_at H l)
refusal_plain S A H (Event.Copy l) = copy_plain (unbroken_at H l)
refusal_plain S A H (Event.Sweep w) = cond_plain (nat_eq w 0) (stopped A) (kill_refusal S A w) (search plain) (search plain)
refusal_plain S A H (Event.Pump n) = first_plain (stopped A) _ (search plain) (first_plain _ _ (pump_plain S A (plan_at A.names n)) tt)
refusal_plain S A H (Event.Fuse n) = tt
refusal_plain S A H Event.Restart = tt
refusal_plain S A H e = search plain depth 20

-- ---- which device may fail an event

-- two devices that are told equal are one
same_device : (d e : Device) → device_eq d e ≡ true → d ≡ e
same_device (Device.TiersOf w) (Device.TiersOf v) h = ap Device.TiersOf (eqb-true w v h)
same_device (Device.StoreOf s) (Device.StoreOf t) h = ap Device.StoreOf (eqb-true s t h)
same_device (Device.TiersOf w) (Device.StoreOf t) h = never h
same_device (Device.StoreOf s) (Device.TiersOf v) h = never h

-- where every source's device failed, the last one's did
last_rose : (r : Rise) (d : Device) (x : Option Candidate) (cs : List Candidate) → list_all (λ (c : Candidate). source_rose r c.0) cs ≡ true → ((c : Candidate) → x ≡ Some c → source_rose r c.0 ≡ true) → is_source d (option_map (λ (c : Candidate). c.0) (last_or x cs)) ≡ true → rose r d ≡ true
last_rose r d None [] all given is = never is
last_rose r d (Some c) [] all given is = ap (rose r) (same_device d (device_of c.0) is) ∙ given c refl
last_rose r d x (c ∷ cs) all given is =
    let parts = and_parts (source_rose r c.0) (list_all (λ (c : Candidate). source_rose r c.0) cs) all in
    last_rose r d (Some c) cs parts.1 (λ e same. subst (λ (q : Candidate). source_rose r q.0 ≡ true) (same_Some c e same) parts.0) is

next_rose : (S : Setup) (A : State) (r : Rise) (d : Device) (x : Option Hand) → by_hand (λ h. seeks_source h && next_may_fail r d (sources_for S A h)) x ≡ true → rose r d ≡ true
next_rose S A r d None h = never h
next_rose S A r d (Some k) h =
    let fails = (and_parts (seeks_source k) _ h).1 in
    let parts = and_parts (list_all (λ (c : Candidate). source_rose r c.0) (sources_for S A k)) _ fails in
    last_rose r d None (sources_for S A k) parts.0 (λ c none. absurd (cc)) parts.1

called_rose : (a b c : Bool) → ((a && b) || c) ≡ true → (a || c) ≡ true
called_rose true b c h = refl
called_rose false b c h = h

-- its count rose, or the call was a clash
device_rose : (S : Setup) (x : Remains) (A : State) (H : Hands) (e : Event) (r : Rise) (d : Device) → may_fail_by S x A H e r d ≡ true → (rose r d || is_clash_at (clash A H e) d) ≡ true
device_rose S x A H (Event.Next l) r d h = or_left _ _ (next_rose S A r d (unbroken_at H l) h)
device_rose S x A H (Event.Poll l limit) r d h = or_left _ _ (and_parts (rose r d) _ h).0
device_rose S x A H (Event.Copy l) r d h = or_left _ _ (and_parts (rose r d) _ h).0
device_rose S x A H e r d h = called_rose (rose r d) _ _ h

-- a tier has no clash
no_clash : (a : Bool) (c : Option ℕ) (w : ℕ) → (a || is_clash_at c (Device.TiersOf w)) ≡ true → a ≡ true
no_clash true c w h = refl
no_clash false None w h = never h
no_clash false (Some s) w h = never h

fault_is_caused : (S : Setup) (x : Remains) (A : State) (H : Hands) (e : Event) (r : Rise) (reply : Reply) → may_fail S x A H e r reply ≡ true → is_caused S A H e r reply ≡ true
fault_is_caused S x A H e r (Reply.Refused (Refusal.TierFault w)) h = no_clash _ (clash A H e) w (device_rose S x A H e r (Device.TiersOf w) h)
fault_is_caused S x A H e r (Reply.Refused (Refusal.UnderFault s)) h = device_rose S x A H e r (Device.StoreOf s) h
fault_is_caused S x A H e r (Reply.Refused why) h = never h
fault_is_caused S x A H e r reply h = never h

-- ---- the step

plain_is_caused : (S : Setup) (A : State) (H : Hands) (e : Event) (r : Rise) (reply : Reply) → is_plain reply ≡ true → is_caused S A H e r reply ≡ true
plain_is_caused S A H e r (Reply.Refused (Refusal.TierFault w)) h = never h
plain_is_caused S A H e r (Reply.Refused (Refusal.UnderFault s)) h = never h
plain_is_caused S A H e r (Reply.Refused Refusal.JournalFault) h = never h
plain_is_caused S A H e r (Reply.Refused why) h = refl
plain_is_caused S A H e r Reply.NotReady h = never h
plain_is_caused S A H e r reply h = refl

answer_is_plain : (reply : Reply) → IsAnswer reply → is_plain reply ≡ true
answer_is_plain (Reply.Refused r) h = never h
answer_is_plain Reply.NotReady h = never h
answer_is_plain reply h = refl

-- the reader that isn't ready waited
wait_rose : (H : Hands) (e : Event) (r : Rise) (k : Choices) → may_wait H e r k ≡ true → nat_lt 0 r.waits ≡ true
wait_rose H (Event.Poll l limit) r k h = (and_parts (nat_lt 0 r.waits) _ h).0
wait_rose H (Event.Copy l) r k h = (and_parts (nat_lt 0 r.waits) _ h).0
wait_rose H e r k h = never h

pub faults_have_causes : (S : Setup) (A B : State) (who : ℕ) (H G : Hands) (e : Event) (reply : Reply) (rise : Rise) (made : Option Change) → Step S A who H e reply B G rise made → IsTrue (is_caused S A H e rise reply)
faults_have_causes S A B who H G e reply rise made (Step.Refused answers body hands none) = plain_is_caused S A H e rise reply (subst IsPlain answers (refusal_plain S A H e))
faults_have_causes S A B who H G e reply rise made (Step.Accepted k accepts clear serves may is change) = plain_is_caused S A H e rise reply (answer_is_plain reply (ap (λ (o : Outcome). is_answer o.0) is ∙ IsAnswer-accepted S k A H who e))
faults_have_causes S A B who H G e reply rise made (Step.Failed x accepts may is none) = fault_is_caused S x A H e rise reply may
faults_have_causes S A B who H G e reply rise made (Step.Stops x fuse accepts clear parks says doubts may shrinks body hands none) = ap (is_caused S A H e rise) says ∙ may
faults_have_causes S A B who H G e reply rise made (Step.Unrecovered restarts says rises body hands none) = ap (is_caused S A H e rise) says ∙ or_left _ _ (lt-ltb _ _ rises)
faults_have_causes S A B who H G e reply rise made (Step.Damaged area place restarts says body hands none) = ap (is_caused S A H e rise) says
faults_have_causes S A B who H G e reply rise made (Step.Waits k accepts says may body hands none) = ap (is_caused S A H e rise) says ∙ wait_rose H e rise k may
faults_have_causes S A B who H G e reply rise made (Step.Short says short none) = ap (is_caused S A H e rise) says
