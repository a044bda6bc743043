-- What a call of a store in memory does, from whether it fails, is a miss and does its work.
use Rattle.std.proofs.Common.{◌≡◌, ℕ, Bool, true, false, ◌+◌, ◌⊎◌, inl, inr, ◌≤◌, List, [], refl, sym, ap, ◌∙◌, subst, take, le_refl}
use Rattle.std.specs.Prelude.{not, ◌&&◌, ◌||◌, Some, None, Result, Ok, Err, OnOk, OnErr, is_err, is_some, Option, if◌then◌else◌}
use Rattle.outside.specs.Causes.{Rose, HasCause, next_count}
use Rattle.outside.specs.Contents.{Contents, Changes, Happens}
use Rattle.outside.specs.Keys.{KeyNames, key_eq}
use Rattle.outside.proofs.Deciding.{key_same, or_true}
use Rattle.outside_mem.specs.Calls.{change_fails, change_happens}
use Rattle.outside_mem.specs.Counts.{counted}
use Rattle.outside_mem.specs.Failures.{is_failing}
use Rattle.outside_mem.specs.Stored.{held, renamed, without}
use Rattle.outside_mem.specs.declared.calls.ChangingCalls.{ChangingCalls}
use Rattle.outside_mem.specs.declared.writers.MemObject.{MemObject}
use Rattle.outside_mem.proofs.Stored.{held-take, held-without}

pub counted_rose : (before now : ℕ) (b : Bool) → now ≡ counted before b → b ≡ true → Rose before now
counted_rose before now true e h = subst (λ n. Rose before n) (sym e) (le_refl _)
counted_rose before now false e h = cc

pub counted_same : (before now : ℕ) (b : Bool) → now ≡ counted before b → b ≡ false → now ≡ before
counted_same before now true e h = cc
counted_same before now false e h = e

pub or_first : (a b : Bool) → a ≡ true → (a || b) ≡ true
or_first true b e = refl
or_first false b e = cc

pub or_second : (a b : Bool) → b ≡ true → (a || b) ≡ true
or_second a b e = rw e (or_true a)

module _ {T E : Type 0} where
  -- a call that failed has one of its causes
  pub failed_by : (fails missed : Bool) (result : Result T E) (P : Type 0) → is_err result ≡ (fails || missed) → (fails ≡ true → P) → (missed ≡ true → P) → OnErr result P
  failed_by fails missed (Ok x) P e f g = tt
  failed_by true missed (Err x) P e f g = f refl
  failed_by false missed (Err x) P e f g = g (sym e)

  not_ok : (result : Result T E) → is_err result ≡ true → OnOk result ⊥
  not_ok (Ok x) e = cc
  not_ok (Err x) e = tt

  -- what is done happens, and else the call failed
  pub happens_if : (change : Contents → Contents) (old changed new : List MemObject) (result : Result T E) (done : Bool) → new ≡ (if done then changed else old) → ((k : KeyNames) → held changed k ≡ change (held old) k) → (done ≡ false → is_err result ≡ true) → Happens change (Some (held old)) (Some (held new)) result
  happens_if change old changed new result true e same idle = inl (λ k. ap (λ l. held l k) e ∙ same k)
  happens_if change old changed new result false e same idle = inr (not_ok result (idle refl), λ k. ap (λ l. held l k) e)

  pub cause_of : (before now : ℕ) (fails : Bool) (result : Result T E) → is_err result ≡ fails → now ≡ counted before fails → before ≤ now → HasCause before now result
  cause_of before now fails result e n l = record { later = l; failed = causes result e }
    where
      causes : (result : Result T E) → is_err result ≡ fails → OnErr result (Rose before now)
      causes (Ok x) e = tt
      causes (Err x) e = counted_rose before now fails n (sym e)

-- what isn't done leaves all that is held
pub kept_if : (old changed new : List MemObject) (done : Bool) → new ≡ (if done then changed else old) → done ≡ false → (k : KeyNames) → held new k ≡ held old k
kept_if old changed new true e h k = cc
kept_if old changed new false e h k = ap (λ l. held l k) e

-- an object changes only where the count of changes rises
pub changes_if : (old new : List MemObject) (before now : ℕ) (rises : Bool) → now ≡ (if rises then before + 1 else before) → (rises ≡ false → (k : KeyNames) → held new k ≡ held old k) → Changes (Some (held old)) (Some (held new)) before now
changes_if old new before now true e same = inr e
changes_if old new before now false e same = inl (e, same refl)

-- where there is no object, nothing changes
pub changed_if : (old changed new : List MemObject) (before now : ℕ) (done there : Bool) → new ≡ (if done then changed else old) → now ≡ (if done && there then before + 1 else before) → (there ≡ false → (k : KeyNames) → held changed k ≡ held old k) → Changes (Some (held old)) (Some (held new)) before now
changed_if old changed new before now true there e n same = changes_if old new before now there n (λ h k. ap (λ l. held l k) e ∙ same h k)
changed_if old changed new before now false there e n same = inl (n, λ k. ap (λ l. held l k) e)

pub none_renamed : (from to : KeyNames) (objects : List MemObject) → is_some (held objects from) ≡ false → (k : KeyNames) → held (renamed from to objects) k ≡ held objects k
none_renamed from to os h k = rw h refl

pub none_left : (key : KeyNames) (objects : List MemObject) → is_some (held objects key) ≡ false → (k : KeyNames) → held (without key objects) k ≡ held objects k
none_left key os h k = held-without key k os ∙ step (key_eq key k) refl
  where
    absent : (m : Option (List ℕ)) → is_some m ≡ false → None ≡ m
    absent None e = refl
    absent (Some x) e = cc

    step : (a : Bool) → key_eq key k ≡ a → (if a then None else held os k) ≡ held os k
    step true e = absent (held os k) (subst (λ z. is_some (held os z) ≡ false) (key_same key k e) h)
    step false e = refl

idle_by : (listed happening barred missed : Bool) → ((not barred && (not listed || happening)) && not missed) ≡ false → ((listed || barred) || missed) ≡ true
idle_by true happening barred missed e = refl
idle_by false happening true missed e = refl
idle_by false happening false true e = refl
idle_by false happening false false e = cc

-- a call that didn't do its work failed or was a miss
pub idle : (calls : ChangingCalls) (barred missed : Bool) → (change_happens calls barred && not missed) ≡ false → (change_fails calls barred || missed) ≡ true
idle calls barred missed e = idle_by (is_failing calls.failing (next_count calls.count)) (is_failing calls.happening (next_count calls.count)) barred missed e

idle_hit_by : (listed happening barred : Bool) → (not barred && (not listed || happening)) ≡ false → (listed || barred) ≡ true
idle_hit_by true happening barred e = refl
idle_hit_by false happening true e = refl
idle_hit_by false happening false e = cc

-- a call that didn't do its work, and can't be a miss, failed
pub idle_hit : (calls : ChangingCalls) (barred : Bool) → change_happens calls barred ≡ false → change_fails calls barred ≡ true
idle_hit calls barred e = idle_hit_by (is_failing calls.failing (next_count calls.count)) (is_failing calls.happening (next_count calls.count)) barred e

-- where some objects go, each is as it was, or gone
pub thinned_if : (old new : List MemObject) (n : ℕ) (done listed : Bool) → new ≡ (if done then (if listed then take n old else []) else old) → (k : KeyNames) → (held new k ≡ held old k) ⊎ (held new k ≡ None)
thinned_if old new n true true e k = subst (λ l. (held l k ≡ held old k) ⊎ (held l k ≡ None)) (sym e) (held-take n old k)
thinned_if old new n true false e k = inr (ap (λ l. held l k) e)
thinned_if old new n false listed e k = inl (ap (λ l. held l k) e)

pub missed_idle : (happens missed : Bool) → missed ≡ true → (happens && not missed) ≡ false
missed_idle true true e = refl
missed_idle false true e = refl
missed_idle happens false e = cc
