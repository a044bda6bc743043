-- A play that has come some way.
use Rattle.std.proofs.Common.{◌≡◌, ℕ, zero, suc, Bool, true, ◌+◌, ◌≤◌, ◌<◌, List, [], ◌∷◌, ◌++◌, length, take, drop, get_or, Option, Result, Ok, Err, inl, inr, refl, sym, ap, ◌∙◌, subst, append_assoc, arith}
use Rattle.std.proofs.lemmas.Bool.{and_parts}
use Rattle.std.proofs.lemmas.List.{append-nil, take_more}
use Rattle.std.specs.List.{list_all}
use Rattle.std.specs.Prelude.{◌⊎◌}
use Rattle.std.specs.Result.{OnOk, IfErr}
use Rattle.fs_model.specs.declared.setup.Setup.{Setup}
use Rattle.fs_model.specs.declared.reply.Line.{Line}
use Rattle.fs_model.specs.declared.stop.Stop.{Stop}
use Rattle.fs_model.specs.State.{Whole}
use Rattle.fs_model.specs.Step.{WholeStep, Observation, Run}
use Rattle.outside.specs.Streams.{Takes}
use Rattle.outside.specs.declared.disk.Disk as disks
use Rattle.outside.specs.declared.objects.Objects as objects
use Rattle.outside.specs.declared.objects.ObjectRead as reads
use Rattle.outside.specs.declared.objects.ObjectWrite as writes
use Rattle.outside.proofs.Known.{Takes-nil, Takes-trans}
use Rattle.script_text.specs.declared.script.Command.{Command}
use Rattle.script_text.specs.LineText.{line_text, lines_text}
use Rattle.cluster_core.specs.Causes.{IsCaused}
use Rattle.cluster_core.specs.Crashes.{Crashes}
use Rattle.cluster_core.specs.Goes.{Rises}
use Rattle.cluster_core.specs.Media.{MediaStays}
use Rattle.cluster_core.specs.Stands.{Stands}
use Rattle.cluster_core.specs.Steady.{IsSteady}
use Rattle.cluster_core.specs.declared.cluster.Core.{Core}
use Rattle.play_run.specs.Play.{Says, Played, Acts, CausedAlong, Lines, QuietRuns, Ran, Tells, TellsFront, TellsPartly}
use Rattle.play_run.specs.Sums.{RiseAlong}
use Rattle.play_run.proofs.Sums.{area_sums, run_faults, run_journal, run_waits, steady_sums, sums}

-- ---- lists

played_more : (cs : List Command) (ls : List Line) (c : Command) (l : Line) → Says c l → Played cs ls → Played (cs ++ c ∷ []) (ls ++ l ∷ [])
played_more [] [] c l s h = (s, tt)
played_more (d ∷ cs) (m ∷ ls) c l s h = (h.0, played_more cs ls c l s h.1)
played_more [] (m ∷ ls) c l s h = absurd h
played_more (d ∷ cs) [] c l s h = absurd h

run_more : (U : Setup) (ls : List Line) (seen : List Observation) (l : Line) (x : Observation) (V W Z : Whole) → Run U V ls W seen → WholeStep U W l Z x → Run U V (ls ++ l ∷ []) Z (seen ++ x ∷ [])
run_more U [] [] l x V W Z r h = (Z, subst (λ (y : Whole). WholeStep U y l Z x) r h, refl)
run_more U (m ∷ ls) (y ∷ ys) l x V W Z r h = (r.0, r.1, run_more U ls ys l x r.0 W Z r.2 h)
run_more U [] (y ∷ ys) l x V W Z r h = absurd r
run_more U (m ∷ ls) [] l x V W Z r h = absurd r

lines_more : (ls : List Line) (l : Line) → lines_text (ls ++ l ∷ []) ≡ lines_text ls ++ line_text l
lines_more [] l = append-nil (line_text l)
lines_more (m ∷ ls) l = ap (λ (xs : List ℕ). line_text m ++ xs) (lines_more ls l) ∙ sym (append_assoc (line_text m) (lines_text ls) (line_text l))

-- all of a list is taken, and what is behind it is dropped
take_whole : (ls : List Line) → take (length ls) ls ≡ ls
take_whole [] = refl
take_whole (m ∷ ls) = ap (λ xs. m ∷ xs) (take_whole ls)

take_front : (ls more : List Line) → take (length ls) (ls ++ more) ≡ ls
take_front [] more = refl
take_front (m ∷ ls) more = ap (λ xs. m ∷ xs) (take_front ls more)

drop_front : (ls more : List Line) → drop (length ls) (ls ++ more) ≡ more
drop_front [] more = refl
drop_front (m ∷ ls) more = drop_front ls more

one_longer : (ls : List Line) (l : Line) → length (ls ++ l ∷ []) ≤ length ls + 1
one_longer [] l = omega arith
one_longer (m ∷ ls) l = let h = one_longer ls l in omega (arith, h)

-- one command more of a list
pub next_command : (cs : List Command) (i : ℕ) (c : Command) → i < length cs → c ≡ get_or cs i c → take i cs ++ c ∷ [] ≡ take (i + 1) cs
next_command cs i c lt at = ap (λ (x : Command). take i cs ++ x ∷ []) at ∙ sym (take_more cs i c lt)

-- ---- runs

module _ {D S R W : Type 0} (d : disks.Ghosts D) (o : objects.Ghosts S R W) (r : reads.Ghosts R) (w : writes.Ghosts W) where
  rise_more : (ls : List Line) (seen : List Observation) (l : Line) (x : Observation) (old mid new : Core D S R W d w) → RiseAlong d o r w old ls seen mid → Rises d o r w mid new l.actor l.event x.rise → MediaStays d o mid new → (IsSteady d o r w mid → IsSteady d o r w new) → RiseAlong d o r w old (ls ++ l ∷ []) (seen ++ x ∷ []) new
  rise_more [] [] l x old mid new along h stays steady = (new, subst (λ (y : Core D S R W d w). Rises d o r w y new l.actor l.event x.rise) along h, subst (λ (y : Core D S R W d w). MediaStays d o y new) along stays, subst (λ (y : Core D S R W d w). IsSteady d o r w y → IsSteady d o r w new) along steady, refl)
  rise_more (m ∷ ls) (y ∷ ys) l x old mid new along h stays steady = (along.0, along.1, along.2, along.3, rise_more ls ys l x along.0 mid new along.4 h stays steady)
  rise_more [] (y ∷ ys) l x old mid new along h stays steady = absurd along
  rise_more (m ∷ ls) [] l x old mid new along h stays steady = absurd along

  cause_more : (ls : List Line) (l : Line) (old mid new : Core D S R W d w) → CausedAlong d o r w old ls mid → IsCaused d o r w mid new l.actor l.event l.reply → MediaStays d o mid new → (IsSteady d o r w mid → IsSteady d o r w new) → Crashes d mid new l.actor l.event l.reply → CausedAlong d o r w old (ls ++ l ∷ []) new
  cause_more [] l old mid new along h stays steady crash = (new, subst (λ (y : Core D S R W d w). IsCaused d o r w y new l.actor l.event l.reply) along h, subst (λ (y : Core D S R W d w). MediaStays d o y new) along stays, subst (λ (y : Core D S R W d w). IsSteady d o r w y → IsSteady d o r w new) along steady, subst (λ (y : Core D S R W d w). Crashes d y new l.actor l.event l.reply) along crash, refl)
  cause_more (m ∷ ls) l old mid new along h stays steady crash = (along.0, along.1, along.2, along.3, along.4, cause_more ls l along.0 mid new along.5 h stays steady crash)

  ran_nothing : (U : Setup) (V : Whole) (core : Core D S R W d w) → Stands d o r w U core V → Ran d o r w U V core [] core
  ran_nothing U V core stands = record { after = V; seen = []; run = refl; rose = refl; faults = run_faults o r U V V core [] [] core refl refl; not_ready = run_waits o r U V V core [] [] core refl refl; journal = run_journal d o r w U V V core [] [] core refl refl; few = sums o r core [] [] core refl; few_areas = area_sums d o r w core [] [] core refl; steady = λ steady. steady_sums d o r w core [] [] core refl steady; stands = stands }

  -- one line more
  ran_more : (U : Setup) (c : Command) (ls : List Line) (l : Line) (V : Whole) (old mid new : Core D S R W d w) → Ran d o r w U V old ls mid → Acts d o r w c l mid new → Ran d o r w U V old (ls ++ l ∷ []) new
  ran_more U c ls l V old mid new ran acts =
      let goes = acts.steps U ran.after ran.stands in
      let x : Observation = record { rise = goes.rise; made = goes.made } in
      let lines = ls ++ l ∷ [] in
      let seen = ran.seen ++ x ∷ [] in
      let run = run_more U ls ran.seen l x V ran.after goes.after ran.run goes.step in
      let rose = rise_more ls ran.seen l x old mid new ran.rose goes.rises acts.media acts.steady in
      record {
        after = goes.after;
        seen = seen;
        run = run;
        rose = rose;
        faults = run_faults o r U V goes.after old lines seen new rose run;
        not_ready = run_waits o r U V goes.after old lines seen new rose run;
        journal = run_journal d o r w U V goes.after old lines seen new rose run;
        few = sums o r old lines seen new rose;
        few_areas = area_sums d o r w old lines seen new rose;
        steady = steady_sums d o r w old lines seen new rose;
        stands = goes.stands;
      }

  did_more : (cs : List Command) (c : Command) (ls : List Line) (l : Line) (old mid new : Core D S R W d w) → Lines d o r w cs old ls mid → Acts d o r w c l mid new → Lines d o r w (cs ++ c ∷ []) old (ls ++ l ∷ []) new
  did_more cs c ls l old mid new did acts = record {
    played = played_more cs ls c l acts.says did.played;
    caused = cause_more ls l old mid new did.caused acts.cause acts.media acts.steady acts.crash;
    ran = λ U V stands. ran_more U c ls l V old mid new (did.ran U V stands) acts;
  }

  -- ---- what the sink took

  pub begins : (core : Core D S R W d w) (a : Option (List ℕ)) → Tells d o r w [] core core a a
  begins core a = record { lines = []; did = record { played = tt; caused = refl; ran = λ U V stands. ran_nothing U V core stands }; text = Takes-nil a }

  module _ (all : List Command) (k : ℕ) (first old : Core D S R W d w) (a b : Option (List ℕ)) (so_far : Tells d o r w (take k all) first old a b) where
    -- nothing more was done
    pub in_front : TellsFront d o r w all first old a b
    in_front = record {
      count = k;
      lines = so_far.lines;
      did = so_far.did;
      told = length so_far.lines;
      late = omega arith;
      text = subst (λ ls. Takes a b (lines_text ls)) (sym (take_whole so_far.lines)) so_far.text;
    }

    module _ (c : Command) (l : Line) (new : Core D S R W d w) (front : take k all ++ c ∷ [] ≡ take (k + 1) all) (acts : Acts d o r w c l old new) where
      lines : List Line
      lines = so_far.lines ++ l ∷ []

      did : Lines d o r w (take (k + 1) all) first lines new
      unfolding lines
      did = subst (λ cs. Lines d o r w cs first lines new) front (did_more (take k all) c so_far.lines l first old new so_far.did acts)

      -- one command more was done and told
      pub goes_on : (z : Option (List ℕ)) → Takes b z (line_text l) → Tells d o r w (take (k + 1) all) first new a z
      unfolding lines
      goes_on z told = record {
        lines = lines;
        did = did;
        text = subst (λ xs. Takes a z xs) (sym (lines_more so_far.lines l)) (Takes-trans a b z (lines_text so_far.lines) (line_text l) so_far.text told);
      }

      -- it was done and not told
      pub untold : TellsFront d o r w all first new a b
      unfolding lines
      untold = record {
        count = k + 1;
        lines = lines;
        did = did;
        told = length so_far.lines;
        late = one_longer so_far.lines l;
        text = subst (λ ls. Takes a b (lines_text ls)) (sym (take_front so_far.lines (l ∷ []))) so_far.text;
      }

      -- it was done, and a front of its line was told
      pub partly : (z : Option (List ℕ)) (n : ℕ) → Takes b z (take n (line_text l)) → TellsPartly d o r w all first new a z
      unfolding lines
      partly z n told = record {
        count = k + 1;
        lines = lines;
        did = did;
        told = length so_far.lines;
        late = one_longer so_far.lines l;
        bytes = n;
        text = subst (λ xs. Takes a z xs) (sym shown) (Takes-trans a b z (lines_text so_far.lines) (take n (line_text l)) so_far.text told);
      }
        where
          last : lines_text (drop (length so_far.lines) lines) ≡ line_text l
          last = ap lines_text (drop_front so_far.lines (l ∷ [])) ∙ append-nil (line_text l)

          shown : lines_text (take (length so_far.lines) lines) ++ take n (lines_text (drop (length so_far.lines) lines)) ≡ lines_text so_far.lines ++ take n (line_text l)
          shown = ap (λ ls. lines_text ls ++ take n (lines_text (drop (length so_far.lines) lines))) (take_front so_far.lines (l ∷ [])) ∙ ap (λ xs. lines_text so_far.lines ++ take n xs) last

-- where no count rose, no line answers a fault or a wait
pub quiet_runs : {D S R W : Type 0} (d : disks.Ghosts D) (o : objects.Ghosts S R W) (r : reads.Ghosts R) (w : writes.Ghosts W) → QuietRuns d o r w
quiet_runs d o r w U V old new lines ran none same hands waited = (
  let few = ran.few none in omega (arith, few, ran.faults, same, hands),
  omega (arith, ran.not_ready, waited),
)

-- what holds of each element of a list holds of the one at a place
pub all_there : (test : Command → Bool) (cs : List Command) (i : ℕ) (c : Command) → list_all test cs ≡ true → i < length cs → c ≡ get_or cs i c → test c ≡ true
all_there test [] i c h lt at = absurd (omega arith)
all_there test (d ∷ ds) zero c h lt at = subst (λ (x : Command). test x ≡ true) (sym at) (and_parts (test d) (list_all test ds) h).0
all_there test (d ∷ ds) (suc i) c h lt at = all_there test ds i c (and_parts (test d) (list_all test ds) h).1 (omega arith) at

pub if_ok : {T E : Type 0} (result : Result T E) (P Q : Type 0) → (P → Q) → OnOk result P → OnOk result Q
if_ok (Ok x) P Q f h = f h
if_ok (Err e) P Q f h = tt

-- an end is one of two, so no other comes
pub no_other : {T : Type 0} (result : Result T Stop) (P : Stop → Type 0) → IfErr result (λ why. (why ≡ Stop.Memory) ⊎ (why ≡ Stop.WriteFault)) → IfErr result (λ why. (why ≡ Stop.WriteFault → ⊥) → (why ≡ Stop.Memory → ⊥) → P why)
no_other (Ok x) P h = tt
no_other (Err why) P (inl is) = λ no_write no_memory. absurd (no_memory is)
no_other (Err why) P (inr is) = λ no_write no_memory. absurd (no_write is)

-- from its end on, all of a list is taken
pub take_all : (cs : List Command) (i : ℕ) → (i < length cs → ⊥) → take i cs ≡ cs
take_all [] zero h = refl
take_all [] (suc i) h = refl
take_all (d ∷ ds) zero h = absurd (h (omega arith))
take_all (d ∷ ds) (suc i) h = ap (λ xs. d ∷ xs) (take_all ds i (λ lt. h (omega (arith, lt))))
