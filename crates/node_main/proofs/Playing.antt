-- What a script's play says of the run that it belongs to.
use Rattle.std.proofs.Common.{◌≡◌, ℕ, List, Option, Some, None, Result, Ok, Err, ◌⊎◌, inl, inr, refl, sym, ap, ◌∙◌, subst}
use Rattle.std.specs.Prelude.{Bool, true, false, ◌≤◌, length, if◌then◌else◌, IfErr, IsOk, IsSomeAnd, IsTrue, IfSome, OnOk}
use Rattle.std.proofs.lemmas.Bool.{le-ltb}
use Rattle.fs_model.specs.declared.stop.Stop.{Stop}
use Rattle.outside.specs.AreaShelf.{AreaShelf, KeepsAreasBut}
use Rattle.outside.specs.Inputs.{is_missed, named}
use Rattle.outside.specs.declared.disk.Disk as disks
use Rattle.outside.specs.declared.objects.Objects as objects
use Rattle.outside.specs.declared.objects.ObjectRead as reads
use Rattle.outside.specs.declared.objects.ObjectWrite as writes
use Rattle.script_text.specs.declared.script.Command.{Command}
use Rattle.script_text.specs.declared.read.ScriptFault.{ScriptFault}
use Rattle.script_text.specs.declared.read.ScriptFault.TheVariants.{BadLine, Memory}
use Rattle.script_text.specs.ScriptText.{read_script}
use Rattle.cluster_core.specs.declared.cluster.Core.{Core}
use Rattle.node_main.specs.declared.run.End.{End}
use Rattle.node_main.specs.declared.run.End.TheVariants as ends
use Rattle.node_main.specs.Ends.{AtOpening, Attempted, FailsToOpen, Held, Holds, HoldsSame, IsDue, IsScript, IsUnplayed, IsUntouched, Kept, Plays, PlaysFront, PlaysPartly, PlaysSo, due_end, end_of_names, end_of_reading, end_of_stop, end_of_text}
use Rattle.node_main.specs.declared.run.TheConstants.{LIMIT}
use Rattle.node_main.specs.Words.{play_words}

-- ---- what is held

held_as : (held : Option Held) (name text : List ℕ) (P : List ℕ → Type 0) → Holds held name (λ h. text ≡ h) → P text → Holds held name P
held_as None name text P is p = tt
held_as (Some held) name text P is p = by_found (named held name) is
  where
    by_found : (found : Option (List ℕ)) → IsSomeAnd found (λ h. text ≡ h) → IsSomeAnd found P
    by_found None h = absurd h
    by_found (Some h) e = subst P e p

at_names : (words : Option (List ℕ × List ℕ)) (names : List ℕ × List ℕ) (P : List ℕ × List ℕ → Type 0) → Some names ≡ words → P names → IsSomeAnd words P
at_names words names P e p = subst (λ x. IsSomeAnd x P) e p

-- ---- parts of answers

pub on_ok : {T E : Type 0} (result : Result T E) (x : T) (P : Type 0) → result ≡ Ok x → OnOk result P → P
on_ok (Ok y) x P e h = h
on_ok (Err y) x P e h = absurd (cc)

pub on_err : {T E : Type 0} (result : Result T E) (e : E) (P : E → Type 0) → result ≡ Err e → IfErr result P → P e
on_err (Ok x) e P is h = absurd (cc)
on_err (Err f) e P is h = subst P (cc) h

pub at_some : {T : Type 0} (found : Option T) (x : T) (P : T → Type 0) → found ≡ Some x → IfSome found P → P x
at_some found x P e h = subst (λ y. IfSome y P) e h

-- areas under other names stay over two calls
pub areas_then : (name : List ℕ) (old mid new : Option AreaShelf) → KeepsAreasBut name old mid → KeepsAreasBut name mid new → KeepsAreasBut name old new
areas_then name None mid new first next = record { tells = next.tells ∙ first.tells; others = tt }
areas_then name (Some before) None new first next = let e = first.tells in cc
areas_then name (Some before) (Some between) None first next = let e = next.tells in cc
areas_then name (Some before) (Some between) (Some after) first next = record { tells = refl; others = λ other e. next.others other e ∙ first.others other e }

-- ---- the ends of a play

pub stop_write : (stop : Stop) → end_of_stop stop ≡ ends.WriteFault → stop ≡ Stop.WriteFault
stop_write Stop.WriteFault e = refl
stop_write Stop.Setup e = absurd (cc)
stop_write Stop.OpenFault e = absurd (cc)
stop_write (Stop.Damaged area place) e = absurd (cc)
stop_write Stop.JournalFault e = absurd (cc)
stop_write Stop.Memory e = absurd (cc)

pub stop_memory : (stop : Stop) → end_of_stop stop ≡ ends.Memory → stop ≡ Stop.Memory
stop_memory Stop.Memory e = refl
stop_memory Stop.Setup e = absurd (cc)
stop_memory Stop.OpenFault e = absurd (cc)
stop_memory (Stop.Damaged area place) e = absurd (cc)
stop_memory Stop.JournalFault e = absurd (cc)
stop_memory Stop.WriteFault e = absurd (cc)

-- what holds of why an opening failed, said in other words
at_opening : (P Q : Stop → Type 0) (end : End) → AtOpening P end → ((why : Stop) → P why → Q why) → AtOpening Q end
at_opening P Q end (AtOpening.BadSetup p) f = AtOpening.BadSetup (f Stop.Setup p)
at_opening P Q end (AtOpening.Damaged area place p) f = AtOpening.Damaged area place (f (Stop.Damaged area place) p)
at_opening P Q end (AtOpening.JournalFault p) f = AtOpening.JournalFault (f Stop.JournalFault p)

-- how a play stops
pub of_stop : (P : Stop → Type 0) (stop : Stop) → (stop ≡ Stop.OpenFault → ⊥) → ((stop ≡ Stop.WriteFault → ⊥) → (stop ≡ Stop.Memory → ⊥) → P stop) → (end_of_stop stop ≡ ends.Done) ⊎ (end_of_stop stop ≡ ends.WriteFault) ⊎ (end_of_stop stop ≡ ends.Memory) ⊎ AtOpening P (end_of_stop stop)
of_stop P Stop.Setup never f = inr (inr (inr (AtOpening.BadSetup (f (λ e. cc) (λ e. cc)))))
of_stop P Stop.OpenFault never f = absurd (never refl)
of_stop P (Stop.Damaged area place) never f = inr (inr (inr (AtOpening.Damaged area place (f (λ e. cc) (λ e. cc)))))
of_stop P Stop.JournalFault never f = inr (inr (inr (AtOpening.JournalFault (f (λ e. cc) (λ e. cc)))))
of_stop P Stop.WriteFault never f = inr (inl refl)
of_stop P Stop.Memory never f = inr (inr (inl refl))

pub no_open : (stop : Stop) → (stop ≡ Stop.OpenFault → ⊥) → end_of_stop stop ≡ ends.OpenFault → ⊥
no_open Stop.OpenFault never e = never refl
no_open Stop.Setup never e = cc
no_open (Stop.Damaged area place) never e = cc
no_open Stop.JournalFault never e = cc
no_open Stop.WriteFault never e = cc
no_open Stop.Memory never e = cc

-- an end of a script's play is one of the play over the media that were lent
pub of_lent : (P Q : Stop → Type 0) (end : End) → (end ≡ ends.Done) ⊎ (end ≡ ends.WriteFault) ⊎ (end ≡ ends.Memory) ⊎ AtOpening P end → ((why : Stop) → P why → Q why) → (end ≡ ends.Done) ⊎ (end ≡ ends.WriteFault) ⊎ (end ≡ ends.OpenFault) ⊎ (end ≡ ends.Memory) ⊎ AtOpening Q end
of_lent P Q end (inl e) f = inl e
of_lent P Q end (inr (inl e)) f = inr (inl e)
of_lent P Q end (inr (inr (inl e))) f = inr (inr (inr (inl e)))
of_lent P Q end (inr (inr (inr a))) f = inr (inr (inr (inr (at_opening P Q end a f))))

-- no line is bad in a play of a script that was read
pub no_line : (P : Stop → Type 0) (line : ℕ) (end : End) → (end ≡ ends.Done) ⊎ (end ≡ ends.WriteFault) ⊎ (end ≡ ends.OpenFault) ⊎ (end ≡ ends.Memory) ⊎ AtOpening P end → end ≡ ends.BadScript line → ⊥
no_line P line end (inl e) h = cc
no_line P line end (inr (inl e)) h = cc
no_line P line end (inr (inr (inl e))) h = cc
no_line P line end (inr (inr (inr (inl e)))) h = cc
no_line P line end (inr (inr (inr (inr a)))) h = elim (subst (AtOpening P) h a) [ ]

-- it ends so
pub of_script : (P : Stop → Type 0) (read : Result (List Command) ScriptFault) (commands : List Command) → read ≡ Ok commands → (end : End) → (end ≡ ends.Done) ⊎ (end ≡ ends.WriteFault) ⊎ (end ≡ ends.OpenFault) ⊎ (end ≡ ends.Memory) ⊎ AtOpening P end → (end ≡ end_of_reading read) ⊎ (end ≡ ends.Memory) ⊎ (end ≡ ends.WriteFault) ⊎ (end ≡ ends.OpenFault) ⊎ ((end_of_reading read ≡ ends.Done) × AtOpening P end)
of_script P read commands is end (inl e) = inl (e ∙ sym (ap end_of_reading is))
of_script P read commands is end (inr (inl e)) = inr (inr (inl e))
of_script P read commands is end (inr (inr (inl e))) = inr (inr (inr (inl e)))
of_script P read commands is end (inr (inr (inr (inl e)))) = inr (inl e)
of_script P read commands is end (inr (inr (inr (inr a)))) = inr (inr (inr (inr (ap end_of_reading is, a))))

is_read : (read : Result (List Command) ScriptFault) → end_of_reading read ≡ ends.Done → IsOk read
is_read (Ok commands) e = refl
is_read (Err (BadLine line)) e = absurd (cc)
is_read (Err Memory) e = absurd (cc)

-- an end of the play of a text; Q holds of why its opening failed
data IsOfPlay (Q : Stop → Type 0) : End → Type 0 where
  done : IsOfPlay Q ends.Done
  bad : (line : ℕ) → IsOfPlay Q (ends.BadScript line)
  memory : IsOfPlay Q ends.Memory
  write : IsOfPlay Q ends.WriteFault
  unlent : IsOfPlay Q ends.OpenFault
  failed : (end : End) → AtOpening Q end → IsOfPlay Q end

of_reading : (Q : Stop → Type 0) (read : Result (List Command) ScriptFault) → IsOfPlay Q (end_of_reading read)
of_reading Q (Ok commands) = IsOfPlay.done
of_reading Q (Err (BadLine line)) = IsOfPlay.bad line
of_reading Q (Err Memory) = IsOfPlay.memory

of_play : (P Q : Stop → Type 0) (read : Result (List Command) ScriptFault) (end : End) → (end ≡ end_of_reading read) ⊎ (end ≡ ends.Memory) ⊎ (end ≡ ends.WriteFault) ⊎ (end ≡ ends.OpenFault) ⊎ ((end_of_reading read ≡ ends.Done) × AtOpening P end) → (IsOk read → (why : Stop) → P why → Q why) → IsOfPlay Q end
of_play P Q read end (inl e) f = subst (IsOfPlay Q) (sym e) (of_reading Q read)
of_play P Q read end (inr (inl e)) f = subst (IsOfPlay Q) (sym e) IsOfPlay.memory
of_play P Q read end (inr (inr (inl e))) f = subst (IsOfPlay Q) (sym e) IsOfPlay.write
of_play P Q read end (inr (inr (inr (inl e)))) f = subst (IsOfPlay Q) (sym e) IsOfPlay.unlent
of_play P Q read end (inr (inr (inr (inr a)))) f = IsOfPlay.failed end (at_opening P Q end a.1 (f (is_read read a.0)))

-- ---- the end that is due

due_text : (found : Option (List ℕ)) (text : List ℕ) → IsSomeAnd found (λ h. text ≡ h) → length text ≤ LIMIT → end_of_text found ≡ end_of_reading (read_script text)
due_text None text is few = absurd is
due_text (Some h) text e few = subst (λ t. end_of_text (Some t) ≡ end_of_reading (read_script text)) e (rw (le-ltb LIMIT (length text) few) refl)

unmissed : (test : Bool) (a b : End) → (IsTrue test → ⊥) → (if test then a else b) ≡ b
unmissed true a b f = absurd (f refl)
unmissed false a b f = refl

module _ (words : List (List ℕ)) (names : List ℕ × List ℕ) (are : Some names ≡ play_words words) (text : List ℕ) (few : length text ≤ LIMIT) where
  due_reading : (held : Held) → Holds (Some held) names.1 (λ h. text ≡ h) → (IsTrue (is_missed (Some held) names.0 names.1) → ⊥) → due_end held words ≡ end_of_reading (read_script text)
  due_reading held is met = ap (end_of_names held) (sym are) ∙ unmissed (is_missed (Some held) names.0 names.1) _ _ met ∙ due_text (named held names.1) text is few

  -- what is due by a text is due by what is held
  pub due_of_text : (held : Option Held) → Holds held names.1 (λ h. text ≡ h) → (IsTrue (is_missed held names.0 names.1) → ⊥) → (world input sink : Type 0) (P Q : Stop → Type 0) (end : End)
      → (end ≡ end_of_reading (read_script text)) ⊎ (end ≡ ends.Memory) ⊎ (end ≡ ends.WriteFault) ⊎ (end ≡ ends.OpenFault) ⊎ ((end_of_reading (read_script text) ≡ ends.Done) × AtOpening P end)
      → (end ≡ ends.OpenFault → world) → (end ≡ ends.WriteFault → sink) → ((why : Stop) → P why → Q why)
      → IfSome held (λ held. IsDue held words world input sink Q end)
  due_of_text None is met world input sink P Q end due open_rose write_rose f = tt
  due_of_text (Some held) is met world input sink P Q end (inl e) open_rose write_rose f = inl (e ∙ sym (due_reading held is met))
  due_of_text (Some held) is met world input sink P Q end (inr (inl e)) open_rose write_rose f = inr (inl e)
  due_of_text (Some held) is met world input sink P Q end (inr (inr (inl e))) open_rose write_rose f = inr (inr (inr (inr (inl (e, write_rose e)))))
  due_of_text (Some held) is met world input sink P Q end (inr (inr (inr (inl e)))) open_rose write_rose f = inr (inr (inl (e, open_rose e)))
  due_of_text (Some held) is met world input sink P Q end (inr (inr (inr (inr a)))) open_rose write_rose f = inr (inr (inr (inr (inr (due_reading held is met ∙ a.0, at_opening P Q end a.1 f)))))

-- ---- what is said of the run

module _ {D S R W : Type 0} (d : disks.Ghosts D) (o : objects.Ghosts S R W) (r : reads.Ghosts R) (w : writes.Ghosts W) (old new : Kept) where
  -- commands of a script are also those of what it was read from
  pub so_for : (T : List Command → Core D S R W d w → Core D S R W d w → Type 0) (P Q : List Command → Type 0) → ((commands : List Command) → P commands → Q commands) → PlaysSo d o r w old new T P → PlaysSo d o r w old new T Q
  so_for T P Q f p = record { commands = p.commands; script = f p.commands p.script; lent = p.lent; held = p.held; played = p.played }

  module _ (held : Option Held) (words : List (List ℕ)) (names : List ℕ × List ℕ) (are : Some names ≡ play_words words) (text : List ℕ) (is : Holds held names.1 (λ h. text ≡ h)) (before after : Option (List ℕ)) (world input sink : Type 0) where
    Read : List Command → Type 0
    Read commands = read_script text ≡ Ok commands

    Failed : Stop → Type 0
    Failed why = FailsToOpen d o r w old new held words why × (after ≡ before)

    of_held : (commands : List Command) → Read commands → IsScript held names.1 commands
    unfolding Read
    of_held commands e = held_as held names.1 text (λ h. read_script h ≡ Ok commands) is e

    -- what a play of the text says is what an attempt says
    pub attempted : (end : End)
        → (end ≡ ends.Done → Plays d o r w old new (λ commands. read_script text ≡ Ok commands) before after)
        → (end ≡ ends.WriteFault → PlaysPartly d o r w old new (λ commands. read_script text ≡ Ok commands) before after)
        → (end ≡ ends.Memory → ((after ≡ before) × IsUntouched d o r w old new) ⊎ PlaysFront d o r w old new (λ commands. read_script text ≡ Ok commands) before after)
        → (end ≡ ends.OpenFault → world × (after ≡ before) × HoldsSame old new)
        → ((line : ℕ) → end ≡ ends.BadScript line → (read_script text ≡ Err (BadLine line)) × (after ≡ before) × HoldsSame old new)
        → (end ≡ ends.WriteFault → sink)
        → (P : Stop → Type 0)
        → (end ≡ end_of_reading (read_script text)) ⊎ (end ≡ ends.Memory) ⊎ (end ≡ ends.WriteFault) ⊎ (end ≡ ends.OpenFault) ⊎ ((end_of_reading (read_script text) ≡ ends.Done) × AtOpening P end)
        → ((why : Stop) → P why → IsUnplayed d o r w old new why × (after ≡ before))
        → Attempted d o r w old new held words before after world input sink end
    unfolding Read Failed
    attempted end whole partly short unlent_as bad_at rose P due unplayed = by_end end (of_play P Failed (read_script text) end due (λ ok why p. let u = unplayed why p in ((at_names (play_words words) names _ are (held_as held names.1 text (λ t. IsOk (read_script t)) is ok), u.0), u.1))) refl
      where
        by_end : (e : End) → IsOfPlay Failed e → end ≡ e → Attempted d o r w old new held words before after world input sink e
        by_end e IsOfPlay.done h = at_names (play_words words) names _ are (so_for _ _ _ of_held (whole h))
        by_end e (IsOfPlay.bad line) h = let b = bad_at line h in (at_names (play_words words) names _ are (held_as held names.1 text (λ t. read_script t ≡ Err (BadLine line)) is b.0), b.1, b.2)
        by_end e IsOfPlay.memory h = elim (short h) [
          | inl nothing ↦ inl nothing
          | inr front ↦ inr (at_names (play_words words) names _ are (so_for _ _ _ of_held front))
        ]
        by_end e IsOfPlay.write h = (rose h, at_names (play_words words) names _ are (so_for _ _ _ of_held (partly h)))
        by_end e IsOfPlay.unlent h = let b = unlent_as h in (at_names (play_words words) names _ are (inl b.0), b.1, b.2)
        by_end e (IsOfPlay.failed _ (AtOpening.BadSetup q)) h = q
        by_end e (IsOfPlay.failed _ (AtOpening.Damaged area place q)) h = q
        by_end e (IsOfPlay.failed _ (AtOpening.JournalFault q)) h = q
