-- What is read of a text is a script that it spells.
use Rattle.std.proofs.Common.{◌≡◌, ℕ, ◌+◌, ◌≤◌, Bool, true, false, not, cond, nat_lt, ◌||◌, ◌==◌, List, [], ◌∷◌, ◌++◌, length, Option, Some, None, option_map, option_to_list, Result, Ok, Err, decimal, inl, inr, refl, sym, ap, ◌∙◌, subst, arith, eqb-true, ltb-false, le-leb}
use Rattle.std.proofs.lemmas.List.Splits.{join_with_byte-slice_split}
use Rattle.std.specs.List.{list_all, onto_first, join_with_byte}
use Rattle.fs_model.specs.PathText.{parts_at}
use Rattle.fs_model.specs.Words.{option_list}
use Rattle.script_text.specs.declared.script.Verb.{Verb}
use Rattle.script_text.specs.declared.script.Command.{Command}
use Rattle.script_text.specs.declared.read.ScriptFault.{ScriptFault}
use Rattle.script_text.specs.declared.read.ScriptFault.TheVariants.{BadLine}
use Rattle.script_text.specs.Commands.{is_verb, is_command}
use Rattle.script_text.specs.ScriptForm.{is_line_byte, is_word_byte, SpellsVerb, Says, Say, is_line, ended, last_line, SpellsScript}
use Rattle.script_text.specs.EventText.{number_of, event_of}
use Rattle.script_text.specs.ScriptText.{verb_of, command_of, or_bad, said_by, read_line, lines_of, before, commands_of, read_script}
use Rattle.script_text.proofs.Bools.{both_true, and_true, both_false, when_ok}
use Rattle.script_text.proofs.Options.{and_then_some, map_some}
use Rattle.script_text.proofs.Numbers.{number_found}
use Rattle.script_text.proofs.Events.{event_found}

-- ---- the words of a command

abbrev IsVerb : List (List ℕ) → Verb → Type 0
IsVerb words v = SpellsVerb v words × (is_verb v ≡ true)

verb_found : (words : List (List ℕ)) (v : Verb) → verb_of words ≡ Some v → IsVerb words v
verb_found words v h =
    let m = map_some (λ e. Verb.One e) (event_of words) v h in
    let found = event_found words m.0 m.1 in
    subst (IsVerb words) m.2 (found, and_true _ _ found.0 found.1)

-- a command and the words that it was read of
record IsCommand (words : List (List ℕ)) (c : Command) : Type 0 where
  pub rest : List (List ℕ)
  pub words_are : words ≡ decimal c.actor ∷ rest
  pub from_one : 1 ≤ c.actor
  pub to_64 : c.actor ≤ 64
  pub verb_is : IsVerb rest c.verb

command_found : (words : List (List ℕ)) (c : Command) → command_of words ≡ Some c → IsCommand words c
command_found [] c h = cc
command_found (a ∷ words) c h =
    let n = and_then_some (λ (n : ℕ). option_map (λ (v : Verb). let d : Command = record { actor = n; verb = v } in d) (verb_of words)) (number_of 1 64 a) c h in
    let v = map_some (λ (v : Verb). let d : Command = record { actor = n.0; verb = v } in d) (verb_of words) c n.2 in
    let who = number_found 1 64 a n.0 (omega arith) n.1 in
    subst (IsCommand (a ∷ words)) v.2 (record {
      rest = words;
      words_are = ap (λ x. x ∷ words) who.word_is;
      from_one = who.from_least;
      to_64 = who.to_most;
      verb_is = verb_found words v.0 v.1;
    })

is_fine : (words : List (List ℕ)) (c : Command) → IsCommand words c → is_command c ≡ true
is_fine words c k = and_true _ _ (and_true _ _ (le-leb 1 c.actor k.from_one) (le-leb c.actor 64 k.to_64)) k.verb_is.1

-- ---- parts

first_passes : (test : ℕ → Bool) (b : ℕ) (parts : List (List ℕ)) → test b ≡ true → list_all (list_all test) parts ≡ true → list_all (list_all test) (onto_first b parts) ≡ true
first_passes test b [] here rest = and_true _ _ (and_true _ _ here refl) refl
first_passes test b (p ∷ ps) here rest =
    let both = both_true _ _ rest in
    and_true _ _ (and_true _ _ here both.0) both.1

-- the words of a line have no space and no line feed
parts_are_words : (line : List ℕ) → list_all is_line_byte line ≡ true → list_all (list_all is_word_byte) (parts_at 32 line) ≡ true
parts_are_words [] h = refl
parts_are_words (b ∷ bs) h =
    let both = both_true _ _ h in
    by_space (b == 32) (λ e. and_true _ _ (ap not e) both.0) (parts_are_words bs both.1)
  where
    by_space : (t : Bool) → (t ≡ false → is_word_byte b ≡ true) → list_all (list_all is_word_byte) (parts_at 32 bs) ≡ true → list_all (list_all is_word_byte) (cond t ([] ∷ parts_at 32 bs) (onto_first b (parts_at 32 bs))) ≡ true
    by_space true here rest = rest
    by_space false here rest = first_passes is_word_byte b (parts_at 32 bs) (here refl) rest

-- lines have no line feed
lines_are_clean : (text : List ℕ) → list_all (list_all is_line_byte) (lines_of text) ≡ true
lines_are_clean [] = refl
lines_are_clean (b ∷ bs) = by_feed (b == 10) (λ e. ap not e) (lines_are_clean bs)
  where
    by_feed : (t : Bool) → (t ≡ false → is_line_byte b ≡ true) → list_all (list_all is_line_byte) (lines_of bs) ≡ true → list_all (list_all is_line_byte) (cond t ([] ∷ lines_of bs) (onto_first b (lines_of bs))) ≡ true
    by_feed true here rest = rest
    by_feed false here rest = first_passes is_line_byte b (lines_of bs) (here refl) rest

-- a text by its lines
record Splits (text : List ℕ) (lines : List (List ℕ)) : Type 0 where
  pub front : List (List ℕ)
  pub rest : List ℕ
  pub joined : text ≡ ended front ++ rest
  pub lines_are : lines ≡ front ++ last_line rest

at_feed : (bs : List ℕ) (lines : List (List ℕ)) → Splits bs lines → Splits (10 ∷ bs) ([] ∷ lines)
at_feed bs lines s = record { front = [] ∷ s.front; rest = s.rest; joined = ap (λ x. 10 ∷ x) s.joined; lines_are = ap (λ (x : List (List ℕ)). [] ∷ x) s.lines_are }

before_feed : (b : ℕ) (bs : List ℕ) (lines front : List (List ℕ)) (rest : List ℕ) → bs ≡ ended front ++ rest → lines ≡ front ++ last_line rest → Splits (b ∷ bs) (onto_first b lines)
before_feed b bs lines [] [] j l = record { front = []; rest = b ∷ []; joined = ap (λ x. b ∷ x) j; lines_are = ap (onto_first b) l }
before_feed b bs lines [] (r ∷ rs) j l = record { front = []; rest = b ∷ r ∷ rs; joined = ap (λ x. b ∷ x) j; lines_are = ap (onto_first b) l }
before_feed b bs lines (f ∷ fs) rest j l = record { front = (b ∷ f) ∷ fs; rest = rest; joined = ap (λ x. b ∷ x) j; lines_are = ap (onto_first b) l }

splits : (text : List ℕ) → Splits text (lines_of text)
splits [] = record { front = []; rest = []; joined = refl; lines_are = refl }
splits (b ∷ bs) = by_feed (b == 10) (λ e. eqb-true b 10 e) (splits bs)
  where
    by_feed : (t : Bool) → (t ≡ true → b ≡ 10) → Splits bs (lines_of bs) → Splits (b ∷ bs) (cond t ([] ∷ lines_of bs) (onto_first b (lines_of bs)))
    by_feed true feed s = subst (λ x. Splits (x ∷ bs) ([] ∷ lines_of bs)) (sym (feed refl)) (at_feed bs (lines_of bs) s)
    by_feed false feed s = before_feed b bs (lines_of bs) s.front s.rest s.joined s.lines_are

-- ---- lines

-- what a line says, and that a command is fine
abbrev SaysFine : List ℕ → Option Command → Type 0
SaysFine line said = Says line said × (list_all is_command (option_to_list said) ≡ true)

command_says : (line : List ℕ) (c : Command) → list_all is_line_byte line ≡ true → IsCommand (parts_at 32 line) c → SaysFine line (Some c)
command_says line c clean k =
    let words = both_true (list_all is_word_byte (decimal c.actor)) (list_all (list_all is_word_byte) k.rest) (subst (λ x. list_all (list_all is_word_byte) x ≡ true) k.words_are (parts_are_words line clean)) in (
      record {
        words = k.rest;
        joined = sym (join_with_byte-slice_split 32 line) ∙ ap (join_with_byte 32) k.words_are;
        are_words = words.1;
        from_one = k.from_one;
        to_64 = k.to_64;
        spelled = k.verb_is.0;
      },
      and_true _ _ (is_fine (parts_at 32 line) c k) refl,
    )

line_found : (place : ℕ) (line : List ℕ) (said : Option Command) → list_all is_line_byte line ≡ true → or_bad place (command_of (parts_at 32 line)) ≡ Ok said → SaysFine line said
line_found place line said clean h = by_command (command_of (parts_at 32 line)) (command_found (parts_at 32 line)) h
  where
    by_command : (o : Option Command) → ((c : Command) → o ≡ Some c → IsCommand (parts_at 32 line) c) → or_bad place o ≡ Ok said → SaysFine line said
    by_command (Some c) k h = let e : Some c ≡ said = cc in subst (SaysFine line) e (command_says line c clean (k c refl))
    by_command None k h = cc

said_found : (place : ℕ) (line : List ℕ) (said : Option Command) → list_all is_line_byte line ≡ true → said_by place line ≡ Ok said → SaysFine line said
said_found place [] said clean h = let e : None ≡ said = cc in subst (SaysFine []) e (inl refl, refl)
said_found place (b ∷ bs) said clean h = by_hash (b == 35) (λ e. eqb-true b 35 e) h
  where
    by_hash : (t : Bool) → (t ≡ true → b ≡ 35) → cond t (Ok None) (or_bad place (command_of (parts_at 32 (b ∷ bs)))) ≡ Ok said → SaysFine (b ∷ bs) said
    by_hash true hash h = let e : None ≡ said = cc in subst (SaysFine (b ∷ bs)) e (inr (bs, ap (λ x. x ∷ bs) (hash refl)), refl)
    by_hash false hash h = line_found place (b ∷ bs) said clean h

record IsRead (place : ℕ) (line : List ℕ) (said : Option Command) : Type 0 where
  pub few : place ≤ 1000000
  pub short : length line ≤ 262144
  pub says : SaysFine line said

read_line_found : (place : ℕ) (line : List ℕ) (said : Option Command) → list_all is_line_byte line ≡ true → read_line place line ≡ Ok said → IsRead place line said
read_line_found place line said clean h =
    let t = when_ok (nat_lt 1000000 place || nat_lt 262144 (length line)) (BadLine place) (said_by place line) said h in
    let within = both_false _ _ t.0 in
    record { few = ltb-false 1000000 place within.0; short = ltb-false 262144 (length line) within.1; says = said_found place line said clean t.1 }

-- what is read of a line and those behind it
before_ok : (r : Result (Option Command) ScriptFault) (rest : Result (List Command) ScriptFault) (cs : List Command) → before r rest ≡ Ok cs → (said : Option Command) × (ds : List Command) × (r ≡ Ok said) × (rest ≡ Ok ds) × (cs ≡ option_to_list said ++ ds)
before_ok (Ok None) rest cs h = (None, cs, refl, h, refl)
before_ok (Ok (Some c)) (Ok ds) cs h = (Some c, ds, refl, refl, cc)
before_ok (Ok (Some c)) (Err e) cs h = cc
before_ok (Err e) rest cs h = cc

option_list_first : {X : Type 0} (s : Option X) (said : List (Option X)) → option_list (s ∷ said) ≡ option_to_list s ++ option_list said
option_list_first None said = refl
option_list_first (Some x) said = refl

fine_both : (s : Option Command) (ds : List Command) → list_all is_command (option_to_list s) ≡ true → list_all is_command ds ≡ true → list_all is_command (option_to_list s ++ ds) ≡ true
fine_both None ds h k = k
fine_both (Some c) ds h k = and_true _ _ (both_true _ _ h).0 k

record AreRead (place : ℕ) (lines : List (List ℕ)) (cs : List Command) : Type 0 where
  pub said : List (Option Command)
  pub say : Say lines said
  pub in_order : cs ≡ option_list said
  pub are_lines : list_all is_line lines ≡ true
  pub few : length lines + place ≤ 1000001
  pub fine : list_all is_command cs ≡ true

lines_found : (place : ℕ) (lines : List (List ℕ)) (cs : List Command) → place ≤ 1000001 → list_all (list_all is_line_byte) lines ≡ true → commands_of place lines ≡ Ok cs → AreRead place lines cs
unfolding commands_of
lines_found place [] cs within clean h = let e : [] ≡ cs = cc in subst (AreRead place []) e (record { said = []; say = tt; in_order = refl; are_lines = refl; few = omega arith; fine = refl })
lines_found place (line ∷ lines) cs within clean h =
    let both = both_true _ _ clean in
    let b = before_ok (read_line place line) (commands_of (place + 1) lines) cs h in
    let here = read_line_found place line b.0 both.0 b.2 in
    let small = here.few in
    let behind = lines_found (place + 1) lines b.1 (omega arith) both.1 b.3 in
    let rest = behind.few in
    record {
      said = b.0 ∷ behind.said;
      say = (here.says.0, behind.say);
      in_order = b.4 ∙ ap (λ x. option_to_list b.0 ++ x) behind.in_order ∙ sym (option_list_first b.0 behind.said);
      are_lines = and_true _ _ (and_true _ _ both.0 (le-leb (length line) 262144 here.short)) behind.are_lines;
      few = omega arith;
      fine = subst (λ x. list_all is_command x ≡ true) (sym b.4) (fine_both b.0 b.1 here.says.1 behind.fine);
    }

abbrev pub IsScript : List ℕ → List Command → Type 0
IsScript text cs = SpellsScript text cs × (list_all is_command cs ≡ true)

-- what is read is what the text spells
pub script_found : (text : List ℕ) (cs : List Command) → read_script text ≡ Ok cs → IsScript text cs
script_found text cs h =
    let s = splits text in
    let r = lines_found 1 (lines_of text) cs (omega arith) (lines_are_clean text) h in
    let few = subst (λ x. length x + 1 ≤ 1000001) s.lines_are r.few in (
      record {
        front = s.front;
        rest = s.rest;
        said = r.said;
        joined = s.joined;
        are_lines = subst (λ x. list_all is_line x ≡ true) s.lines_are r.are_lines;
        few = omega arith;
        say = subst (λ x. Say x r.said) s.lines_are r.say;
        in_order = r.in_order;
      },
      r.fine,
    )
