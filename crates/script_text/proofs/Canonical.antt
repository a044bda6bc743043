-- The canonical text of commands spells them.
use Rattle.std.proofs.Common.{◌≡◌, ℕ, suc, ◌+◌, ◌^◌, ◌<◌, ◌≤◌, true, List, [], ◌∷◌, ◌++◌, map, length, codes, Some, Ok, decimal, refl, sym, ap, ◌∙◌, subst, arith, leb-true, ltb-true, le-leb, append-nil, length-append}
use Rattle.std.proofs.lemmas.Bool.Decides.{nat_tests}
use Rattle.std.proofs.lemmas.Fmt.{length-decimal-le}
use Rattle.std.proofs.lemmas.List.Folds.{list_all-append}
use Rattle.std.specs.List.{list_all}
use Rattle.fs_model.specs.PathForm.{is_path, is_label, is_label_byte}
use Rattle.fs_model.specs.Built.{is_built}
use Rattle.fs_model.specs.Spelled.{is_spelled}
use Rattle.fs_model.specs.Words.{option_list}
use Rattle.fs_model.specs.declared.event.Event.{Event}
use Rattle.fs_model.specs.declared.event.WriteType.{WriteType}
use Rattle.fs_model.specs.declared.event.ReadType.{ReadType}
use Rattle.script_text.specs.declared.script.Verb.{Verb}
use Rattle.script_text.specs.declared.script.Command.{Command}
use Rattle.script_text.specs.Words.{path_word, spaced}
use Rattle.script_text.specs.LineText.{fill_word, event_words}
use Rattle.script_text.specs.Commands.{is_verb, is_command, verb_words, command_line, commands_text}
use Rattle.script_text.specs.ScriptForm.{is_line_byte, is_word_byte, IsWordsOf, SpellsVerb, SaysCommand, Say, is_line, ended, SpellsScript}
use Rattle.script_text.specs.ScriptText.{read_script}
use Rattle.script_text.proofs.Bools.{both_true, and_true}
use Rattle.script_text.proofs.Paths.{decodes_path, path_bytes, path_len}
use Rattle.script_text.proofs.Numbers.{number_word}
use Rattle.script_text.proofs.Fills.{fill_word_is}
use Rattle.script_text.proofs.Again.{join_first, script_again}

-- words of a line, which take at most so many bytes with a space before each
record AreWords (most : ℕ) (words : List (List ℕ)) : Type 0 where
  pub are_words : list_all (list_all is_word_byte) words ≡ true
  pub short : length (spaced words) ≤ most

no_words : AreWords 0 []
no_words = record { are_words = refl; short = omega arith }

word_before : (n most : ℕ) (word : List ℕ) (words : List (List ℕ)) → list_all is_word_byte word ≡ true → length word ≤ n → AreWords most words → AreWords (1 + n + most) (word ∷ words)
word_before n most word words is few behind =
    let rest = behind.short in
    record { are_words = and_true _ _ is behind.are_words; short = omega (arith, length-append word (spaced words)) }

label_byte : (b : ℕ) → is_label_byte b ≡ true → is_word_byte b ≡ true
label_byte b h = grind (arith, nat_tests)

label_word : (label : List ℕ) → list_all is_label_byte label ≡ true → list_all is_word_byte label ≡ true
label_word [] h = refl
label_word (b ∷ bs) h =
    let both = both_true _ _ h in
    and_true _ _ (label_byte b both.0) (label_word bs both.1)

label_before : (most : ℕ) (label : List ℕ) (words : List (List ℕ)) → is_label label ≡ true → AreWords most words → AreWords (17 + most) (label ∷ words)
label_before most label words is behind =
    let both = both_true _ _ is in
    word_before 16 most label words (label_word label both.1) (leb-true (length label) 16 (both_true _ _ both.0).1) behind

path_before : (most : ℕ) (p : List (List ℕ)) (words : List (List ℕ)) → is_path p ≡ true → AreWords most words → AreWords (12289 + most) (path_word p ∷ words)
path_before most p words is behind = word_before 12288 most (path_word p) words (path_bytes p is) (path_len p is) behind

number_before : (most n : ℕ) (words : List (List ℕ)) → n < 2 ^ 64 → AreWords most words → AreWords (21 + most) (decimal n ∷ words)
number_before most n words fits behind = word_before 20 most (decimal n) words (number_word n fits) (length-decimal-le 20 n (omega arith) (omega arith) fits) behind

-- what the words of an event that can be spelled are
record IsSpelled (e : Event) : Type 0 where
  pub spelled : IsWordsOf e (event_words e)
  pub words : AreWords 131200 (event_words e)

within : (few most : ℕ) (words : List (List ℕ)) → few ≤ most → AreWords few words → AreWords most words
within few most words le h = let short = h.short in record { are_words = h.are_words; short = omega arith }

verb_label : (verb label : List ℕ) → is_label label ≡ true → list_all is_word_byte verb ≡ true → length verb ≤ 6 → AreWords 131200 (verb ∷ label ∷ [])
verb_label verb label h is few = within _ 131200 _ (omega arith) (word_before 6 _ verb _ is few (label_before _ label _ h no_words))

verb_path : (verb : List ℕ) (p : List (List ℕ)) → is_path p ≡ true → list_all is_word_byte verb ≡ true → length verb ≤ 6 → AreWords 131200 (verb ∷ path_word p ∷ [])
verb_path verb p h is few = within _ 131200 _ (omega arith) (word_before 6 _ verb _ is few (path_before _ p _ h no_words))

event_spelled : (e : Event) → is_built e ≡ true → is_spelled e ≡ true → IsSpelled e
event_spelled (Event.Mkdir p) built h = record { spelled = (path_word p, refl, (h, decodes_path p h)); words = verb_path (codes "mkdir") p h refl (omega arith) }
event_spelled (Event.Create l p WriteType.MustCache w) built h =
    let parts = both_true _ _ h in
    let named = both_true _ _ parts.0 in
    let most = leb-true w 1000 (both_true _ _ parts.1).1 in
    record {
      spelled = (path_word p, refl, (named.1, decodes_path p named.1));
      words = within _ 131200 _ (omega arith) (word_before 6 _ (codes "create") _ refl (omega arith) (label_before _ l _ named.0 (path_before _ p _ named.1 (word_before 10 _ (codes "MUST_CACHE") _ refl (omega arith) (number_before 0 w [] (omega arith) no_words)))));
    }
event_spelled (Event.List p) built h = record { spelled = (path_word p, refl, (h, decodes_path p h)); words = verb_path (codes "ls") p h refl (omega arith) }
event_spelled (Event.Stat p) built h = record { spelled = (path_word p, refl, (h, decodes_path p h)); words = verb_path (codes "stat") p h refl (omega arith) }
event_spelled (Event.Room l) built h = record { spelled = refl; words = verb_label (codes "room") l h refl (omega arith) }
event_spelled (Event.Put l fill) built h =
    let parts = both_true _ _ h in
    let word = fill_word_is fill parts.1 in
    record {
      spelled = (fill_word fill, refl, word.spelled);
      words = within _ 131200 _ (omega arith) (word_before 3 _ (codes "put") _ refl (omega arith) (label_before _ l _ parts.0 (word_before 131074 0 (fill_word fill) [] word.is_word word.short no_words)));
    }
event_spelled (Event.Finish l) built h = record { spelled = refl; words = verb_label (codes "done") l h refl (omega arith) }
event_spelled (Event.OpenFile l p ReadType.NoCache w) built h =
    let parts = both_true _ _ h in
    let named = both_true _ _ parts.0 in
    let most = leb-true w 1000 parts.1 in
    record {
      spelled = (path_word p, refl, (named.1, decodes_path p named.1));
      words = within _ 131200 _ (omega arith) (word_before 4 _ (codes "open") _ refl (omega arith) (label_before _ l _ named.0 (path_before _ p _ named.1 (word_before 8 _ (codes "NO_CACHE") _ refl (omega arith) (number_before 0 w [] (omega arith) no_words)))));
    }
event_spelled (Event.Next l) built h = record { spelled = refl; words = verb_label (codes "next") l h refl (omega arith) }
event_spelled (Event.Poll l limit) built h =
    let parts = both_true _ _ h in
    let most = leb-true limit 65536 (both_true _ _ parts.1).1 in
    record {
      spelled = refl;
      words = within _ 131200 _ (omega arith) (word_before 4 _ (codes "poll") _ refl (omega arith) (label_before _ l _ parts.0 (number_before 0 limit [] (omega arith) no_words)));
    }
event_spelled (Event.Close l) built h = record { spelled = refl; words = verb_label (codes "close") l h refl (omega arith) }
event_spelled Event.Checkpoint built h = record { spelled = refl; words = within _ 131200 _ (omega arith) (word_before 10 _ (codes "checkpoint") _ refl (omega arith) no_words) }
event_spelled (Event.Fuse calls) built h =
    let below = ltb-true calls (2 ^ 63) h in
    record { spelled = refl; words = within _ 131200 _ (omega arith) (word_before 4 _ (codes "fuse") _ refl (omega arith) (number_before 0 calls [] (omega arith) no_words)) }
event_spelled _ built h = cc

-- what the words of a verb that can be spelled are
record IsVerbSpelled (v : Verb) : Type 0 where
  pub spelled : SpellsVerb v (verb_words v)
  pub words : AreWords 131200 (verb_words v)

verb_spelled : (v : Verb) → is_verb v ≡ true → IsVerbSpelled v
verb_spelled (Verb.One e) h =
    let both = both_true _ _ h in
    let event = event_spelled e both.0 both.1 in
    record { spelled = (both.0, both.1, event.spelled); words = event.words }
verb_spelled _ h = cc

-- words are bytes of a line
words_clean : (w : List ℕ) → list_all is_word_byte w ≡ true → list_all is_line_byte w ≡ true
words_clean [] h = refl
words_clean (b ∷ bs) h =
    let both = both_true _ _ h in
    and_true _ _ (both_true _ _ both.0).1 (words_clean bs both.1)

spaced_clean : (ws : List (List ℕ)) → list_all (list_all is_word_byte) ws ≡ true → list_all is_line_byte (spaced ws) ≡ true
spaced_clean [] h = refl
spaced_clean (w ∷ ws) h =
    let both = both_true _ _ h in
    list_all-append is_line_byte w (spaced ws) ∙ and_true _ _ (words_clean w both.0) (spaced_clean ws both.1)

record IsLine (c : Command) : Type 0 where
  pub says : SaysCommand c (command_line c)
  pub is : is_line (command_line c) ≡ true

command_spelled : (c : Command) → is_command c ≡ true → IsLine c
command_spelled c h =
    let both = both_true _ _ h in
    let who = both_true _ _ both.0 in
    let low = leb-true 1 c.actor who.0 in
    let high = leb-true c.actor 64 who.1 in
    let verb = verb_spelled c.verb both.1 in
    let words = verb.words in
    let few = words.short in
    let digits : length (decimal c.actor) ≤ 2 = length-decimal-le 2 c.actor (omega arith) (omega arith) (omega arith) in
    let clean = list_all-append is_line_byte (decimal c.actor) (spaced (verb_words c.verb)) ∙ and_true _ _ (words_clean (decimal c.actor) (number_word c.actor (omega arith))) (spaced_clean (verb_words c.verb) words.are_words) in
    record {
      says = record {
        words = verb_words c.verb;
        joined = sym (join_first (decimal c.actor) (verb_words c.verb));
        are_words = words.are_words;
        from_one = low;
        to_64 = high;
        spelled = verb.spelled;
      };
      is = and_true _ _ clean (le-leb (length (command_line c)) 262144 (omega (arith, digits, few, length-append (decimal c.actor) (spaced (verb_words c.verb)))));
    }

-- each command says itself in its line
say_all : (cs : List Command) → list_all is_command cs ≡ true → Say (map command_line cs) (map (λ c. Some c) cs)
say_all [] h = tt
say_all (c ∷ cs) h = let both = both_true _ _ h in ((command_spelled c both.0).says, say_all cs both.1)

lines_all : (cs : List Command) → list_all is_command cs ≡ true → list_all is_line (map command_line cs) ≡ true
lines_all [] h = refl
lines_all (c ∷ cs) h = let both = both_true _ _ h in and_true _ _ (command_spelled c both.0).is (lines_all cs both.1)

all_said : (cs : List Command) → cs ≡ option_list (map (λ c. Some c) cs)
all_said [] = refl
all_said (c ∷ cs) = ap (λ (x : List Command). c ∷ x) (all_said cs)

text_is : (cs : List Command) → commands_text cs ≡ ended (map command_line cs)
text_is [] = refl
text_is (c ∷ cs) = ap (λ x. (command_line c ++ 10 ∷ []) ++ x) (text_is cs)

how_many : (cs : List Command) → length (map command_line cs) ≡ length cs
how_many [] = refl
how_many (c ∷ cs) = ap suc (how_many cs)

-- the canonical text of commands spells them
pub canonical : (cs : List Command) → list_all is_command cs ≡ true → length cs ≤ 1000000 → SpellsScript (commands_text cs) cs
canonical cs h few =
    let lines = append-nil (map command_line cs) in
    record {
      front = map command_line cs;
      rest = [];
      said = map (λ c. Some c) cs;
      joined = text_is cs ∙ sym (append-nil (ended (map command_line cs)));
      are_lines = subst (λ x. list_all is_line x ≡ true) (sym lines) (lines_all cs h);
      few = omega (arith, few, how_many cs, ap length lines);
      say = subst (λ x. Say x (map (λ c. Some c) cs)) (sym lines) (say_all cs h);
      in_order = all_said cs;
    }

-- so they are read of it
pub canonical_again : (text : List ℕ) (cs : List Command) → list_all is_command cs ≡ true → length cs ≤ 1000000 → text ≡ commands_text cs → read_script text ≡ Ok cs
canonical_again text cs h few e = ap read_script e ∙ script_again (commands_text cs) cs (canonical cs h few)
