-- What a text spells is read of it.
use Rattle.std.proofs.Common.{◌≡◌, ℕ, ◌+◌, ◌≤◌, true, false, ◌==◌, eqb, List, [], ◌∷◌, ◌++◌, length, codes, Option, Some, None, option_map, option_and_then, Ok, decimal, refl, sym, ap, ◌∙◌, arith, le-ltb, leb-true, ⊎_elim, append_assoc, append-nil}
use Rattle.std.proofs.lemmas.Bool.{cond-false}
use Rattle.std.proofs.lemmas.List.Splits.{slice_split_none, slice_split_at}
use Rattle.std.proofs.lemmas.List.Elements.{All-from_recursion}
use Rattle.std.specs.List.{AllByRecursion, All, list_all, onto_first, join_with_byte}
use Rattle.fs_model.specs.PathText.{parts_at}
use Rattle.fs_model.specs.Words.{option_list}
use Rattle.script_text.specs.declared.script.Verb.{Verb}
use Rattle.script_text.specs.declared.script.Command.{Command}
use Rattle.script_text.specs.Words.{spaced}
use Rattle.script_text.specs.ScriptForm.{is_line_byte, is_word_byte, SpellsVerb, SaysNothing, SaysCommand, Says, Say, is_line, ended, last_line, SpellsScript}
use Rattle.script_text.specs.ScriptText.{verb_of, command_of, or_bad, said_by, read_line, lines_of, before, commands_of, read_script}
use Rattle.script_text.proofs.Bools.{both_true, or_false, not_true}
use Rattle.script_text.proofs.Numbers.{number_again, number_word, number_begins}
use Rattle.script_text.proofs.Events.{event_again}

-- ---- words

-- words with a space between them, by the first one
pub join_first : (w : List ℕ) (ws : List (List ℕ)) → join_with_byte 32 (w ∷ ws) ≡ w ++ spaced ws
join_first w [] = sym (append-nil w)
join_first w (v ∷ vs) = ap (λ x. w ++ 32 ∷ x) (join_first v vs)

no_space : (w : List ℕ) → list_all is_word_byte w ≡ true → AllByRecursion (λ x. eqb x 32 ≡ false) w
no_space [] h = tt
no_space (b ∷ bs) h =
    let both = both_true _ _ h in
    (not_true _ (both_true _ _ both.0).0, no_space bs both.1)

spaceless : (w : List ℕ) → list_all is_word_byte w ≡ true → All (λ x. eqb x 32 ≡ false) w
spaceless w h = All-from_recursion (λ x. eqb x 32 ≡ false) w (no_space w h)

-- words that were joined are cut again
parts_again : (w : List ℕ) (ws : List (List ℕ)) → list_all is_word_byte w ≡ true → list_all (list_all is_word_byte) ws ≡ true → parts_at 32 (w ++ spaced ws) ≡ w ∷ ws
parts_again w [] h k = ap (parts_at 32) (append-nil w) ∙ slice_split_none (λ x. eqb x 32) w (spaceless w h)
parts_again w (v ∷ vs) h k =
    let both = both_true _ _ k in
    slice_split_at (λ x. eqb x 32) w 32 (v ++ spaced vs) (spaceless w h) refl ∙ ap (λ (xs : List (List ℕ)). w ∷ xs) (parts_again v vs both.0 both.1)

-- the words of a verb are read as that verb
verb_again : (v : Verb) (words : List (List ℕ)) → SpellsVerb v words → verb_of words ≡ Some v
verb_again (Verb.One e) words h = ap (λ o. option_map (λ e. Verb.One e) o) (event_again e words h)
verb_again _ words h = absurd h

command_again : (c : Command) (words : List (List ℕ)) → 1 ≤ c.actor → c.actor ≤ 64 → SpellsVerb c.verb words → command_of (decimal c.actor ∷ words) ≡ Some c
command_again c words low high h =
    let with_verb : (o : Option Verb) → Option Command = λ (o : Option Verb). option_map (λ (v : Verb). let d : Command = record { actor = c.actor; verb = v } in d) o in
    ap (λ (o : Option ℕ). option_and_then (λ (n : ℕ). option_map (λ (v : Verb). let d : Command = record { actor = n; verb = v } in d) (verb_of words)) o) (number_again 1 64 c.actor low high (omega arith))
    ∙ ap with_verb (verb_again c.verb words h)

-- a line of words is no comment
said_command : (place digit : ℕ) (rest : List ℕ) (c : Command) → (digit == 35) ≡ false → command_of (parts_at 32 (digit ∷ rest)) ≡ Some c → said_by place (digit ∷ rest) ≡ Ok (Some c)
said_command place digit rest c no_comment h = cond-false _ _ _ no_comment ∙ ap (or_bad place) h

-- ---- lines

says_command : (place : ℕ) (line : List ℕ) (c : Command) → SaysCommand c line → said_by place line ≡ Ok (Some c)
says_command place line c h =
    let low = h.from_one in
    let high = h.to_64 in
    let begins = number_begins c.actor (omega arith) in
    let text = h.joined ∙ join_first (decimal c.actor) h.words in
    let cut = ap (parts_at 32) text ∙ parts_again (decimal c.actor) h.words (number_word c.actor (omega arith)) h.are_words in
    let first = text ∙ ap (λ x. x ++ spaced h.words) begins.text_is in
    ap (said_by place) first
    ∙ said_command place begins.first (begins.rest ++ spaced h.words) c begins.no_comment (ap (λ x. command_of (parts_at 32 x)) (sym first) ∙ ap command_of cut ∙ command_again c h.words low high h.spelled)

says_nothing : (place : ℕ) (line : List ℕ) → SaysNothing line → said_by place line ≡ Ok None
says_nothing place line h =
    ⊎_elim
    (λ (e : line ≡ []). ap (said_by place) e)
    (λ (e : (comment : List ℕ) × (line ≡ codes "#" ++ comment)). ap (said_by place) e.1)
    h

said_again : (place : ℕ) (line : List ℕ) (said : Option Command) → Says line said → said_by place line ≡ Ok said
said_again place line None h = says_nothing place line h
said_again place line (Some c) h = says_command place line c h

read_line_again : (place : ℕ) (line : List ℕ) (said : Option Command) → place ≤ 1000000 → is_line line ≡ true → Says line said → read_line place line ≡ Ok said
read_line_again place line said few short h =
    let len = leb-true (length line) 262144 (both_true _ _ short).1 in
    cond-false _ _ _ (or_false _ _ (le-ltb 1000000 place few) (le-ltb 262144 (length line) len)) ∙ said_again place line said h

before_again : (s : Option Command) (said : List (Option Command)) → before (Ok s) (Ok (option_list said)) ≡ Ok (option_list (s ∷ said))
before_again None said = refl
before_again (Some c) said = refl

lines_again : (place : ℕ) (lines : List (List ℕ)) (said : List (Option Command)) → length lines + place ≤ 1000001 → list_all is_line lines ≡ true → Say lines said → commands_of place lines ≡ Ok (option_list said)
unfolding commands_of
lines_again place [] [] few are h = refl
lines_again place [] (s ∷ said) few are h = absurd h
lines_again place (line ∷ lines) [] few are h = absurd h
lines_again place (line ∷ lines) (s ∷ said) few are h =
    let both = both_true _ _ are in
    ap (λ r. before r (commands_of (place + 1) lines)) (read_line_again place line s (omega arith) both.0 h.0)
    ∙ ap (before (Ok s)) (lines_again (place + 1) lines said (omega arith) both.1 h.1)
    ∙ before_again s said

-- ---- texts

clean_line : (line : List ℕ) → is_line line ≡ true → list_all is_line_byte line ≡ true
clean_line line h = (both_true _ _ h).0

-- the first line is what stands before the first line feed
line_first : (line text : List ℕ) → list_all is_line_byte line ≡ true → lines_of (line ++ 10 ∷ text) ≡ line ∷ lines_of text
line_first [] text h = refl
line_first (b ∷ bs) text h =
    let both = both_true _ _ h in
    cond-false _ _ _ (not_true _ both.0) ∙ ap (onto_first b) (line_first bs text both.1)

-- what has no line feed is the last line
line_last : (line : List ℕ) → list_all is_line_byte line ≡ true → lines_of line ≡ last_line line
line_last [] h = refl
line_last (b ∷ []) h = cond-false (b == 10) ([] ∷ []) ((b ∷ []) ∷ []) (not_true (b == 10) (both_true (is_line_byte b) true h).0)
line_last (b ∷ c ∷ bs) h =
    let both = both_true _ _ h in
    cond-false _ _ _ (not_true _ both.0) ∙ ap (onto_first b) (line_last (c ∷ bs) both.1)

last_clean : (rest : List ℕ) → list_all is_line (last_line rest) ≡ true → list_all is_line_byte rest ≡ true
last_clean [] h = refl
last_clean (b ∷ bs) h = clean_line (b ∷ bs) (both_true _ _ h).0

lines_joined : (front : List (List ℕ)) (rest : List ℕ) → list_all is_line (front ++ last_line rest) ≡ true → lines_of (ended front ++ rest) ≡ front ++ last_line rest
lines_joined [] rest h = line_last rest (last_clean rest h)
lines_joined (line ∷ front) rest h =
    let both = both_true _ _ h in
    ap lines_of (append_assoc (line ++ 10 ∷ []) (ended front) rest ∙ append_assoc line (10 ∷ []) (ended front ++ rest))
    ∙ line_first line (ended front ++ rest) (clean_line line both.0)
    ∙ ap (λ (x : List (List ℕ)). line ∷ x) (lines_joined front rest both.1)

-- what is spelled is read
pub script_again : (text : List ℕ) (cs : List Command) → SpellsScript text cs → read_script text ≡ Ok cs
script_again text cs h =
    let few = h.few in
    ap (λ x. commands_of 1 (lines_of x)) h.joined
    ∙ ap (commands_of 1) (lines_joined h.front h.rest h.are_lines)
    ∙ lines_again 1 (h.front ++ last_line h.rest) h.said (omega arith) h.are_lines h.say
    ∙ ap (λ (x : List Command). Ok x) (sym h.in_order)
