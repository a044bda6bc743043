-- Which commands a script can spell, and how it spells them.
use Rattle.std.specs.Prelude.{ℕ, Bool, false, ◌&&◌, nat_le, List, [], ◌∷◌, ◌++◌, codes}
use Rattle.std.specs.List.{flat_map}
use Rattle.std.specs.Fmt.{decimal}
use Rattle.fs_model.specs.Spelled.{is_spelled}
use Rattle.script_text.specs.declared.script.Verb.{Verb}
use Rattle.script_text.specs.declared.script.Command.{Command}
use Rattle.fs_model.specs.Built.{is_built}
use Rattle.script_text.specs.Words.{path_word, spaced}
use Rattle.script_text.specs.LineText.{event_words, write_type_word, read_type_word}

-- a verb that a script can spell so far: one event that is built
abbrev pub is_verb : Verb → Bool
is_verb (Verb.One event) = is_built event && is_spelled event
is_verb _ = false

-- a command that a script can spell so far: an actor from 1 to 64 with such a verb
abbrev pub is_command : Command → Bool
is_command c = nat_le 1 c.actor && nat_le c.actor 64 && is_verb c.verb

-- the words of a verb in its one canonical spelling
abbrev pub verb_words : Verb → List (List ℕ)
verb_words (Verb.One event) = event_words event
verb_words (Verb.CopyIn label path kind worker num len) = codes "copyin" ∷ label ∷ path_word path ∷ write_type_word kind ∷ decimal worker ∷ decimal num ∷ decimal len ∷ []
verb_words (Verb.Cat label path kind worker) = codes "cat" ∷ label ∷ path_word path ∷ read_type_word kind ∷ decimal worker ∷ []
verb_words (Verb.Up worker) = codes "up" ∷ decimal worker ∷ []
verb_words (Verb.Settle label) = codes "settle" ∷ label ∷ []

-- the line of a command, without its line feed: the actor and the verb's words
abbrev pub command_line : Command → List ℕ
command_line c = decimal c.actor ++ spaced (verb_words c.verb)

-- the canonical text of commands: each in a line of its own
abbrev pub commands_text : List Command → List ℕ
commands_text commands = flat_map (λ c. command_line c ++ 10 ∷ []) commands
