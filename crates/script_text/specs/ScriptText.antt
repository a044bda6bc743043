-- How the text of a script is read.
use Rattle.std.specs.Prelude.{ℕ, ◌≡◌, ◌+◌, ◌||◌, ◌==◌, nat_lt, List, [], ◌∷◌, length, Option, None, Some, Result, Ok, Err, if◌then◌else◌, option_map, option_and_then}
use Rattle.std.specs.List.{onto_first}
use Rattle.fs_model.specs.PathText.{parts_at}
use Rattle.script_text.specs.declared.script.Verb.{Verb}
use Rattle.script_text.specs.declared.script.Command.{Command}
use Rattle.script_text.specs.declared.read.ScriptFault.{ScriptFault}
use Rattle.script_text.specs.declared.read.ScriptFault.TheVariants.{BadLine, Memory}
use Rattle.script_text.specs.EventText.{number_of, event_of}

-- the verb of these words
abbrev pub verb_of : List (List ℕ) → Option Verb
verb_of words = option_map (λ e. Verb.One e) (event_of words)

-- the command of an actor, 1 to 64, and the words of a verb
abbrev pub command_of : List (List ℕ) → Option Command
command_of [] = None
command_of (actor ∷ words) = option_and_then (λ n. option_map (λ v. record { actor = n; verb = v }) (verb_of words)) (number_of 1 64 actor)

-- a line whose words are none of a command is a bad line
abbrev pub or_bad : ℕ → Option Command → Result (Option Command) ScriptFault
or_bad place (Some c) = Ok (Some c)
or_bad place None = Err (BadLine place)

-- what the text of the line at this place says: nothing where it is empty or begins with `#`
abbrev pub said_by : ℕ → List ℕ → Result (Option Command) ScriptFault
said_by place [] = Ok None
said_by place (b ∷ bs) = if b == 35 then Ok None else or_bad place (command_of (parts_at 32 (b ∷ bs)))

-- the same within the limits of 1,000,000 lines of 262,144 bytes
abbrev pub read_line : ℕ → List ℕ → Result (Option Command) ScriptFault
read_line place line = if nat_lt 1000000 place || nat_lt 262144 (length line) then Err (BadLine place) else said_by place line

-- the lines of a text; a line feed at its end begins no new one
abbrev pub lines_of : List ℕ → List (List ℕ)
lines_of [] = []
lines_of (b ∷ bs) = if b == 10 then [] ∷ lines_of bs else onto_first b (lines_of bs)

-- a command before those that were read
abbrev pub onto : Command → Result (List Command) ScriptFault → Result (List Command) ScriptFault
onto c (Ok cs) = Ok (c ∷ cs)
onto c (Err e) = Err e

-- what a line gives to those behind it
abbrev pub before : Result (Option Command) ScriptFault → Result (List Command) ScriptFault → Result (List Command) ScriptFault
before (Ok None) rest = rest
before (Ok (Some c)) rest = onto c rest
before (Err e) rest = Err e

-- the commands of lines, of which the first stands at this place, or the place of the first bad one
unfoldable pub commands_of : ℕ → List (List ℕ) → Result (List Command) ScriptFault
commands_of place [] = Ok []
commands_of place (line ∷ lines) = before (read_line place line) (commands_of (place + 1) lines)

-- the commands of a text
abbrev pub read_script : List ℕ → Result (List Command) ScriptFault
read_script text = commands_of 1 (lines_of text)

-- a fault is the one that reading gives; want of memory is free
abbrev pub Fails : {Y : Type 0} → ScriptFault → Result Y ScriptFault → Type 0
Fails Memory read = Unit {0}
Fails (BadLine place) read = read ≡ Err (BadLine place)

-- what a function found is what reading gives, unless memory ran out
abbrev pub Gives : {X Y : Type 0} → (X → Y) → Result X ScriptFault → Result Y ScriptFault → Type 0
Gives view (Ok x) read = read ≡ Ok (view x)
Gives view (Err e) read = Fails e read
