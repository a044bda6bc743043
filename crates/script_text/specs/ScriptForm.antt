-- What text spells a script, said without its reader.
use Rattle.std.specs.Prelude.{ℕ, ◌≡◌, ◌≤◌, ◌⊎◌, Bool, true, not, ◌&&◌, ◌==◌, nat_le, List, [], ◌∷◌, ◌++◌, codes, length, Option, Some, None, Ok}
use Rattle.std.specs.List.{flat_map, list_all, join_with_byte}
use Rattle.std.specs.Fmt.{decimal}
use Rattle.hex.specs.Hex.{decode_of}
use Rattle.percent_encoding.specs.Percent.{percent_decode}
use Rattle.fs_model.specs.PathForm.{is_path, path_text}
use Rattle.fs_model.specs.Words.{option_list}
use Rattle.fs_model.specs.Built.{is_built}
use Rattle.fs_model.specs.Spelled.{is_spelled}
use Rattle.fs_model.specs.declared.event.Event.{Event}
use Rattle.fs_model.specs.declared.event.Fill.{Fill}
use Rattle.script_text.specs.LineText.{write_type_word, read_type_word}
use Rattle.script_text.specs.declared.script.Verb.{Verb}
use Rattle.script_text.specs.declared.script.Command.{Command}

-- ---- the words of a command

-- what a byte of a line may be: no line feed
abbrev pub is_line_byte : ℕ → Bool
is_line_byte b = not (b == 10)

-- what a byte of a word may be: no space and no line feed
abbrev pub is_word_byte : ℕ → Bool
is_word_byte b = not (b == 32) && is_line_byte b

-- a word that stands for a path: its escapes decoded, it is the path's text
abbrev pub SpellsPath : List ℕ → List (List ℕ) → Type 0
SpellsPath word path = (is_path path ≡ true) × (percent_decode word ≡ path_text path)

-- a word that stands for a fill: `x:` and hexadecimal digits in either case, or `g:` and three numbers with a
-- colon between them
abbrev pub SpellsFill : List ℕ → Fill → Type 0
SpellsFill word (Fill.Listed bytes) = (digits : List ℕ) × (word ≡ codes "x:" ++ digits) × (decode_of digits ≡ Ok bytes)
SpellsFill word (Fill.Made num at len) = word ≡ codes "g:" ++ decimal num ++ codes ":" ++ decimal at ++ codes ":" ++ decimal len

-- words of this form, in which one word stands for the path
abbrev pub WithPath : (List ℕ → List (List ℕ)) → List (List ℕ) → List (List ℕ) → Type 0
WithPath form path words = (word : List ℕ) × (words ≡ form word) × SpellsPath word path

-- the first word of an event and those behind it, whatever the bounds of its parts; events that aren't built have none
abbrev pub IsWordsOf : Event → List (List ℕ) → Type 0
IsWordsOf (Event.Mkdir path) words = WithPath (λ p. codes "mkdir" ∷ p ∷ []) path words
IsWordsOf (Event.Create label path kind worker) words = WithPath (λ p. codes "create" ∷ label ∷ p ∷ write_type_word kind ∷ decimal worker ∷ []) path words
IsWordsOf (Event.List path) words = WithPath (λ p. codes "ls" ∷ p ∷ []) path words
IsWordsOf (Event.Stat path) words = WithPath (λ p. codes "stat" ∷ p ∷ []) path words
IsWordsOf (Event.Room label) words = words ≡ codes "room" ∷ label ∷ []
IsWordsOf (Event.Put label fill) words = (f : List ℕ) × (words ≡ codes "put" ∷ label ∷ f ∷ []) × SpellsFill f fill
IsWordsOf (Event.Finish label) words = words ≡ codes "done" ∷ label ∷ []
IsWordsOf (Event.OpenFile label path kind worker) words = WithPath (λ p. codes "open" ∷ label ∷ p ∷ read_type_word kind ∷ decimal worker ∷ []) path words
IsWordsOf (Event.Next label) words = words ≡ codes "next" ∷ label ∷ []
IsWordsOf (Event.Poll label limit) words = words ≡ codes "poll" ∷ label ∷ decimal limit ∷ []
IsWordsOf (Event.Close label) words = words ≡ codes "close" ∷ label ∷ []
IsWordsOf Event.Checkpoint words = words ≡ codes "checkpoint" ∷ []
IsWordsOf (Event.Fuse calls) words = words ≡ codes "fuse" ∷ decimal calls ∷ []
IsWordsOf _ words = ⊥

-- the words that stand for an event: it is built, and its parts are what a script can spell
abbrev pub SpellsEvent : Event → List (List ℕ) → Type 0
SpellsEvent event words = (is_built event ≡ true) × (is_spelled event ≡ true) × IsWordsOf event words

-- the words that stand for a verb; the compound ones aren't built
abbrev pub SpellsVerb : Verb → List (List ℕ) → Type 0
SpellsVerb (Verb.One event) words = SpellsEvent event words
SpellsVerb _ words = ⊥

-- a line that says this command: the actor's number and the verb's words, with one space between them
pub record SaysCommand (c : Command) (line : List ℕ) : Type 0 where
  pub words : List (List ℕ)
  pub joined : line ≡ join_with_byte 32 (decimal c.actor ∷ words)
  pub are_words : list_all (list_all is_word_byte) words ≡ true
  pub from_one : 1 ≤ c.actor
  pub to_64 : c.actor ≤ 64
  pub spelled : SpellsVerb c.verb words

-- ---- the lines of a text

-- a line that says nothing: it is empty or begins with `#`
abbrev pub SaysNothing : List ℕ → Type 0
SaysNothing line = (line ≡ []) ⊎ ((comment : List ℕ) × (line ≡ codes "#" ++ comment))

-- what a line says: a command, or nothing
abbrev pub Says : List ℕ → Option Command → Type 0
Says line None = SaysNothing line
Says line (Some c) = SaysCommand c line

-- each line says what stands at its place
abbrev pub Say : List (List ℕ) → List (Option Command) → Type 0
Say [] [] = Unit {0}
Say [] (s ∷ said) = ⊥
Say (line ∷ lines) [] = ⊥
Say (line ∷ lines) (s ∷ said) = Says line s × Say lines said

-- a line has no line feed and at most 262,144 bytes
abbrev pub is_line : List ℕ → Bool
is_line line = list_all is_line_byte line && nat_le (length line) 262144

-- lines, each ended by a line feed
abbrev pub ended : List (List ℕ) → List ℕ
ended lines = flat_map (λ line. line ++ 10 ∷ []) lines

-- what follows the last line feed is a line where it isn't empty
abbrev pub last_line : List ℕ → List (List ℕ)
last_line [] = []
last_line (b ∷ bs) = (b ∷ bs) ∷ []

-- a text that spells these commands: it is at most 1,000,000 lines, each ended by a line feed that the last
-- one may lack, and the commands are those that its lines say, in order
pub record SpellsScript (text : List ℕ) (commands : List Command) : Type 0 where
  pub front : List (List ℕ)
  pub rest : List ℕ
  pub said : List (Option Command)
  pub joined : text ≡ ended front ++ rest
  pub are_lines : list_all is_line (front ++ last_line rest) ≡ true
  pub few : length (front ++ last_line rest) ≤ 1000000
  pub say : Say (front ++ last_line rest) said
  pub in_order : commands ≡ option_list said
