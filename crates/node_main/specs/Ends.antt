-- How a run ends: its status, its last line, and what each end says.
use Rattle.std.specs.Prelude.{ℕ, ◌≡◌, ◌⊎◌, ◌<◌, length, nat_lt, take, ⊤, List, [], ◌∷◌, ◌++◌, codes, ◌+◌, IsOk, IsSomeAnd, IsTrue, Result, Ok, Err, Option, Some, None, if◌then◌else◌}
use Rattle.std.specs.Fmt.{decimal}
use Rattle.fs_model.specs.declared.setup.Setup.{Setup}
use Rattle.fs_model.specs.declared.stop.Stop.{Stop}
use Rattle.fs_model.specs.Examples.{two_workers}
use Rattle.outside.specs.AreaShelf.{AreFresh, AreaShelf, HoldsAreas}
use Rattle.outside.specs.Inputs.{named, is_missed}
use Rattle.outside.specs.Shelf.{EachNamed, HasShape, NameLists, Shelf, TellsHeld}
use Rattle.outside.specs.Streams.{Takes}
use Rattle.outside.specs.declared.disk.Disk as disks
use Rattle.outside.specs.declared.media.Media.{Media}
use Rattle.outside.specs.declared.objects.Objects as objects
use Rattle.outside.specs.declared.objects.ObjectRead as reads
use Rattle.outside.specs.declared.objects.ObjectWrite as writes
use Rattle.journal_disk.specs.Areas.{Found, journal_of}
use Rattle.master_node.specs.Recovery.{first_standing, is_served}
use Rattle.master_state.specs.Effect.{meaning}
use Rattle.script_text.specs.declared.script.Command.{Command}
use Rattle.script_text.specs.declared.read.ScriptFault.{ScriptFault}
use Rattle.script_text.specs.declared.read.ScriptFault.TheVariants.{BadLine, Memory}
use Rattle.script_text.specs.ScriptText.{read_script}
use Rattle.cluster_core.specs.declared.cluster.Core.{Core}
use Rattle.cluster_core.specs.Begun.{IsUnopened}
use Rattle.play_run.specs.Play.{Between, Tells, TellsFront, TellsPartly}
use Rattle.node_main.specs.declared.run.End.{End}
use Rattle.node_main.specs.declared.run.End.TheVariants as ends
use Rattle.node_main.specs.declared.run.TheConstants.{LIMIT}
use Rattle.node_main.specs.Words.{play_words}

-- what a world holds of stores and tiers, and of areas, where it tells
abbrev pub Kept : Type 0
Kept = Option Shelf × Option AreaShelf

-- it holds the same
pub record HoldsSame (old new : Kept) : Type 0 where
  pub shelf : new.0 ≡ old.0
  pub areas : new.1 ≡ old.1

-- what a world holds under each name
abbrev pub Held : Type 0
Held = List ℕ → Option (List ℕ)

-- the line that tells an end: none after the whole script, and none where the sink failed
abbrev pub end_text : End → List ℕ
end_text ends.Done = []
end_text ends.BadWords = codes "stopped 2 BadWords\n"
end_text ends.BadSetup = codes "stopped 3 BadConfig store\n"
end_text (ends.BadScript line) = codes "stopped 4 BadScript " ++ decimal line ++ 10 ∷ []
end_text ends.ReadFault = codes "stopped 5 ReadFault\n"
end_text ends.WriteFault = []
end_text (ends.Damaged area place) = codes "stopped 7 Damaged " ++ decimal area ++ 32 ∷ decimal place ++ 10 ∷ []
end_text ends.Memory = codes "stopped 8 Memory\n"
end_text ends.TooLong = codes "stopped 9 TooLong\n"
end_text ends.OpenFault = codes "stopped 10 OpenFault\n"
end_text ends.JournalFault = codes "stopped 11 JournalFault\n"

-- the status of each end
abbrev pub status_of : End → ℕ
status_of ends.Done = 0
status_of ends.BadWords = 2
status_of ends.BadSetup = 3
status_of (ends.BadScript line) = 4
status_of ends.ReadFault = 5
status_of ends.WriteFault = 6
status_of (ends.Damaged area place) = 7
status_of ends.Memory = 8
status_of ends.TooLong = 9
status_of ends.OpenFault = 10
status_of ends.JournalFault = 11

-- the end by why a play stopped
abbrev pub end_of_stop : Stop → End
end_of_stop Stop.Setup = ends.BadSetup
end_of_stop Stop.OpenFault = ends.OpenFault
end_of_stop (Stop.Damaged area place) = ends.Damaged area place
end_of_stop Stop.JournalFault = ends.JournalFault
end_of_stop Stop.WriteFault = ends.WriteFault
end_of_stop Stop.Memory = ends.Memory

-- ---- the end that is due where nothing fails

-- the end by what reading the script gave
abbrev pub end_of_reading : Result (List Command) ScriptFault → End
end_of_reading (Ok commands) = ends.Done
end_of_reading (Err (BadLine line)) = ends.BadScript line
end_of_reading (Err Memory) = ends.Memory

-- the end by the text under the script's name
abbrev pub end_of_text : Option (List ℕ) → End
end_of_text None = ends.OpenFault
end_of_text (Some text) = if nat_lt LIMIT (length text) then ends.TooLong else end_of_reading (read_script text)

-- the end by the names in the words
abbrev pub end_of_names : Held → Option (List ℕ × List ℕ) → End
end_of_names held None = ends.BadWords
end_of_names held (Some names) = if is_missed (Some held) names.0 names.1 then ends.OpenFault else end_of_text (named held names.1)

-- words of no form are bad; a name that isn't held can't be opened; a script is too long, or its first line that is none is bad; else it is played
abbrev pub due_end : Held → List (List ℕ) → End
due_end held words = end_of_names held (play_words words)

-- the end of an opening that doesn't fail, by what both areas stand for; done where a cluster is opened
abbrev pub end_of_journal : Setup → Found → End
end_of_journal U (Err damage) = ends.Damaged damage.0 damage.1
end_of_journal U (Ok None) = if nat_lt U.area ((first_standing U).gate + 1) then ends.BadSetup else ends.Done
end_of_journal U (Ok (Some current)) = if is_served U (meaning current.entries) then ends.Done else ends.BadSetup

-- the same by the bytes of the areas 0 and 1
abbrev pub end_of_areas : Setup → List ℕ × List ℕ → End
end_of_areas U areas = end_of_journal U (journal_of areas.0 areas.1)

-- the end is that of an opening that failed, and P holds of why
pub data AtOpening (P : Stop → Type 0) : End → Type 0 where
  BadSetup : P Stop.Setup → AtOpening P ends.BadSetup
  Damaged : (area place : ℕ) → P (Stop.Damaged area place) → AtOpening P (ends.Damaged area place)
  JournalFault : P Stop.JournalFault → AtOpening P ends.JournalFault

-- The end is the one that is due, or want of memory, or a fault whose count rose: the world's, the script's input's, the sink's. Or the script was to be played, and the opening failed; P holds of why.
abbrev pub IsDue : Held → List (List ℕ) → Type 0 → Type 0 → Type 0 → (Stop → Type 0) → End → Type 0
IsDue held words world_rose input_rose sink_rose P end =
    (end ≡ due_end held words) ⊎ (end ≡ ends.Memory) ⊎ ((end ≡ ends.OpenFault) × world_rose) ⊎ ((end ≡ ends.ReadFault) × input_rose) ⊎ ((end ≡ ends.WriteFault) × sink_rose) ⊎ ((due_end held words ≡ ends.Done) × AtOpening P end)

-- ---- what was played

-- P holds of the text under the name, where the world tells what it holds
abbrev pub Holds : Option Held → List ℕ → (List ℕ → Type 0) → Type 0
Holds None name P = ⊤
Holds (Some held) name P = IsSomeAnd (named held name) P

-- the text under the name is that of these commands
abbrev pub IsScript : Option Held → List ℕ → List Command → Type 0
IsScript held name commands = Holds held name (λ text. read_script text ≡ Ok commands)

-- the text under the name is that of a script
abbrev pub HasScript : Option Held → List ℕ → Type 0
HasScript held name = Holds held name (λ text. IsOk (read_script text))

-- the first line under the name that is none of a script
abbrev pub IsBadAt : Option Held → List ℕ → ℕ → Type 0
IsBadAt held name line = Holds held name (λ text. read_script text ≡ Err (BadLine line))

-- more than so many bytes are under the name
abbrev pub IsLonger : Option Held → List ℕ → ℕ → Type 0
IsLonger held name limit = Holds held name (λ text. limit < length text)

-- ---- what each end says

-- why a run ends before anything is lent
abbrev pub Cause : Option Held → List (List ℕ) → Type 0 → Type 0 → End → Type 0
Cause held words world_rose input_rose ends.Done = ⊥
Cause held words world_rose input_rose ends.BadWords = play_words words ≡ None
Cause held words world_rose input_rose (ends.BadScript line) = IsSomeAnd (play_words words) (λ names. IsBadAt held names.1 line)
Cause held words world_rose input_rose ends.ReadFault = input_rose
Cause held words world_rose input_rose ends.WriteFault = ⊥
Cause held words world_rose input_rose ends.BadSetup = ⊥
Cause held words world_rose input_rose (ends.Damaged area place) = ⊥
Cause held words world_rose input_rose ends.JournalFault = ⊥
Cause held words world_rose input_rose ends.Memory = ⊤
Cause held words world_rose input_rose ends.TooLong = IsSomeAnd (play_words words) (λ names. IsLonger held names.1 LIMIT)
Cause held words world_rose input_rose ends.OpenFault = IsSomeAnd (play_words words) (λ names. world_rose ⊎ IsTrue (is_missed held names.0 names.1))

-- the names of the example's areas, stores and tiers
abbrev pub media_names : NameLists
media_names = record { journal = codes "j"; stores = codes "s" ∷ codes "t" ∷ []; tiers = (codes "m1" ∷ codes "d1" ∷ []) ∷ (codes "m2" ∷ []) ∷ [] }

module _ {D S R W : Type 0} (d : disks.Ghosts D) (o : objects.Ghosts S R W) (r : reads.Ghosts R) (w : writes.Ghosts W) where
  -- these media tell what such a world holds under the example's names
  pub record IsHeld (kept : Kept) (media : Media D S) : Type 0 where
    pub shape : HasShape media_names media
    pub each : EachNamed (TellsHeld o.told kept.0) media_names media
    pub areas : HoldsAreas d.tells d.history kept.1 media_names.journal media.areas

  -- such a world lends them: besides, the areas tell where it does, and have no fuse
  pub record IsLent (kept : Kept) (media : Media D S) : Type 0 where
    pub held : IsHeld kept media
    pub fresh : AreFresh d.tells kept.1 media.areas

  -- media that were lent were given back as a play left them, to a world that holds this then; P holds from the core at its beginning to the one at its end
  pub record GivesBack (U : Setup) (kept : Kept) (P : Core D S R W d w → Core D S R W d w → Type 0) (lent : Media D S) : Type 0 where
    pub back : Media D S
    pub held : IsHeld kept back
    pub between : Between d o r w U lent back P

  -- no cluster was opened over media that were lent, for this reason; they were given back as the opening left them, to a world that holds this then
  pub record GivesUp (U : Setup) (kept : Kept) (why : Stop) (lent : Media D S) : Type 0 where
    pub back : Media D S
    pub held : IsHeld kept back
    pub unopened : IsUnopened d U lent back why

-- from here on: what the world holds of areas, stores and tiers before and after
module _ {D S R W : Type 0} (d : disks.Ghosts D) (o : objects.Ghosts S R W) (r : reads.Ghosts R) (w : writes.Ghosts W) (old new : Kept) where
  -- commands of such a script were played over the example's configuration, on media that were lent and given back
  pub record PlaysSo (P : List Command → Core D S R W d w → Core D S R W d w → Type 0) (is_script : List Command → Type 0) : Type 0 where
    pub commands : List Command
    pub script : is_script commands
    pub lent : Media D S
    pub held : IsLent d o r w old lent
    pub played : GivesBack d o r w two_workers new (P commands) lent

  -- they were played to their end
  abbrev pub Plays : (List Command → Type 0) → Option (List ℕ) → Option (List ℕ) → Type 0
  Plays is_script before after = PlaysSo (λ commands first last. Tells d o r w commands first last before after) is_script

  -- the first of them were played
  abbrev pub PlaysFront : (List Command → Type 0) → Option (List ℕ) → Option (List ℕ) → Type 0
  PlaysFront is_script before after = PlaysSo (λ commands first last. TellsFront d o r w commands first last before after) is_script

  -- and a front of their lines' text was taken
  abbrev pub PlaysPartly : (List Command → Type 0) → Option (List ℕ) → Option (List ℕ) → Type 0
  PlaysPartly is_script before after = PlaysSo (λ commands first last. TellsPartly d o r w commands first last before after) is_script

  -- media were lent and given back, and no cluster was opened over them for this reason
  pub record IsUnplayed (why : Stop) : Type 0 where
    pub lent : Media D S
    pub held : IsLent d o r w old lent
    pub given : GivesUp d o r w two_workers new why lent

  -- so it is, and a script under the name in the words was to be played
  abbrev pub FailsToOpen : Option Held → List (List ℕ) → Stop → Type 0
  FailsToOpen held words why = IsSomeAnd (play_words words) (λ names. HasScript held names.1) × IsUnplayed why

  -- no medium was lent, or no cluster was opened over those that were
  abbrev pub IsUntouched : Type 0
  IsUntouched = HoldsSame old new ⊎ (why : Stop) × IsUnplayed why

  -- no event was done, or the lines of the first commands were taken
  abbrev pub BeforeStop : Option Held → List (List ℕ) → Option (List ℕ) → Option (List ℕ) → Type 0
  BeforeStop held words before after = ((after ≡ before) × IsUntouched) ⊎ IsSomeAnd (play_words words) (λ names. PlaysFront (IsScript held names.1) before after)

  -- nothing, or the first lines, and then the line of this end
  pub record Stops (held : Option Held) (words : List (List ℕ)) (end : End) (before after : Option (List ℕ)) : Type 0 where
    pub between : Option (List ℕ)
    pub lines : BeforeStop held words before between
    pub stop : Takes between after (end_text end)

  -- why the line of the end is told, and what the sink took before it; no line tells that all was played, or that the sink failed
  abbrev pub BeforeLine : Option Held → List (List ℕ) → Option (List ℕ) → Option (List ℕ) → Type 0 → Type 0 → End → Type 0
  BeforeLine held words before after world_rose input_rose ends.Done = ⊥
  BeforeLine held words before after world_rose input_rose ends.WriteFault = ⊥
  BeforeLine held words before after world_rose input_rose ends.Memory = BeforeStop held words before after
  BeforeLine held words before after world_rose input_rose ends.BadSetup = FailsToOpen held words Stop.Setup × (after ≡ before)
  BeforeLine held words before after world_rose input_rose (ends.Damaged area place) = FailsToOpen held words (Stop.Damaged area place) × (after ≡ before)
  BeforeLine held words before after world_rose input_rose ends.JournalFault = FailsToOpen held words Stop.JournalFault × (after ≡ before)
  BeforeLine held words before after world_rose input_rose end = Cause held words world_rose input_rose end × (after ≡ before) × HoldsSame old new

  -- the end has its cause, and a front of its line was taken
  pub record StopsPartly (held : Option Held) (words : List (List ℕ)) (before after : Option (List ℕ)) (world_rose input_rose : Type 0) : Type 0 where
    pub end : End
    pub between : Option (List ℕ)
    pub lines : BeforeLine held words before between world_rose input_rose end
    pub bytes : ℕ
    pub stop : Takes between after (take bytes (end_text end))

  -- a front of the lines, or a front of the line of an end that has its cause
  abbrev pub WritesPartly : Option Held → List (List ℕ) → Option (List ℕ) → Option (List ℕ) → Type 0 → Type 0 → Type 0
  WritesPartly held words before after world_rose input_rose = IsSomeAnd (play_words words) (λ names. PlaysPartly (IsScript held names.1) before after) ⊎ StopsPartly held words before after world_rose input_rose

  -- before the line of the end is told: its cause, and what the sink took
  abbrev pub Attempted : Option Held → List (List ℕ) → Option (List ℕ) → Option (List ℕ) → Type 0 → Type 0 → Type 0 → End → Type 0
  Attempted held words before after world_rose input_rose sink_rose ends.Done = IsSomeAnd (play_words words) (λ names. Plays (IsScript held names.1) before after)
  Attempted held words before after world_rose input_rose sink_rose ends.WriteFault = sink_rose × IsSomeAnd (play_words words) (λ names. PlaysPartly (IsScript held names.1) before after)
  Attempted held words before after world_rose input_rose sink_rose end = BeforeLine held words before after world_rose input_rose end

  -- at the end: its cause, and what the sink took
  abbrev pub Ended : Option Held → List (List ℕ) → Option (List ℕ) → Option (List ℕ) → Type 0 → Type 0 → Type 0 → End → Type 0
  Ended held words before after world_rose input_rose sink_rose ends.Done = IsSomeAnd (play_words words) (λ names. Plays (IsScript held names.1) before after)
  Ended held words before after world_rose input_rose sink_rose ends.WriteFault = sink_rose × WritesPartly held words before after world_rose input_rose
  Ended held words before after world_rose input_rose sink_rose ends.Memory = Stops held words ends.Memory before after
  Ended held words before after world_rose input_rose sink_rose ends.BadSetup = FailsToOpen held words Stop.Setup × Takes before after (end_text ends.BadSetup)
  Ended held words before after world_rose input_rose sink_rose (ends.Damaged area place) = FailsToOpen held words (Stop.Damaged area place) × Takes before after (end_text (ends.Damaged area place))
  Ended held words before after world_rose input_rose sink_rose ends.JournalFault = FailsToOpen held words Stop.JournalFault × Takes before after (end_text ends.JournalFault)
  Ended held words before after world_rose input_rose sink_rose end = Cause held words world_rose input_rose end × Takes before after (end_text end) × HoldsSame old new

-- ---- telling the line of an end

-- the line was told, or a front of it
pub data ToldAs (end : End) (before after : Option (List ℕ)) (sink_rose : Type 0) : End → Type 0 where
  Told : Takes before after (end_text end) → ToldAs end before after sink_rose end
  Partly : (bytes : ℕ) → Takes before after (take bytes (end_text end)) → sink_rose → ToldAs end before after sink_rose ends.WriteFault

-- the line of this end was told, or that of want of memory
abbrev pub FinishedAs : End → Option (List ℕ) → Option (List ℕ) → Type 0 → End → Type 0
FinishedAs end before after sink_rose result = ToldAs end before after sink_rose result ⊎ ToldAs ends.Memory before after sink_rose result
