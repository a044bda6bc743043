-- What a play of a script tells.
use Rattle.std.specs.Prelude.{ℕ, ◌≡◌, ◌≤◌, ◌+◌, List, [], ◌∷◌, ◌++◌, map, length, take, drop, Option, None}
use Rattle.fs_model.specs.declared.setup.Setup.{Setup}
use Rattle.fs_model.specs.declared.reply.Line.{Line}
use Rattle.fs_model.specs.State.{Whole}
use Rattle.fs_model.specs.Begins.{Begins}
use Rattle.fs_model.specs.Step.{Observation, Run}
use Rattle.outside.specs.Streams.{Takes}
use Rattle.outside.specs.declared.disk.Disk as disks
use Rattle.outside.specs.declared.media.Media.{Media}
use Rattle.outside.specs.declared.objects.Objects as objects
use Rattle.outside.specs.declared.objects.ObjectRead as reads
use Rattle.outside.specs.declared.objects.ObjectWrite as writes
use Rattle.script_text.specs.declared.script.Command.{Command}
use Rattle.script_text.specs.declared.script.Verb.{Verb}
use Rattle.script_text.specs.LineText.{lines_text}
use Rattle.journal_disk.specs.Journaling.{fused_0, fused_1}
use Rattle.master_node.specs.Mastering.{IsKept}
use Rattle.master_node.specs.Recovery.{IsOver}
use Rattle.cluster_core.specs.Begun.{AreasFresh, TiersEmpty}
use Rattle.cluster_core.specs.Causes.{IsCaused, JournalCaused, OnlyFrom, TierCounted}
use Rattle.cluster_core.specs.Crashes.{Crashes}
use Rattle.cluster_core.specs.Goes.{Steps}
use Rattle.cluster_core.specs.Media.{MediaStays}
use Rattle.cluster_core.specs.Stands.{Stands}
use Rattle.cluster_core.specs.Steady.{IsSteady, MediaSteady}
use Rattle.cluster_core.specs.declared.cluster.Core.{Core}
use Rattle.play_run.specs.Sums.{RiseAlong, NoAreaLast, NoAreaLastIn, NoFuseSet, NoneLast, NoneLastIn, answers, areas_rose, areas_total, is_journal_fault, is_tier_fault, is_wait, labels, media_areas_total, media_total, own, total, waits}

-- ---- lines of commands

-- the line has the actor and the one event of the command
pub record Says (command : Command) (line : Line) : Type 0 where
  pub actor : line.actor ≡ command.actor
  pub verb : command.verb ≡ Verb.One line.event

-- the events of the lines are those of the commands, each once and in their order
abbrev pub Played : List Command → List Line → Type 0
Played [] [] = Unit {0}
Played (c ∷ cs) (l ∷ ls) = Says c l × Played cs ls
Played [] (l ∷ ls) = ⊥
Played (c ∷ cs) [] = ⊥

module _ {D S R W : Type 0} (d : disks.Ghosts D) (o : objects.Ghosts S R W) (r : reads.Ghosts R) (w : writes.Ghosts W) where
  -- the line tells one event of the command, in which a fault or a wait has its cause; it is a step from every state that the core stands for
  pub record Acts (command : Command) (line : Line) (old new : Core D S R W d w) : Type 0 where
    pub says : Says command line
    pub steps : Steps d o r w old new line.actor line.event line.reply
    pub media : MediaStays d o old new
    pub cause : IsCaused d o r w old new line.actor line.event line.reply
    pub crash : Crashes d old new line.actor line.event line.reply
    pub steady : IsSteady d o r w old → IsSteady d o r w new

  -- ---- runs

  -- there are cores from one line to the next, between which a fault or a wait has its cause, and each crash image of the areas stands for the changes so far, with or without the one in hand, whatever the cores stand for; what is steady stays so
  abbrev pub CausedAlong : Core D S R W d w → List Line → Core D S R W d w → Type 0
  CausedAlong old [] new = new ≡ old
  CausedAlong old (line ∷ lines) new = (mid : Core D S R W d w) × IsCaused d o r w old mid line.actor line.event line.reply × MediaStays d o old mid × (IsSteady d o r w old → IsSteady d o r w mid) × Crashes d old mid line.actor line.event line.reply × CausedAlong mid lines new

  -- the lines are a run of the machine to a state that the core stands for then, and each rise in it is that of real counts in that event
  pub record Ran (U : Setup) (V : Whole) (old : Core D S R W d w) (lines : List Line) (new : Core D S R W d w) : Type 0 where
    pub after : Whole
    pub seen : List Observation
    pub run : Run U V lines after seen
    pub rose : RiseAlong d o r w old lines seen new
    -- at most as many lines answer a tier's fault as counts of tiers and of labels rose
    pub faults : answers is_tier_fault lines ≤ own d o r w old lines seen new rose + labels d o r w old lines seen new rose
    -- at most as many lines answer that the reader isn't ready as readers' waits rose
    pub not_ready : answers is_wait lines ≤ waits d o r w old lines seen new rose
    -- where the run begins without a fuse, and no event sets one, at most as many lines answer a fault of the journal as own counts of areas rose
    pub journal : V.body.master.fuse ≡ None → NoFuseSet lines → answers is_journal_fault lines ≤ areas_rose d o r w old lines seen new rose
    -- the sum of the tiers' counts rose by one or more for each line in which one of them did, where none came to its last value
    pub few : NoneLast o new → total o old + own d o r w old lines seen new rose ≤ total o new
    -- the sum of both areas' own counts rose by one or more for each line in which one of them did, where neither came to its last value
    pub few_areas : NoAreaLast d new → areas_total d old + areas_rose d o r w old lines seen new rose ≤ areas_total d new
    -- over steady media no count and no waits of a label's reader or writer rose
    pub steady : IsSteady d o r w old → (labels d o r w old lines seen new rose ≡ 0) × (waits d o r w old lines seen new rose ≡ 0)
    pub stands : Stands d o r w U new after

  -- where the sum of the tiers' counts is the same at the end, and no label's count or waits rose, no line answers a tier's fault or that the reader isn't ready
  abbrev pub QuietRuns : Type 0
  QuietRuns = (U : Setup) (V : Whole) (old new : Core D S R W d w) (lines : List Line) (ran : Ran U V old lines new)
      → NoneLast o new → total o new ≡ total o old
      → labels d o r w old lines ran.seen new ran.rose ≡ 0 → waits d o r w old lines ran.seen new ran.rose ≡ 0
      → (answers is_tier_fault lines ≡ 0) × (answers is_wait lines ≡ 0)

  -- the lines are of these commands, each once and in order; each fault in them has its cause; and from every state that the core stood for they are a run
  pub record Lines (commands : List Command) (old : Core D S R W d w) (lines : List Line) (new : Core D S R W d w) : Type 0 where
    pub played : Played commands lines
    pub caused : CausedAlong old lines new
    pub ran : (U : Setup) (V : Whole) → Stands d o r w U old V → Ran U V old lines new

  -- ---- what the sink took

  -- the texts of such lines
  pub record Tells (commands : List Command) (old new : Core D S R W d w) (before after : Option (List ℕ)) : Type 0 where
    pub lines : List Line
    pub did : Lines commands old lines new
    pub text : Takes before after (lines_text lines)

  -- so it is for the first of the commands, but that the last line may not have been told
  pub record TellsFront (commands : List Command) (old new : Core D S R W d w) (before after : Option (List ℕ)) : Type 0 where
    pub count : ℕ
    pub lines : List Line
    pub did : Lines (take count commands) old lines new
    pub told : ℕ
    pub late : length lines ≤ told + 1
    pub text : Takes before after (lines_text (take told lines))

  -- so it is for the first of the commands, but that a front of the text was taken, which has all lines but the last
  pub record TellsPartly (commands : List Command) (old new : Core D S R W d w) (before after : Option (List ℕ)) : Type 0 where
    pub count : ℕ
    pub lines : List Line
    pub did : Lines (take count commands) old lines new
    pub told : ℕ
    pub late : length lines ≤ told + 1
    pub bytes : ℕ
    pub text : Takes before after (lines_text (take told lines) ++ take bytes (lines_text (drop told lines)))

  -- ---- over media

  -- the core has these stores and tiers
  pub record HasMedia (core : Core D S R W d w) (media : Media D S) : Type 0 where
    pub stores : core.stores ≡ media.stores
    pub tiers : map (λ n. n.tiers) core.workers.items ≡ media.tiers.items

  -- the core has these media, and its master was opened over the areas: each image of them then stands for its names
  pub record Opened (U : Setup) (media : Media D S) (core : Core D S R W d w) : Type 0 where
    pub has : HasMedia core media
    pub over : IsOver d U (media.areas).0 (media.areas).1 core.master
    pub kept : IsKept d core.master

  -- the core has these media, with its master's areas as they are
  pub record Closed (core : Core D S R W d w) (back : Media D S) : Type 0 where
    pub has : HasMedia core back
    pub areas : back.areas ≡ (fused_0 core.master.journal, fused_1 core.master.journal)

  -- P holds from a core that was opened over the media, which over fresh areas, and tiers that tell and hold no object, stands for every state that a play begins with, to one over those that are given back
  pub record Between (U : Setup) (media back : Media D S) (P : Core D S R W d w → Core D S R W d w → Type 0) : Type 0 where
    pub first : Core D S R W d w
    pub last : Core D S R W d w
    pub opened : Opened U media first
    pub stands : (V : Whole) → Begins U V → TiersEmpty o media → AreasFresh d media → Stands d o r w U first V
    pub steady : MediaSteady o media → IsSteady d o r w first
    pub closed : Closed last back
    pub holds : P first last

  -- ---- steady media

  -- there are cores from one line to the next, between which nothing but a tier's own count, of failures or of misses, or an area's, or a fuse that is too short, is the cause of a fault, and nothing waits
  abbrev pub TiersAlong : Core D S R W d w → List Line → Core D S R W d w → Type 0
  TiersAlong old [] new = new ≡ old
  TiersAlong old (line ∷ lines) new = (mid : Core D S R W d w) × OnlyFrom (TierCounted o old mid) (JournalCaused d old.master mid.master line.event) line.reply × MediaStays d o old mid × TiersAlong mid lines new

  -- over steady media the lines of a play are such, and none is that the reader isn't ready
  abbrev pub SteadyPlays : Type 0
  SteadyPlays = (U : Setup) (commands : List Command) (media back : Media D S) (before after : Option (List ℕ))
      (play : Between U media back (λ first last. Tells commands first last before after))
      → MediaSteady o media
      → TiersAlong play.first play.holds.lines play.last × (answers is_wait play.holds.lines ≡ 0)

  -- where besides the areas are fresh and the tiers tell and hold no object at the beginning, and the sum of the tiers' counts is the same at the end, no line answers a tier's fault
  abbrev pub QuietPlays : Type 0
  QuietPlays = (U : Setup) (V : Whole) (commands : List Command) (media back : Media D S) (before after : Option (List ℕ))
      (play : Between U media back (λ first last. Tells commands first last before after))
      → Begins U V → TiersEmpty o media → AreasFresh d media → MediaSteady o media
      → NoneLastIn o back → media_total o back ≡ media_total o media
      → answers is_tier_fault play.holds.lines ≡ 0

  -- ---- quiet areas

  -- where the areas are fresh and the tiers tell and hold no object at the beginning, no event sets a fuse, and the sum of the areas' own counts is the same at the end, no line answers a fault of the journal
  abbrev pub QuietJournals : Type 0
  QuietJournals = (U : Setup) (V : Whole) (commands : List Command) (media back : Media D S) (before after : Option (List ℕ))
      (play : Between U media back (λ first last. Tells commands first last before after))
      → Begins U V → TiersEmpty o media → AreasFresh d media → NoFuseSet play.holds.lines
      → NoAreaLastIn d back → media_areas_total d back ≡ media_areas_total d media
      → answers is_journal_fault play.holds.lines ≡ 0
