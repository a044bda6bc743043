-- Plays over media that tell that they are steady.
use Rattle.std.proofs.Common.{◌≡◌, ℕ, ◌+◌, ◌≤◌, ◌<◌, ◌-◌, ◌^◌, Bool, true, false, cond, None, inl, inr, List, [], ◌∷◌, map, Some, refl, sym, ap, ◌∙◌, arith}
use Rattle.std.specs.Prelude.{slice_get, sum_by, option_map}
use Rattle.std.specs.Global.{Vec}
use Rattle.std.specs.List.{All}
use Rattle.std.proofs.lemmas.List.Sums.{sum_by-cons}
use Rattle.std.proofs.lemmas.Option.{slice_get-map}
use Rattle.fs_model.specs.declared.reply.Line.{Line}
use Rattle.fs_model.specs.declared.reply.Reply.{Reply}
use Rattle.fs_model.specs.State.{State}
use Rattle.fs_model.specs.declared.setup.Setup.{Setup}
use Rattle.outside.specs.Fuse.{Fusing}
use Rattle.outside.specs.declared.disk.Disk as disks
use Rattle.outside.specs.declared.media.Media.{Media}
use Rattle.outside.specs.declared.objects.Objects as objects
use Rattle.outside.specs.declared.objects.ObjectRead as reads
use Rattle.outside.specs.declared.objects.ObjectWrite as writes
use Rattle.journal_disk.specs.Areas.{first_of, second_of}
use Rattle.journal_disk.specs.Journaling.{area_0, area_1}
use Rattle.cluster_core.specs.Causes.{OnlyFrom}
use Rattle.cluster_core.specs.Steady.{IsSteady}
use Rattle.cluster_core.specs.declared.cluster.Core.{Core}
use Rattle.cluster_core.specs.declared.node.Node.{Node}
use Rattle.cluster_core.proofs.FirstState.{all_got}
use Rattle.cluster_core.proofs.SteadyStay.{caused_by_tier}
use Rattle.play_run.proofs.Runs.{quiet_runs}
use Rattle.play_run.specs.Play.{CausedAlong, Closed, HasMedia, Opened, QuietJournals, QuietPlays, SteadyPlays, TiersAlong}
use Rattle.play_run.specs.Sums.{NoneLast, NoneLastIn, answers, areas_total, is_wait, media_areas_total, media_total, total}

-- an answer of a tier or of the journal alone is no wait
no_wait : (P : ℕ → Type 0) (J : Type 0) (reply : Reply) → OnlyFrom P J reply → ◌≡◌ {A = ℕ} (cond (is_wait reply) 1 0) 0
no_wait P J Reply.NotReady h = absurd h
no_wait P J reply h = refl

-- a sum over what a function gave
sum_through : {X Y : Type 0} (f : Y → ℕ) (g : X → Y) (xs : List X) → sum_by f (map g xs) ≡ sum_by (λ x. f (g x)) xs
sum_through f g [] = refl
sum_through f g (x ∷ xs) = sum_by-cons f (g x) (map g xs) ∙ ap (λ n. f (g x) + n) (sum_through f g xs) ∙ sym (sum_by-cons (λ y. f (g y)) x xs)

-- the disk of one area of two
disk_first : {D : Type 0} (second : Bool) (here there : Fusing D) → (first_of second here there).disk ≡ first_of second here.disk there.disk
disk_first true here there = refl
disk_first false here there = refl

disk_second : {D : Type 0} (second : Bool) (here there : Fusing D) → (second_of second here there).disk ≡ second_of second here.disk there.disk
disk_second true here there = refl
disk_second false here there = refl

module _ {D S R W : Type 0} (d : disks.Ghosts D) (o : objects.Ghosts S R W) (r : reads.Ghosts R) (w : writes.Ghosts W) where
  tiers_along : (old new : Core D S R W d w) (lines : List Line) → CausedAlong d o r w old lines new → IsSteady d o r w old → TiersAlong d o r w old lines new
  tiers_along old new [] along steady = along
  tiers_along old new (line ∷ lines) along steady = (along.0, caused_by_tier o r w old along.0 line.actor line.event line.reply steady along.1, along.2, tiers_along along.0 new lines along.5 (along.3 steady))

  waits_none : (old new : Core D S R W d w) (lines : List Line) → TiersAlong d o r w old lines new → answers is_wait lines ≡ 0
  waits_none old new [] along = refl
  waits_none old new (line ∷ lines) along =
      let first = no_wait _ _ line.reply along.1 in
      let rest = waits_none along.0 new lines along.3 in
      omega (arith, first, rest, sum_by-cons (λ (l : Line). cond (is_wait l.reply) 1 0) line lines)

  pub steady_plays : SteadyPlays d o r w
  steady_plays U commands media back before after play steady =
      let along = tiers_along play.first play.last play.holds.lines play.holds.did.caused (play.steady steady) in
      (along, waits_none play.first play.last play.holds.lines along)

  -- the sum over a core is that over its media
  same_total : (core : Core D S R W d w) (media : Media D S) → HasMedia d o r w core media → total o core ≡ media_total o media
  same_total core media over = sym (sum_through (λ (v : Vec S). sum_by o.faults v.items) (λ (n : Node S). n.tiers) core.workers.items) ∙ ap (sum_by (λ (v : Vec S). sum_by o.faults v.items)) over.tiers

  none_last : (core : Core D S R W d w) (media : Media D S) → HasMedia d o r w core media → NoneLastIn o media → NoneLast o core
  none_last core media over none i t n s at in_tier =
      let held : slice_get media.tiers.items i ≡ Some n.tiers = ap (λ l. slice_get l i) (sym over.tiers) ∙ slice_get-map (λ (n : Node S). n.tiers) core.workers.items i ∙ ap (option_map (λ (n : Node S). n.tiers)) at in
      all_got (λ s. o.faults s < 2 ^ 64 - 1) n.tiers.items t s (all_got (λ (v : Vec S). All (λ s. o.faults s < 2 ^ 64 - 1) v.items) media.tiers.items i n.tiers none held) in_tier

  pub quiet_plays : QuietPlays d o r w
  quiet_plays U V commands media back before after play begins empty fresh steady none same =
      let ran = play.holds.did.ran U V (play.stands V begins empty fresh) in
      let labels = ran.steady (play.steady steady) in
      let sums : total o play.last ≡ total o play.first = same_total play.last back play.closed.has ∙ same ∙ sym (same_total play.first media play.opened.has) in
      (quiet_runs d o r w U V play.first play.last play.holds.lines ran (none_last play.last back play.closed.has none) sums labels.0 labels.1).0

  -- ---- areas

  -- the areas of a core, as they are given back
  same_areas : (core : Core D S R W d w) (back : Media D S) → Closed d o r w core back → (d.faults (back.areas).0.disk ≡ d.faults (area_0 core.master.journal)) × (d.faults (back.areas).1.disk ≡ d.faults (area_1 core.master.journal))
  same_areas core back closed =
      let j = core.master.journal in
      (ap (λ (pair : Fusing D × Fusing D). d.faults pair.0.disk) closed.areas ∙ ap d.faults (disk_first j.second j.here j.there), ap (λ (pair : Fusing D × Fusing D). d.faults pair.1.disk) closed.areas ∙ ap d.faults (disk_second j.second j.here j.there))

  -- an opening lets no own count fall
  opened_areas : (U : Setup) (core : Core D S R W d w) (media : Media D S) → Opened d o r w U media core → media_areas_total d media ≤ areas_total d core
  opened_areas U core media opened =
      let j = core.master.journal in
      let first = ap d.faults (disk_first j.second j.here j.there) in
      let second = ap d.faults (disk_second j.second j.here j.there) in
      elim opened.over.from [
        | inl again ↦ let less_0 = again.areas.own_0 in let less_1 = again.areas.own_1 in omega (arith, first, second, less_0, less_1)
        | inr begun ↦ let less_0 = begun.areas.opening.own_0 in let less_1 = begun.areas.opening.own_1 in let more_0 = begun.areas.own_0 in let more_1 = begun.areas.own_1 in omega (arith, first, second, less_0, less_1, more_0, more_1)
      ]

  pub quiet_journals : QuietJournals d o r w
  quiet_journals U V commands media back before after play begins empty fresh unset none same =
      let ran = play.holds.did.ran U V (play.stands V begins empty fresh) in
      let bare : V.body.master.fuse ≡ None = ap (λ (A : State). A.master.fuse) begins.body in
      let is = same_areas play.last back play.closed in
      let few = ran.few_areas (omega (arith, is.0, none.0), omega (arith, is.1, none.1)) in
      let from = opened_areas U play.first media play.opened in
      let faults = ran.journal bare unset in
      omega (arith, is.0, is.1, few, from, faults, same)
