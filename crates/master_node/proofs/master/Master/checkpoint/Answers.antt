use Rattle.std.proofs.Common.{◌⊎◌, ◌∙◌, refl, sym, ap, subst}
use Rattle.journal_disk.specs.Journaling.{BothTell, LeavesAreas}
use Rattle.master_node.specs.Mastering.{IsUp, Mastering, Standing, StandsFor, renewed, standing_of}
use Rattle.master_node.proofs.Masters.{checkpointed, kept, still_or}
use Rattle.master_node.proofs.master.Master.checkpoint.Goals as goal

pub returns-in_err-entries-clause-any_moment : goal.returns-in_err-entries-clause-any_moment
returns-in_err-entries-clause-any_moment g c =
    let w = g.D.Disk in
    let up : IsUp (let m : Mastering _ = record { journal = c.self.inside.journal; kept = c.self.inside.names } in m) = ap (λ m. m.journal.failed) c.self.view_is ∙ c.requires.up in
    let now = c.self.invariant up in
    subst (λ m. BothTell w m.journal → LeavesAreas w m.journal m.journal (λ a b. StandsFor (standing_of m) a b ⊎ StandsFor (renewed (standing_of m)) a b)) c.self.view_is
    (λ tell. still_or w c.self.inside.journal now.1 c.self.inside.names.names now.3 now.0 (renewed (let s : Standing = record { names = c.self.inside.names.names; gate = c.self.inside.journal.gate; generation = c.self.inside.journal.generation } in s)) now.2 tell)

pub returns-in-Ok-clause-any_moment : goal.returns-in-Ok-clause-any_moment
returns-in-Ok-clause-any_moment g c =
    let w = g.D.Disk in
    let up : IsUp (let m : Mastering _ = record { journal = c.self.inside.journal; kept = c.self.inside.names } in m) = ap (λ m. m.journal.failed) c.self.view_is ∙ c.requires.up in
    let now = c.self.invariant up in
    subst (λ m. BothTell w m.journal → LeavesAreas w m.journal c.checkpoint.new.self (λ a b. StandsFor (standing_of m) a b ⊎ StandsFor (renewed (standing_of m)) a b)) c.self.view_is
    (λ tell. checkpointed w c.self.inside.journal now.1 c.self.inside.names.names now.3 now.0 c.checkpoint.new.self _ c.in_ok-entries.ensures.entries c.in_ok-entries.ensures.again (c.checkpoint.ensures.any_moment now.1 now.2 tell))

pub returns-clause-any_moment : goal.returns-clause-any_moment
returns-clause-any_moment g c =
    let w = g.D.Disk in
    let up : IsUp (let m : Mastering _ = record { journal = c.self.inside.journal; kept = c.self.inside.names } in m) = ap (λ m. m.journal.failed) c.self.view_is ∙ c.requires.up in
    let now = c.self.invariant up in
    subst (λ m. BothTell w m.journal → LeavesAreas w m.journal c.checkpoint.new.self (λ a b. StandsFor (standing_of m) a b ⊎ StandsFor (renewed (standing_of m)) a b)) c.self.view_is
    (λ tell. checkpointed w c.self.inside.journal now.1 c.self.inside.names.names now.3 now.0 c.checkpoint.new.self _ c.in_ok-entries.ensures.entries c.in_ok-entries.ensures.again (c.checkpoint.ensures.any_moment now.1 now.2 tell))

pub returns-in-Ok-clause-later : goal.returns-in-Ok-clause-later
returns-in-Ok-clause-later g c =
    let w = g.D.Disk in
    λ tell. kept w c.checkpoint.new.self _ c.self.inside.names.names c.in_ok-entries.ensures.again (ap (λ j. j.fresh) c.in-Ok.ensures.renewed) c.in-Ok.ensures.acknowledged tell
