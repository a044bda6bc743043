use Rattle.std.proofs.Common.{◌⊎◌, ◌∙◌, [], ◌∷◌, ◌++◌, sym, ap, subst}
use Rattle.journal_disk.specs.Journaling.{BothTell, LeavesAreas}
use Rattle.master_node.specs.Mastering.{IsUp, Mastering, StandsFor, entered, standing_of}
use Rattle.master_node.proofs.Masters.{appended, kept, meaning_more}
use Rattle.master_node.proofs.master.Master.go_on.Goals as goal

pub returns-in-Ok-clause-any_moment : goal.returns-in-Ok-clause-any_moment
returns-in-Ok-clause-any_moment g c =
    let w = g.D.Disk in
    let e = c.args.entry.now in
    let up : IsUp (let m : Mastering _ = record { journal = c.self.inside.journal; kept = c.self.inside.names } in m) = ap (λ m. m.journal.failed) c.self.view_is ∙ c.requires.up in
    let now = c.self.invariant up in
    subst (λ m. BothTell w m.journal → LeavesAreas w m.journal c.append.new.self (λ a b. StandsFor (standing_of m) a b ⊎ StandsFor (entered e (standing_of m)) a b)) c.self.view_is
    (λ tell. appended w c.self.inside.journal now.1 c.self.inside.names.names now.3 now.0 c.append.new.self e (c.append.ensures.any_moment now.1 now.2 tell))

pub returns-in-Err-clause-any_moment : goal.returns-in-Err-clause-any_moment
returns-in-Err-clause-any_moment g c =
    let w = g.D.Disk in
    let e = c.args.entry.now in
    let up : IsUp (let m : Mastering _ = record { journal = c.self.inside.journal; kept = c.self.inside.names } in m) = ap (λ m. m.journal.failed) c.self.view_is ∙ c.requires.up in
    let now = c.self.invariant up in
    subst (λ m. BothTell w m.journal → LeavesAreas w m.journal c.append.new.self (λ a b. StandsFor (standing_of m) a b ⊎ StandsFor (entered e (standing_of m)) a b)) c.self.view_is
    (λ tell. appended w c.self.inside.journal now.1 c.self.inside.names.names now.3 now.0 c.append.new.self e (c.append.ensures.any_moment now.1 now.2 tell))

pub returns-in-Ok-clause-later : goal.returns-in-Ok-clause-later
returns-in-Ok-clause-later g c =
    let w = g.D.Disk in
    let e = c.args.entry.now in
    let up : IsUp (let m : Mastering _ = record { journal = c.self.inside.journal; kept = c.self.inside.names } in m) = ap (λ m. m.journal.failed) c.self.view_is ∙ c.requires.up in
    let now = c.self.invariant up in
    λ tell. kept w c.append.new.self (now.1 ++ e ∷ []) c.apply.new.self.names (meaning_more c.self.inside.names.names now.1 e now.3 ∙ sym c.apply.ensures.names) (ap (λ j. j.fresh) c.in-Ok.ensures.moved ∙ now.0) (c.in-Ok.ensures.acknowledged now.1 now.2) tell
