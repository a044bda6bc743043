use Rattle.std.proofs.Common.{◌∙◌, ap, subst}
use Rattle.journal_disk.specs.Journaling.{BothTell, LeavesAreas}
use Rattle.master_node.specs.Mastering.{IsUp, Mastering, StandsFor, standing_of}
use Rattle.master_node.proofs.Masters.{made_ready, still}
use Rattle.master_node.proofs.master.Master.prepare.Goals as goal

pub returns-then-is_err-clause-any_moment : goal.returns-then-is_err-clause-any_moment
returns-then-is_err-clause-any_moment g c =
    let w = g.D.Disk in
    let up : IsUp (let m : Mastering _ = record { journal = c.self.inside.journal; kept = c.self.inside.names } in m) = ap (λ m. m.journal.failed) c.self.view_is ∙ c.requires.up in
    let now = c.self.invariant up in
    subst (λ m. BothTell w m.journal → LeavesAreas w m.journal c.self.inside.journal (StandsFor (standing_of m))) c.self.view_is (λ tell. still w c.self.inside.journal now.1 c.self.inside.names.names now.3 now.0 now.2 tell)

pub returns-then-is_err-2-clause-any_moment : goal.returns-then-is_err-2-clause-any_moment
returns-then-is_err-2-clause-any_moment g c =
    let w = g.D.Disk in
    let up : IsUp (let m : Mastering _ = record { journal = c.self.inside.journal; kept = c.self.inside.names } in m) = ap (λ m. m.journal.failed) c.self.view_is ∙ c.requires.up in
    let now = c.self.invariant up in
    subst (λ m. BothTell w m.journal → LeavesAreas w m.journal c.prepare-done.new.self (StandsFor (standing_of m))) c.self.view_is (λ tell. made_ready w c.self.inside.journal now.1 c.self.inside.names.names now.3 now.0 c.prepare-done.new.self c.prepare-done.ensures.stays now.2 tell)

pub returns-else-is_err-2-clause-any_moment : goal.returns-else-is_err-2-clause-any_moment
returns-else-is_err-2-clause-any_moment g c =
    let w = g.D.Disk in
    let up : IsUp (let m : Mastering _ = record { journal = c.self.inside.journal; kept = c.self.inside.names } in m) = ap (λ m. m.journal.failed) c.self.view_is ∙ c.requires.up in
    let now = c.self.invariant up in
    subst (λ m. BothTell w m.journal → LeavesAreas w m.journal c.prepare-done.new.self (StandsFor (standing_of m))) c.self.view_is (λ tell. made_ready w c.self.inside.journal now.1 c.self.inside.names.names now.3 now.0 c.prepare-done.new.self c.prepare-done.ensures.stays now.2 tell)
