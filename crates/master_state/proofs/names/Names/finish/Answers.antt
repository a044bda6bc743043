use Rattle.std.proofs.Common.{◌≡◌, true, not, ap, ◌∙◌}
use Rattle.fs_model.specs.Lookups.{file_of}
use Rattle.master_state.specs.Fits.{file_passes}
use Rattle.master_state.proofs.Fitting.{done_fits}
use Rattle.master_state.proofs.names.Names.finish.Goals as goal

pub returns-clause-text : goal.returns-clause-text
returns-clause-text c =
    let undone : file_passes (λ f. not f.done) (file_of c.self.inside.kept.names c.args.id) ≡ true = ap (λ n. file_passes (λ f. not f.done) (file_of n.names c.args.id)) c.self.view_is ∙ c.requires.undone in
    (done_fits c.self.inside.kept.names c.args.id c.args.len c.self.invariant.0 undone).1
