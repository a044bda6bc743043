use Rattle.std.proofs.Common.{◌≡◌, true, ap, ◌∙◌, not}
use Rattle.fs_model.specs.Lookups.{file_of}
use Rattle.fs_model.specs.Changes.{change_file}
use Rattle.master_state.specs.Fits.{file_passes}
use Rattle.master_state.specs.View.{plain_names}
use Rattle.master_state.specs.Kept.{mount_rows}
use Rattle.master_state.proofs.KeptLaws.{is_finished}
use Rattle.master_state.proofs.kept.Kept.finish.Goals as goal

pub returns-in-Some : goal.returns-in-Some
returns-in-Some c =
    let kept = c.self.inside in
    let view : plain_names kept.tree.nodes (mount_rows kept.mount) kept.next_id kept.next_plan ≡ c.args.self.now.names = ap (λ k. k.names) c.self.view_is in
    let undone : file_passes (λ f. not f.done) (file_of (plain_names kept.tree.nodes (mount_rows kept.mount) kept.next_id kept.next_plan) c.args.id) ≡ true = ap (λ N. file_passes (λ f. not f.done) (file_of N c.args.id)) view ∙ c.requires in
    let nodes = is_finished kept.tree.nodes c.set_file.new.self.nodes c.args.id c.args.len c.args.stored c.in-Some.row c.in-Some.ensures.found undone c.set_file.ensures.change in
    ap (λ ns. plain_names ns (mount_rows kept.mount) kept.next_id kept.next_plan) nodes
    ∙ ap (change_file c.args.id (λ f. record f { len = c.args.len; done = true; stored = c.args.stored })) view
