use Rattle.std.proofs.Common.{◌≡◌, true, sym, ap, ◌∙◌, subst}
use Rattle.master_state.specs.Fits.{is_new_id}
use Rattle.master_state.specs.Effect.{counts_in, effect}
use Rattle.master_state.proofs.Stay.{mount_counts, done_counts, node_counts}
use Rattle.master_state.proofs.kept.Kept.take.Goals as goal

pub put_back-requires-clause-place : goal.put_back-requires-clause-place
put_back-requires-clause-place c =
    let n = c.in-Node in
    (node_counts c.args.self.now.names n.path n.dir n.id n.len n.done n.stored n.pinned (subst (λ e. counts_in e c.args.self.now.names ≡ true) n.is c.requires.counts)).0

pub put_back-requires-clause-new_id : goal.put_back-requires-clause-new_id
put_back-requires-clause-new_id c =
    let n = c.in-Node in
    λ file. ap (is_new_id c.args.self.now.names) c.id.view_is ∙ (node_counts c.args.self.now.names n.path n.dir n.id n.len n.done n.stored n.pinned (subst (λ e. counts_in e c.args.self.now.names ≡ true) n.is c.requires.counts)).1 file

pub returns-in-Done : goal.returns-in-Done
returns-in-Done c =
    let d = c.in-Done in
    c.finish.ensures
    ∙ done_counts c.args.self.now.names d.id d.len d.stored d.plan (subst (λ e. counts_in e c.args.self.now.names ≡ true) d.is c.requires.counts)
    ∙ ap (λ e. effect e c.args.self.now.names) (sym d.is)

pub returns-in-Mount : goal.returns-in-Mount
returns-in-Mount c =
    let m = c.in-Mount in
    c.mount_root.ensures
    ∙ mount_counts c.args.self.now.names m.path m.store m.key m.plan c.requires.plain (subst (λ e. counts_in e c.args.self.now.names ≡ true) m.is c.requires.counts)
    ∙ ap (λ e. effect e c.args.self.now.names) (sym m.is)
