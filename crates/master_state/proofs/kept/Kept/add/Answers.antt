use Rattle.std.proofs.Common.{ap}
use Rattle.master_state.proofs.KeptLaws.{is_below, is_absent}
use Rattle.master_state.proofs.kept.Kept.add.Goals as goal

pub put-requires-clause-absent : goal.put-requires-clause-absent
put-requires-clause-absent c = is_absent _ _ _ _ (ap (λ k. k.names) c.self.view_is) c.into_path.ensures c.requires.place

pub put-requires-clause-parent : goal.put-requires-clause-parent
put-requires-clause-parent c = is_below _ _ _ _ (ap (λ k. k.names) c.self.view_is) c.into_path.ensures c.requires.place
