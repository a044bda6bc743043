use Rattle.std.proofs.Common.{refl, sym, ◌∙◌}
use Rattle.cluster_core.proofs.Rooms.{absent_room, none_there}
use Rattle.cluster_core.proofs.node.Node.free.Goals as goal

pub returns-else-is_some-clause-freed : goal.returns-else-is_some-clause-freed
returns-else-is_some-clause-freed g c = record {
  running = refl;
  started = refl;
  litter = refl;
  rooms = sym (absent_room c.args.room c.args.self.now.book.rooms (none_there c.room.result _ c.room.ensures.found (sym c.is_some.ensures ∙ c.if-is_some.false)));
  rows = refl;
  next = refl;
  sizes = refl;
}
