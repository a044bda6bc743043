use Rattle.outside.specs.Shelf.{name_lists}
use Rattle.outside.proofs.Returned.{areas_returned, same_returned}
use Rattle.outside_mem.proofs.store_tests.lending.lend_and_give_back.Goals as goal

pub returns-clause-same : goal.returns-clause-same
returns-clause-same g c =
    let told = rw c.in_ok-media.ensures.lent at c.give_back.ensures.told in
    let others = rw c.in_ok-media.ensures.lent at c.give_back.ensures.others in
    same_returned g.W.Store.Objects.told (g.W.World.shelf c.args.world.now) (g.W.World.shelf c.assemble.new.self) (g.W.World.shelf c.give_back.new.self) (name_lists c.args.names.now) c.in_ok-media.media c.in_ok-media.ensures.told told c.in_ok-media.ensures.others others

pub returns-clause-same_areas : goal.returns-clause-same_areas
returns-clause-same_areas g c =
    let back = rw c.in_ok-media.ensures.lent at c.give_back.ensures.areas in
    let others = rw c.in_ok-media.ensures.lent at c.give_back.ensures.areas_others in
    areas_returned g.W.Area.Disk.tells g.W.Area.Disk.history (g.W.World.areas c.args.world.now) (g.W.World.areas c.assemble.new.self) (g.W.World.areas c.give_back.new.self) (name_lists c.args.names.now).journal c.in_ok-media.media.areas c.in_ok-media.ensures.fresh c.in_ok-media.ensures.areas back c.in_ok-media.ensures.areas_others others
