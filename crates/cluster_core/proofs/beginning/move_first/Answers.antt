use Rattle.cluster_core.proofs.BeginGo.{rest_fits}
use Rattle.cluster_core.proofs.beginning.move_first.Goals as goal

pub returns-clause-fit : goal.returns-clause-fit
returns-clause-fit g c = rest_fits c.args.books.now.items c.args.tiers.now.items c.take_first-book.result c.take_first-book.new.items.items c.take_first-list.result c.take_first-list.new.items.items c.take_first-book.ensures.items c.take_first-list.ensures.items c.requires.fit
