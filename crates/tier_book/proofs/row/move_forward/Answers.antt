use Rattle.tier_book.proofs.Order.{move_back}
use Rattle.tier_book.proofs.row.move_forward.Goals as goal

pub returns : goal.returns
returns c = move_back c.args.rows.now c.args.front c.args.place c.rotate_right.new.self c.requires.order c.requires.within c.rotate_right.ensures.after
