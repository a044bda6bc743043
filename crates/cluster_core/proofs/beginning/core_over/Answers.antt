use Rattle.std.proofs.Common.{◌≡◌, ◌≤◌, ◌∙◌, ap, arith, length, sym, subst, vec_capacity}
use Rattle.cluster_core.proofs.BeginGo.{block_is, block_short, books_fit, moved_count, shelf_holds}
use Rattle.cluster_core.proofs.beginning.core_over.Goals as goal

pub move_all-requires-clause-fit : goal.move_all-requires-clause-fit
move_all-requires-clause-fit g c = books_fit c.args.setup.now c.args.tiers c.args.parts.books.items c.requires.books c.requires.fit

pub invariant_of-result : goal.invariant_of-result
invariant_of-result g c =
    let nodes = c.move_all.new.nodes in
    let tiers = c.args.tiers in
    let same : length nodes.items ≡ length c.args.tiers.items = moved_count c.args.parts.books.items c.args.tiers.items c.args.parts.nodes.items c.move_all.new.books.items c.move_all.new.tiers.items nodes.items c.move_all.ensures.moved c.requires.nodes c.move_all.ensures.tiers in
    record {
      actors = c.requires.actors;
      blocks = block_is c.args.setup.now c.requires.setup;
      small = block_short c.args.setup.now c.requires.setup;
      cleared = c.move_all.ensures.tiers;
      places = shelf_holds nodes.len nodes.items c.run_first.new.nodes c.args.tiers.items (vec_capacity c.move_all.new.tiers) same (sym c.deref_mut.ensures.len ∙ ap length c.deref_mut.ensures.value) (subst (λ n. length c.args.tiers.items ≤ n) (sym c.move_all.ensures.room) (omega (arith, tiers.ok.0, tiers.ok.1)));
    }
