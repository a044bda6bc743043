use Rattle.std.proofs.Common.{ℕ, subst, sym, option_map, Some}
use Rattle.std.specs.Option.{option_copied}
use Rattle.outside.specs.Contents.{IsFirst, is_after}
use Rattle.outside.specs.Keys.{KeyNames}
use Rattle.outside_mem.specs.Stored.{found_as, held}
use Rattle.outside_mem.proofs.Firsts.{first-wanted}
use Rattle.outside_mem.proofs.store.MemObjectsObjects.next_key.Goals as goal

pub returns-in-None-clause-first : goal.returns-in-None-clause-first
returns-in-None-clause-first c =
    let objects = c.args.self.now.objects in
    let is_wanted = is_after c.args.under.now (option_copied c.args.after) in
    subst (λ found. IsFirst is_wanted (option_map found_as found) (held objects)) (sym c.in-None.ensures) (first-wanted is_wanted objects)

pub returns-in_ok-found_as-in-Some-clause-first : goal.returns-in_ok-found_as-in-Some-clause-first
returns-in_ok-found_as-in-Some-clause-first c =
    let objects = c.args.self.now.objects in
    let is_wanted = is_after c.args.under.now (option_copied c.args.after) in
    let first = subst (λ found. IsFirst is_wanted (option_map found_as found) (held objects)) (sym c.in-Some.ensures) (first-wanted is_wanted objects) in
    subst (λ (found : KeyNames × ℕ). IsFirst is_wanted (Some found) (held objects)) (sym c.in_ok-found_as-in-Some.ensures) first
