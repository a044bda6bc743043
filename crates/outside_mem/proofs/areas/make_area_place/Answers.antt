use Rattle.std.proofs.Common.{◌∙◌, [], ◌∷◌, sym, subst}
use Rattle.outside_mem.specs.Named.{GetsPlaces, HasPlaces}
use Rattle.outside_mem.specs.NamedAreas.{AreNewAreas}
use Rattle.outside_mem.specs.declared.disk.MemDisk.{MemDisk}
use Rattle.outside_mem.specs.declared.named.Named.{Named}
use Rattle.outside_mem.proofs.NamedItems.{last_gets, last_place}
use Rattle.outside_mem.proofs.Places.{none_copied, one_place}
use Rattle.outside_mem.proofs.areas.make_area_place.Goals as goal

pub returns-clause-places : goal.returns-clause-places
returns-clause-places c =
    let last : Named (MemDisk × MemDisk) = record { name = c.in_ok-name.name; item = c.new_areas-item.result } in
    subst (λ areas. HasPlaces areas (c.args.name.now ∷ [])) (sym c.in_ok-push.ensures.items) (one_place c.args.name.now _ (last_place c.args.areas.now.items last c.args.name.now c.in_ok-name.ensures.ok))

pub returns-clause-made : goal.returns-clause-made
returns-clause-made c =
    let last : Named (MemDisk × MemDisk) = record { name = c.in_ok-name.name; item = c.new_areas-item.result } in
    let absent = none_copied (λ pair. pair.now) c.find.result _ (rw c.deref.ensures.value at c.find.ensures) (sym c.is_some.ensures ∙ c.if-is_some.false) in
    subst (λ areas. GetsPlaces AreNewAreas (c.args.name.now ∷ []) c.args.areas.now.items areas) (sym c.in_ok-push.ensures.items) (last_gets AreNewAreas c.args.areas.now.items last c.args.name.now c.in_ok-name.ensures.ok absent c.new_areas-item.ensures)
