use Rattle.std.proofs.Common.{◌∙◌, [], ◌∷◌, sym, subst}
use Rattle.std.specs.Prelude.{IsSome}
use Rattle.outside_mem.specs.Named.{GetsPlaces, IsNew, item_under}
use Rattle.outside_mem.specs.declared.named.Named.{Named}
use Rattle.outside_mem.specs.declared.store.MemObjects.{MemObjects}
use Rattle.outside_mem.proofs.NamedItems.{last_gets, last_place}
use Rattle.outside_mem.proofs.Places.{none_copied}
use Rattle.outside_mem.proofs.named.make_place.Goals as goal

pub returns-clause-place : goal.returns-clause-place
returns-clause-place c =
    let last : Named MemObjects = record { name = c.in_ok-name.name; item = c.new-store.result } in
    subst (λ stores. IsSome (item_under stores c.args.name.now)) (sym c.in_ok-push.ensures.items) (last_place c.args.stores.now.items last c.args.name.now c.in_ok-name.ensures.ok)

pub returns-clause-made : goal.returns-clause-made
returns-clause-made c =
    let last : Named MemObjects = record { name = c.in_ok-name.name; item = c.new-store.result } in
    let absent = none_copied (λ store. store.now) c.find.result _ (rw c.deref.ensures.value at c.find.ensures) (sym c.is_some.ensures ∙ c.if-is_some.false) in
    subst (λ stores. GetsPlaces IsNew (c.args.name.now ∷ []) c.args.stores.now.items stores) (sym c.in_ok-push.ensures.items) (last_gets IsNew c.args.stores.now.items last c.args.name.now c.in_ok-name.ensures.ok absent (record { objects = c.new-store.ensures.objects; calls = c.new-store.ensures.calls; counts = c.new-store.ensures.counts }))
