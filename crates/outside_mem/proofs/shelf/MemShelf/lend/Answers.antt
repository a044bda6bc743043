use Rattle.std.proofs.Common.{[], ◌∷◌, sym, subst}
use Rattle.std.specs.Prelude.{IsTrue}
use Rattle.outside.specs.Shelf.{all_names, are_distinct, name_lists}
use Rattle.outside_mem.specs.Named.{HasPlaces}
use Rattle.outside_mem.specs.NamedAreas.{AreNewAreas}
use Rattle.outside_mem.proofs.Lending.{found_under, lacks_new, same_since, tells_found}
use Rattle.outside_mem.proofs.LentAreas.{keeps_areas}
use Rattle.outside_mem.proofs.NewMedia.{shape_of}
use Rattle.outside_mem.proofs.shelf.MemShelf.lend.Goals as goal

pub invariant_of-self-2 : goal.invariant_of-self-2
invariant_of-self-2 c =
    let copied = sym c.in_ok-lent.ensures.cases in
    let exchanged = c.exchange_lent-media.ensures in
    record {
      places = subst (λ names. HasPlaces c.exchange_lent-media.new.stores.items (all_names names)) copied exchanged.places;
      area_places = subst (λ names. HasPlaces c.exchange_lent-media.new.areas.items (names.journal ∷ [])) copied exchanged.area_places;
      distinct = subst (λ names. IsTrue (are_distinct (all_names names))) copied c.requires.distinct;
    }

pub returns-clause-shape : goal.returns-clause-shape
returns-clause-shape c = shape_of _ (name_lists c.args.names.now) c.exchange_lent-media.result c.exchange_lent-media.ensures.taken

pub returns-clause-found : goal.returns-clause-found
returns-clause-found c =
    let names = name_lists c.args.names.now in
    found_under (all_names names) c.args.self.now.stores.items c.make_media_places.new.stores.items names c.exchange_lent-media.result c.in_ok-make_media_places.ensures.made c.exchange_lent-media.ensures.taken

pub returns-clause-told : goal.returns-clause-told
returns-clause-told c =
    let names = name_lists c.args.names.now in
    tells_found c.args.self.now.stores.items names c.exchange_lent-media.result (found_under (all_names names) c.args.self.now.stores.items c.make_media_places.new.stores.items names c.exchange_lent-media.result c.in_ok-make_media_places.ensures.made c.exchange_lent-media.ensures.taken)

pub returns-clause-gone : goal.returns-clause-gone
returns-clause-gone c = lacks_new c.exchange_lent-media.new.stores.items (name_lists c.args.names.now) c.in_ok-new.new c.exchange_lent-media.ensures.given c.in_ok-new.ensures.new

pub returns-clause-areas_others : goal.returns-clause-areas_others
returns-clause-areas_others c = same_since AreNewAreas ((name_lists c.args.names.now).journal ∷ []) c.args.self.now.areas.items c.make_area_place.new.areas.items c.exchange_lent-media.new.areas.items (rw c.deref.ensures at c.in_ok-make_area_place.ensures.made) c.exchange_lent-media.ensures.areas_others

pub returns-clause-areas_kept : goal.returns-clause-areas_kept
returns-clause-areas_kept c = keeps_areas (name_lists c.args.names.now).journal c.args.self.now.areas.items c.exchange_lent-media.new.areas.items (same_since AreNewAreas ((name_lists c.args.names.now).journal ∷ []) c.args.self.now.areas.items c.make_area_place.new.areas.items c.exchange_lent-media.new.areas.items (rw c.deref.ensures at c.in_ok-make_area_place.ensures.made) c.exchange_lent-media.ensures.areas_others)
