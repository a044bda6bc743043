use Rattle.std.proofs.Common.{sym, subst}
use Rattle.std.specs.Prelude.{IfSome, Some, option_map}
use Rattle.outside.specs.AreaShelf.{KeepsAreasBut}
use Rattle.outside.specs.Shelf.{name_lists}
use Rattle.outside_mem.specs.Named.{HasPlaces, lent_journals}
use Rattle.outside_mem.specs.NamedAreas.{areas_of}
use Rattle.outside_mem.proofs.Lending.{told_back}
use Rattle.outside_mem.proofs.LentAreas.{keeps_areas}
use Rattle.outside_mem.proofs.shelf.MemShelf.take_back.Goals as goal

pub exchange_lent-requires-clause-area_places : goal.exchange_lent-requires-clause-area_places
exchange_lent-requires-clause-area_places c = subst (λ lent. HasPlaces c.args.self.now.areas.items (lent_journals lent)) (sym c.in-Some.ensures.value) c.args.self.now.area_places

pub returns-in-Some-clause-told : goal.returns-in-Some-clause-told
returns-in-Some-clause-told c = told_back c.args.self.now.lent c.in-Some.names c.args.media c.exchange_lent.new.stores.items c.in-Some.ensures.value c.exchange_lent.ensures.given

pub returns-in-Some-clause-areas_kept : goal.returns-in-Some-clause-areas_kept
returns-in-Some-clause-areas_kept c =
    let old = c.args.self.now.areas.items in
    let new = c.exchange_lent.new.areas.items in
    subst (λ lent. IfSome (option_map name_lists lent) (λ names. KeepsAreasBut names.journal (Some (areas_of old)) (Some (areas_of new)))) c.in-Some.ensures.value (keeps_areas (name_lists c.in-Some.names).journal old new c.exchange_lent.ensures.areas_others)
