use Rattle.std.proofs.Common.{◌≡◌, ◌∙◌, length, map, refl, ap, arith}
use Rattle.std.specs.String.{string_bytes}
use Rattle.std.proofs.lemmas.List.{with_items_is}
use Rattle.outside.specs.Shelf.{name_lists}
use Rattle.outside_mem.proofs.NamedMedia.{media_given, media_others, media_places, media_taken, named_lengths}
use Rattle.outside_mem.proofs.named.exchange_media.Goals as goal

pub exchange_tiers-requires : goal.exchange_tiers-requires
exchange_tiers-requires c = rw (c.deref_mut-2.ensures.value, c.deref-2.ensures.value) (c.requires.shape.tiers ∙ named_lengths string_bytes (λ worker. worker.items) c.args.names.now.tiers.items)

pub returns : goal.returns
returns c =
    let names = name_lists c.args.names.now in
    let media = c.args.media.now in
    let stores = c.args.stores.now in
    let first = rw (c.deref.ensures.value, c.deref_mut.ensures.value) at c.exchange_each.ensures.stores in
    let first_taken = rw (c.deref.ensures.value, c.deref_mut.ensures.value) at c.exchange_each.ensures.taken in
    let second = rw (c.deref-2.ensures.value, c.deref_mut-2.ensures.value, first) at c.exchange_tiers.ensures.stores in
    let second_taken = rw (c.deref-2.ensures.value, c.deref_mut-2.ensures.value, first) at c.exchange_tiers.ensures.taken in
    let first_len : length c.exchange_each.new.given ≡ media.stores.len = omega arith in
    let second_len : length c.exchange_tiers.new.given ≡ media.tiers.len = omega arith in
    record { taken = media_taken names media _ stores c.requires.shape c.requires.distinct c.requires.places (with_items_is media.stores c.exchange_each.new.given first_len ∙ first_taken) (ap (map (λ tiers. tiers.items)) (with_items_is media.tiers c.exchange_tiers.new.given second_len) ∙ second_taken); given = media_given names media stores c.exchange_tiers.new.stores c.requires.shape c.requires.distinct c.requires.places second; others = media_others names media stores c.exchange_tiers.new.stores second; places = media_places names media stores c.exchange_tiers.new.stores _ c.requires.places second; areas = refl }
