use Rattle.std.proofs.Common.{◌≡◌, ◌∙◌, ap}
use Rattle.outside_mem.specs.Named.{found_or, item_under, with_item}
use Rattle.outside_mem.specs.NamedAreas.{unfused}
use Rattle.outside_mem.specs.declared.disk.MemDisk.{MemDisk}
use Rattle.outside_mem.proofs.LentAreas.{given_under, others_same, places_kept, under_swapped}
use Rattle.outside_mem.proofs.areas.exchange_areas.Goals as goal

pub returns : goal.returns
returns c =
    let name = c.args.name.now in
    let areas = c.args.areas.now in
    let given = unfused c.args.given in
    let pair : (c.into_disk.result, c.into_disk-2.result) ≡ given = λ i. (c.into_disk.ensures i, c.into_disk-2.ensures i) in
    let after = c.exchange.ensures.items ∙ ap (λ (pair : MemDisk × MemDisk). with_item name pair areas) pair in
    let before = c.exchange.ensures.item ∙ ap (λ (pair : MemDisk × MemDisk). found_or pair (item_under areas name)) pair in
    let swapped : unfused (c.new.result, c.new-2.result) ≡ found_or given (item_under areas name) = (λ i. (ap (λ f. f.disk) c.new.ensures i, ap (λ f. f.disk) c.new-2.ensures i)) ∙ before in
    record {
      taken = under_swapped name areas given _ c.requires.places swapped;
      given = given_under name given areas c.exchange.new.items c.requires.places after;
      others = others_same name given areas c.exchange.new.items after;
      places = places_kept name given areas c.exchange.new.items c.requires.places after;
      fuses = (ap (λ f. f.fuse) c.new.ensures, ap (λ f. f.fuse) c.new-2.ensures);
    }
