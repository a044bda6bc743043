use Rattle.std.proofs.Common.{◌∙◌, sym, arith}
use Rattle.std.specs.String.{string_bytes}
use Rattle.std.proofs.lemmas.List.{length-map}
use Rattle.outside.specs.Shelf.{HasShape, name_lists}
use Rattle.outside.specs.declared.media.Media.{Media}
use Rattle.outside_mem.specs.declared.disk.MemDisk.{MemDisk}
use Rattle.outside_mem.specs.declared.store.MemObjects.{MemObjects}
use Rattle.outside_mem.proofs.NamedMedia.{named_lengths}
use Rattle.outside_mem.proofs.NewMedia.{each_new}
use Rattle.outside_mem.proofs.shelf.new_media.Goals as goal

pub returns-clause-shape : goal.returns-clause-shape
returns-clause-shape c =
    let names = c.args.names.now in
    record {
      stores = omega (arith, c.in_ok-new_stores.ensures.len, length-map names.stores.items string_bytes, names.stores.ok.0);
      tiers = (rw c.deref.ensures.value at c.in_ok-new_tiers.ensures.lens) ∙ sym (named_lengths string_bytes (λ worker. worker.items) names.tiers.items);
    }

pub returns-clause-new : goal.returns-clause-new
returns-clause-new c =
    let names = c.args.names.now in
    let media : Media MemDisk MemObjects = record { areas = c.new_fused.result; stores = c.in_ok-new_stores.field-0; tiers = c.in_ok-new_tiers.field-0 } in
    let shape : HasShape (name_lists names) media = record {
      stores = omega (arith, c.in_ok-new_stores.ensures.len, length-map names.stores.items string_bytes, names.stores.ok.0);
      tiers = (rw c.deref.ensures.value at c.in_ok-new_tiers.ensures.lens) ∙ sym (named_lengths string_bytes (λ worker. worker.items) names.tiers.items);
    } in
    each_new (name_lists names) media shape c.in_ok-new_stores.ensures.new c.in_ok-new_tiers.ensures.new
