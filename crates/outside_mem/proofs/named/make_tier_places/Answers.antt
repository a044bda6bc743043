use Rattle.std.proofs.Common.{◌≡◌, ◌∙◌, ◌+◌, ℕ, List, ◌++◌, true, map, drop, get_or, sym, ap, subst}
use Rattle.std.specs.String.{string_bytes}
use Rattle.std.proofs.lemmas.List.{drop_more}
use Rattle.outside.specs.Shelf.{is_among, tier_names}
use Rattle.outside_mem.proofs.Places.{PlacesBut, gets_more, places_on, worker_among}
use Rattle.outside_mem.proofs.named.make_tier_places.Goals as goal

pub returns-in_err-make_places-clause-made : goal.returns-in_err-make_places-clause-made
returns-in_err-make_places-clause-made c =
    let names = tier_names (map (λ worker. map string_bytes worker.items) c.args.names.now) in
    let worker = map string_bytes c.deref.result.now in
    let read : map string_bytes (get_or c.args.names.now c.loop-worker.worker-index c.worker-item.result).items ≡ worker = ap (λ worker. map string_bytes worker.items) (sym c.worker-item.is) ∙ ap (map string_bytes) (sym c.deref.ensures.value) in
    let among = λ (name : List ℕ) (h : is_among worker name ≡ true). worker_among (λ worker. map string_bytes worker.items) c.args.names.now c.loop-worker.worker-index c.worker-item.result c.loop-worker-test.true name (subst (λ x. is_among x name ≡ true) (sym read) h) in
    gets_more names worker c.args.stores.now.items c.loop-worker.stores.items c.make_places.new.stores.items among c.loop-worker.invariant.made c.in_err-make_places.ensures.made

pub loop-worker-preserved : goal.loop-worker-preserved
loop-worker-preserved c =
    let names = tier_names (map (λ worker. map string_bytes worker.items) c.args.names.now) in
    let worker = map string_bytes c.deref.result.now in
    let left = tier_names (map (λ worker. map string_bytes worker.items) (drop (c.loop-worker.worker-index + 1) c.args.names.now)) in
    let read : map string_bytes (get_or c.args.names.now c.loop-worker.worker-index c.worker-item.result).items ≡ worker = ap (λ worker. map string_bytes worker.items) (sym c.worker-item.is) ∙ ap (map string_bytes) (sym c.deref.ensures.value) in
    let among = λ (name : List ℕ) (h : is_among worker name ≡ true). worker_among (λ worker. map string_bytes worker.items) c.args.names.now c.loop-worker.worker-index c.worker-item.result c.loop-worker-test.true name (subst (λ x. is_among x name ≡ true) (sym read) h) in
    let next = ap (λ rest. tier_names (map (λ worker. map string_bytes worker.items) rest)) (drop_more c.args.names.now c.loop-worker.worker-index c.worker-item.result c.loop-worker-test.true) ∙ ap (λ x. x ++ left) read in
    record {
      places = places_on worker left names worker c.loop-worker.stores.items c.make_places.new.stores.items (subst (λ left. PlacesBut left c.loop-worker.stores.items names) next c.loop-worker.invariant.places) c.in_ok-make_places.ensures.made c.in_ok-make_places.ensures.places;
      made = gets_more names worker c.args.stores.now.items c.loop-worker.stores.items c.make_places.new.stores.items among c.loop-worker.invariant.made c.in_ok-make_places.ensures.made;
    }
