use Rattle.std.proofs.Common.{◌≡◌, ◌+◌, ◌-◌, ◌≤◌, ℕ, List, [], ◌∷◌, length, take, drop, Option, Some, IfSome, refl, sym, ◌∙◌, ap, subst, arith, length-drop}
use Rattle.std.specs.List.{list_all}
use Rattle.std.proofs.lemmas.List.{take_all}
use Rattle.std.proofs.lemmas.List.Folds.{list_all-append}
use Rattle.journal_entry.specs.declared.entry.Entry.{Entry}
use Rattle.journal_entry.specs.EntryText.{IsEntryText, is_entry}
use Rattle.journal_entry.specs.Reading.{entry_at}
use Rattle.journal_disk.specs.AreaText.{with_front, walk}
use Rattle.journal_disk.proofs.Walk.{walk_step}
use Rattle.journal_disk.proofs.reading.read_area.Goals as goal

pub loop-place-preserved : goal.loop-place-preserved
loop-place-preserved c =
    let bytes = c.args.bytes.now in
    let place = c.loop-place.place in
    let rest = drop (place + 1) bytes in
    let all : take (length bytes - (place + 1)) rest ≡ rest = take_all (length bytes - (place + 1)) rest (omega (arith, length-drop (place + 1) bytes)) in
    let entry : entry_at rest ≡ Some (c.in-Some.entry, c.in-Some.taken) = ap entry_at (sym all) ∙ sym c.in_ok-entry.ensures.exact ∙ c.in-Some.is in
    let text = take (length bytes - (place + 1)) rest in
    let short = subst (λ (o : Option (Entry × ℕ)). IfSome o (λ x. IsEntryText (take x.1 text) x.0 × (x.1 ≤ length text))) c.in-Some.is c.in_ok-entry.ensures.found in
    let fits : c.in-Some.taken ≤ length rest = omega (arith, short.1, ap length all) in
    record {
      from = omega (arith, c.loop-place.invariant.from);
      are = ap (list_all is_entry) c.in_ok-push.ensures.items ∙ list_all-append is_entry c.loop-place.entries.items (c.in-Some.entry ∷ []) ∙ rw (c.loop-place.invariant.are, short.0.entry) refl;
      so_far =
          ap (λ (es : List Entry). with_front es (walk 0 (place + (1 + c.in-Some.taken)) (drop (place + (1 + c.in-Some.taken)) bytes))) c.in_ok-push.ensures.items
          ∙ walk_step bytes place c.in-Some.taken c.in-Some.entry c.loop-place.entries.items c.loop-place-test.true c.if-bytes-place-eq0.false entry fits
          ∙ c.loop-place.invariant.so_far;
    }
