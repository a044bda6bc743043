-- What an append leaves at each exit.
use Rattle.std.proofs.Common.{◌≡◌, inl, ℕ, ◌-◌, List, [], ◌∷◌, ◌++◌, refl, sym, ◌∙◌, ap, subst, arith}
use Rattle.journal_entry.specs.EntryText.{entry_text}
use Rattle.journal_disk.specs.AreaText.{next_gate}
use Rattle.journal_disk.specs.Journaling.{StaysAs}
use Rattle.journal_disk.specs.Staging.{IsPiece}
use Rattle.journal_disk.proofs.Journals.{appended_from, leaves_still, ready_appended, told_again}
use Rattle.journal_disk.proofs.journal.Journal.append.Goals as goal

pub returns-in_default-clause-any_moment : goal.returns-in_default-clause-any_moment
returns-in_default-clause-any_moment g c = λ entries ready tell.
    leaves_still g.D.Disk c.args.self.now entries ready c.args.self.now _ tell refl refl refl (λ a b is. inl is)

pub returns-in_err-reserve_to-clause-any_moment : goal.returns-in_err-reserve_to-clause-any_moment
returns-in_err-reserve_to-clause-any_moment g c = λ entries ready tell.
    let s = c.reserve_to.ensures.stays in
    leaves_still g.D.Disk c.args.self.now entries ready c.reserve_to.new.self _ tell (ap (λ k. k.second) s.rest) s.here s.there (λ a b is. inl is)

pub append_text-done-requires-clause-area : goal.append_text-done-requires-clause-area
append_text-done-requires-clause-area g c =
    let s = subst (λ k. StaysAs g.D.Disk c.args.self.now k) (sym c.self.view_is) c.reserve_to.ensures.stays in
    let fresh = ap (λ k. k.fresh) s.rest ∙ c.requires.current in
    let now = c.self.invariant.0.ready (ap (λ k. k.failed) s.rest ∙ c.requires.sound) in
    (c.self.inside.generation, now.0, λ tells. record { rest = now.1.here tells; area = now.1.area fresh tells })

pub invariant_of-self : goal.invariant_of-self
invariant_of-self g c =
    let s = subst (λ k. StaysAs g.D.Disk c.args.self.now k) (sym c.self.view_is) c.reserve_to.ensures.stays in
    let fits = c.self.invariant.0 in
    let fresh = ap (λ k. k.fresh) s.rest ∙ c.requires.current in
    let e = c.args.entry.now in
    let piece : IsPiece c.deref.result.now e = record {
      entry = c.encode.ensures.entry;
      bytes = c.deref.ensures.value ∙ c.push_gate.ensures.items ∙ ap (λ (l : List ℕ). l ++ 0 ∷ []) (c.encode.ensures.text ∙ ap (λ (l : List ℕ). l ++ entry_text e) c.clear.ensures.items);
    } in
    let same_there = ap (λ f. g.D.Disk.history f.disk) c.set_fuse.ensures in
    let place : c.in-Some.end - 1 ≡ next_gate c.self.inside.gate e = omega (arith, c.in-Some.ensures.end, ap (λ k. k.gate) s.rest) in (
      record {
        limit = fits.limit;
        gate = omega (arith, c.in-Some.ensures.within, ap (λ k. k.limit) s.rest, fits.limit);
        generation = fits.generation;
        prepared = λ is. absurd (omega (arith, is));
        fuse = sym (ap (λ f. f.fuse) c.set_fuse.ensures ∙ c.left.ensures);
        fresh = fits.fresh;
        ready = λ sound.
            let now = fits.ready sound in (
              now.0 ++ e ∷ [],
              ready_appended g.D.Disk _ now.0 now.1 c.append_text-done.new.area c.set_fuse.new.self e (c.in-Some.end - 1) 0 fresh place c.append_text-done.ensures.tells (ap (λ f. g.D.Disk.tells f.disk) c.set_fuse.ensures) same_there
                  (λ tells. c.in-Ok.ensures.ok tells c.self.inside.generation now.0 e piece (record { rest = now.1.here tells; area = now.1.area fresh tells })),
            );
      },
      omega (arith, c.push_gate.ensures.capacity, c.encode.ensures.capacity, c.clear.ensures.capacity, c.self.invariant.1),
    )

pub returns-in-Ok-clause-acknowledged : goal.returns-in-Ok-clause-acknowledged
returns-in-Ok-clause-acknowledged g c = λ entries was.
    let s = subst (λ k. StaysAs g.D.Disk c.args.self.now k) (sym c.self.view_is) c.reserve_to.ensures.stays in
    let fresh = ap (λ k. k.fresh) s.rest ∙ c.requires.current in
    let e = c.args.entry.now in
    let piece : IsPiece c.deref.result.now e = record {
      entry = c.encode.ensures.entry;
      bytes = c.deref.ensures.value ∙ c.push_gate.ensures.items ∙ ap (λ (l : List ℕ). l ++ 0 ∷ []) (c.encode.ensures.text ∙ ap (λ (l : List ℕ). l ++ entry_text e) c.clear.ensures.items);
    } in
    let place : c.in-Some.end - 1 ≡ next_gate c.self.inside.gate e = omega (arith, c.in-Some.ensures.end, ap (λ k. k.gate) s.rest) in
    let now = s.ready entries was in
    ready_appended g.D.Disk _ entries now c.append_text-done.new.area c.set_fuse.new.self e (c.in-Some.end - 1) 0 fresh place c.append_text-done.ensures.tells (ap (λ f. g.D.Disk.tells f.disk) c.set_fuse.ensures) (ap (λ f. g.D.Disk.history f.disk) c.set_fuse.ensures)
    (λ tells. c.in-Ok.ensures.ok tells c.self.inside.generation entries e piece (record { rest = now.here tells; area = now.area fresh tells }))

pub returns-in-Ok-clause-any_moment : goal.returns-in-Ok-clause-any_moment
returns-in-Ok-clause-any_moment g c = λ entries was tell.
    let s = subst (λ k. StaysAs g.D.Disk c.args.self.now k) (sym c.self.view_is) c.reserve_to.ensures.stays in
    let fresh = ap (λ k. k.fresh) s.rest ∙ c.requires.current in
    let e = c.args.entry.now in
    let piece : IsPiece c.deref.result.now e = record {
      entry = c.encode.ensures.entry;
      bytes = c.deref.ensures.value ∙ c.push_gate.ensures.items ∙ ap (λ (l : List ℕ). l ++ 0 ∷ []) (c.encode.ensures.text ∙ ap (λ (l : List ℕ). l ++ entry_text e) c.clear.ensures.items);
    } in
    let now = s.ready entries was in
    let told = told_again g.D.Disk _ _ s tell in
    appended_from g.D.Disk _ _ s c.append_text-done.new.area c.set_fuse.new.self entries e was fresh tell (ap (λ f. g.D.Disk.history f.disk) c.set_fuse.ensures)
    (c.append_text-done.ensures.any_moment told c.self.inside.generation entries e piece (record { rest = now.here told; area = now.area fresh told }))

pub returns-in-Err-clause-any_moment : goal.returns-in-Err-clause-any_moment
returns-in-Err-clause-any_moment g c = λ entries was tell.
    let s = subst (λ k. StaysAs g.D.Disk c.args.self.now k) (sym c.self.view_is) c.reserve_to.ensures.stays in
    let fresh = ap (λ k. k.fresh) s.rest ∙ c.requires.current in
    let e = c.args.entry.now in
    let piece : IsPiece c.deref.result.now e = record {
      entry = c.encode.ensures.entry;
      bytes = c.deref.ensures.value ∙ c.push_gate.ensures.items ∙ ap (λ (l : List ℕ). l ++ 0 ∷ []) (c.encode.ensures.text ∙ ap (λ (l : List ℕ). l ++ entry_text e) c.clear.ensures.items);
    } in
    let now = s.ready entries was in
    let told = told_again g.D.Disk _ _ s tell in
    appended_from g.D.Disk _ _ s c.append_text-done.new.area c.set_fuse.new.self entries e was fresh tell (ap (λ f. g.D.Disk.history f.disk) c.set_fuse.ensures)
    (c.append_text-done.ensures.any_moment told c.self.inside.generation entries e piece (record { rest = now.here told; area = now.area fresh told }))
