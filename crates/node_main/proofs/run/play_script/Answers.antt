use Rattle.std.proofs.Common.{◌≡◌, refl, ap, ◌∙◌, inl, inr, subst}
use Rattle.fs_model.specs.declared.stop.Stop.{Stop}
use Rattle.outside.specs.AreaShelf.{HoldsAreas, KeepsAreasBut}
use Rattle.outside.specs.Shelf.{KeepsBut, all_names, under}
use Rattle.outside.proofs.Returned.{same_then}
use Rattle.node_main.specs.Ends.{IsUnplayed, media_names}
use Rattle.node_main.proofs.Playing.{areas_then, of_lent}
use Rattle.node_main.proofs.run.play_script.Goals as goal

pub returns-in-Ok-assemble-clause-done : goal.returns-in-Ok-assemble-clause-done
returns-in-Ok-assemble-clause-done g c = λ h. record {
  commands = c.args.script.now;
  script = refl;
  lent = c.in-Ok-assemble.media;
  held = record { held = record { shape = rw c.in-Ok.ensures.names at c.in-Ok-assemble.ensures.shape; each = rw c.in-Ok.ensures.names at c.in-Ok-assemble.ensures.told; areas = subst (λ names. HoldsAreas g.W.Area.Disk.tells g.W.Area.Disk.history (g.W.World.areas c.args.world.now) names.journal c.in-Ok-assemble.media.areas) c.in-Ok.ensures.names c.in-Ok-assemble.ensures.areas }; fresh = c.in-Ok-assemble.ensures.fresh };
  played = rw (c.in-Ok.ensures.setup, c.assemble.ensures.output) at c.play_lent.ensures.done h;
}

pub returns-in-Ok-assemble-clause-partly : goal.returns-in-Ok-assemble-clause-partly
returns-in-Ok-assemble-clause-partly g c = λ h. record {
  commands = c.args.script.now;
  script = refl;
  lent = c.in-Ok-assemble.media;
  held = record { held = record { shape = rw c.in-Ok.ensures.names at c.in-Ok-assemble.ensures.shape; each = rw c.in-Ok.ensures.names at c.in-Ok-assemble.ensures.told; areas = subst (λ names. HoldsAreas g.W.Area.Disk.tells g.W.Area.Disk.history (g.W.World.areas c.args.world.now) names.journal c.in-Ok-assemble.media.areas) c.in-Ok.ensures.names c.in-Ok-assemble.ensures.areas }; fresh = c.in-Ok-assemble.ensures.fresh };
  played = rw (c.in-Ok.ensures.setup, c.assemble.ensures.output) at c.play_lent.ensures.partly h;
}

pub returns-in-Ok-assemble-clause-memory : goal.returns-in-Ok-assemble-clause-memory
returns-in-Ok-assemble-clause-memory g c = λ h.
    let shape = rw c.in-Ok.ensures.names at c.in-Ok-assemble.ensures.shape in
    let told = rw c.in-Ok.ensures.names at c.in-Ok-assemble.ensures.told in
    let areas = subst (λ names. HoldsAreas g.W.Area.Disk.tells g.W.Area.Disk.history (g.W.World.areas c.args.world.now) names.journal c.in-Ok-assemble.media.areas) c.in-Ok.ensures.names c.in-Ok-assemble.ensures.areas in
    elim (c.play_lent.ensures.memory h) [
      | inl same ↦ inl (same.0 ∙ ap (λ out. g.W.Out.Sink.taken out) c.assemble.ensures.output, inr (Stop.Memory, record { lent = c.in-Ok-assemble.media; held = record { held = record { shape = shape; each = told; areas = areas }; fresh = c.in-Ok-assemble.ensures.fresh }; given = rw c.in-Ok.ensures.setup at same.1 }))
      | inr front ↦ inr (record {
        commands = c.args.script.now;
        script = refl;
        lent = c.in-Ok-assemble.media;
        held = record { held = record { shape = shape; each = told; areas = areas }; fresh = c.in-Ok-assemble.ensures.fresh };
        played = rw (c.in-Ok.ensures.setup, c.assemble.ensures.output) at front;
      })
    ]

pub returns-in-Ok-assemble-clause-ends : goal.returns-in-Ok-assemble-clause-ends
returns-in-Ok-assemble-clause-ends g c =
    let shape = rw c.in-Ok.ensures.names at c.in-Ok-assemble.ensures.shape in
    let told = rw c.in-Ok.ensures.names at c.in-Ok-assemble.ensures.told in
    let areas = subst (λ names. HoldsAreas g.W.Area.Disk.tells g.W.Area.Disk.history (g.W.World.areas c.args.world.now) names.journal c.in-Ok-assemble.media.areas) c.in-Ok.ensures.names c.in-Ok-assemble.ensures.areas in
    of_lent _ (λ why. IsUnplayed g.W.Area.Disk g.W.Store.Objects g.W.Store.Reader.ObjectRead g.W.Store.Writer.ObjectWrite (g.W.World.shelf c.args.world.now, g.W.World.areas c.args.world.now) (g.W.World.shelf c.play_lent.new.world, g.W.World.areas c.play_lent.new.world) why × (g.W.World.output c.play_lent.new.world ≡ g.W.World.output c.args.world.now)) c.play_lent.result c.play_lent.ensures.ends (λ why p. (
      record {
        lent = c.in-Ok-assemble.media;
        held = record { held = record { shape = shape; each = told; areas = areas }; fresh = c.in-Ok-assemble.ensures.fresh };
        given = rw c.in-Ok.ensures.setup at p.0;
      },
      p.1 ∙ c.assemble.ensures.output,
    ))

pub returns-in-Ok-assemble-clause-others : goal.returns-in-Ok-assemble-clause-others
returns-in-Ok-assemble-clause-others g c = λ name other.
    let first = subst (λ names. KeepsBut (all_names names) (g.W.World.shelf c.args.world.now) (g.W.World.shelf c.assemble.new.self)) c.in-Ok.ensures.names c.in-Ok-assemble.ensures.others in
    same_then (under (g.W.World.shelf c.args.world.now) name) (under (g.W.World.shelf c.assemble.new.self) name) (under (g.W.World.shelf c.play_lent.new.world) name) (first name other) (c.play_lent.ensures.others name other)

pub returns-in-Ok-assemble-clause-areas_others : goal.returns-in-Ok-assemble-clause-areas_others
returns-in-Ok-assemble-clause-areas_others g c =
    let first = subst (λ names. KeepsAreasBut names.journal (g.W.World.areas c.args.world.now) (g.W.World.areas c.assemble.new.self)) c.in-Ok.ensures.names c.in-Ok-assemble.ensures.areas_others in
    areas_then media_names.journal (g.W.World.areas c.args.world.now) (g.W.World.areas c.assemble.new.self) (g.W.World.areas c.play_lent.new.world) first c.play_lent.ensures.areas_others
