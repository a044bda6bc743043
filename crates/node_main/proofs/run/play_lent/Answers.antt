use Rattle.std.proofs.Common.{◌≡◌, ◌∙◌, sym, ap, inl, inr}
use Rattle.node_main.specs.Ends.{GivesUp, media_names}
use Rattle.node_main.proofs.Playing.{at_some, no_open, of_stop, on_err, on_ok, stop_memory, stop_write}
use Rattle.node_main.proofs.run.play_lent.Goals as goal

pub returns-in-Ok-clause-done : goal.returns-in-Ok-clause-done
returns-in-Ok-clause-done g c = λ _.
    let lent = c.play_out-played.ensures.lent ∙ c.requires.lent in
    rw c.give_back.ensures.output (record {
      back = c.play_out-played.result.1;
      held = record { shape = c.play_out-played.ensures.shape; each = at_some _ media_names _ lent c.give_back.ensures.told; areas = at_some _ media_names _ lent c.give_back.ensures.areas };
      between = on_ok c.play_out-played.result.0 _ _ c.in-Ok.is c.play_out-played.ensures.done;
    })

pub returns-in-Err-clause-partly : goal.returns-in-Err-clause-partly
returns-in-Err-clause-partly g c = λ h.
    let stop = stop_write c.in-Err.stop (sym c.end_of_stop.ensures ∙ h) in
    let lent = c.play_out-played.ensures.lent ∙ c.requires.lent in
    rw c.give_back.ensures.output (record {
      back = c.play_out-played.result.1;
      held = record { shape = c.play_out-played.ensures.shape; each = at_some _ media_names _ lent c.give_back.ensures.told; areas = at_some _ media_names _ lent c.give_back.ensures.areas };
      between = c.play_out-played.ensures.partly (rw stop at c.in-Err.is);
    })

pub returns-in-Err-clause-memory : goal.returns-in-Err-clause-memory
returns-in-Err-clause-memory g c = λ h.
    let stop = stop_memory c.in-Err.stop (sym c.end_of_stop.ensures ∙ h) in
    let lent = c.play_out-played.ensures.lent ∙ c.requires.lent in
    let told = at_some _ media_names _ lent c.give_back.ensures.told in
    let areas = at_some _ media_names _ lent c.give_back.ensures.areas in
    rw c.give_back.ensures.output (elim (c.play_out-played.ensures.memory (rw stop at c.in-Err.is)) [
      | inl same ↦ inl (ap (λ out. g.W.Out.Sink.taken out) same.1, record { back = c.play_out-played.result.1; held = record { shape = c.play_out-played.ensures.shape; each = told; areas = areas }; unopened = same.0 })
      | inr front ↦ inr (record { back = c.play_out-played.result.1; held = record { shape = c.play_out-played.ensures.shape; each = told; areas = areas }; between = front })
    ])

pub returns-in-Err-clause-ends : goal.returns-in-Err-clause-ends
returns-in-Err-clause-ends g c =
    let lent = c.play_out-played.ensures.lent ∙ c.requires.lent in
    let told = at_some _ media_names _ lent c.give_back.ensures.told in
    let areas = at_some _ media_names _ lent c.give_back.ensures.areas in
    rw (c.end_of_stop.ensures, c.give_back.ensures.output)
    (of_stop (λ why. GivesUp g.W.Area.Disk g.W.Store.Objects g.W.Store.Reader.ObjectRead g.W.Store.Writer.ObjectWrite c.args.setup.now (g.W.World.shelf c.give_back.new.self, g.W.World.areas c.give_back.new.self) why c.args.media × (g.W.World.output c.play_out-played.new.world ≡ g.W.World.output c.args.world.now)) c.in-Err.stop (λ e. c.play_out-played.ensures.never (rw e at c.in-Err.is)) (λ write memory.
    let failed = on_err c.play_out-played.result.0 _ _ c.in-Err.is c.play_out-played.ensures.unopened write memory in
    (record { back = c.play_out-played.result.1; held = record { shape = c.play_out-played.ensures.shape; each = told; areas = areas }; unopened = failed.0 }, failed.1)))

pub returns-in-Err-clause-never : goal.returns-in-Err-clause-never
returns-in-Err-clause-never g c = λ h. no_open c.in-Err.stop (λ e. c.play_out-played.ensures.never (rw e at c.in-Err.is)) (sym c.end_of_stop.ensures ∙ h)
