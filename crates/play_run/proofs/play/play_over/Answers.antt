use Rattle.std.proofs.Common.{◌≡◌, true, refl, sym, arith, subst, ◌∙◌}
use Rattle.std.proofs.lemmas.Result.{err_from_is_err_and}
use Rattle.std.specs.List.{list_all}
use Rattle.script_text.specs.Commands.{is_command}
use Rattle.cluster_core.proofs.MediaStay.{areas_same, media_same, media_then}
use Rattle.play_run.specs.Play.{Tells, TellsFront, TellsPartly}
use Rattle.play_run.proofs.Runs.{all_there, begins, goes_on, in_front, next_command, partly, take_all, untold}
use Rattle.play_run.proofs.play.play_over.Goals as goal

pub loop-command-init : goal.loop-command-init
loop-command-init g c = record {
  told = begins g.D.Disk g.O.Objects g.O.Reader.ObjectRead g.O.Writer.ObjectWrite c.args.core.now _;
  media = media_same g.O.Objects (areas_same g.D.Disk {old = c.args.core.now.master} refl) refl refl;
  later = omega arith;
}

pub act-requires : goal.act-requires
act-requires g c = all_there is_command c.commands-command-items.result.now c.loop-command.command-index c.command-item.result (subst (λ cs. list_all is_command cs ≡ true) (sym c.commands-command-items.ensures) c.requires) c.loop-command-test.true c.command-item.is

pub returns-in_err-line-clause-memory : goal.returns-in_err-line-clause-memory
returns-in_err-line-clause-memory g c = λ _.
    rw (c.in_err-line.ensures.err)
    (subst (λ cs. TellsFront g.D.Disk g.O.Objects g.O.Reader.ObjectRead g.O.Writer.ObjectWrite cs c.args.core.now c.loop-command.core (g.S.Sink.taken c.args.sink.now) (g.S.Sink.taken c.loop-command.sink)) c.commands-command-items.ensures
    (in_front g.D.Disk g.O.Objects g.O.Reader.ObjectRead g.O.Writer.ObjectWrite c.commands-command-items.result.now c.loop-command.command-index c.args.core.now c.loop-command.core _ _ c.loop-command.invariant.told))

pub returns-in_err-tell-clause-write : goal.returns-in_err-tell-clause-write
returns-in_err-tell-clause-write g c = λ _.
    let items = c.commands-command-items.result.now in
    let front = next_command items c.loop-command.command-index c.command-item.result c.loop-command-test.true c.command-item.is in
    let told = c.in_err-tell.ensures.partly in
    subst (λ cs. TellsPartly g.D.Disk g.O.Objects g.O.Reader.ObjectRead g.O.Writer.ObjectWrite cs c.args.core.now c.act.new.core (g.S.Sink.taken c.args.sink.now) (g.S.Sink.taken c.tell.new.sink)) c.commands-command-items.ensures
    (partly g.D.Disk g.O.Objects g.O.Reader.ObjectRead g.O.Writer.ObjectWrite items c.loop-command.command-index c.args.core.now c.loop-command.core _ _ c.loop-command.invariant.told c.command-item.result c.in_ok-line.line c.act.new.core front c.in_ok-line.ensures.ok _ told.0 told.1)

pub returns-in_err-tell-clause-memory : goal.returns-in_err-tell-clause-memory
returns-in_err-tell-clause-memory g c = λ h.
    let items = c.commands-command-items.result.now in
    let front = next_command items c.loop-command.command-index c.command-item.result c.loop-command-test.true c.command-item.is in
    let q = err_from_is_err_and c.from_residual-in_err-tell.result c.from_residual-in_err-tell.ensures.1 in
    let k = rw (q.1, q.2) at h in
    rw (c.in_err-tell.ensures.memory k)
    (subst (λ cs. TellsFront g.D.Disk g.O.Objects g.O.Reader.ObjectRead g.O.Writer.ObjectWrite cs c.args.core.now c.act.new.core (g.S.Sink.taken c.args.sink.now) (g.S.Sink.taken c.loop-command.sink)) c.commands-command-items.ensures
    (untold g.D.Disk g.O.Objects g.O.Reader.ObjectRead g.O.Writer.ObjectWrite items c.loop-command.command-index c.args.core.now c.loop-command.core _ _ c.loop-command.invariant.told c.command-item.result c.in_ok-line.line c.act.new.core front c.in_ok-line.ensures.ok))

pub loop-command-preserved : goal.loop-command-preserved
loop-command-preserved g c =
    let items = c.commands-command-items.result.now in
    let front = next_command items c.loop-command.command-index c.command-item.result c.loop-command-test.true c.command-item.is in
    record {
      told = goes_on g.D.Disk g.O.Objects g.O.Reader.ObjectRead g.O.Writer.ObjectWrite items c.loop-command.command-index c.args.core.now c.loop-command.core _ _ c.loop-command.invariant.told c.command-item.result c.in_ok-line.line c.act.new.core front c.in_ok-line.ensures.ok _ c.in_ok-tell.ensures.ok;
      media = media_then g.O.Objects c.loop-command.invariant.media c.act.ensures.media;
      later = omega (arith, c.loop-command.invariant.later, c.in_ok-tell.ensures.later);
    }

pub returns-clause-ok : goal.returns-clause-ok
returns-clause-ok g c = subst (λ cs. Tells g.D.Disk g.O.Objects g.O.Reader.ObjectRead g.O.Writer.ObjectWrite cs c.args.core.now c.loop-command.core (g.S.Sink.taken c.args.sink.now) (g.S.Sink.taken c.loop-command.sink)) (take_all c.commands-command-items.result.now c.loop-command.command-index (λ lt. omega (arith, lt, c.loop-command-test.false)) ∙ c.commands-command-items.ensures) c.loop-command.invariant.told

pub returns-in_err-line-clause-media : goal.returns-in_err-line-clause-media
returns-in_err-line-clause-media g c = media_then g.O.Objects c.loop-command.invariant.media c.act.ensures.media

pub returns-in_err-tell-clause-media : goal.returns-in_err-tell-clause-media
returns-in_err-tell-clause-media g c = media_then g.O.Objects c.loop-command.invariant.media c.act.ensures.media
