use Rattle.std.proofs.Common.{◌≡◌, true, ℕ, ◌<◌, ◌&&◌, sym, ap, ◌∙◌, subst, arith}
use Rattle.std.specs.Prelude.{nat_le}
use Rattle.std.proofs.lemmas.Bool.{and_parts}
use Rattle.fs_model.specs.Built.{is_built}
use Rattle.fs_model.specs.PathForm.{is_label, is_path}
use Rattle.fs_model.specs.Spelled.{is_spelled, is_some_worker}
use Rattle.fs_model.specs.declared.event.Event.{Event}
use Rattle.fs_model.specs.declared.event.ReadType.{ReadType}
use Rattle.fs_model.specs.declared.event.WriteType.{WriteType}
use Rattle.fs_model.specs.declared.label.Label.{Label}
use Rattle.fs_model.specs.declared.path.Path.{Path}
use Rattle.cluster_core.specs.Causes.{IsCaused}
use Rattle.cluster_core.specs.Crashes.{Crashes}
use Rattle.cluster_core.specs.Goes.{Steps}
use Rattle.cluster_core.proofs.Crashed.{rests_same}
use Rattle.cluster_core.proofs.step.Core+D+O+O+Reader+O+Writer.step.Goals as goal

-- a file that the program can make is made at a worker
at_worker : (l : Label) (p : Path) (kind : WriteType) (w : ℕ) → is_built (Event.Create l p kind w) ≡ true → is_spelled (Event.Create l p kind w) ≡ true → 0 < w
at_worker l p WriteType.MustCache w built spelled =
    let some = and_parts (is_label l && is_path p) (is_some_worker w) spelled in
    let least : nat_le 1 w ≡ true = (and_parts (nat_le 1 w) (nat_le w 1000) some.1).0 in
    grind (arith, least)
at_worker l p kind w built spelled = absurd (cc)

pub create-requires-clause-some : goal.create-requires-clause-some
create-requires-clause-some g c =
    let made = c.in-Create-default-default-MustCache-default in
    at_worker made.label made.path made.kind made.worker (subst (λ e. is_built e ≡ true) made.is c.requires.built) (subst (λ e. is_spelled e ≡ true) made.is c.requires.spelled)

pub returns-in-Create-default-default-MustCache-default-clause-steps : goal.returns-in-Create-default-default-MustCache-default-clause-steps
returns-in-Create-default-default-MustCache-default-clause-steps g c =
    let made = c.in-Create-default-default-MustCache-default in
    let kind : made.kind ≡ WriteType.MustCache = rw made.is at made.kind-is in
    let event : c.args.event.now ≡ Event.Create made.label made.path WriteType.MustCache made.worker = made.is ∙ ap (λ k. Event.Create made.label made.path k made.worker) kind in
    subst (λ e. Steps g.D.Disk g.O.Objects g.O.Reader.ObjectRead g.O.Writer.ObjectWrite c.args.self.now c.create.new.self c.args.actor e c.create.result) (sym event) c.create.ensures.steps

pub returns-in-Room-clause-steps : goal.returns-in-Room-clause-steps
returns-in-Room-clause-steps g c = subst (λ e. Steps g.D.Disk g.O.Objects g.O.Reader.ObjectRead g.O.Writer.ObjectWrite c.args.self.now c.room.new.self c.args.actor e c.room.result) (sym c.in-Room.is) c.room.ensures.steps

pub returns-in-Put-clause-steps : goal.returns-in-Put-clause-steps
returns-in-Put-clause-steps g c = subst (λ e. Steps g.D.Disk g.O.Objects g.O.Reader.ObjectRead g.O.Writer.ObjectWrite c.args.self.now c.put.new.self c.args.actor e c.put.result) (sym c.in-Put.is) c.put.ensures.steps

pub returns-in-Put-clause-cause : goal.returns-in-Put-clause-cause
returns-in-Put-clause-cause g c = subst (λ e. IsCaused g.D.Disk g.O.Objects g.O.Reader.ObjectRead g.O.Writer.ObjectWrite c.args.self.now c.put.new.self c.args.actor e c.put.result) (sym c.in-Put.is) c.put.ensures.cause

pub returns-in-Finish-clause-steps : goal.returns-in-Finish-clause-steps
returns-in-Finish-clause-steps g c = subst (λ e. Steps g.D.Disk g.O.Objects g.O.Reader.ObjectRead g.O.Writer.ObjectWrite c.args.self.now c.finish.new.self c.args.actor e c.finish.result) (sym c.in-Finish.is) c.finish.ensures.steps

pub returns-in-OpenFile-default-default-NoCache-default-clause-steps : goal.returns-in-OpenFile-default-default-NoCache-default-clause-steps
returns-in-OpenFile-default-default-NoCache-default-clause-steps g c =
    let opened = c.in-OpenFile-default-default-NoCache-default in
    let kind : opened.kind ≡ ReadType.NoCache = rw opened.is at opened.kind-is in
    let event : c.args.event.now ≡ Event.OpenFile opened.label opened.path ReadType.NoCache opened.worker = opened.is ∙ ap (λ k. Event.OpenFile opened.label opened.path k opened.worker) kind in
    subst (λ e. Steps g.D.Disk g.O.Objects g.O.Reader.ObjectRead g.O.Writer.ObjectWrite c.args.self.now c.open_file.new.self c.args.actor e c.open_file.result) (sym event) c.open_file.ensures.steps

pub returns-in-Next-clause-steps : goal.returns-in-Next-clause-steps
returns-in-Next-clause-steps g c = subst (λ e. Steps g.D.Disk g.O.Objects g.O.Reader.ObjectRead g.O.Writer.ObjectWrite c.args.self.now c.next.new.self c.args.actor e c.next.result) (sym c.in-Next.is) c.next.ensures.steps

pub returns-in-Poll-clause-steps : goal.returns-in-Poll-clause-steps
returns-in-Poll-clause-steps g c = subst (λ e. Steps g.D.Disk g.O.Objects g.O.Reader.ObjectRead g.O.Writer.ObjectWrite c.args.self.now c.poll.new.self c.args.actor e c.poll.result) (sym c.in-Poll.is) c.poll.ensures.steps

pub returns-in-Poll-clause-cause : goal.returns-in-Poll-clause-cause
returns-in-Poll-clause-cause g c = subst (λ e. IsCaused g.D.Disk g.O.Objects g.O.Reader.ObjectRead g.O.Writer.ObjectWrite c.args.self.now c.poll.new.self c.args.actor e c.poll.result) (sym c.in-Poll.is) c.poll.ensures.cause

pub returns-in-Room-clause-crash : goal.returns-in-Room-clause-crash
returns-in-Room-clause-crash g c = subst (λ e. Crashes g.D.Disk c.args.self.now c.room.new.self c.args.actor e c.room.result) (sym c.in-Room.is) (rests_same g.D.Disk c.room.ensures.kept)

pub returns-in-Put-clause-crash : goal.returns-in-Put-clause-crash
returns-in-Put-clause-crash g c = subst (λ e. Crashes g.D.Disk c.args.self.now c.put.new.self c.args.actor e c.put.result) (sym c.in-Put.is) (rests_same g.D.Disk c.put.ensures.kept)

pub returns-in-Next-clause-crash : goal.returns-in-Next-clause-crash
returns-in-Next-clause-crash g c = subst (λ e. Crashes g.D.Disk c.args.self.now c.next.new.self c.args.actor e c.next.result) (sym c.in-Next.is) (rests_same g.D.Disk c.next.ensures.kept)

pub returns-in-Poll-clause-crash : goal.returns-in-Poll-clause-crash
returns-in-Poll-clause-crash g c = subst (λ e. Crashes g.D.Disk c.args.self.now c.poll.new.self c.args.actor e c.poll.result) (sym c.in-Poll.is) (rests_same g.D.Disk c.poll.ensures.kept)

pub returns-in-Close-clause-crash : goal.returns-in-Close-clause-crash
returns-in-Close-clause-crash g c = subst (λ e. Crashes g.D.Disk c.args.self.now c.close_label.new.self c.args.actor e c.close_label.result) (sym c.in-Close.is) (rests_same g.D.Disk c.close_label.ensures.kept)

pub returns-in-OpenFile-default-default-NoCache-default-clause-crash : goal.returns-in-OpenFile-default-default-NoCache-default-clause-crash
returns-in-OpenFile-default-default-NoCache-default-clause-crash g c = subst (λ e. Crashes g.D.Disk c.args.self.now c.open_file.new.self c.args.actor e c.open_file.result) (sym c.in-OpenFile-default-default-NoCache-default.is) (rests_same g.D.Disk c.open_file.ensures.kept)

pub returns-in-Mkdir-clause-steps : goal.returns-in-Mkdir-clause-steps
returns-in-Mkdir-clause-steps g c = subst (λ e. Steps g.D.Disk g.O.Objects g.O.Reader.ObjectRead g.O.Writer.ObjectWrite c.args.self.now c.mkdir.new.self c.args.actor e c.mkdir.result) (sym c.in-Mkdir.is) c.mkdir.ensures.steps

pub returns-in-Checkpoint-clause-steps : goal.returns-in-Checkpoint-clause-steps
returns-in-Checkpoint-clause-steps g c = subst (λ e. Steps g.D.Disk g.O.Objects g.O.Reader.ObjectRead g.O.Writer.ObjectWrite c.args.self.now c.checkpoint.new.self c.args.actor e c.checkpoint.result) (sym c.in-Checkpoint.is) c.checkpoint.ensures.steps

pub returns-in-Close-clause-steps : goal.returns-in-Close-clause-steps
returns-in-Close-clause-steps g c = subst (λ e. Steps g.D.Disk g.O.Objects g.O.Reader.ObjectRead g.O.Writer.ObjectWrite c.args.self.now c.close_label.new.self c.args.actor e c.close_label.result) (sym c.in-Close.is) c.close_label.ensures.steps

pub returns-in-Fuse-clause-steps : goal.returns-in-Fuse-clause-steps
returns-in-Fuse-clause-steps g c = subst (λ e. Steps g.D.Disk g.O.Objects g.O.Reader.ObjectRead g.O.Writer.ObjectWrite c.args.self.now c.set_fuse.new.self c.args.actor e c.set_fuse.result) (sym c.in-Fuse.is) c.set_fuse.ensures.steps
