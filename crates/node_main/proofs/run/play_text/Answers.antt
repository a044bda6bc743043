use Rattle.std.proofs.Common.{◌≡◌, Ok, ap, ◌∙◌, sym, inl, inr}
use Rattle.script_text.specs.ScriptText.{read_script}
use Rattle.node_main.proofs.Playing.{no_line, of_script, so_for}
use Rattle.node_main.proofs.run.play_text.Goals as goal

pub returns-in-Ok-clause-done : goal.returns-in-Ok-clause-done
returns-in-Ok-clause-done g c = λ h. so_for g.W.Area.Disk g.W.Store.Objects g.W.Store.Reader.ObjectRead g.W.Store.Writer.ObjectWrite (g.W.World.shelf c.args.world.now, g.W.World.areas c.args.world.now) (g.W.World.shelf c.play_script.new.world, g.W.World.areas c.play_script.new.world) _ _ (λ commands. read_script c.args.text.now ≡ Ok commands) (λ commands e. c.in-Ok.ensures.exact ∙ ap Ok (sym e)) (c.play_script.ensures.done h)

pub returns-in-Ok-clause-partly : goal.returns-in-Ok-clause-partly
returns-in-Ok-clause-partly g c = λ h. so_for g.W.Area.Disk g.W.Store.Objects g.W.Store.Reader.ObjectRead g.W.Store.Writer.ObjectWrite (g.W.World.shelf c.args.world.now, g.W.World.areas c.args.world.now) (g.W.World.shelf c.play_script.new.world, g.W.World.areas c.play_script.new.world) _ _ (λ commands. read_script c.args.text.now ≡ Ok commands) (λ commands e. c.in-Ok.ensures.exact ∙ ap Ok (sym e)) (c.play_script.ensures.partly h)

pub returns-in-Ok-clause-memory : goal.returns-in-Ok-clause-memory
returns-in-Ok-clause-memory g c = λ h. elim (c.play_script.ensures.memory h) [
  | inl nothing ↦ inl nothing
  | inr front ↦ inr (so_for g.W.Area.Disk g.W.Store.Objects g.W.Store.Reader.ObjectRead g.W.Store.Writer.ObjectWrite (g.W.World.shelf c.args.world.now, g.W.World.areas c.args.world.now) (g.W.World.shelf c.play_script.new.world, g.W.World.areas c.play_script.new.world) _ _ (λ commands. read_script c.args.text.now ≡ Ok commands) (λ commands e. c.in-Ok.ensures.exact ∙ ap Ok (sym e)) front)
]

pub returns-in-Ok-clause-bad : goal.returns-in-Ok-clause-bad
returns-in-Ok-clause-bad g c = λ line h. absurd (no_line _ line c.play_script.result c.play_script.ensures.ends h)

pub returns-in-Ok-clause-due : goal.returns-in-Ok-clause-due
returns-in-Ok-clause-due g c = of_script _ (read_script c.args.text.now) _ c.in-Ok.ensures.exact c.play_script.result c.play_script.ensures.ends
