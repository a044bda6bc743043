use Rattle.std.proofs.Common.{sym, inr}
use Rattle.play_run.proofs.Runs.{if_ok, no_other}
use Rattle.play_run.proofs.Shapes.{as_many}
use Rattle.play_run.proofs.play.play.Goals as goal

pub returns-in-Ok-clause-ok : goal.returns-in-Ok-clause-ok
returns-in-Ok-clause-ok g c = if_ok c.play_over-played.result _ _ (λ told. record {
  first = c.in-Ok.core;
  last = c.play_over-played.new.core;
  opened = record { has = record { stores = c.in-Ok.ensures.stores; tiers = c.in-Ok.ensures.tiers }; over = c.in-Ok.ensures.over; kept = c.in-Ok.ensures.kept };
  stands = c.in-Ok.ensures.stands;
  steady = c.in-Ok.ensures.steady;
  closed = record { has = record { stores = sym c.close.ensures.stores; tiers = sym c.close.ensures.tiers }; areas = c.close.ensures.areas };
  holds = told;
}) c.play_over-played.ensures.ok

pub returns-in-Ok-clause-write : goal.returns-in-Ok-clause-write
returns-in-Ok-clause-write g c = λ h. record {
  first = c.in-Ok.core;
  last = c.play_over-played.new.core;
  opened = record { has = record { stores = c.in-Ok.ensures.stores; tiers = c.in-Ok.ensures.tiers }; over = c.in-Ok.ensures.over; kept = c.in-Ok.ensures.kept };
  stands = c.in-Ok.ensures.stands;
  steady = c.in-Ok.ensures.steady;
  closed = record { has = record { stores = sym c.close.ensures.stores; tiers = sym c.close.ensures.tiers }; areas = c.close.ensures.areas };
  holds = c.play_over-played.ensures.write h;
}

pub returns-in-Ok-clause-memory : goal.returns-in-Ok-clause-memory
returns-in-Ok-clause-memory g c = λ h. inr (record {
  first = c.in-Ok.core;
  last = c.play_over-played.new.core;
  opened = record { has = record { stores = c.in-Ok.ensures.stores; tiers = c.in-Ok.ensures.tiers }; over = c.in-Ok.ensures.over; kept = c.in-Ok.ensures.kept };
  stands = c.in-Ok.ensures.stands;
  steady = c.in-Ok.ensures.steady;
  closed = record { has = record { stores = sym c.close.ensures.stores; tiers = sym c.close.ensures.tiers }; areas = c.close.ensures.areas };
  holds = c.play_over-played.ensures.memory h;
})

pub returns-in-Ok-clause-unopened : goal.returns-in-Ok-clause-unopened
returns-in-Ok-clause-unopened g c = no_other c.play_over-played.result _ c.play_over-played.ensures.ends

pub returns-in-Ok-clause-tiers : goal.returns-in-Ok-clause-tiers
returns-in-Ok-clause-tiers g c = as_many g.O.Objects c.args.media.tiers.items c.close.result.tiers.items c.in-Ok.core.workers.items c.play_over-played.new.core.workers.items c.play_over-played.ensures.media.workers c.in-Ok.ensures.tiers c.close.ensures.tiers
