use Rattle.{std.proofs.Common.{arith, ◌∙◌, ap, refl}, client_world.specs.World.{HostWorld}, watch_run.proofs.TurnParts.{no_window}}
use Rattle.dpmi_calls.proofs.{Starts.{started}, run.ClientRun.new.Goals.{returns-clause-run as goal}}

pub returns-clause-run : goal
returns-clause-run c = record {
  timer = c.timer_of.ensures.every ∙ c.timer_given.ensures;
  world = started c.args.client _ _ (c.timer_of.ensures.new _) c.new.ensures c.requires.host;
  window = no_window _ _ _ refl;
  steps = let none = ap (λ (h : HostWorld). h.steps) c.requires.host in omega (arith, none);
}
