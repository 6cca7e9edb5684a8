use Rattle.{std.proofs.Common.{rules, ℕ, List, Ok, Err, ap, subst, sym}, client_world.specs.World.{HostWorld, World}}
use Rattle.{host_run.specs.{Windows.{HasWindow}, Turn.{turn}}, host_run.proofs.Runs.{by_exit}}
use Rattle.host_run.proofs.host.Host.turn_at.Goals as goal

pub returns-in-Ok-clause-turn : goal.returns-in-Ok-clause-turn
unfolding turn
returns-in-Ok-clause-turn c = by_exit _ _ (Ok tt) _ _ _ (search rules)

pub returns-in-Err-clause-turn : goal.returns-in-Err-clause-turn
unfolding turn
returns-in-Err-clause-turn c = by_exit _ _ (Err c.in-Err.ending) _ _ _ (search rules)

pub returns-in-Err-clause-window : goal.returns-in-Err-clause-window
returns-in-Err-clause-window c =
    let window = c.work.new.window in
    let machine = ap (λ (h : HostWorld). h.machine) c.stop.ensures.world in
    subst (λ (b : List ℕ). HasWindow (record { world = c.stop.new.self.world.machine; bytes = b }) window) (sym c.stop.ensures.bytes)
    (subst (λ (w : World). HasWindow (record { world = w; bytes = c.work.new.self.bytes }) window) (sym machine) c.work.ensures.window)
