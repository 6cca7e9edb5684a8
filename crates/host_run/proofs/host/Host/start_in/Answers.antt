use Rattle.{std.proofs.Common.{◌∙◌, ap, arith}, client_world.specs.declared.registers.Regs.{Regs}}
use Rattle.host_run.specs.View.{HostView, machine_view}
use Rattle.host_run.proofs.{WindowStarts.{start_found}, host.Host.start_in.Goals.{returns-then-from-window as goal}}

pub returns-then-from-window : goal
returns-then-from-window c =
    let regs = c.registers.ensures ∙ ap (λ (h : HostView). h.world.machine.regs) c.self.view_is in
    let eip = ap (λ (r : Regs). r.eip) regs in
    start_found (machine_view c.args.self.now) c.args.window.now _ c.requires (omega (arith, eip), c.if-from-window.true)
