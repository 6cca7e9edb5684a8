use Rattle.{std.proofs.Common.{ap, subst, sym}, host_memory.specs.View.{MachineView}}
use Rattle.host_run.specs.{View.{machine_view}, Windows.{IsFound}}
use Rattle.host_run.proofs.host.Host.step_client.Goals.{step_machine-requires as goal}

pub step_machine-requires : goal
step_machine-requires c =
    subst (λ (v : MachineView). IsFound v c.args.window.now c.args.from) (sym (ap machine_view c.self.view_is)) c.requires.found
