use Rattle.{std.proofs.Common.{ap, rules}, client_world.specs.World.{World}, interrupts.proofs.KeptWorlds.{kept_world_popped, return_state}}
use Rattle.host_memory.specs.View.{MachineView}
use Rattle.host_run.proofs.serving.pop_in_mode.Goals as goal

pub returns-clause-mode : goal.returns-clause-mode
returns-clause-mode c = ap (λ (w : World). w.mode) (kept_world_popped c.args.m.now.world c.pop_iret.new.m.world (search rules))

pub returns-clause-calls : goal.returns-clause-calls
returns-clause-calls c = ap (λ (w : World). w.calls) (kept_world_popped c.args.m.now.world c.pop_iret.new.m.world (search rules))

pub returns-clause-bytes : goal.returns-clause-bytes
returns-clause-bytes c = ap (λ (v : MachineView). v.bytes) (return_state c.args.m.now c.pop_iret.new.m (search rules))
