-- The frame of a far call popped at a trap. Source: 80386 Programmer's Reference Manual, ch. 17, RET; DPMI 0.9, INT 2Fh function 1687h;
-- that a frame which can't be popped ends the client is own.
use Rattle.std.specs.declared.result.Result.{Result}
use Rattle.client_world.specs.{declared.outcome.Exit.{Exit}, World.{World}}
use Rattle.exec_flow.specs.{FarTransfers.{far_frame_pop}, Interrupts.{frame_bits}}
use Rattle.host_memory.specs.View.{MachineView}
use Rattle.insn_plan.specs.Plan.{plan_result, after_plan}
use Rattle.interrupts.specs.{Delivery.{result_of_pop}, Worlds.{on_world}}

-- the machine after two items at the stack's top are popped as a far return pops them, of 16 bits in real mode and of the client's width in
-- protected mode; or the exit
unfoldable pub after_far_return : MachineView → Result MachineView Exit
after_far_return v = result_of_pop (after_plan v (plan_result v.world (far_frame_pop v.world (frame_bits v.world) 0)))

-- the same of the world alone
unfoldable pub world_after_far_return : World → Result World Exit
world_after_far_return w = on_world after_far_return w
