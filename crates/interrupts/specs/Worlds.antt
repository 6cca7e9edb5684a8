-- The same of worlds alone: what a step, an interrupt, an exception and a return make of a world. Which bytes hold it doesn't matter.
-- Source: own.
use Rattle.std.specs.{Prelude.{◌≡◌, ℕ, [], Ok, Err}, declared.result.Result.{Result}}
use Rattle.client_world.specs.{declared.faults.Event.{Event}, declared.faults.Fault.{Fault}, declared.outcome.Exit.{Exit}, World.{World}}
use Rattle.cpu_step.specs.Step.{client_step}
use Rattle.host_memory.specs.View.{MachineView}
use Rattle.insn_plan.specs.Plan.{with_state}
use Rattle.interrupts.specs.Delivery.{after_iret, real_delivery, software_interrupt}

-- the world of an answer
abbrev pub world_of_result : {E : Type 0} → Result MachineView E → Result World E
world_of_result (Ok v) = Ok v.world
world_of_result (Err e) = Err e

-- a world with no bytes
abbrev pub view_without_bytes : World → MachineView
view_without_bytes w = record { world = w; bytes = [] }

-- what a function makes of a world
abbrev pub on_world : {E : Type 0} → (MachineView → Result MachineView E) → World → Result World E
on_world f w = world_of_result (f (view_without_bytes w))

-- the world after the client's next instruction, or its event
unfoldable pub world_step : World → Result World Event
world_step w = on_world client_step w

-- the world after a software interrupt, or its fault
unfoldable pub world_interrupt : World → ℕ → ℕ → Result World Fault
world_interrupt w n len = on_world (λ v. software_interrupt v n len) w

-- the world after an exception of real mode, or the exit
unfoldable pub world_delivery : World → Fault → Result World Exit
world_delivery w f = on_world (λ v. real_delivery v f) w

-- the world after the frame at the stack's top is popped, or the exit
unfoldable pub world_after_iret : World → Result World Exit
world_after_iret w = on_world after_iret w

-- the machine differs at most in its registers and its virtual interrupt flag: its memory is the same, and so are its bytes
abbrev pub HasOtherState : MachineView → MachineView → Type 0
HasOtherState v u = u ≡ with_state u.world.regs u.world.vif v

-- the world differs at most in its registers and its virtual interrupt flag
abbrev pub HasOtherRegisters : World → World → Type 0
HasOtherRegisters w u = u ≡ record w { regs = u.regs; vif = u.vif }

-- or in its memory besides: the megabyte and the memory blocks
abbrev pub HasOtherRegistersAndMemory : World → World → Type 0
HasOtherRegistersAndMemory w u = u ≡ record w { regs = u.regs; vif = u.vif; dos = u.dos; blocks = u.blocks }
