-- The same of worlds alone: what a delivery and a return make of a world. Which bytes hold it doesn't matter. Source: own.
use Rattle.std.specs.declared.result.Result.{Result}
use Rattle.client_world.specs.{declared.faults.Fault.{Fault}, declared.outcome.Exit.{Exit}, World.{World}}
use Rattle.interrupts.specs.Worlds.{on_world}
use Rattle.fault_service.specs.{Delivery.{protected_delivery}, Return.{exception_return}}

-- the world after an exception of protected mode, or the exit
unfoldable pub world_protected_delivery : World → Fault → Result World Exit
world_protected_delivery w f = on_world (λ v. protected_delivery v f) w

-- the world after the return from the innermost exception, or the exit
unfoldable pub world_exception_return : World → Result World Exit
world_exception_return w = on_world exception_return w
