-- An exception in either mode. Source: own.
use Rattle.std.specs.declared.result.Result.{Result}
use Rattle.client_world.specs.{declared.faults.Fault.{Fault}, declared.outcome.Exit.{Exit}, declared.registers.Mode.{Mode}}
use Rattle.client_world.specs.{declared.registers.Mode.TheVariants.{Real, Protected}, World.{World}}
use Rattle.interrupts.specs.{Delivery.{real_delivery}, Worlds.{world_delivery}}
use Rattle.host_memory.specs.View.{MachineView}
use Rattle.fault_service.specs.{Delivery.{protected_delivery}, Worlds.{world_protected_delivery}}

-- the machine after an exception, or the exit
unfoldable pub delivery : MachineView → Fault → Result MachineView Exit
delivery v f = elim v.world.mode [ Real ↦ real_delivery v f | Protected ↦ protected_delivery v f ]

-- the same of the world alone
abbrev pub world_delivery_in : Mode → World → Fault → Result World Exit
world_delivery_in Real w f = world_delivery w f
world_delivery_in Protected w f = world_protected_delivery w f
