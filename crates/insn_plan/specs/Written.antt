-- One write, made or refused. Source: own.
use Rattle.std.specs.Prelude.{◌≡◌, [], ◌∷◌, None, Some}
use Rattle.client_world.specs.{declared.faults.Event.{Event}, declared.faults.Event.TheVariants.{Fault as fault}}
use Rattle.client_world.specs.declared.faults.Fault.{Fault}
use Rattle.guest_space.specs.{declared.pending.Write.{Write}, Pending.{first_write_fault, after_writes}}
use Rattle.host_memory.specs.View.{MachineView}

-- it is made, and the registers and the virtual interrupt flag are as before
pub record IsWritten (x : Write) (old new : MachineView) : Type 0 where
  pub allowed : first_write_fault old.world (x ∷ []) ≡ None
  pub is : new ≡ after_writes old (x ∷ [])
  pub regs : new.world.regs ≡ old.world.regs
  pub vif : new.world.vif ≡ old.world.vif

-- it has a fault, and nothing is changed
pub record IsRefused (x : Write) (old new : MachineView) (e : Event) : Type 0 where
  pub cause : Fault
  pub found : first_write_fault old.world (x ∷ []) ≡ Some cause
  pub event : e ≡ fault cause
  pub kept : new ≡ old
