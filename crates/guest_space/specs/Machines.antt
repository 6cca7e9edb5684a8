-- A view whose bytes hold its world, as those of every machine do. Source: own.
use Rattle.std.specs.{Prelude.{◌≡◌, ℕ, Bool, List}, declared.option.Option.{Option}}
use Rattle.client_world.specs.{declared.registers.Mode.{Mode}, declared.registers.Regs.{Regs}, declared.registers.Width.{Width}}
use Rattle.client_world.specs.{Soundness.{IsSound}, World.{World}}
use Rattle.host_memory.specs.{Holds.{Holds}, Layout.{world_of}, View.{MachineView}}

-- what a machine has beside its memory
pub record Processor : Type 0 where
  pub budget : ℕ
  pub mode : Mode
  pub regs : Regs
  pub vif : Bool
  pub width : Option Width

-- the world that the memory holds for it
abbrev pub held_world : Processor → List ℕ → World
held_world k b = world_of b k.budget k.mode k.regs k.vif k.width

-- the bytes of the view hold its world, which is sound
pub record IsMachine (k : Processor) (v : MachineView) : Type 0 where
  pub holds : Holds v.bytes k.budget
  pub is : v.world ≡ held_world k v.bytes
  pub sound : IsSound v.world

-- it is one of some machine
pub record HoldsItsWorld (v : MachineView) : Type 0 where
  pub processor : Processor
  pub machine : IsMachine processor v
