-- A window of the client's code, in which turns find one instruction after another. Source: own.
use Rattle.std.specs.{Prelude.{◌≡◌, ◌⊎◌, ℕ, ◌+◌, ◌<◌, ◌≤◌, None, Some}, declared.option.Option.{Option}}
use Rattle.client_world.specs.{declared.memory_map.TheConstants.{DOS_SIZE, ROM_START}, World.{World}}
use Rattle.guest_space.specs.{declared.windows.CodeWindow.{CodeWindow}, Windows.{IsWindow}}
use Rattle.host_memory.specs.View.{MachineView}

-- an address outside read-only memory, where all trap bytes are
abbrev pub IsOutside : ℕ → Type 0
IsOutside at = (at < ROM_START) ⊎ (DOS_SIZE ≤ at)

-- the window is one of the machine's code, and has no trap
abbrev pub IsTrapFree : MachineView → CodeWindow → Type 0
IsTrapFree v w = IsWindow v w × IsOutside w.linear

-- the window has no starts, or it is one of the machine's code and has no trap
abbrev pub HasWindow : MachineView → CodeWindow → Type 0
HasWindow v w = 0 < w.starts → IsTrapFree v w

-- EIP is that start of the window
abbrev pub IsStart : World → CodeWindow → ℕ → Type 0
IsStart machine w from = (w.first + from ≡ machine.regs.eip) × (from < w.starts)

-- CS:EIP is that start of a window without traps; or none was found, and the window has no starts
abbrev pub IsFound : MachineView → CodeWindow → Option ℕ → Type 0
IsFound v w (Some from) = IsTrapFree v w × IsStart v.world w from
IsFound v w None = w.starts ≡ 0
