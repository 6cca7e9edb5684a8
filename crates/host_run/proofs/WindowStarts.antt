-- Windows of code: their starts.
use Rattle.std.proofs.Common.{◌≡◌, ℕ, ◌+◌, ◌<◌, arith}
use Rattle.guest_space.specs.declared.windows.CodeWindow.{CodeWindow}
use Rattle.host_memory.specs.View.{MachineView}
use Rattle.host_run.specs.Windows.{HasWindow, IsStart, IsTrapFree}

pub no_starts : (v : MachineView) (w : CodeWindow) → w.starts ≡ 0 → HasWindow v w
no_starts v w none some = absurd (omega arith)

pub start_found : (v : MachineView) (w : CodeWindow) (from : ℕ) → HasWindow v w → (w.first + from ≡ v.world.regs.eip) × (from < w.starts) →
    IsTrapFree v w × IsStart v.world w from
start_found v w from has place = (has (omega (arith, place.1)), place)
