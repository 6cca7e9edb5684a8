-- A window of code: bytes that may be fetched one after another, and that lie one after another in the memory. Source: own.
use Rattle.std.specs.Prelude.{◌≡◌, ℕ, ◌+◌, ◌*◌, ◌%◌, ◌<◌, ◌≤◌, false, nat_le, Ok}
use Rattle.client_world.specs.{declared.host_frames.TheConstants.{PAGE_SIZE}, declared.segments.SegReg.TheVariants.{Cs}, Access.{linear}}
use Rattle.client_world.specs.Access.{segment_base}
use Rattle.guest_space.specs.{declared.windows.CodeWindow.{CodeWindow}, SegmentRows.{is_big}, Transfer.{translated}}
use Rattle.host_memory.specs.View.{MachineView}

-- n bytes from an offset of the segment in CS on may be fetched, and lie in one page; the address in the memory is that of the first
pub record IsCodeRun (v : MachineView) (first n address : ℕ) : Type 0 where
  pub base : ℕ
  pub allowed : segment_base v.world.mode v.world.regs v.world.descriptors Cs first n false ≡ Ok base
  pub room : linear (base + first) % PAGE_SIZE + n ≤ PAGE_SIZE
  pub ends : translated v (linear (base + first)) false ≡ Ok address

-- the window is one of the machine's code: from each of its starts 15 bytes may be fetched, and its place says the default size of code
pub record IsWindow (v : MachineView) (w : CodeWindow) : Type 0 where
  pub cs : w.cs ≡ v.world.regs.cs
  pub places : w.place + w.starts ≤ 2 * PAGE_SIZE
  pub big : (from : ℕ) → from < w.starts → nat_le PAGE_SIZE (w.place + from) ≡ is_big v.world.mode v.world.descriptors v.world.regs.cs
  pub run : IsCodeRun v w.first (w.starts + 14) w.address
  pub start : w.linear ≡ linear (run.base + w.first)
