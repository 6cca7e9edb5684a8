-- Several writes whose bytes lie in one page, and their addresses in the memory. Source: own.
use Rattle.std.specs.Prelude.{◌≡◌, ℕ, ◌+◌, ◌%◌, ◌≤◌, true, List, All, Ok}
use Rattle.client_world.specs.{declared.host_frames.TheConstants.{PAGE_SIZE}, declared.segments.SegReg.{SegReg}, Access.{linear}}
use Rattle.client_world.specs.Access.{segment_base}
use Rattle.host_memory.specs.View.{MachineView}
use Rattle.guest_space.specs.{declared.pending.Write.{Write}, Pending.{byte_count}, Transfer.{translated}}

-- a write is made through that segment register, and its bytes lie from one offset up to another
abbrev pub LiesIn : SegReg → ℕ → ℕ → Write → Type 0
LiesIn seg low high x = (x.seg ≡ seg) × (low ≤ x.off) × (x.off + byte_count x.width ≤ high)

-- n bytes at an offset of a segment register may be written and lie in one page; the address in the memory is that of the first
pub record IsRun (v : MachineView) (seg : SegReg) (offset n address : ℕ) : Type 0 where
  pub base : ℕ
  pub allowed : segment_base v.world.mode v.world.regs v.world.descriptors seg offset n true ≡ Ok base
  pub room : linear (base + offset) % PAGE_SIZE + n ≤ PAGE_SIZE
  pub ends : translated v (linear (base + offset)) true ≡ Ok address

-- the bytes of each of some writes are such a run, whose address is the write's offset plus a shift, modulo 2^32
abbrev pub AreRuns : MachineView → ℕ → List Write → Type 0
AreRuns v shift writes = All (λ (x : Write). IsRun v x.seg x.off (byte_count x.width) (linear (x.off + shift))) writes
