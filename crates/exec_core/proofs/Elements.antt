-- What an element of a string does to the registers.
use Rattle.std.proofs.Common.{◌≡◌, ℕ, ◌+◌, ◌-◌, ◌<◌, ◌^◌, Bool, true, false, arith, nat_eq}
use Rattle.exec_core.specs.Strings.{repeated, with_source_next, with_destination_next}
use Rattle.guest_space.specs.Registers.{with_registers}
use Rattle.host_memory.specs.View.{MachineView}
use Rattle.insn_forms.specs.declared.insn.Insn.{Insn}
use Rattle.insn_plan.specs.Registers.{cut_address}

-- a counter that isn't 0, one less: 0 where it was 1
pub counted : (addr32 : Bool) (ecx : ℕ) → ecx < 2 ^ 32 → nat_eq (cut_address addr32 ecx) 0 ≡ false →
    let left = cut_address addr32 (ecx + 0xFFFFFFFF) in
    (left ≡ cut_address addr32 ecx - 1) × (nat_eq left 0 ≡ nat_eq (cut_address addr32 ecx) 1)
counted true ecx fits some = (grind arith, grind arith)
counted false ecx fits some = (grind arith, grind arith)

-- counting between the two moves gives the same registers
pub counted_between : (v0 v1 v2 v3 : MachineView) (i : Insn) (len : ℕ) (goes_on : Bool) →
    v1 ≡ with_registers (with_source_next v0.world i v0.world.regs) v0 →
    v2 ≡ with_registers (repeated v1.world i len goes_on v1.world.regs) v1 →
    v3 ≡ with_registers (with_destination_next v2.world i v2.world.regs) v2 →
    v3 ≡ with_registers (repeated v0.world i len goes_on (with_source_next v0.world i (with_destination_next v0.world i v0.world.regs))) v0
counted_between v0 v1 v2 v3 i len goes_on source count destination = grind arith
