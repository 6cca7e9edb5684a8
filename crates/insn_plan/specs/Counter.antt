-- The counter of strings and loops.
-- Source: 80386 Programmer's Reference Manual, ch. 17, LOOP and REP.
use Rattle.std.specs.Prelude.{ℕ}
use Rattle.client_world.specs.World.{World}
use Rattle.insn_forms.specs.declared.insn.Insn.{Insn}
use Rattle.insn_plan.specs.Registers.{cut_address}

-- the counter: CX or ECX by address size
abbrev pub counter : World → Insn → ℕ
counter w i = cut_address i.addr32 w.regs.ecx
