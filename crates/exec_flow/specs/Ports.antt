-- Ports: there are none. IN reads ones, and OUT does nothing.
-- Source: 80386 Programmer's Reference Manual, ch. 17, IN and OUT; that no port answers is own.
use Rattle.std.specs.Prelude.{◌-◌, ◌^◌}
use Rattle.client_world.specs.World.{World}
use Rattle.insn_forms.specs.declared.insn.Insn.{Insn}
use Rattle.insn_plan.specs.{Act.{Act, done, unchanged}, Operands.{put_operand}}

-- IN: the accumulator becomes all ones
unfoldable pub input : World → Insn → Act
input w i = done (put_operand w.regs i.addr32 i.width i.first (2 ^ i.width - 1) (unchanged w))

-- OUT
unfoldable pub output : World → Act
output w = done (unchanged w)
