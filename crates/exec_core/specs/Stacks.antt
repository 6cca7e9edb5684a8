-- PUSH and POP of general registers and memory, PUSHA and POPA.
-- Source: 80386 Programmer's Reference Manual, ch. 17, PUSH, POP, PUSHA, POPA; that POPA doesn't read the slot which it passes over is own.
use Rattle.std.specs.Prelude.{ℕ}
use Rattle.client_world.specs.World.{World}
use Rattle.insn_forms.specs.declared.insn.Insn.{Insn}
use Rattle.insn_plan.specs.{Act.{Act, ◌>>=◌, Pending, done, unchanged, with_regs}, Operands.{source, put_operand}, Registers.{register}}
use Rattle.insn_plan.specs.{Registers.{with_register}, Stack.{with_pushed_number, stack_item, regs_after_pops}}

-- PUSH: the operand's value, (E)SP's from before
unfoldable pub push : World → Insn → Act
push w i = do
  v ← source w.regs i.addr32 i.width i.first
  done (with_pushed_number w i.width v (unchanged w))

-- POP: the address of a destination in memory is taken after the stack pointer went up
unfoldable pub pop : World → Insn → Act
pop w i = do
  v ← stack_item w i.width 0
  let r = regs_after_pops w i.width 1 w.regs
  done (put_operand r i.addr32 i.width i.first v (with_regs r (unchanged w)))

-- a general register pushed, with the value from before
abbrev pub with_pushed_register : World → ℕ → ℕ → Pending → Pending
with_pushed_register w width n p = with_pushed_number w width (register w.regs width n) p

-- PUSHA: (E)AX first, (E)DI last
unfoldable pub pusha : World → Insn → Act
pusha w i = done
    (with_pushed_register w i.width 7 (with_pushed_register w i.width 6 (with_pushed_register w i.width 5 (with_pushed_register w i.width 4
    (with_pushed_register w i.width 3 (with_pushed_register w i.width 2 (with_pushed_register w i.width 1 (with_pushed_register w i.width 0
    (unchanged w)))))))))

-- POPA: (E)DI first, (E)AX last; the item of (E)SP is passed over
unfoldable pub popa : World → Insn → Act
popa w i = do
  di ← stack_item w i.width 0
  si ← stack_item w i.width 1
  bp ← stack_item w i.width 2
  bx ← stack_item w i.width 4
  dx ← stack_item w i.width 5
  cx ← stack_item w i.width 6
  ax ← stack_item w i.width 7
  done (with_regs
      (with_register (with_register (with_register (with_register (with_register (with_register (with_register
      (regs_after_pops w i.width 8 w.regs)
      i.width 7 di) i.width 6 si) i.width 5 bp) i.width 3 bx) i.width 2 dx) i.width 1 cx) i.width 0 ax)
      (unchanged w))
