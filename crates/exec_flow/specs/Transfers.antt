-- Near transfers: Jcc, JCXZ, LOOP, LOOPE, LOOPNE, JMP, CALL, RET. EIP already points after the instruction.
-- Source: 80386 Programmer's Reference Manual, ch. 17, each under its name; that a loop whose jump faults keeps its counter is own.
use Rattle.std.specs.Prelude.{ℕ, ◌+◌, ◌-◌, ◌%◌, ◌^◌, Bool, false, not, ◌&&◌, nat_eq, if◌then◌else◌}
use Rattle.client_world.specs.{declared.registers.Regs.{Regs}, Loading.{transfer_fault}, Registers.{low_half}, World.{World}}
use Rattle.insn_forms.specs.{declared.insn.Insn.{Insn}, declared.insn.Operand.{Operand}, declared.insn.Operand.TheVariants.{Imm}}
use Rattle.insn_plan.specs.{Act.{Act, ◌>>=◌, Given, Input, Pending, done, unchanged, unless_fault, with_regs}, Conditions.{condition}}
use Rattle.insn_plan.specs.{Counter.{counter}, Operands.{source}, Registers.{cut_address, with_address}, Stack.{with_pushed_number}}
use Rattle.insn_plan.specs.Stack.{stack_item, regs_after_pops, stack_pointer_up, with_stack_pointer}

-- the target of a near transfer, before it is cut: a distance from the next instruction, or the number of an operand
unfoldable pub target : World → Insn → Operand → Input
target w i (Imm distance) = Given (w.regs.eip + distance)
target w i operand = source w.regs i.addr32 i.width operand

-- an instruction pointer at the operand size
abbrev pub at_operand_size : Insn → ℕ → ℕ
at_operand_size i ip = if nat_eq i.width 16 then low_half ip else ip % 2 ^ 32

-- the transfer itself, with what else the instruction leaves: outside the code segment's limit there is nothing but the fault
unfoldable pub near_transfer : World → Insn → ℕ → Pending → Act
near_transfer w i ip p = unless_fault (transfer_fault w w.regs.cs (at_operand_size i ip) false)
    (done (with_regs (record p.regs { eip = at_operand_size i ip }) p))

-- Jcc
unfoldable pub jcc : World → Insn → ℕ → Act
jcc w i n = do
  ip ← target w i i.first
  (if condition n w.regs.flags then near_transfer w i ip (unchanged w) else done (unchanged w))

-- JCXZ: the counter is 0
unfoldable pub jcxz : World → Insn → Act
jcxz w i = do
  ip ← target w i i.first
  (if nat_eq (counter w i) 0 then near_transfer w i ip (unchanged w) else done (unchanged w))

-- the counter less 1
abbrev pub count_down : World → Insn → ℕ
count_down w i = cut_address i.addr32 (counter w i + 2 ^ 32 - 1)

abbrev pub with_next_count : World → Insn → Pending
with_next_count w i = with_regs (record w.regs { ecx = with_address i.addr32 w.regs.ecx (count_down w i) }) (unchanged w)

-- LOOP, and LOOPE and LOOPNE with their condition: the counter goes down, and the jump is taken while it isn't 0 and the condition holds
unfoldable pub loop_while : Bool → World → Insn → Act
loop_while holds w i = do
  ip ← target w i i.first
  (if holds && not (nat_eq (count_down w i) 0) then near_transfer w i ip (with_next_count w i) else done (with_next_count w i))

-- JMP
unfoldable pub jmp : World → Insn → Act
jmp w i = do
  ip ← target w i i.first
  near_transfer w i ip (unchanged w)

-- CALL: the address of the next instruction is pushed
unfoldable pub call : World → Insn → Act
call w i = do
  ip ← target w i i.first
  near_transfer w i ip (with_pushed_number w i.width w.regs.eip (unchanged w))

-- the number of an immediate; another operand has none, which is 0
abbrev pub immediate : Operand → ℕ
immediate (Imm v) = v
immediate _ = 0

-- the registers with n bytes more dropped from the stack
abbrev pub regs_after_drop : World → ℕ → Regs → Regs
regs_after_drop w n r = with_stack_pointer w (stack_pointer_up w n r) r

-- RET: the instruction pointer is popped, and then the bytes of the operand are dropped
unfoldable pub ret : World → Insn → Act
ret w i = do
  ip ← stack_item w i.width 0
  near_transfer w i ip (with_regs (regs_after_drop w (immediate i.first) (regs_after_pops w i.width 1 w.regs)) (unchanged w))
