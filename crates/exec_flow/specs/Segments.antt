-- Segment registers loaded and stored: MOV, PUSH and POP with one of them, and LES, LDS, LSS, LFS, LGS.
-- Source: 80386 Programmer's Reference Manual, ch. 17, MOV, PUSH, POP, and LGS/LSS/LDS/LES/LFS; that MOV to a register of 32 bits clears
-- its upper half, and PUSH of 32 bits pushes zeros there, is own.
use Rattle.std.specs.Prelude.{ℕ}
use Rattle.client_world.specs.{declared.segments.SegReg.{SegReg}, Loading.{register_fault}, Registers.{low_half}, Segments.{with_selector}}
use Rattle.client_world.specs.World.{World}
use Rattle.insn_forms.specs.{declared.insn.Insn.{Insn}, declared.insn.Operand.TheVariants.{Seg}}
use Rattle.insn_plan.specs.{Act.{Act, ◌>>=◌, Pending, done, unchanged, unless_fault, with_regs}, Operands.{source, put_operand}}
use Rattle.insn_plan.specs.Stack.{with_pushed_number, stack_item, regs_after_pops}
use Rattle.exec_flow.specs.Pointers.{pointer, pointer_selector, pointer_offset}

-- a segment register loaded, with what else the instruction leaves; in real mode every word loads
unfoldable pub with_loaded_segment : World → SegReg → ℕ → Pending → Act
with_loaded_segment w seg sel p = unless_fault (register_fault w seg sel) (done (with_regs (with_selector p.regs seg sel) p))

-- MOV of a word into a segment register
unfoldable pub mov_to_segment : World → Insn → SegReg → Act
mov_to_segment w i seg = do
  v ← source w.regs i.addr32 16 i.second
  with_loaded_segment w seg (low_half v) (unchanged w)

-- MOV from a segment register, which is a word in memory and the whole of a register
unfoldable pub mov_from_segment : World → Insn → Act
mov_from_segment w i = do
  v ← source w.regs i.addr32 16 i.second
  done (put_operand w.regs i.addr32 16 i.first v (unchanged w))

-- MOV with a segment register
unfoldable pub mov_segment : World → Insn → Act
mov_segment w i = elim i.first [
  | Seg seg ↦ mov_to_segment w i seg
  | _ ↦ mov_from_segment w i
]

-- PUSH of a segment register
unfoldable pub push_segment : World → Insn → Act
push_segment w i = do
  v ← source w.regs i.addr32 i.width i.first
  done (with_pushed_number w i.width v (unchanged w))

-- POP of a segment register, the low word of an item
unfoldable pub pop_into : World → Insn → SegReg → Act
pop_into w i seg = do
  v ← stack_item w i.width 0
  with_loaded_segment w seg (low_half v) (with_regs (regs_after_pops w i.width 1 w.regs) (unchanged w))

-- that of the first operand; without one there is nothing to do
unfoldable pub pop_segment : World → Insn → Act
pop_segment w i = elim i.first [
  | Seg seg ↦ pop_into w i seg
  | _ ↦ done (unchanged w)
]

-- LES, LDS, LSS, LFS, LGS: a far pointer from memory, its selector into the segment register and its offset into the first operand
unfoldable pub load_pointer : SegReg → World → Insn → Act
load_pointer seg w i = do
  p ← pointer w i i.second
  with_loaded_segment w seg (pointer_selector i p) (put_operand w.regs i.addr32 i.width i.first (pointer_offset i p) (unchanged w))
