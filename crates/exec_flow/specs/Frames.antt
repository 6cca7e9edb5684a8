-- Stack frames of procedures, and array bounds: ENTER, LEAVE, BOUND.
-- Source: 80386 Programmer's Reference Manual, ch. 17, ENTER, LEAVE, BOUND; that ENTER reads all saved frame pointers before it writes,
-- and that BOUND's pair is one access and its upper bound a plain comparison, are own.
use Rattle.std.specs.Prelude.{ℕ, zero, suc, ◌+◌, ◌-◌, ◌*◌, ◌/◌, ◌%◌, ◌^◌, Bool, ◌||◌, nat_eq, nat_lt, if◌then◌else◌}
use Rattle.client_world.specs.{declared.faults.TheConstants.{BOUNDS_CHECK}, declared.registers.Regs.{Regs}}
use Rattle.client_world.specs.{declared.segments.SegReg.TheVariants.{Ss}, Access.{fault_with}, Registers.{low_half}, World.{World}}
use Rattle.cpu_values.specs.Word.{cut}
use Rattle.guest_space.specs.Pending.{byte_count}
use Rattle.insn_forms.specs.declared.insn.Insn.{Insn}
use Rattle.insn_plan.specs.{Act.{Act, ◌>>=◌, From, Pending, done, raise, unchanged, with_regs}, Operands.{source}, Registers.{register}}
use Rattle.insn_plan.specs.{Registers.{with_register, cut_address}, Stack.{has_big_stack, with_pushed_number, regs_after_pops}}
use Rattle.insn_plan.specs.Stack.{stack_pointer, with_stack_pointer}
use Rattle.exec_flow.specs.{Pointers.{memory_bytes}, Transfers.{at_operand_size, immediate}}

-- where the frame pointer of a level was saved: that many items below (E)BP
abbrev pub saved_frame : World → Insn → ℕ → ℕ
saved_frame w i level = at_operand_size i (w.regs.ebp + 2 ^ 32 - level * byte_count i.width)

-- n saved frame pointers, from that of a level on: each is read and pushed; then what follows
unfoldable pub push_saved_frames : World → Insn → ℕ → ℕ → Pending → (Pending → Act) → Act
push_saved_frames w i level zero p rest = rest p
push_saved_frames w i level (suc n) p rest = do
  v ← From Ss (saved_frame w i level) (byte_count i.width)
  push_saved_frames w i (level + 1) n (with_pushed_number w i.width v p) rest

-- (E)BP becomes the frame's place, and (E)SP goes down by the room for the procedure's variables
unfoldable pub with_new_frame : World → Insn → ℕ → Pending → Pending
with_new_frame w i frame p =
    let sp = cut_address (has_big_stack w) (stack_pointer w p.regs + 2 ^ 32 - low_half (immediate i.first)) in
    with_regs (with_register (with_stack_pointer w sp p.regs) i.width 5 frame) p

-- ENTER: (E)BP is pushed, and the frame is there; at a level above 0 the frame pointers of the levels between are pushed, and the frame's
-- own place
unfoldable pub enter : World → Insn → Act
enter w i =
    let p = with_pushed_number w i.width (register w.regs i.width 5) (unchanged w) in
    let frame = stack_pointer w p.regs in
    let level = immediate i.second % 32 in
    if nat_eq level 0 then done (with_new_frame w i frame p) else
    push_saved_frames w i 1 (level - 1) p (λ q. done (with_new_frame w i frame (with_pushed_number w i.width frame q)))

-- the registers with the stack pointer at the frame
abbrev pub at_frame : World → Regs
at_frame w = with_stack_pointer w (cut_address (has_big_stack w) w.regs.ebp) w.regs

-- LEAVE: the stack goes back to the frame, and (E)BP is popped
unfoldable pub leave : World → Insn → Act
leave w i = do
  bp ← From Ss (cut_address (has_big_stack w) w.regs.ebp) (byte_count i.width)
  done (with_regs (with_register (regs_after_pops w i.width 1 (at_frame w)) i.width 5 bp) (unchanged w))

-- a number of the operand size is less than another in two's complement
abbrev pub is_less_signed : ℕ → ℕ → ℕ → Bool
is_less_signed width a b = nat_lt (cut width (a + 2 ^ (width - 1))) (cut width (b + 2 ^ (width - 1)))

-- BOUND: exception 5 where the index is below the first number of the pair, or above the second
unfoldable pub bound : World → Insn → Act
bound w i = do
  index ← source w.regs i.addr32 i.width i.first
  pair ← memory_bytes w i (2 * byte_count i.width) i.second
  (if is_less_signed i.width index pair || is_less_signed i.width (pair / 2 ^ i.width) index then raise (fault_with BOUNDS_CHECK 0)
      else done (unchanged w))
