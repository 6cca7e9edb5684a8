-- Far transfers in both modes: JMP, CALL, RETF, IRET.
-- Source: 80386 Programmer's Reference Manual, ch. 17, JMP, CALL, RET, IRET; that a far jump or call takes a selector of any privilege
-- level and stores level 3 is own.
use Rattle.std.specs.Prelude.{ℕ, Bool, false, true}
use Rattle.client_world.specs.{declared.registers.Mode.TheVariants.{Real, Protected}, Loading.{transfer_fault}, Registers.{low_half}}
use Rattle.client_world.specs.{Selector.{client_selector}, World.{World}}
use Rattle.insn_forms.specs.declared.insn.Insn.{Insn}
use Rattle.insn_plan.specs.{Act.{Act, ◌>>=◌, Pending, done, unchanged, unless_fault, with_regs}, Stack.{with_pushed_number, stack_item}}
use Rattle.insn_plan.specs.Stack.{regs_after_pops}
use Rattle.exec_flow.specs.{FlagImages.{with_popped_flags}, Pointers.{pointer, pointer_selector, pointer_offset}, Transfers.{immediate}}
use Rattle.exec_flow.specs.Transfers.{regs_after_drop}

-- what CS holds after a transfer to a selector: in protected mode with privilege level 3
unfoldable pub code_selector : World → ℕ → ℕ
code_selector w sel = elim w.mode [ Real ↦ sel | Protected ↦ client_selector sel ]

-- the transfer itself, with what else the instruction leaves; a return takes privilege level 3 alone
unfoldable pub far_transfer : World → ℕ → ℕ → Bool → Pending → Act
far_transfer w sel ip return p = unless_fault (transfer_fault w sel ip return)
    (done (with_regs (record p.regs { cs = code_selector w sel; eip = ip }) p))

-- JMP far
unfoldable pub jump_far : World → Insn → Act
jump_far w i = do
  p ← pointer w i i.first
  far_transfer w (pointer_selector i p) (pointer_offset i p) false (unchanged w)

-- CALL far: CS and the address of the next instruction are pushed
unfoldable pub call_far : World → Insn → Act
call_far w i = do
  p ← pointer w i i.first
  far_transfer w (pointer_selector i p) (pointer_offset i p) false
      (with_pushed_number w i.width w.regs.eip (with_pushed_number w i.width w.regs.cs (unchanged w)))

-- a far return's frame popped, in items of that many bits: the instruction pointer and CS; and then that many bytes dropped
unfoldable pub far_frame_pop : World → ℕ → ℕ → Act
far_frame_pop w bits bytes = do
  ip ← stack_item w bits 0
  cs ← stack_item w bits 1
  far_transfer w (low_half cs) ip true (with_regs (regs_after_drop w bytes (regs_after_pops w bits 2 w.regs)) (unchanged w))

-- RETF drops the bytes of its operand
unfoldable pub retf : World → Insn → Act
retf w i = far_frame_pop w i.width (immediate i.first)

-- a frame popped that an interrupt pushed, in items of that many bits: the instruction pointer, CS and the flags image
unfoldable pub interrupt_frame_pop : World → ℕ → Act
interrupt_frame_pop w bits = do
  ip ← stack_item w bits 0
  cs ← stack_item w bits 1
  image ← stack_item w bits 2
  far_transfer w (low_half cs) ip true (with_popped_flags w image (with_regs (regs_after_pops w bits 3 w.regs) (unchanged w)))

-- what a frame leaves when it is popped, by what its items hold
abbrev pub pending_of_interrupt_frame : World → ℕ → ℕ → ℕ → ℕ → Pending
pending_of_interrupt_frame w bits ip cs image =
    let p = with_popped_flags w image (with_regs (regs_after_pops w bits 3 w.regs) (unchanged w)) in
    with_regs (record p.regs { cs = code_selector w cs; eip = ip }) p

-- IRET
unfoldable pub iret : World → Insn → Act
iret w i = interrupt_frame_pop w i.width
