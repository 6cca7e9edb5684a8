-- Flags images on the stack, and the virtual interrupt flag: PUSHF, POPF, CLI, STI.
-- Source: 80386 Programmer's Reference Manual, ch. 17, PUSHF, POPF, CLI, STI; what takes the place of IF is DPMI 0.9, "Interrupt State",
-- and own.
use Rattle.std.specs.Prelude.{ℕ, Bool, true, false}
use Rattle.client_world.specs.{declared.registers.Mode.TheVariants.{Real, Protected}, declared.registers.TheConstants.{INTERRUPT_BIT}}
use Rattle.client_world.specs.{Registers.{flags_image, flags_of_image, has_bit, low_half}, World.{World}}
use Rattle.insn_forms.specs.declared.insn.Insn.{Insn}
use Rattle.insn_plan.specs.{Act.{Act, ◌>>=◌, Pending, done, unchanged, with_regs}, Stack.{with_pushed_number, stack_item, regs_after_pops}}

-- IF as PUSHF shows it: in real mode the virtual flag, in protected mode 1
abbrev pub visible_interrupt_flag : World → Bool
visible_interrupt_flag w = elim w.mode [ Real ↦ w.vif | Protected ↦ true ]

-- PUSHF: the image of the flags; the upper half of one of 32 bits is 0
unfoldable pub pushf : World → Insn → Act
pushf w i = done (with_pushed_number w i.width (flags_image w.regs.flags (visible_interrupt_flag w)) (unchanged w))

-- the virtual flag after an image is popped: in real mode its IF, in protected mode what it was
abbrev pub vif_after_pop : World → ℕ → Bool
vif_after_pop w image = elim w.mode [ Real ↦ has_bit (low_half image) INTERRUPT_BIT | Protected ↦ w.vif ]

-- what an image that is popped leaves: its flags, and the virtual flag; its upper half counts for nothing
unfoldable pub with_popped_flags : World → ℕ → Pending → Pending
with_popped_flags w image p =
    record p { regs = record p.regs { flags = flags_of_image (low_half image) }; vif = vif_after_pop w image }

-- POPF
unfoldable pub popf : World → Insn → Act
popf w i = do
  image ← stack_item w i.width 0
  done (with_popped_flags w image (with_regs (regs_after_pops w i.width 1 w.regs) (unchanged w)))

-- CLI and STI change the virtual flag in both modes
unfoldable pub cli : World → Act
cli w = done (record (unchanged w) { vif = false })

unfoldable pub sti : World → Act
sti w = done (record (unchanged w) { vif = true })
