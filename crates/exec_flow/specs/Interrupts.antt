-- Software interrupts: INT, INT 3, INTO. By themselves they change nothing: the event names the number and the instruction's length. And
-- what such an interrupt pushes.
-- Source: 80386 Programmer's Reference Manual, ch. 17, INT/INTO; that INT 3 and INTO are the client's interrupts 3 and 4 is own.
use Rattle.std.specs.{Prelude.{ℕ, None, Some, if◌then◌else◌}, declared.option.Option.{Option}}
use Rattle.client_world.specs.{declared.registers.Mode.TheVariants.{Real, Protected}, declared.registers.Width.{Width}}
use Rattle.client_world.specs.{declared.registers.Width.TheVariants.{Sixteen, ThirtyTwo}, Registers.{flags_image, low_byte}, World.{World}}
use Rattle.insn_forms.specs.declared.insn.Insn.{Insn}
use Rattle.insn_plan.specs.{Act.{Act, End, Interrupt, Pending, done, unchanged}, Stack.{with_pushed_number}}
use Rattle.exec_flow.specs.Transfers.{immediate}

-- INT
unfoldable pub int : Insn → ℕ → Act
int i len = End (Interrupt (low_byte (immediate i.first)) len)

-- INT 3
unfoldable pub int3 : ℕ → Act
int3 len = End (Interrupt 3 len)

-- INTO: where OF is set
unfoldable pub into : World → ℕ → Act
into w len = if w.regs.flags.of then End (Interrupt 4 len) else done (unchanged w)

-- the bits of an item of a client's frames
abbrev pub item_bits : Option Width → ℕ
item_bits None = 16
item_bits (Some Sixteen) = 16
item_bits (Some ThirtyTwo) = 32

-- those of an interrupt's frame: in real mode 16, in protected mode the client's
abbrev pub frame_bits : World → ℕ
frame_bits w = elim w.mode [ Real ↦ 16 | Protected ↦ item_bits w.width ]

-- what a software interrupt pushes: the flags image with the virtual interrupt flag, CS and EIP
unfoldable pub interrupt_push : World → Pending
interrupt_push w =
    with_pushed_number w (frame_bits w) w.regs.eip (with_pushed_number w (frame_bits w) w.regs.cs
    (with_pushed_number w (frame_bits w) (flags_image w.regs.flags w.vif) (unchanged w)))
