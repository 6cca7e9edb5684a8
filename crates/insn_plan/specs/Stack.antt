-- The stack: the stack pointer is ESP where the segment in SS has B = 1, else SP; the other half stays.
-- Source: 80386 Programmer's Reference Manual, ch. 2, "Stack Implementation", and ch. 17, PUSH and POP.
use Rattle.std.specs.Prelude.{ℕ, ◌+◌, ◌-◌, ◌*◌, ◌^◌, Bool, List, [], ◌∷◌, ◌++◌}
use Rattle.client_world.specs.{declared.registers.Regs.{Regs}, declared.segments.SegReg.TheVariants.{Ss}, World.{World}}
use Rattle.guest_space.specs.{declared.pending.Write.{Write}, Pending.{byte_count}, SegmentRows.{is_big}}
use Rattle.insn_plan.specs.{Act.{Input, From, Pending, with_regs}, Operands.{and_write}, Registers.{cut_address, with_address}}

-- the stack pointer is ESP
unfoldable pub has_big_stack : World → Bool
has_big_stack w = is_big w.mode w.descriptors w.regs.ss

-- ESP with the stack pointer n bytes further up
abbrev pub esp_up : Bool → ℕ → ℕ → ℕ
esp_up big n esp = with_address big esp (cut_address big (cut_address big esp + n))

-- the stack pointer of some registers
abbrev pub stack_pointer : World → Regs → ℕ
stack_pointer w r = cut_address (has_big_stack w) r.esp

-- the registers with another stack pointer
abbrev pub with_stack_pointer : World → ℕ → Regs → Regs
with_stack_pointer w sp r = record r { esp = with_address (has_big_stack w) r.esp sp }

-- a number of a width pushed: the stack pointer goes down by its bytes, and it is there
unfoldable pub with_pushed_number : World → ℕ → ℕ → Pending → Pending
with_pushed_number w width v p =
    let sp = cut_address (has_big_stack w) (stack_pointer w p.regs + 2 ^ 32 - byte_count width) in
    and_write Ss sp width v (with_regs (with_stack_pointer w sp p.regs) p)

-- one more write, and another ESP
abbrev pub with_push : Write → ℕ → Pending → Pending
with_push x esp p = record p { regs = record p.regs { esp = esp }; writes = p.writes ++ x ∷ [] }

-- some writes and another ESP, and nothing else
abbrev pub pending_of_pushes : World → List Write → ℕ → Pending
pending_of_pushes w writes esp = record { regs = record w.regs { esp = esp }; vif = w.vif; writes = writes }

-- the stack pointer n bytes further up
abbrev pub stack_pointer_up : World → ℕ → Regs → ℕ
stack_pointer_up w n r = cut_address (has_big_stack w) (stack_pointer w r + n)

-- the item of a width at a place of the stack, counted from the top
unfoldable pub stack_item : World → ℕ → ℕ → Input
stack_item w width place = From Ss (stack_pointer_up w (byte_count width * place) w.regs) (byte_count width)

-- the registers after n items of a width were popped
unfoldable pub regs_after_pops : World → ℕ → ℕ → Regs → Regs
regs_after_pops w width n r = with_stack_pointer w (stack_pointer_up w (byte_count width * n) r) r
