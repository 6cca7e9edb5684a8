-- A part of a register is a number of that part's width; and one push of a general register, by the write and the ESP that it leaves.
use Rattle.std.proofs.Common.{◌<◌, ◌^◌, ℕ, Bool, true, false, nat_eq, if◌then◌else◌, arith, ◌≡◌, ap, ◌∙◌, sym}
use Rattle.client_world.specs.{declared.registers.Regs.{Regs}, World.{World}}
use Rattle.insn_plan.specs.{Registers.{register}, Act.{Pending}, Stack.{has_big_stack, with_pushed_number, with_push}}
use Rattle.exec_core.specs.{Moves.{half_width}, Stacks.{with_pushed_register}}
use Rattle.guest_space.specs.declared.pending.Write.{Write}

-- the low half of the accumulator at 8 or at 16 bits
low_part_fits : (r : Regs) (b : Bool) → register r (if b then 8 else 16) 0 < 2 ^ (if b then 8 else 16)
unfolding register
low_part_fits r true = omega arith
low_part_fits r false = omega arith

-- the low half of the accumulator fits half of the width
pub half_fits : (r : Regs) (width : ℕ) → register r (half_width width) 0 < 2 ^ half_width width
half_fits r width = low_part_fits r (nat_eq width 16)

-- AH is a byte
pub ah_fits : (r : Regs) → register r 8 4 < 0x100
unfolding register
ah_fits r = omega arith

pub push_is : (w : World) (big : Bool) (width number v esp : ℕ) (x : Write) (after : ℕ) (p : Pending) (r : Regs) → big ≡ has_big_stack w →
    r ≡ w.regs → v ≡ register r width number → p.regs.esp ≡ esp →
    ((u : World) (q : Pending) → has_big_stack u ≡ big → q.regs.esp ≡ esp → with_pushed_number u width v q ≡ with_push x after q) →
    with_pushed_register w width number p ≡ with_push x after p
push_is w big width number v esp x after p r is own value top item =
    ap (λ (k : ℕ). with_pushed_number w width k p) (sym (value ∙ ap (λ (s : Regs). register s width number) own)) ∙ item w p (sym is) top
