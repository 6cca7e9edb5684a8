-- What the rows of instructions whose first operand is a register make of the machine, and what a shape says.
use Rattle.std.proofs.{Common.{◌≡◌, ℕ, ◌<◌, ◌%◌, ◌∙◌, Bool, Ok, arith, refl, sym}, lemmas.Bool.{lt-ltb}}
use Rattle.client_world.specs.World.{World}
use Rattle.cpu_values.specs.Word.{cut}
use Rattle.exec_core.specs.{Arithmetic.{Formula, SingleFormula, binary, compare, unary}, Moves.{lea, mov, operand_offset}}
use Rattle.exec_core.specs.{Shaped.{HasOperands, with_result}, Shifts.{shift}}
use Rattle.guest_space.specs.{Pending.{first_write_fault, after_writes}, Registers.{with_registers}}
use Rattle.host_memory.specs.View.{MachineView}
use Rattle.insn_forms.specs.{declared.insn.Insn.{Insn}, declared.insn.Operand.TheVariants.{Reg}, Shapes.{HasShape, shape_width}}
use Rattle.insn_plan.specs.{Act.{Input, Pending, Read, done, value_of}, Operands.{source}, Registers.{register, with_register}}
use Rattle.insn_plan.specs.Plan.{CarriesOut, after_plan, after_commit, plan_result}
use Rattle.insn_plan.proofs.WrittenState.{put_in_register, put_with_flags_in_register}

from_register : (w : World) (addr32 : Bool) (width own n : ℕ) →
    value_of w (source w.regs addr32 width (Reg own n)) ≡ Ok (register w.regs own n)
unfolding source value_of
from_register w addr32 width own n = refl

-- what is left after one read, and after two
after_one : (v : MachineView) (x : Input) (f : ℕ → Pending) (a : ℕ) → value_of v.world x ≡ Ok a →
    after_plan v (plan_result v.world (Read x (λ (k : ℕ). done (f k)))) ≡ after_commit v (f a)
unfolding after_plan
after_one v x f a is = rw (plan_result, is) refl

after_two : (v : MachineView) (x y : Input) (f : ℕ → ℕ → Pending) (a b : ℕ) → value_of v.world x ≡ Ok a → value_of v.world y ≡ Ok b →
    after_plan v (plan_result v.world (Read x (λ (k : ℕ). Read y (λ (n : ℕ). done (f k n))))) ≡ after_commit v (f a b)
unfolding after_plan
after_two v x y f a b first second = rw (plan_result, first, plan_result, second) refl

pub binary_on : (formula : Formula) (v : MachineView) (i : Insn) (width n b : ℕ) → HasOperands v.world i width width (Reg width n) b →
    let result = formula width (cut width (register v.world.regs width n)) (cut width b) v.world.regs.flags in
    CarriesOut v (with_result width n result v) (Ok tt) (binary formula v.world i)
unfolding binary
binary_on formula v i width n b h = rw (h.width, h.first)
    (after_two v _ _ _ _ b (from_register v.world i.addr32 width width n) h.second
    ∙ put_with_flags_in_register v _ v.world.regs i.addr32 width width n _)

pub compare_on : (formula : Formula) (v : MachineView) (i : Insn) (width n a b : ℕ) → HasOperands v.world i width width (Reg width n) b →
    a ≡ register v.world.regs width n →
    let flags = (formula width (cut width a) (cut width b) v.world.regs.flags).1 in
    CarriesOut v (with_registers (record v.world.regs { flags = flags }) v) (Ok tt) (compare formula v.world i)
unfolding compare after_commit first_write_fault after_writes
compare_on formula v i width n a b h is = rw (is, h.width, h.first)
    (after_two v _ _ _ _ b (from_register v.world i.addr32 width width n) h.second)

pub unary_on : (formula : SingleFormula) (v : MachineView) (i : Insn) (width n b : ℕ) → HasOperands v.world i width width (Reg width n) b →
    let result = formula width (cut width (register v.world.regs width n)) v.world.regs.flags in
    CarriesOut v (with_result width n result v) (Ok tt) (unary formula v.world i)
unfolding unary
unary_on formula v i width n b h = rw (h.width, h.first)
    (after_one v _ _ _ (from_register v.world i.addr32 width width n)
    ∙ put_with_flags_in_register v _ v.world.regs i.addr32 width width n _)

pub shift_on : (formula : Formula) (v : MachineView) (i : Insn) (width n b : ℕ) → HasOperands v.world i width 8 (Reg width n) b →
    let result = formula width (cut width (register v.world.regs width n)) (cut 8 b) v.world.regs.flags in
    CarriesOut v (with_result width n result v) (Ok tt) (shift formula v.world i)
unfolding shift
shift_on formula v i width n b h = rw (h.width, h.first)
    (after_two v _ _ _ _ b (from_register v.world i.addr32 width width n) h.second
    ∙ put_with_flags_in_register v _ v.world.regs i.addr32 width width n _)

pub mov_on : (v : MachineView) (i : Insn) (width n b : ℕ) → HasOperands v.world i width width (Reg width n) b →
    CarriesOut v (with_registers (with_register v.world.regs width n b) v) (Ok tt) (mov v.world i)
unfolding mov
mov_on v i width n b h =
    rw (h.width, h.first) (after_one v _ _ b h.second ∙ put_in_register v v.world.regs i.addr32 width width n b)

pub lea_on : (v : MachineView) (i : Insn) (width n : ℕ) → i.width ≡ width → i.first ≡ Reg width n →
    let off = cut width (operand_offset v.world i i.second) in
    CarriesOut v (with_registers (with_register v.world.regs width n off) v) (Ok tt) (lea v.world i)
unfolding lea after_plan
lea_on v i width n wide first =
    rw (wide, first) (put_in_register v v.world.regs i.addr32 width width n (cut width (operand_offset v.world i i.second)))

-- ---- what a shape says

-- below 264 its first operand is its register
pub shaped_first : (i : Insn) (shape width n : ℕ) → HasShape shape i → shape < 264 → shape_width shape ≡ width → n ≡ shape % 8 →
    i.first ≡ Reg width n
shaped_first i shape width n h some wide number =
    h.first (omega arith) ∙ rw (lt-ltb shape 264 some, wide, sym number) refl

pub on_shape : (w : World) (i : Insn) (shape width read n b : ℕ) → HasShape shape i → shape < 264 → shape_width shape ≡ width →
    n ≡ shape % 8 → value_of w (source w.regs i.addr32 read i.second) ≡ Ok b → HasOperands w i width read (Reg width n) b
on_shape w i shape width read n b h some wide number second =
    record { width = h.width (omega arith) ∙ wide; first = shaped_first i shape width n h some wide number; second = second }

pub register_gives : (w : World) (i : Insn) (shape width n v : ℕ) → HasShape shape i → shape < 264 → shape_width shape ≡ width →
    n ≡ shape % 8 → v ≡ register w.regs width n → value_of w (source w.regs i.addr32 width i.first) ≡ Ok v
register_gives w i shape width n v h some wide number is =
    rw (shaped_first i shape width n h some wide number, from_register w i.addr32 width width n, is) refl
