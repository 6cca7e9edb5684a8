-- No row of exec_core changes CS, and what it leaves in the other segment registers are words.
use Rattle.std.proofs.Common.{ℕ, Bool, true, Option, None, Some}
use Rattle.client_world.specs.{declared.registers.Flags.{Flags}, declared.registers.Regs.{Regs}, World.{World}}
use Rattle.cpu_values.specs.Word.{cut}
use Rattle.cpu_alu.specs.Sums.{sub_of}
use Rattle.exec_core.specs.{Arithmetic.{binary, compare, unary}, Bits.{setcc, bit_test, bit_change, bit_scan}, Decimal.{with_ax_in, adjust}}
use Rattle.exec_core.specs.{Decimal.{aad, aam, aam_done}, Dispatch.{core_row}, FlagRows.{clc, stc, cmc, cld, std, lahf, sahf, wait}}
use Rattle.exec_core.specs.{Moves.{mov, movzx, movsx, xchg, lea, xlat, cbw, cwd}, Products.{Product, Quotient, with_double, multiply}}
use Rattle.exec_core.specs.{Products.{multiply_two, multiply_three, is_empty, imul, divided, divide}, Shifts.{shift, shift_in}}
use Rattle.exec_core.specs.{Stacks.{push, pop, pusha, popa}, Strings.{is_repeated, is_over, with_source_next, with_destination_next}}
use Rattle.exec_core.specs.Strings.{repeated, goes_on_while, movs, cmps, stos, lods, scas}
use Rattle.insn_forms.specs.{declared.insn.Insn.{Insn}, declared.insn.Op.{Op}}
use Rattle.insn_plan.specs.{Registers.{register, with_register}, Stack.{with_pushed_number, regs_after_pops}}
use Rattle.cpu_step.proofs.SegmentWords.{HoldWith, LeavesWith, words_if, leaves_if, words_register, words_put, words_pushed}
use Rattle.insn_forms.specs.declared.insn.Op.TheVariants as ops

-- ---- decimal adjustment, products and quotients

with_ax_words : {P : ℕ → Type 0} (r : Regs) (result : ℕ × Flags) → HoldWith P r → HoldWith P (with_ax_in r result)
with_ax_words r result s = words_register _ _ _ _ s

adjust_leaves : {P : ℕ → Type 0} (f : ℕ → Flags → ℕ × Flags) (w : World) → HoldWith P w.regs → LeavesWith P (adjust f w)
unfolding adjust
adjust_leaves f w s = with_ax_words w.regs _ s

aad_leaves : {P : ℕ → Type 0} (w : World) (i : Insn) → HoldWith P w.regs → LeavesWith P (aad w i)
unfolding aad
aad_leaves w i s = λ base. with_ax_words w.regs _ s

aam_done_leaves : {P : ℕ → Type 0} (w : World) (o : Option (ℕ × Flags)) → HoldWith P w.regs → LeavesWith P (aam_done w o)
aam_done_leaves w None s = tt
aam_done_leaves w (Some result) s = with_ax_words w.regs result s

aam_leaves : {P : ℕ → Type 0} (w : World) (i : Insn) → HoldWith P w.regs → LeavesWith P (aam w i)
unfolding aam
aam_leaves w i s = λ base. aam_done_leaves w _ s

double_words : {P : ℕ → Type 0} (width low high : ℕ) (r : Regs) → HoldWith P r → HoldWith P (with_double width low high r)
double_words width low high r s = words_register _ _ _ _ (words_register _ _ _ _ s)

multiply_leaves : {P : ℕ → Type 0} (f : Product) (w : World) (i : Insn) → HoldWith P w.regs → LeavesWith P (multiply f w i)
unfolding multiply
multiply_leaves f w i s = λ a. double_words _ _ _ _ s

imul_leaves : {P : ℕ → Type 0} (w : World) (i : Insn) → HoldWith P w.regs → LeavesWith P (imul w i)
unfolding imul multiply_two multiply_three
imul_leaves w i s = leaves_if _ (is_empty i.second) _ _ (multiply_leaves _ w i s)
    (leaves_if _ (is_empty i.third) _ _ (λ a b. words_put _ _ _ _ _ _ s) (λ a b. words_put _ _ _ _ _ _ s))

divided_leaves : {P : ℕ → Type 0} (w : World) (width : ℕ) (o : Option (ℕ × ℕ)) → HoldWith P w.regs → LeavesWith P (divided w width o)
divided_leaves w width None s = tt
divided_leaves w width (Some q) s = double_words width q.0 q.1 w.regs s

divide_leaves : {P : ℕ → Type 0} (f : Quotient) (w : World) (i : Insn) → HoldWith P w.regs → LeavesWith P (divide f w i)
unfolding divide
divide_leaves f w i s = λ by. divided_leaves w i.width _ s

-- ---- moves and flags

xlat_leaves : {P : ℕ → Type 0} (w : World) (i : Insn) → HoldWith P w.regs → LeavesWith P (xlat w i)
unfolding xlat
xlat_leaves w i s = λ v. words_register _ _ _ _ s

cbw_leaves : {P : ℕ → Type 0} (w : World) (i : Insn) → HoldWith P w.regs → LeavesWith P (cbw w i)
unfolding cbw
cbw_leaves w i s = words_register _ _ _ _ s

cwd_leaves : {P : ℕ → Type 0} (w : World) (i : Insn) → HoldWith P w.regs → LeavesWith P (cwd w i)
unfolding cwd
cwd_leaves w i s = words_register _ _ _ _ s

lahf_leaves : {P : ℕ → Type 0} (w : World) → HoldWith P w.regs → LeavesWith P (lahf w)
unfolding lahf
lahf_leaves w s = words_register _ _ _ _ s

-- ---- stacks

popa_leaves : {P : ℕ → Type 0} (w : World) (i : Insn) → HoldWith P w.regs → LeavesWith P (popa w i)
unfolding popa regs_after_pops
popa_leaves w i s = λ di si bp bx dx cx ax.
    let none = regs_after_pops w i.width 8 w.regs in
    let one = with_register none i.width 7 di in
    let two = with_register one i.width 6 si in
    let three = with_register two i.width 5 bp in
    let four = with_register three i.width 3 bx in
    let five = with_register four i.width 2 dx in
    let six = with_register five i.width 1 cx in
    words_register six i.width 0 ax (words_register five i.width 1 cx (words_register four i.width 2 dx (words_register three i.width 3 bx
    (words_register two i.width 5 bp (words_register one i.width 6 si (words_register none i.width 7 di s))))))

-- ---- strings

repeated_words : {P : ℕ → Type 0} (w : World) (i : Insn) (len : ℕ) (goes_on : Bool) (r : Regs) → HoldWith P r →
    HoldWith P (repeated w i len goes_on r)
repeated_words w i len goes_on r s = words_if (is_repeated i.rep) _ _ s s

movs_leaves : {P : ℕ → Type 0} (w : World) (i : Insn) (len : ℕ) → HoldWith P w.regs → LeavesWith P (movs w i len)
unfolding movs
movs_leaves w i len s =
    leaves_if _ (is_over w i) _ _ s (λ v. repeated_words w i len true (with_source_next w i (with_destination_next w i w.regs)) s)

cmps_leaves : {P : ℕ → Type 0} (w : World) (i : Insn) (len : ℕ) → HoldWith P w.regs → LeavesWith P (cmps w i len)
unfolding cmps
cmps_leaves w i len s = leaves_if _ (is_over w i) _ _ s (λ a b.
    let f = (sub_of i.width (cut i.width a) (cut i.width b) w.regs.flags).1 in
    repeated_words w i len (goes_on_while i.rep f) (with_source_next w i (with_destination_next w i (record w.regs { flags = f }))) s)

stos_leaves : {P : ℕ → Type 0} (w : World) (i : Insn) (len : ℕ) → HoldWith P w.regs → LeavesWith P (stos w i len)
unfolding stos
stos_leaves w i len s = leaves_if _ (is_over w i) _ _ s (repeated_words w i len true (with_destination_next w i w.regs) s)

lods_leaves : {P : ℕ → Type 0} (w : World) (i : Insn) (len : ℕ) → HoldWith P w.regs → LeavesWith P (lods w i len)
unfolding lods
lods_leaves w i len s = leaves_if _ (is_over w i) _ _ s (λ v.
    repeated_words w i len true (with_source_next w i (with_register w.regs i.width 0 v)) (words_register _ _ _ _ s))

scas_leaves : {P : ℕ → Type 0} (w : World) (i : Insn) (len : ℕ) → HoldWith P w.regs → LeavesWith P (scas w i len)
unfolding scas
scas_leaves w i len s = leaves_if _ (is_over w i) _ _ s (λ b.
    let f = (sub_of i.width (cut i.width (register w.regs i.width 0)) (cut i.width b) w.regs.flags).1 in
    repeated_words w i len (goes_on_while i.rep f) (with_destination_next w i (record w.regs { flags = f })) s)

-- ---- all of them. A row that puts a number into an operand, pushes one, or leaves the registers is opened; each other one is shown by
-- its lemma, which is found. The first line makes a case of each operation

pub core_leaves : {P : ℕ → Type 0} (op : Op) (w : World) (i : Insn) (len : ℕ) → HoldWith P w.regs → LeavesWith P (core_row op w i len)
unfolding core_row binary compare unary shift shift_in setcc bit_test bit_change bit_scan mov movzx movsx xchg lea push pop pusha
    regs_after_pops with_pushed_number clc stc cmc cld std sahf wait
core_leaves ops.Add w i len s = λ a b. words_put _ _ _ _ _ _ s
core_leaves _ w i len s = search (
  s,
  words_put,
  words_pushed,
  multiply_leaves,
  imul_leaves,
  divide_leaves,
  adjust_leaves,
  aam_leaves,
  aad_leaves,
  leaves_if,
  xlat_leaves,
  cbw_leaves,
  cwd_leaves,
  lahf_leaves,
  popa_leaves,
  movs_leaves,
  cmps_leaves,
  stos_leaves,
  lods_leaves,
  scas_leaves,
)
