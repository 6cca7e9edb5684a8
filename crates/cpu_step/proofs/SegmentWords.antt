-- What an instruction leaves in the segment registers are words. Here the shared words of the rows.
use Rattle.std.proofs.Common.{◌≡◌, ℕ, ◌-◌, ◌<◌, arith, nat_eq, nat_lt, if◌then◌else◌, Bool, true, false, Option, None, Some, Result, Ok}
use Rattle.std.proofs.Common.{Err}
use Rattle.client_world.specs.{declared.faults.Event.{Event}, declared.faults.Fault.{Fault}, declared.registers.Mode.{Mode}}
use Rattle.client_world.specs.{declared.registers.Mode.TheVariants.{Real, Protected}, declared.registers.Regs.{Regs}}
use Rattle.client_world.specs.{declared.segments.SegReg.{SegReg}, declared.segments.SegReg.TheVariants.{Es, Cs, Ss, Ds, Fs, Gs}}
use Rattle.client_world.specs.{General.{with_general}, Registers.{low_half}, Segments.{with_selector}, Soundness.{HasSegments}}
use Rattle.client_world.specs.World.{World}
use Rattle.insn_forms.specs.{declared.insn.Operand.{Operand}, declared.insn.Operand.TheVariants.{Empty, Reg, Seg, Mem, Imm, Far}}
use Rattle.insn_plan.specs.{Act.{Act, End, Read, Ending, Done, Raise, Interrupt, Pending, unless_fault, value_of}, Operands.{put_operand}}
use Rattle.insn_plan.specs.{Plan.{plan_result}, Registers.{with_register}, Stack.{with_pushed_number}}

-- ---- six words, and P of that in CS: registers that differ in the others alone have one proof

pub record AreWords (P : ℕ → Type 0) (es cs ss ds fs gs : ℕ) : Type 0 where
  pub es_fits : es < 0x10000
  pub cs_fits : P cs
  pub ss_fits : ss < 0x10000
  pub ds_fits : ds < 0x10000
  pub fs_fits : fs < 0x10000
  pub gs_fits : gs < 0x10000

abbrev pub HoldWith : (ℕ → Type 0) → Regs → Type 0
HoldWith P r = AreWords P r.es r.cs r.ss r.ds r.fs r.gs

abbrev pub HoldWords : Regs → Type 0
HoldWords r = HoldWith (λ cs. cs < 0x10000) r

pub words_of : (r : Regs) → HasSegments r → HoldWords r
words_of r s = assumption

pub segments_of : (r : Regs) → HoldWords r → HasSegments r
segments_of r s = assumption

-- ---- an instruction, whatever it reads

abbrev pub EndsWith : (ℕ → Type 0) → Ending → Type 0
EndsWith P (Done p) = HoldWith P p.regs
EndsWith P (Raise f) = Unit {0}
EndsWith P (Interrupt number len) = Unit {0}

abbrev pub LeavesWith : (ℕ → Type 0) → Act → Type 0
LeavesWith P (End outcome) = EndsWith P outcome
LeavesWith P (Read input rest) = (v : ℕ) → LeavesWith P (rest v)

abbrev pub LeavesWords : Act → Type 0
LeavesWords act = LeavesWith (λ cs. cs < 0x10000) act

-- after a read
read_words : {P : ℕ → Type 0} (r : Result ℕ Event) (next : ℕ → Result Pending Event) (p : Pending) →
    ((v : ℕ) → next v ≡ Ok p → HoldWith P p.regs) →
    elim r as (λ _. Result Pending Event) [ Ok v ↦ next v | Err e ↦ Err e ] ≡ Ok p → HoldWith P p.regs
read_words (Ok v) next p words e = words v e
read_words (Err event) next p words e = absurd cc

pub planned_words : {P : ℕ → Type 0} (w : World) (act : Act) (p : Pending) → LeavesWith P act → plan_result w act ≡ Ok p →
    HoldWith P p.regs
planned_words w (End (Done q)) p s e = let same : q.regs ≡ p.regs = cc in rw (← same) s
planned_words w (End (Raise f)) p s e = absurd cc
planned_words w (End (Interrupt number len)) p s e = absurd cc
planned_words w (Read input rest) p s e =
    read_words (value_of w input) (λ v. plan_result w (rest v)) p (λ v plan. planned_words w (rest v) p (s v) plan) e

-- ---- choices

pub words_if : {P : ℕ → Type 0} (c : Bool) (r q : Regs) → HoldWith P r → HoldWith P q → HoldWith P (if c then r else q)
words_if true r q one other = one
words_if false r q one other = other

pub leaves_if : (P : ℕ → Type 0) (c : Bool) (a b : Act) → LeavesWith P a → LeavesWith P b → LeavesWith P (if c then a else b)
leaves_if P true a b one other = one
leaves_if P false a b one other = other

pub leaves_by_mode : (P : ℕ → Type 0) (m : Mode) (a b : Act) → LeavesWith P a → LeavesWith P b →
    LeavesWith P (elim m [ Real ↦ a | Protected ↦ b ])
leaves_by_mode P Real a b one other = one
leaves_by_mode P Protected a b one other = other

pub leaves_unless : (P : ℕ → Type 0) (o : Option Fault) (act : Act) → LeavesWith P act → LeavesWith P (unless_fault o act)
leaves_unless P None act s = s
leaves_unless P (Some f) act s = tt

-- ---- general registers

pub words_general : {P : ℕ → Type 0} (r : Regs) (n v : ℕ) → HoldWith P r → HoldWith P (with_general r n v)
unfolding with_general
words_general r n v s =
    words_if (nat_eq n 0) _ _ s (words_if (nat_eq n 1) _ _ s (words_if (nat_eq n 2) _ _ s (words_if (nat_eq n 3) _ _ s
    (words_if (nat_eq n 4) _ _ s (words_if (nat_eq n 5) _ _ s (words_if (nat_eq n 6) _ _ s s))))))

pub words_register : {P : ℕ → Type 0} (r : Regs) (width n v : ℕ) → HoldWith P r → HoldWith P (with_register r width n v)
unfolding with_register
words_register r width n v s =
    words_if (nat_eq width 8) _ _
    (words_if (nat_lt n 4) _ _ (words_general r n _ s) (words_general r (n - 4) _ s))
    (words_if (nat_eq width 16) _ _ (words_general r n _ s) (words_general r n _ s))

pub words_put : {P : ℕ → Type 0} (r : Regs) (addr32 : Bool) (width : ℕ) (o : Operand) (v : ℕ) (p : Pending) → HoldWith P p.regs →
    HoldWith P (put_operand r addr32 width o v p).regs
unfolding put_operand
words_put r addr32 width Empty v p s = s
words_put r addr32 width (Reg own number) v p s = words_register p.regs own number v s
words_put r addr32 width (Seg seg) v p s = s
words_put r addr32 width (Mem f) v p s = s
words_put r addr32 width (Imm x) v p s = s
words_put r addr32 width (Far pointer) v p s = s

pub words_pushed : {P : ℕ → Type 0} (w : World) (width v : ℕ) (p : Pending) → HoldWith P p.regs →
    HoldWith P (with_pushed_number w width v p).regs
unfolding with_pushed_number
words_pushed w width v p s = s

-- ---- a segment register, with a word

pub words_selector : (r : Regs) (seg : SegReg) (sel : ℕ) → HoldWords r → sel < 0x10000 → HoldWords (with_selector r seg sel)
words_selector r Es sel s small = assumption
words_selector r Cs sel s small = assumption
words_selector r Ss sel s small = assumption
words_selector r Ds sel s small = assumption
words_selector r Fs sel s small = assumption
words_selector r Gs sel s small = assumption

pub half_is_word : (v : ℕ) → low_half v < 0x10000
half_is_word v = omega arith
