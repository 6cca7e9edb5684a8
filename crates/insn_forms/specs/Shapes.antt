-- The shape of an instruction: its width, its registers, and of what kinds its first two operands are, as one number, so that a row is
-- reached by one jump. Source: own.
--
--   Shape        First operand   Second operand
--   0 to 191     its register    a register of the same width, of the number shape / 24
--   192 to 215   its register    an immediate
--   216 to 239   its register    none
--   240 to 263   its register    memory
--   264 to 287   memory          its register
--   288 to 290   memory          an immediate
--   291 to 293   memory          none
use Rattle.std.specs.Prelude.{◌≡◌, ◌<◌, ◌/◌, ◌%◌, ℕ, nat_eq, nat_lt, if◌then◌else◌, None}
use Rattle.client_world.specs.declared.segments.SegReg.TheVariants.{Ds}
use Rattle.insn_forms.specs.{declared.insn.Insn.{Insn}, declared.insn.MemForm.{MemForm}, declared.insn.Operand.{Operand}}
use Rattle.insn_forms.specs.declared.insn.Operand.TheVariants as operands

-- the width of a shape's operands. Below 288 eight shapes one after another have the same, one for each number of a register; from 288 on
-- there are three in turn, one for each width
abbrev pub shape_width : ℕ → ℕ
shape_width shape =
    let step = if nat_lt shape 288 then shape / 8 % 3 else shape % 3 in
    if nat_eq step 0 then 8 else if nat_eq step 1 then 16 else 32

-- an immediate's value
abbrev pub immediate_value : Operand → ℕ
immediate_value (operands.Imm v) = v
immediate_value _ = 0

-- a place in memory
abbrev pub memory_form : Operand → MemForm
memory_form (operands.Mem form) = form
memory_form _ = record { base = None; index = None; scale = 1; disp = 0; seg = Ds }

-- the first operand of a shape
abbrev pub shape_first : ℕ → Operand → Operand
shape_first shape o = if nat_lt shape 264 then operands.Reg (shape_width shape) (shape % 8) else operands.Mem (memory_form o)

-- the second operand of a shape
abbrev pub shape_second : ℕ → Operand → Operand
shape_second shape o =
    if nat_lt shape 192 then operands.Reg (shape_width shape) (shape / 24) else
    if nat_lt shape 216 then operands.Imm (immediate_value o) else
    if nat_lt shape 240 then operands.Empty else
    if nat_lt shape 264 then operands.Mem (memory_form o) else
    if nat_lt shape 288 then operands.Reg (shape_width shape) (shape % 8) else
    if nat_lt shape 291 then operands.Imm (immediate_value o) else
    operands.Empty

-- an instruction has a shape: below 294 this says what its width and its first two operands are, and else nothing
pub record HasShape (shape : ℕ) (i : Insn) : Type 0 where
  pub width : shape < 294 → i.width ≡ shape_width shape
  pub first : shape < 294 → i.first ≡ shape_first shape i.first
  pub second : shape < 294 → i.second ≡ shape_second shape i.second
