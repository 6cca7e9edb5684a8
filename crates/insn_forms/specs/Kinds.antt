-- The table of operations: a line for each, with its crate, its operands, and whether it has forms in bytes and may be locked. And what an
-- executing crate may take for granted of an instruction that bytes encode.
-- Source: 80386 Programmer's Reference Manual, ch. 17, the heading of each instruction; the crates are own.
use Rattle.std.specs.Prelude.{ℕ, Bool, true, false, not, Option, Some, None, ◌==◌, ◌&&◌, ◌||◌, nat_lt, IsTrue}
use Rattle.insn_forms.specs.{declared.insn.Op.{Op}, declared.insn.Owner.{Owner}, declared.insn.Owner.TheVariants.{Core, Flow, ByFirst}}
use Rattle.insn_forms.specs.{declared.insn.Owner.TheVariants.{ByOperands}, declared.insn.Operand.{Operand}, declared.insn.MemForm.{MemForm}}
use Rattle.insn_forms.specs.declared.insn.Insn.{Insn}
use Rattle.insn_forms.specs.declared.insn.Op.TheVariants as ops
use Rattle.insn_forms.specs.declared.insn.Operand.TheVariants as operands

-- the kinds of operands
pub data Kind : Type 0 where
  nothing : Kind
  register : Kind
  segment : Kind
  memory : Kind
  immediate : Kind
  far : Kind

-- the kind of an operand
abbrev pub operand_kind : Operand → Kind
operand_kind operands.Empty = nothing
operand_kind (operands.Reg width number) = register
operand_kind (operands.Seg seg) = segment
operand_kind (operands.Mem place) = memory
operand_kind (operands.Imm v) = immediate
operand_kind (operands.Far pointer) = far

-- there is no operand
abbrev pub is_nothing : Kind → Bool
is_nothing nothing = true
is_nothing _ = false

-- a general register
abbrev pub is_register : Kind → Bool
is_register register = true
is_register _ = false

-- a segment register
abbrev pub is_segment : Kind → Bool
is_segment segment = true
is_segment _ = false

-- a place in memory
abbrev pub is_memory : Kind → Bool
is_memory memory = true
is_memory _ = false

-- an immediate, or a distance
abbrev pub is_immediate : Kind → Bool
is_immediate immediate = true
is_immediate _ = false

-- a far pointer among the bytes
abbrev pub is_far : Kind → Bool
is_far far = true
is_far _ = false

-- a register or memory
abbrev pub is_place : Kind → Bool
is_place k = is_register k || is_memory k

-- a count or a bit's number: a register or an immediate
abbrev pub is_count : Kind → Bool
is_count k = is_register k || is_immediate k

-- ---- shapes: the kinds of all three operands

-- which kinds the operands may have
abbrev pub Shape : Type 0
Shape = Kind → Kind → Kind → Bool

-- no operand
abbrev pub no_operand : Shape
no_operand a b c = is_nothing a && is_nothing b && is_nothing c

-- one operand, for which the test holds
abbrev pub one_operand : (Kind → Bool) → Shape
one_operand p a b c = p a && is_nothing b && is_nothing c

-- two operands, for which the tests hold
abbrev pub two_operands : (Kind → Bool) → (Kind → Bool) → Shape
two_operands p q a b c = p a && q b && is_nothing c

-- three operands
abbrev pub three_operands : (Kind → Bool) → (Kind → Bool) → (Kind → Bool) → Shape
three_operands p q r a b c = p a && q b && r c

-- one shape or the other
abbrev pub either : Shape → Shape → Shape
either one other a b c = one a b c || other a b c

-- a destination, and a source that is not in memory with it
abbrev pub destination_and_source : Shape
destination_and_source = either (two_operands is_place is_count) (two_operands is_register is_memory)

-- those of IMUL: a factor; a register, which is the other factor, and a factor; a register and both factors
abbrev pub imul_operands : Shape
imul_operands = either (one_operand is_place)
    (either (two_operands is_register is_place) (three_operands is_register is_place is_immediate))

-- those of MOV: also a segment register, as the destination or the source
abbrev pub mov_operands : Shape
mov_operands = either destination_and_source (either (two_operands is_segment is_place) (two_operands is_place is_segment))

-- ---- the table of operations

-- what is said of an operation
pub record Operation : Type 0 where
  -- the crate that carries it out
  pub owner : Owner
  -- the kinds of its operands
  pub shape : Shape
  -- it has no form in bytes
  pub wide_only : Bool
  -- it may have the prefix LOCK (ch. 17, "LOCK")
  pub lockable : Bool
  -- the number in the variant is one that there is
  pub numbered : Bool

-- an operation with forms in bytes, without LOCK and without a number
abbrev pub plain : Owner → Shape → Operation
plain owner shape = record { owner = owner; shape = shape; wide_only = false; lockable = false; numbered = true }

-- one of exec_core
abbrev pub by_core : Shape → Operation
by_core = plain Core

-- one of exec_flow
abbrev pub by_flow : Shape → Operation
by_flow = plain Flow

-- one of exec_flow where its first operand is a segment register, else one of exec_core
abbrev pub by_first : Shape → Operation
by_first = plain ByFirst

-- one of exec_flow where one of its operands is a segment register, else one of exec_core
abbrev pub by_operands : Shape → Operation
by_operands = plain ByOperands

-- it has no form in bytes
abbrev pub words_only : Operation → Operation
words_only o = record o { wide_only = true }

-- it may have the prefix LOCK
abbrev pub with_lock : Operation → Operation
with_lock o = record o { lockable = true }

-- this says whether the number in the variant is one that there is
abbrev pub with_number : Bool → Operation → Operation
with_number good o = record o { numbered = good }

-- the table: a condition is 0 to 15, the width of a source 8 or 16
unfoldable pub operation : Op → Operation
-- arithmetic and logic
operation ops.Add = with_lock (by_core destination_and_source)
operation ops.Or = with_lock (by_core destination_and_source)
operation ops.Adc = with_lock (by_core destination_and_source)
operation ops.Sbb = with_lock (by_core destination_and_source)
operation ops.And = with_lock (by_core destination_and_source)
operation ops.Sub = with_lock (by_core destination_and_source)
operation ops.Xor = with_lock (by_core destination_and_source)
operation ops.Cmp = by_core destination_and_source
operation ops.Test = by_core (two_operands is_place is_count)
operation ops.Inc = with_lock (by_core (one_operand is_place))
operation ops.Dec = with_lock (by_core (one_operand is_place))
operation ops.Not = with_lock (by_core (one_operand is_place))
operation ops.Neg = with_lock (by_core (one_operand is_place))
operation ops.Mul = by_core (one_operand is_place)
operation ops.Imul = by_core imul_operands
operation ops.Div = by_core (one_operand is_place)
operation ops.Idiv = by_core (one_operand is_place)
-- decimal adjustment
operation ops.Daa = by_core no_operand
operation ops.Das = by_core no_operand
operation ops.Aaa = by_core no_operand
operation ops.Aas = by_core no_operand
operation ops.Aam = by_core (one_operand is_immediate)
operation ops.Aad = by_core (one_operand is_immediate)
-- shifts and rotates
operation ops.Rol = by_core (two_operands is_place is_count)
operation ops.Ror = by_core (two_operands is_place is_count)
operation ops.Rcl = by_core (two_operands is_place is_count)
operation ops.Rcr = by_core (two_operands is_place is_count)
operation ops.Shl = by_core (two_operands is_place is_count)
operation ops.Shr = by_core (two_operands is_place is_count)
operation ops.Sar = by_core (two_operands is_place is_count)
operation ops.Shld = words_only (by_core (three_operands is_place is_register is_count))
operation ops.Shrd = words_only (by_core (three_operands is_place is_register is_count))
-- bits
operation ops.Bt = with_lock (words_only (by_core (two_operands is_place is_count)))
operation ops.Bts = with_lock (words_only (by_core (two_operands is_place is_count)))
operation ops.Btr = with_lock (words_only (by_core (two_operands is_place is_count)))
operation ops.Btc = with_lock (words_only (by_core (two_operands is_place is_count)))
operation ops.Bsf = words_only (by_core (two_operands is_register is_place))
operation ops.Bsr = words_only (by_core (two_operands is_register is_place))
operation (ops.Setcc n) = with_number (nat_lt n 16) (by_core (one_operand is_place))
-- moves
operation ops.Mov = by_operands mov_operands
operation (ops.Movzx n) = with_number (n == 8 || n == 16) (words_only (by_core (two_operands is_register is_place)))
operation (ops.Movsx n) = with_number (n == 8 || n == 16) (words_only (by_core (two_operands is_register is_place)))
operation ops.Xchg = with_lock (by_core (two_operands is_place is_register))
operation ops.Lea = words_only (by_core (two_operands is_register is_memory))
operation ops.Xlat = by_core no_operand
operation ops.Cbw = words_only (by_core no_operand)
operation ops.Cwd = words_only (by_core no_operand)
operation ops.Lahf = by_core no_operand
operation ops.Sahf = by_core no_operand
operation ops.Push = words_only (by_first (either (one_operand is_place) (either (one_operand is_immediate) (one_operand is_segment))))
operation ops.Pop = words_only (by_first (either (one_operand is_place) (one_operand is_segment)))
operation ops.Pusha = words_only (by_core no_operand)
operation ops.Popa = words_only (by_core no_operand)
operation ops.Pushf = words_only (by_flow no_operand)
operation ops.Popf = words_only (by_flow no_operand)
-- strings
operation ops.Movs = by_core no_operand
operation ops.Cmps = by_core no_operand
operation ops.Stos = by_core no_operand
operation ops.Lods = by_core no_operand
operation ops.Scas = by_core no_operand
-- transfers
operation (ops.Jcc n) = with_number (nat_lt n 16) (words_only (by_flow (one_operand is_immediate)))
operation ops.Jcxz = words_only (by_flow (one_operand is_immediate))
operation ops.Loop = words_only (by_flow (one_operand is_immediate))
operation ops.Loope = words_only (by_flow (one_operand is_immediate))
operation ops.Loopne = words_only (by_flow (one_operand is_immediate))
operation ops.Jmp = words_only (by_flow (either (one_operand is_place) (one_operand is_immediate)))
operation ops.JmpFar = words_only (by_flow (either (one_operand is_memory) (one_operand is_far)))
operation ops.Call = words_only (by_flow (either (one_operand is_place) (one_operand is_immediate)))
operation ops.CallFar = words_only (by_flow (either (one_operand is_memory) (one_operand is_far)))
operation ops.Ret = words_only (by_flow (either no_operand (one_operand is_immediate)))
operation ops.Retf = words_only (by_flow (either no_operand (one_operand is_immediate)))
operation ops.Int = words_only (by_flow (one_operand is_immediate))
operation ops.Int3 = words_only (by_flow no_operand)
operation ops.Into = words_only (by_flow no_operand)
operation ops.Iret = words_only (by_flow no_operand)
operation ops.Bound = words_only (by_flow (two_operands is_register is_memory))
operation ops.Enter = words_only (by_flow (two_operands is_immediate is_immediate))
operation ops.Leave = words_only (by_flow no_operand)
-- flags and the processor
operation ops.Clc = by_core no_operand
operation ops.Stc = by_core no_operand
operation ops.Cmc = by_core no_operand
operation ops.Cld = by_core no_operand
operation ops.Std = by_core no_operand
operation ops.Cli = by_flow no_operand
operation ops.Sti = by_flow no_operand
operation ops.Hlt = by_flow no_operand
operation ops.Wait = by_core no_operand
-- ports
operation ops.In = by_flow (two_operands is_register is_count)
operation ops.Out = by_flow (two_operands is_count is_register)
operation ops.Ins = by_flow no_operand
operation ops.Outs = by_flow no_operand
-- far pointers and segments
operation ops.Les = words_only (by_flow (two_operands is_register is_memory))
operation ops.Lds = words_only (by_flow (two_operands is_register is_memory))
operation ops.Lss = words_only (by_flow (two_operands is_register is_memory))
operation ops.Lfs = words_only (by_flow (two_operands is_register is_memory))
operation ops.Lgs = words_only (by_flow (two_operands is_register is_memory))
operation ops.Lar = words_only (by_flow (two_operands is_register is_place))
operation ops.Lsl = words_only (by_flow (two_operands is_register is_place))
operation ops.Verr = words_only (by_flow (one_operand is_place))
operation ops.Verw = words_only (by_flow (one_operand is_place))
operation ops.Arpl = words_only (by_flow (two_operands is_place is_register))
-- the system's instructions and the coprocessor's escape, which only raise an exception here
operation ops.Sldt = by_flow (one_operand is_place)
operation ops.Str = by_flow (one_operand is_place)
operation ops.Lldt = by_flow (one_operand is_place)
operation ops.Ltr = by_flow (one_operand is_place)
operation ops.Sgdt = by_flow (one_operand is_memory)
operation ops.Sidt = by_flow (one_operand is_memory)
operation ops.Lgdt = by_flow (one_operand is_memory)
operation ops.Lidt = by_flow (one_operand is_memory)
operation ops.Smsw = by_flow (one_operand is_place)
operation ops.Lmsw = by_flow (one_operand is_place)
operation ops.Clts = by_flow no_operand
operation ops.MovControl = by_flow no_operand
operation ops.MovDebug = by_flow no_operand
operation ops.MovTest = by_flow no_operand
operation ops.Esc = by_flow (one_operand is_place)

-- the kinds that the operands of an operation have
abbrev pub suits : Op → Shape
suits op = (operation op).shape

-- the operation has no form in bytes
abbrev pub is_wide_only : Op → Bool
is_wide_only op = (operation op).wide_only

-- the operation may be locked
abbrev pub takes_lock : Op → Bool
takes_lock op = (operation op).lockable

-- a number in the variant is one that there is
abbrev pub has_good_number : Op → Bool
has_good_number op = (operation op).numbered

-- an instruction with these first operands is one of exec_core, and else one of exec_flow
abbrev pub is_of_core : Owner → Operand → Operand → Bool
is_of_core Core first second = true
is_of_core Flow first second = false
is_of_core ByFirst first second = not (is_segment (operand_kind first))
is_of_core ByOperands first second = not (is_segment (operand_kind first)) && not (is_segment (operand_kind second))

-- ---- widths and numbers

-- a width of a general register
abbrev pub is_width : ℕ → Bool
is_width n = n == 8 || (n == 16 || n == 32)

-- a register's number
abbrev pub is_number : Option ℕ → Bool
is_number None = true
is_number (Some n) = nat_lt n 8

-- the parts of a place in memory are ones that there are
abbrev pub is_place_in_memory : MemForm → Bool
is_place_in_memory m =
    is_number m.base && is_number m.index && (m.scale == 1 || m.scale == 2 || m.scale == 4 || m.scale == 8)

-- the width and the numbers of an operand are ones that there are
abbrev pub is_good : Operand → Bool
is_good (operands.Reg width number) = is_width width && nat_lt number 8
is_good (operands.Mem place) = is_place_in_memory place
is_good _ = true

-- the instruction has an operation's operands, width and numbers; with LOCK its destination is in memory
pub record IsWellFormed (insn : Insn) : Type 0 where
  pub kinds : IsTrue (suits insn.op (operand_kind insn.first) (operand_kind insn.second) (operand_kind insn.third))
  pub number : IsTrue (has_good_number insn.op)
  pub width : IsTrue (is_width insn.width)
  pub wide : IsTrue (not (is_wide_only insn.op) || not (insn.width == 8))
  pub first : IsTrue (is_good insn.first)
  pub second : IsTrue (is_good insn.second)
  pub third : IsTrue (is_good insn.third)
  pub locked : IsTrue (not insn.locked || is_memory (operand_kind insn.first))
