-- What the forms of a row denote, and the instruction that they make.
-- Source: 80386 Programmer's Reference Manual, ch. 17 and appendix A.
use Rattle.std.specs.Prelude.{ℕ, ◌/◌, ◌%◌, Bool, true, false, not, Some, None, ◌==◌, ◌&&◌, ◌||◌, if◌then◌else◌}
use Rattle.client_world.specs.{declared.segments.SegReg.{SegReg}, declared.segments.FarPtr.{FarPtr}}
use Rattle.insn_forms.specs.{declared.insn.Op.{Op}, declared.rows.Form.{Form}, declared.rows.Form.TheVariants.{Empty, Eb, Ew, Ev, Gb, Gw}}
use Rattle.insn_forms.specs.declared.rows.Form.TheVariants.{Gv, RvMw, Sw, M, Al, Ax, Cl, Dx, Const1, Ib, Iw, Iz, Is, Jb, Jz, Ip, Ob, Ov, Zb}
use Rattle.insn_forms.specs.declared.rows.Form.TheVariants.{Zv, Xb, Xv, SegEs, SegCs, SegSs, SegDs, SegFs, SegGs, ModRm}
use Rattle.insn_forms.specs.{declared.rows.Row.{Row}, declared.insn.Operand.{Operand}, declared.insn.Insn.{Insn}}
use Rattle.insn_forms.specs.{declared.pieces.Prefixes.{Prefixes}, declared.pieces.Head.{Head}, declared.pieces.Addressing.{Addressing}}
use Rattle.insn_forms.specs.{Kinds.{takes_lock}, Addressing.{mod_of, reg_of, rm_of, sign_extended_byte, segment_or, place, memory}}
use Rattle.client_world.specs.declared.segments.SegReg.TheVariants as segs
use Rattle.insn_forms.specs.declared.insn.Op.TheVariants as ops
use Rattle.insn_forms.specs.declared.insn.Operand.TheVariants as operands

-- ---- which rows there are

-- the form is a register or memory of ModRM that may be locked
abbrev pub is_e : Form → Bool
is_e Eb = true
is_e Ev = true
is_e _ = false

-- the form is memory of ModRM alone
abbrev pub is_m : Form → Bool
is_m M = true
is_m _ = false

-- the row has an operation
abbrev pub has_op : Row → Bool
has_op r = elim r.op [ Some op ↦ true | None ↦ false ]

-- the row may be locked where its destination is in memory
abbrev pub may_lock : Row → Bool
may_lock r = elim r.op [ Some op ↦ takes_lock op && is_e r.first | None ↦ false ]

-- there is such a row with LOCK or without, with an operand in memory or in a register
unfoldable pub is_row : Bool → Row → Bool → Bool
is_row lock r memory =
    has_op r && (not lock || (may_lock r && memory)) && (memory || not (is_m r.first || is_m r.second))

-- ---- operands

-- the number of bytes of its own that a form has, after ModRM, SIB and displacement
abbrev pub imm_size : Bool → Bool → Form → ℕ
imm_size wide addr32 Ib = 1
imm_size wide addr32 Is = 1
imm_size wide addr32 Jb = 1
imm_size wide addr32 Iw = 2
imm_size wide addr32 Iz = if wide then 4 else 2
imm_size wide addr32 Jz = if wide then 4 else 2
imm_size wide addr32 Ip = if wide then 6 else 4
imm_size wide addr32 Ob = if addr32 then 4 else 2
imm_size wide addr32 Ov = if addr32 then 4 else 2
imm_size wide addr32 _ = 0

-- the operand size
abbrev pub width_of : Bool → ℕ
width_of wide = if wide then 32 else 16

-- the register or memory of ModRM
abbrev pub register_or_memory : ℕ → Prefixes → Bool → Addressing → Operand
register_or_memory width prefixes addr32 address =
    if mod_of address.modrm == 3 then operands.Reg width (rm_of address.modrm)
    else operands.Mem (memory prefixes addr32 address)

-- the segment register of a number 0 to 5
abbrev pub segment_register : ℕ → SegReg
segment_register n =
    if n == 0 then segs.Es else
    if n == 1 then segs.Cs else
    if n == 2 then segs.Ss else
    if n == 3 then segs.Ds else
    if n == 4 then segs.Fs else
    segs.Gs

-- a far pointer: the offset, and then the selector
abbrev pub far_pointer : Bool → ℕ → FarPtr
far_pointer wide v =
    if wide then record { sel = v / 0x100000000; off = v % 0x100000000 }
    else record { sel = v / 0x10000; off = v % 0x10000 }

-- a direct offset
abbrev pub direct : Prefixes → ℕ → Operand
direct prefixes v = operands.Mem (place prefixes.seg None None 1 v)

-- the operand of a form, whose own bytes are the number v
unfoldable pub operand : Head → Bool → Bool → Addressing → Form → ℕ → Operand
operand head wide addr32 address Empty v = operands.Empty
operand head wide addr32 address Eb v = register_or_memory 8 head.prefixes addr32 address
operand head wide addr32 address Ew v = register_or_memory 16 head.prefixes addr32 address
operand head wide addr32 address Ev v = register_or_memory (width_of wide) head.prefixes addr32 address
operand head wide addr32 address Gb v = operands.Reg 8 (reg_of address.modrm)
operand head wide addr32 address Gw v = operands.Reg 16 (reg_of address.modrm)
operand head wide addr32 address Gv v = operands.Reg (width_of wide) (reg_of address.modrm)
operand head wide addr32 address RvMw v = register_or_memory (width_of wide) head.prefixes addr32 address
operand head wide addr32 address Sw v = operands.Seg (segment_register (reg_of address.modrm))
operand head wide addr32 address M v = operands.Mem (memory head.prefixes addr32 address)
operand head wide addr32 address Al v = operands.Reg 8 0
operand head wide addr32 address Ax v = operands.Reg (width_of wide) 0
operand head wide addr32 address Cl v = operands.Reg 8 1
operand head wide addr32 address Dx v = operands.Reg 16 2
operand head wide addr32 address Const1 v = operands.Imm 1
operand head wide addr32 address Ib v = operands.Imm v
operand head wide addr32 address Iw v = operands.Imm v
operand head wide addr32 address Iz v = operands.Imm v
operand head wide addr32 address Is v = operands.Imm (if wide then sign_extended_byte v else sign_extended_byte v % 0x10000)
operand head wide addr32 address Jb v = operands.Imm (sign_extended_byte v)
operand head wide addr32 address Jz v = operands.Imm v
operand head wide addr32 address Ip v = operands.Far (far_pointer wide v)
operand head wide addr32 address Ob v = direct head.prefixes v
operand head wide addr32 address Ov v = direct head.prefixes v
operand head wide addr32 address Zb v = operands.Reg 8 (head.opcode % 8)
operand head wide addr32 address Zv v = operands.Reg (width_of wide) (head.opcode % 8)
operand head wide addr32 address Xb v = operands.Empty
operand head wide addr32 address Xv v = operands.Empty
operand head wide addr32 address SegEs v = operands.Seg segs.Es
operand head wide addr32 address SegCs v = operands.Seg segs.Cs
operand head wide addr32 address SegSs v = operands.Seg segs.Ss
operand head wide addr32 address SegDs v = operands.Seg segs.Ds
operand head wide addr32 address SegFs v = operands.Seg segs.Fs
operand head wide addr32 address SegGs v = operands.Seg segs.Gs
operand head wide addr32 address ModRm v = operands.Empty

-- ---- instructions

-- the width of a form: 8 bits for b, 16 for w, else the operand size
abbrev pub form_width : Bool → Form → ℕ
form_width wide Eb = 8
form_width wide Gb = 8
form_width wide Al = 8
form_width wide Ob = 8
form_width wide Zb = 8
form_width wide Xb = 8
form_width wide Ew = 16
form_width wide RvMw = 16
form_width wide Sw = 16
form_width wide _ = width_of wide

-- the width of a row is that of its first form; a port's number has none, so of OUT that of the second (own)
abbrev pub row_width : Bool → Form → Form → ℕ
row_width wide Ib second = form_width wide second
row_width wide Dx second = form_width wide second
row_width wide first second = form_width wide first

-- the operation of a row; one without an operation encodes nothing, and what is given for it here never counts
abbrev pub op_of : Row → Op
op_of r = elim r.op [ Some op ↦ op | None ↦ ops.Esc ]

-- the instruction of a row and its operands
unfoldable pub insn_of : Head → Bool → Bool → Row → Operand → Operand → Operand → Insn
insn_of head wide addr32 r first second third = record {
  op = op_of r;
  width = row_width wide r.first r.second;
  addr32 = addr32;
  seg = segment_or head.prefixes.seg segs.Ds;
  rep = head.prefixes.rep;
  locked = head.prefixes.lock;
  first = first;
  second = second;
  third = third;
}
