-- The two opcode maps. Source: 80386 Programmer's Reference Manual, appendix A.
use Rattle.std.specs.Prelude.{ℕ, ◌+◌, ◌%◌, Some, None, nat_lt, nat_le, ◌==◌, ◌&&◌, if◌then◌else◌, suc, List, [], ◌∷◌}
use Rattle.insn_forms.specs.{declared.rows.OpMap.{OpMap}, declared.rows.OpMap.TheVariants.{One, Two}, declared.insn.Op.{Op}}
use Rattle.insn_forms.specs.{declared.rows.Form.{Form}, declared.rows.Form.TheVariants.{Empty, Eb, Ew, Ev, Gb, Gw, Gv, RvMw, Sw, M, Al, Ax}}
use Rattle.insn_forms.specs.declared.rows.Form.TheVariants.{Cl, Dx, Const1, Ib, Iw, Iz, Is, Jb, Jz, Ip, Ob, Ov, Zb, Zv, Xb, Xv, SegEs}
use Rattle.insn_forms.specs.{declared.rows.Form.TheVariants.{SegCs, SegSs, SegDs, SegFs, SegGs, ModRm}, declared.rows.Row.{Row}}
use Rattle.insn_forms.specs.declared.insn.Op.TheVariants as ops

-- ---- rows and lines

-- the row of an operation and the forms of its operands
abbrev pub row : Op → Form → Form → Form → Row
row op first second third = record { op = Some op; first = first; second = second; third = third }

-- no encoding; the forms say what would be read
abbrev pub no_row : Form → Form → Row
no_row first second = record { op = None; first = first; second = second; third = Empty }

-- A line of a map: one opcode; a span of opcodes with one row; six opcodes from one on, an operation's usual forms;
-- sixteen opcodes from one on, by the condition in the low four bits; one opcode with a row for each reg field.
pub data Line : Type 0 where
  at : ℕ → Row → Line
  span : ℕ → ℕ → Row → Line
  six : ℕ → Op → Line
  conditions : ℕ → (ℕ → Row) → Line
  group : ℕ → List Row → Line

-- the usual forms of an operation, by the low three bits of the opcode
abbrev pub usual_rows : Op → List Row
usual_rows op =
    row op Eb Gb Empty ∷
    row op Ev Gv Empty ∷
    row op Gb Eb Empty ∷
    row op Gv Ev Empty ∷
    row op Al Ib Empty ∷
    row op Ax Iz Empty ∷
    []

-- the row with this number, where the first has the number i
abbrev pub pick : ℕ → List Row → ℕ → Row
pick i [] n = no_row Empty Empty
pick i (r ∷ rs) n = if n == i then r else pick (suc i) rs n

-- the row of an opcode and a reg field: that of the first line which has the opcode
abbrev pub look : List Line → ℕ → ℕ → Row
look [] opcode reg = no_row Empty Empty
look (at n r ∷ ls) opcode reg = if opcode == n then r else look ls opcode reg
look (span low high r ∷ ls) opcode reg = if nat_le low opcode && nat_le opcode high then r else look ls opcode reg
look (six low op ∷ ls) opcode reg =
    if nat_le low opcode && nat_le opcode (low + 5) then pick 0 (usual_rows op) (opcode % 8) else look ls opcode reg
look (conditions low r ∷ ls) opcode reg =
    if nat_le low opcode && nat_le opcode (low + 15) then r (opcode % 16) else look ls opcode reg
look (group n rows ∷ ls) opcode reg = if opcode == n then pick 0 rows reg else look ls opcode reg

-- ---- groups

-- group 1: arithmetic with these forms
unfoldable pub arithmetic : Form → Form → List Row
arithmetic first second =
    row ops.Add first second Empty ∷
    row ops.Or first second Empty ∷
    row ops.Adc first second Empty ∷
    row ops.Sbb first second Empty ∷
    row ops.And first second Empty ∷
    row ops.Sub first second Empty ∷
    row ops.Xor first second Empty ∷
    row ops.Cmp first second Empty ∷
    []

-- group 2: shifts and rotates by this count
unfoldable pub shifts : Form → Form → List Row
shifts first count =
    row ops.Rol first count Empty ∷
    row ops.Ror first count Empty ∷
    row ops.Rcl first count Empty ∷
    row ops.Rcr first count Empty ∷
    row ops.Shl first count Empty ∷
    row ops.Shr first count Empty ∷
    no_row first count ∷
    row ops.Sar first count Empty ∷
    []

-- group 3: operations on one operand, and TEST with an immediate
unfoldable pub unary_group : Form → Form → List Row
unary_group first immediate =
    row ops.Test first immediate Empty ∷
    no_row first Empty ∷
    row ops.Not first Empty Empty ∷
    row ops.Neg first Empty Empty ∷
    row ops.Mul first Empty Empty ∷
    row ops.Imul first Empty Empty ∷
    row ops.Div first Empty Empty ∷
    row ops.Idiv first Empty Empty ∷
    []

-- a row at reg 0 alone
unfoldable pub alone : Row → List Row
alone r =
    r ∷
    no_row r.first r.second ∷
    no_row r.first r.second ∷
    no_row r.first r.second ∷
    no_row r.first r.second ∷
    no_row r.first r.second ∷
    no_row r.first r.second ∷
    no_row r.first r.second ∷
    []

-- MOV from a segment register
unfoldable pub group_8c : List Row
group_8c =
    row ops.Mov RvMw Sw Empty ∷
    row ops.Mov RvMw Sw Empty ∷
    row ops.Mov RvMw Sw Empty ∷
    row ops.Mov RvMw Sw Empty ∷
    row ops.Mov RvMw Sw Empty ∷
    row ops.Mov RvMw Sw Empty ∷
    no_row RvMw Sw ∷
    no_row RvMw Sw ∷
    []

-- MOV to a segment register, which CS has not
unfoldable pub group_8e : List Row
group_8e =
    row ops.Mov Sw Ew Empty ∷
    no_row Sw Ew ∷
    row ops.Mov Sw Ew Empty ∷
    row ops.Mov Sw Ew Empty ∷
    row ops.Mov Sw Ew Empty ∷
    row ops.Mov Sw Ew Empty ∷
    no_row Sw Ew ∷
    no_row Sw Ew ∷
    []

-- group 4
unfoldable pub group_fe : List Row
group_fe =
    row ops.Inc Eb Empty Empty ∷
    row ops.Dec Eb Empty Empty ∷
    no_row Eb Empty ∷
    no_row Eb Empty ∷
    no_row Eb Empty ∷
    no_row Eb Empty ∷
    no_row Eb Empty ∷
    no_row Eb Empty ∷
    []

-- group 5
unfoldable pub group_ff : List Row
group_ff =
    row ops.Inc Ev Empty Empty ∷
    row ops.Dec Ev Empty Empty ∷
    row ops.Call Ev Empty Empty ∷
    row ops.CallFar M Empty Empty ∷
    row ops.Jmp Ev Empty Empty ∷
    row ops.JmpFar M Empty Empty ∷
    row ops.Push Ev Empty Empty ∷
    no_row Ev Empty ∷
    []

-- group 6
unfoldable pub group_0f00 : List Row
group_0f00 =
    row ops.Sldt Ew Empty Empty ∷
    row ops.Str Ew Empty Empty ∷
    row ops.Lldt Ew Empty Empty ∷
    row ops.Ltr Ew Empty Empty ∷
    row ops.Verr Ew Empty Empty ∷
    row ops.Verw Ew Empty Empty ∷
    no_row Ew Empty ∷
    no_row Ew Empty ∷
    []

-- group 7
unfoldable pub group_0f01 : List Row
group_0f01 =
    row ops.Sgdt M Empty Empty ∷
    row ops.Sidt M Empty Empty ∷
    row ops.Lgdt M Empty Empty ∷
    row ops.Lidt M Empty Empty ∷
    row ops.Smsw Ew Empty Empty ∷
    no_row Ew Empty ∷
    row ops.Lmsw Ew Empty Empty ∷
    no_row Ew Empty ∷
    []

-- group 8
unfoldable pub group_0fba : List Row
group_0fba =
    no_row Ev Ib ∷
    no_row Ev Ib ∷
    no_row Ev Ib ∷
    no_row Ev Ib ∷
    row ops.Bt Ev Ib Empty ∷
    row ops.Bts Ev Ib Empty ∷
    row ops.Btr Ev Ib Empty ∷
    row ops.Btc Ev Ib Empty ∷
    []

-- opcodes 00 to 1F
unfoldable pub map_one_00 : List Line
map_one_00 =
    six 0x00 ops.Add ∷
    at 0x06 (row ops.Push SegEs Empty Empty) ∷
    at 0x07 (row ops.Pop SegEs Empty Empty) ∷
    six 0x08 ops.Or ∷
    at 0x0e (row ops.Push SegCs Empty Empty) ∷
    six 0x10 ops.Adc ∷
    at 0x16 (row ops.Push SegSs Empty Empty) ∷
    at 0x17 (row ops.Pop SegSs Empty Empty) ∷
    six 0x18 ops.Sbb ∷
    at 0x1e (row ops.Push SegDs Empty Empty) ∷
    at 0x1f (row ops.Pop SegDs Empty Empty) ∷
    []

-- opcodes 20 to 3F
unfoldable pub map_one_20 : List Line
map_one_20 =
    six 0x20 ops.And ∷
    at 0x27 (row ops.Daa Empty Empty Empty) ∷
    six 0x28 ops.Sub ∷
    at 0x2f (row ops.Das Empty Empty Empty) ∷
    six 0x30 ops.Xor ∷
    at 0x37 (row ops.Aaa Empty Empty Empty) ∷
    six 0x38 ops.Cmp ∷
    at 0x3f (row ops.Aas Empty Empty Empty) ∷
    []

-- opcodes 40 to 5F
unfoldable pub map_one_40 : List Line
map_one_40 =
    span 0x40 0x47 (row ops.Inc Zv Empty Empty) ∷
    span 0x48 0x4f (row ops.Dec Zv Empty Empty) ∷
    span 0x50 0x57 (row ops.Push Zv Empty Empty) ∷
    span 0x58 0x5f (row ops.Pop Zv Empty Empty) ∷
    []

-- opcodes 60 to 7F
unfoldable pub map_one_60 : List Line
map_one_60 =
    at 0x60 (row ops.Pusha Empty Empty Empty) ∷
    at 0x61 (row ops.Popa Empty Empty Empty) ∷
    at 0x62 (row ops.Bound Gv M Empty) ∷
    at 0x63 (row ops.Arpl Ew Gw Empty) ∷
    at 0x68 (row ops.Push Iz Empty Empty) ∷
    at 0x69 (row ops.Imul Gv Ev Iz) ∷
    at 0x6a (row ops.Push Is Empty Empty) ∷
    at 0x6b (row ops.Imul Gv Ev Is) ∷
    at 0x6c (row ops.Ins Xb Empty Empty) ∷
    at 0x6d (row ops.Ins Xv Empty Empty) ∷
    at 0x6e (row ops.Outs Xb Empty Empty) ∷
    at 0x6f (row ops.Outs Xv Empty Empty) ∷
    conditions 0x70 (λ n. row (ops.Jcc n) Jb Empty Empty) ∷
    []

-- opcodes 80 to 9F
unfoldable pub map_one_80 : List Line
map_one_80 =
    group 0x80 (arithmetic Eb Ib) ∷
    group 0x81 (arithmetic Ev Iz) ∷
    group 0x82 (arithmetic Eb Ib) ∷
    group 0x83 (arithmetic Ev Is) ∷
    at 0x84 (row ops.Test Eb Gb Empty) ∷
    at 0x85 (row ops.Test Ev Gv Empty) ∷
    at 0x86 (row ops.Xchg Eb Gb Empty) ∷
    at 0x87 (row ops.Xchg Ev Gv Empty) ∷
    at 0x88 (row ops.Mov Eb Gb Empty) ∷
    at 0x89 (row ops.Mov Ev Gv Empty) ∷
    at 0x8a (row ops.Mov Gb Eb Empty) ∷
    at 0x8b (row ops.Mov Gv Ev Empty) ∷
    group 0x8c group_8c ∷
    at 0x8d (row ops.Lea Gv M Empty) ∷
    group 0x8e group_8e ∷
    group 0x8f (alone (row ops.Pop Ev Empty Empty)) ∷
    span 0x90 0x97 (row ops.Xchg Ax Zv Empty) ∷
    at 0x98 (row ops.Cbw Empty Empty Empty) ∷
    at 0x99 (row ops.Cwd Empty Empty Empty) ∷
    at 0x9a (row ops.CallFar Ip Empty Empty) ∷
    at 0x9b (row ops.Wait Empty Empty Empty) ∷
    at 0x9c (row ops.Pushf Empty Empty Empty) ∷
    at 0x9d (row ops.Popf Empty Empty Empty) ∷
    at 0x9e (row ops.Sahf Empty Empty Empty) ∷
    at 0x9f (row ops.Lahf Empty Empty Empty) ∷
    []

-- opcodes A0 to BF
unfoldable pub map_one_a0 : List Line
map_one_a0 =
    at 0xa0 (row ops.Mov Al Ob Empty) ∷
    at 0xa1 (row ops.Mov Ax Ov Empty) ∷
    at 0xa2 (row ops.Mov Ob Al Empty) ∷
    at 0xa3 (row ops.Mov Ov Ax Empty) ∷
    at 0xa4 (row ops.Movs Xb Empty Empty) ∷
    at 0xa5 (row ops.Movs Xv Empty Empty) ∷
    at 0xa6 (row ops.Cmps Xb Empty Empty) ∷
    at 0xa7 (row ops.Cmps Xv Empty Empty) ∷
    at 0xa8 (row ops.Test Al Ib Empty) ∷
    at 0xa9 (row ops.Test Ax Iz Empty) ∷
    at 0xaa (row ops.Stos Xb Empty Empty) ∷
    at 0xab (row ops.Stos Xv Empty Empty) ∷
    at 0xac (row ops.Lods Xb Empty Empty) ∷
    at 0xad (row ops.Lods Xv Empty Empty) ∷
    at 0xae (row ops.Scas Xb Empty Empty) ∷
    at 0xaf (row ops.Scas Xv Empty Empty) ∷
    span 0xb0 0xb7 (row ops.Mov Zb Ib Empty) ∷
    span 0xb8 0xbf (row ops.Mov Zv Iz Empty) ∷
    []

-- opcodes C0 to DF
unfoldable pub map_one_c0 : List Line
map_one_c0 =
    group 0xc0 (shifts Eb Ib) ∷
    group 0xc1 (shifts Ev Ib) ∷
    at 0xc2 (row ops.Ret Iw Empty Empty) ∷
    at 0xc3 (row ops.Ret Empty Empty Empty) ∷
    at 0xc4 (row ops.Les Gv M Empty) ∷
    at 0xc5 (row ops.Lds Gv M Empty) ∷
    group 0xc6 (alone (row ops.Mov Eb Ib Empty)) ∷
    group 0xc7 (alone (row ops.Mov Ev Iz Empty)) ∷
    at 0xc8 (row ops.Enter Iw Ib Empty) ∷
    at 0xc9 (row ops.Leave Empty Empty Empty) ∷
    at 0xca (row ops.Retf Iw Empty Empty) ∷
    at 0xcb (row ops.Retf Empty Empty Empty) ∷
    at 0xcc (row ops.Int3 Empty Empty Empty) ∷
    at 0xcd (row ops.Int Ib Empty Empty) ∷
    at 0xce (row ops.Into Empty Empty Empty) ∷
    at 0xcf (row ops.Iret Empty Empty Empty) ∷
    group 0xd0 (shifts Eb Const1) ∷
    group 0xd1 (shifts Ev Const1) ∷
    group 0xd2 (shifts Eb Cl) ∷
    group 0xd3 (shifts Ev Cl) ∷
    at 0xd4 (row ops.Aam Ib Empty Empty) ∷
    at 0xd5 (row ops.Aad Ib Empty Empty) ∷
    at 0xd7 (row ops.Xlat Empty Empty Empty) ∷
    span 0xd8 0xdf (row ops.Esc Ev Empty Empty) ∷
    []

-- opcodes E0 to FF
unfoldable pub map_one_e0 : List Line
map_one_e0 =
    at 0xe0 (row ops.Loopne Jb Empty Empty) ∷
    at 0xe1 (row ops.Loope Jb Empty Empty) ∷
    at 0xe2 (row ops.Loop Jb Empty Empty) ∷
    at 0xe3 (row ops.Jcxz Jb Empty Empty) ∷
    at 0xe4 (row ops.In Al Ib Empty) ∷
    at 0xe5 (row ops.In Ax Ib Empty) ∷
    at 0xe6 (row ops.Out Ib Al Empty) ∷
    at 0xe7 (row ops.Out Ib Ax Empty) ∷
    at 0xe8 (row ops.Call Jz Empty Empty) ∷
    at 0xe9 (row ops.Jmp Jz Empty Empty) ∷
    at 0xea (row ops.JmpFar Ip Empty Empty) ∷
    at 0xeb (row ops.Jmp Jb Empty Empty) ∷
    at 0xec (row ops.In Al Dx Empty) ∷
    at 0xed (row ops.In Ax Dx Empty) ∷
    at 0xee (row ops.Out Dx Al Empty) ∷
    at 0xef (row ops.Out Dx Ax Empty) ∷
    at 0xf4 (row ops.Hlt Empty Empty Empty) ∷
    at 0xf5 (row ops.Cmc Empty Empty Empty) ∷
    group 0xf6 (unary_group Eb Ib) ∷
    group 0xf7 (unary_group Ev Iz) ∷
    at 0xf8 (row ops.Clc Empty Empty Empty) ∷
    at 0xf9 (row ops.Stc Empty Empty Empty) ∷
    at 0xfa (row ops.Cli Empty Empty Empty) ∷
    at 0xfb (row ops.Sti Empty Empty Empty) ∷
    at 0xfc (row ops.Cld Empty Empty Empty) ∷
    at 0xfd (row ops.Std Empty Empty Empty) ∷
    group 0xfe group_fe ∷
    group 0xff group_ff ∷
    []

-- opcodes 0F 00 to 0F 7F
unfoldable pub map_two_00 : List Line
map_two_00 =
    group 0x00 group_0f00 ∷
    group 0x01 group_0f01 ∷
    at 0x02 (row ops.Lar Gv Ew Empty) ∷
    at 0x03 (row ops.Lsl Gv Ew Empty) ∷
    at 0x06 (row ops.Clts Empty Empty Empty) ∷
    at 0x20 (row ops.MovControl ModRm Empty Empty) ∷
    at 0x21 (row ops.MovDebug ModRm Empty Empty) ∷
    at 0x22 (row ops.MovControl ModRm Empty Empty) ∷
    at 0x23 (row ops.MovDebug ModRm Empty Empty) ∷
    at 0x24 (row ops.MovTest ModRm Empty Empty) ∷
    at 0x26 (row ops.MovTest ModRm Empty Empty) ∷
    []

-- opcodes 0F 80 to 0F 9F
unfoldable pub map_two_80 : List Line
map_two_80 =
    conditions 0x80 (λ n. row (ops.Jcc n) Jz Empty Empty) ∷
    conditions 0x90 (λ n. row (ops.Setcc n) Eb Empty Empty) ∷
    []

-- opcodes 0F A0 to 0F FF
unfoldable pub map_two_a0 : List Line
map_two_a0 =
    at 0xa0 (row ops.Push SegFs Empty Empty) ∷
    at 0xa1 (row ops.Pop SegFs Empty Empty) ∷
    at 0xa3 (row ops.Bt Ev Gv Empty) ∷
    at 0xa4 (row ops.Shld Ev Gv Ib) ∷
    at 0xa5 (row ops.Shld Ev Gv Cl) ∷
    at 0xa8 (row ops.Push SegGs Empty Empty) ∷
    at 0xa9 (row ops.Pop SegGs Empty Empty) ∷
    at 0xab (row ops.Bts Ev Gv Empty) ∷
    at 0xac (row ops.Shrd Ev Gv Ib) ∷
    at 0xad (row ops.Shrd Ev Gv Cl) ∷
    at 0xaf (row ops.Imul Gv Ev Empty) ∷
    at 0xb2 (row ops.Lss Gv M Empty) ∷
    at 0xb3 (row ops.Btr Ev Gv Empty) ∷
    at 0xb4 (row ops.Lfs Gv M Empty) ∷
    at 0xb5 (row ops.Lgs Gv M Empty) ∷
    at 0xb6 (row (ops.Movzx 8) Gv Eb Empty) ∷
    at 0xb7 (row (ops.Movzx 16) Gv Ew Empty) ∷
    group 0xba group_0fba ∷
    at 0xbb (row ops.Btc Ev Gv Empty) ∷
    at 0xbc (row ops.Bsf Gv Ev Empty) ∷
    at 0xbd (row ops.Bsr Gv Ev Empty) ∷
    at 0xbe (row (ops.Movsx 8) Gv Eb Empty) ∷
    at 0xbf (row (ops.Movsx 16) Gv Ew Empty) ∷
    []

-- ---- the maps

-- the row of an opcode of the one-byte map and a reg field
unfoldable pub row_one : ℕ → ℕ → Row
row_one opcode reg =
    if nat_lt opcode 0x20 then look map_one_00 opcode reg else
    if nat_lt opcode 0x40 then look map_one_20 opcode reg else
    if nat_lt opcode 0x60 then look map_one_40 opcode reg else
    if nat_lt opcode 0x80 then look map_one_60 opcode reg else
    if nat_lt opcode 0xa0 then look map_one_80 opcode reg else
    if nat_lt opcode 0xc0 then look map_one_a0 opcode reg else
    if nat_lt opcode 0xe0 then look map_one_c0 opcode reg else
    look map_one_e0 opcode reg

-- the row of an opcode of the second map and a reg field
unfoldable pub row_two : ℕ → ℕ → Row
row_two opcode reg =
    if nat_lt opcode 0x80 then look map_two_00 opcode reg else
    if nat_lt opcode 0xa0 then look map_two_80 opcode reg else
    look map_two_a0 opcode reg

-- the row of an opcode of a map and a reg field
unfoldable pub opcode_row : OpMap → ℕ → ℕ → Row
opcode_row One opcode reg = row_one opcode reg
opcode_row Two opcode reg = row_two opcode reg
