-- ModRM, SIB and displacement: how long they are, and the place in memory that they name.
-- Source: 80386 Programmer's Reference Manual, ch. 17, "ModR/M and SIB Bytes", tables 17-2 to 17-4.
use Rattle.std.specs.Prelude.{ℕ, ◌+◌, ◌/◌, ◌%◌, Bool, true, false, not, Option, Some, None, nat_lt, ◌==◌, ◌&&◌, ◌||◌, if◌then◌else◌}
use Rattle.client_world.specs.declared.segments.SegReg.{SegReg}
use Rattle.insn_forms.specs.{declared.rows.OpMap.{OpMap}, declared.rows.Form.{Form}, declared.rows.Form.TheVariants.{Eb, Ew, Ev, Gb, Gw}}
use Rattle.insn_forms.specs.{declared.rows.Form.TheVariants.{Gv, RvMw, Sw, M, ModRm}, declared.rows.Row.{Row}}
use Rattle.insn_forms.specs.{declared.insn.MemForm.{MemForm}, declared.pieces.Prefixes.{Prefixes}, declared.pieces.Addressing.{Addressing}}
use Rattle.insn_forms.specs.OpcodeMap.{opcode_row}
use Rattle.client_world.specs.declared.segments.SegReg.TheVariants as segs

-- ---- the bytes

-- the mod field of a ModRM byte: 3 is a register
abbrev pub mod_of : ℕ → ℕ
mod_of modrm = modrm / 64

-- its reg field: a register, or the row of a group
abbrev pub reg_of : ℕ → ℕ
reg_of modrm = modrm / 8 % 8

-- its rm field: a register, or the form of a place in memory
abbrev pub rm_of : ℕ → ℕ
rm_of modrm = modrm % 8

-- the operand is in memory
abbrev pub in_memory : ℕ → Bool
in_memory modrm = not (mod_of modrm == 3)

-- the form reads a ModRM byte
abbrev pub has_modrm : Form → Bool
has_modrm Eb = true
has_modrm Ew = true
has_modrm Ev = true
has_modrm Gb = true
has_modrm Gw = true
has_modrm Gv = true
has_modrm RvMw = true
has_modrm Sw = true
has_modrm M = true
has_modrm ModRm = true
has_modrm _ = false

-- an opcode has a ModRM byte where its row at reg 0 has one; the rows of a group agree in it
unfoldable pub modrm_size : OpMap → ℕ → ℕ
modrm_size map opcode =
    let r = opcode_row map opcode 0 in
    if has_modrm r.first || has_modrm r.second then 1 else 0

-- of the moves of control, debug and test registers the ModRM byte is the last one, whatever it says
abbrev pub is_lone : Row → Bool
is_lone r = elim r.first [ ModRm ↦ true | _ ↦ false ]

-- a SIB byte follows in 32-bit addressing where rm is 4
unfoldable pub sib_size : Bool → Row → ℕ → ℕ
sib_size addr32 r modrm = if addr32 && not (is_lone r) && in_memory modrm && rm_of modrm == 4 then 1 else 0

-- the number of bytes of the displacement
unfoldable pub disp_size : Bool → Row → ℕ → ℕ → ℕ
disp_size addr32 r modrm sib =
    if is_lone r || not (in_memory modrm) then 0 else
    if mod_of modrm == 1 then 1 else
    if mod_of modrm == 2 then (if addr32 then 4 else 2) else
    if addr32 then (if rm_of modrm == 5 || (rm_of modrm == 4 && sib % 8 == 5) then 4 else 0) else
    (if rm_of modrm == 6 then 2 else 0)

-- ---- the place in memory

-- a byte, sign-extended to 32 bits
abbrev pub sign_extended_byte : ℕ → ℕ
sign_extended_byte v = if nat_lt (v % 256) 128 then v % 256 else v % 256 + 0xffffff00

-- the base register of 16-bit addressing: BX is 3, BP 5, SI 6, DI 7
abbrev pub base16 : ℕ → ℕ → Option ℕ
base16 modrm rm =
    if rm == 0 || rm == 1 || rm == 7 then Some 3 else
    if rm == 2 || rm == 3 then Some 5 else
    if rm == 4 then Some 6 else
    if rm == 5 then Some 7 else
    if mod_of modrm == 0 then None else Some 5

-- its index register: SI or DI
abbrev pub index16 : ℕ → Option ℕ
index16 rm =
    if rm == 0 || rm == 2 then Some 6 else
    if rm == 1 || rm == 3 then Some 7 else
    None

-- the base register of 32-bit addressing, from rm or the low bits of SIB; 5 with mod 0 is none
abbrev pub base32 : ℕ → ℕ → Option ℕ
base32 modrm base = if base == 5 && mod_of modrm == 0 then None else Some base

-- the index register of a SIB byte; 4 is none
abbrev pub index32 : ℕ → Option ℕ
index32 sib = if sib / 8 % 8 == 4 then None else Some (sib / 8 % 8)

-- its scale, by the highest two bits; 1 where there is no index (own)
abbrev pub scale_of : ℕ → ℕ
scale_of sib =
    if sib / 8 % 8 == 4 || sib / 64 == 0 then 1 else
    if sib / 64 == 1 then 2 else
    if sib / 64 == 2 then 4 else
    8

-- SS where the base is BP, EBP or ESP, else DS
abbrev pub default_segment : Option ℕ → SegReg
default_segment None = segs.Ds
default_segment (Some base) = if base == 4 || base == 5 then segs.Ss else segs.Ds

-- the segment of the prefixes, or this one
abbrev pub segment_or : Option SegReg → SegReg → SegReg
segment_or (Some seg) other = seg
segment_or None other = other

-- the place of these parts, in the segment of the prefixes or the default one
abbrev pub place : Option SegReg → Option ℕ → Option ℕ → ℕ → ℕ → MemForm
place seg base index scale disp =
    record { base = base; index = index; scale = scale; disp = disp; seg = segment_or seg (default_segment base) }

-- the displacement: one of a byte is sign-extended
abbrev pub displacement : Addressing → ℕ
displacement address = if mod_of address.modrm == 1 then sign_extended_byte address.disp else address.disp

-- the place in memory that ModRM, SIB and displacement name
unfoldable pub memory : Prefixes → Bool → Addressing → MemForm
memory prefixes addr32 address =
    let modrm = address.modrm in
    let sib = address.sib in
    let disp = displacement address in
    if addr32 then
    (if rm_of modrm == 4
    then place prefixes.seg (base32 modrm (sib % 8)) (index32 sib) (scale_of sib) disp
    else place prefixes.seg (base32 modrm (rm_of modrm)) None 1 disp)
    else place prefixes.seg (base16 modrm (rm_of modrm)) (index16 (rm_of modrm)) 1 disp
