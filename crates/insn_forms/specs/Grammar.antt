-- The grammar: which bytes encode an instruction. An encoding is pieces, each of which has the size that the pieces before
-- it determine, and the instruction is a function of the pieces.
-- Source: 80386 Programmer's Reference Manual, ch. 17, "80386 Instruction Encoding".
use Rattle.std.specs.{Prelude.{◌≡◌, ℕ, ◌+◌, ◌*◌, ◌<◌, Bool, true, List, [], ◌∷◌, ◌++◌, length}, List.{AllByRecursion}}
use Rattle.insn_forms.specs.{declared.rows.OpMap.{OpMap}, declared.rows.OpMap.TheVariants.{One, Two}, declared.rows.Row.{Row}}
use Rattle.insn_forms.specs.{declared.insn.Insn.{Insn}, declared.pieces.Head.{Head}, declared.pieces.Addressing.{Addressing}}
use Rattle.insn_forms.specs.{OpcodeMap.{opcode_row}, Prefixes.{is_prefix, prefixes_of, toggled}, Addressing.{reg_of, in_memory, modrm_size}}
use Rattle.insn_forms.specs.{Addressing.{sib_size, disp_size}, Operands.{is_row, imm_size, operand, insn_of}}

-- ---- bytes

-- they are bytes
abbrev pub AllBytes : List ℕ → Type 0
AllBytes bytes = AllByRecursion (λ b. b < 256) bytes

-- they are prefixes
abbrev pub ArePrefixes : List ℕ → Type 0
ArePrefixes bytes = AllByRecursion (λ b. is_prefix b ≡ true) bytes

-- the number of these bytes, least byte first; of none it is 0
abbrev pub little_endian : List ℕ → ℕ
little_endian [] = 0
little_endian (b ∷ bs) = b + 256 * little_endian bs

-- the bytes of an opcode
abbrev pub opcode_bytes : OpMap → ℕ → List ℕ
opcode_bytes One opcode = opcode ∷ []
opcode_bytes Two opcode = 0x0f ∷ opcode ∷ []

-- ---- what the first pieces determine

-- operands have 32 bits
abbrev pub wide_of : Bool → Head → Bool
wide_of big head = toggled head.prefixes.operand_size big

-- addresses have 32 bits
abbrev pub addr32_of : Bool → Head → Bool
addr32_of big head = toggled head.prefixes.address_size big

-- the row of an opcode and its ModRM byte, which is 0 where there is none
abbrev pub row_with : Head → ℕ → Row
row_with head modrm = opcode_row head.map head.opcode (reg_of modrm)

-- there is a row for this ModRM byte
abbrev pub is_row_with : Head → ℕ → Bool
is_row_with head modrm = is_row head.prefixes.lock (row_with head modrm) (in_memory modrm)

-- ---- encodings

-- the pieces of an encoding in their order; modrm and sib are one byte or none, and the last three are the immediate,
-- offset or far pointer of each of the row's forms
pub record Pieces : Type 0 where
  pub prefixes : List ℕ
  pub map : OpMap
  pub opcode : ℕ
  pub modrm : List ℕ
  pub sib : List ℕ
  pub disp : List ℕ
  pub first : List ℕ
  pub second : List ℕ
  pub third : List ℕ

-- the bytes of the pieces
abbrev pub piece_bytes : Pieces → List ℕ
piece_bytes p =
    p.prefixes ++ (opcode_bytes p.map p.opcode ++ (p.modrm ++ (p.sib ++ (p.disp ++ (p.first ++ (p.second ++ p.third))))))

-- what the prefixes and the opcode say
abbrev pub head_of : Pieces → Head
head_of p = record { prefixes = prefixes_of p.prefixes; map = p.map; opcode = p.opcode }

-- the numbers of ModRM, SIB and displacement
abbrev pub addressing_of : Pieces → Addressing
addressing_of p = record { modrm = little_endian p.modrm; sib = little_endian p.sib; disp = little_endian p.disp }

-- there is a row, and the pieces are those that it has, each of its size
pub record AreRow (big : Bool) (head : Head) (address : Addressing) (p : Pieces) : Type 0 where
  pub modrm : length p.modrm ≡ modrm_size head.map head.opcode
  pub has_row : is_row_with head address.modrm ≡ true
  pub sib : length p.sib ≡ sib_size (addr32_of big head) (row_with head address.modrm) address.modrm
  pub disp : length p.disp ≡ disp_size (addr32_of big head) (row_with head address.modrm) address.modrm address.sib
  pub first : length p.first ≡ imm_size (wide_of big head) (addr32_of big head) (row_with head address.modrm).first
  pub second : length p.second ≡ imm_size (wide_of big head) (addr32_of big head) (row_with head address.modrm).second
  pub third : length p.third ≡ imm_size (wide_of big head) (addr32_of big head) (row_with head address.modrm).third

-- the instruction of the pieces; the last three are the numbers of the forms' own bytes
abbrev pub insn_of_pieces : Bool → Head → Addressing → ℕ → ℕ → ℕ → Insn
insn_of_pieces big head address first second third =
    let r = row_with head address.modrm in
    insn_of head (wide_of big head) (addr32_of big head) r
    (operand head (wide_of big head) (addr32_of big head) address r.first first)
    (operand head (wide_of big head) (addr32_of big head) address r.second second)
    (operand head (wide_of big head) (addr32_of big head) address r.third third)

-- the bytes encode the instruction, where sizes are 32 bits by default if `big`, else 16
pub record Encoding (big : Bool) (insn : Insn) (bytes : List ℕ) : Type 0 where
  pub pieces : Pieces
  pub whole : bytes ≡ piece_bytes pieces
  pub prefixes : ArePrefixes pieces.prefixes
  pub are_row : AreRow big (head_of pieces) (addressing_of pieces) pieces
  pub means : insn ≡ insn_of_pieces big (head_of pieces) (addressing_of pieces)
      (little_endian pieces.first) (little_endian pieces.second) (little_endian pieces.third)
  pub are_bytes : AllBytes bytes

-- some bytes encode the instruction
abbrev pub IsInsn : Insn → Type 0
IsInsn insn = (big : Bool) × (bytes : List ℕ) × Encoding big insn bytes

-- the first of the bytes encode an instruction
abbrev pub HasEncoding : Bool → List ℕ → Type 0
HasEncoding big bytes =
    (insn : Insn) × (front : List ℕ) × (rest : List ℕ) × (bytes ≡ front ++ rest) × Encoding big insn front

-- the bytes are the first of an encoding of any length, and not all of it
abbrev pub BeginsEncoding : Bool → List ℕ → Type 0
BeginsEncoding big bytes = (insn : Insn) × (next : ℕ) × (tail : List ℕ) × Encoding big insn (bytes ++ next ∷ tail)
