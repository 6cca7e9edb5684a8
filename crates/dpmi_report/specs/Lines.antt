-- The lines of the report. Source: own.
use Rattle.std.specs.Prelude.{ℕ, ◌+◌, ◌/◌, ◌++◌, List, [], ◌∷◌, Bool, length, codes, Some, None, count_by, nat_lt}
use Rattle.std.specs.{declared.option.Option.{Option}, Fmt.{decimal}}
use Rattle.hex.specs.Hex.{encode_lower}
use Rattle.sha2.specs.Sha256.{sha256}
use Rattle.client_world.specs.{declared.host_frames.TheConstants.{PAGE_SIZE}, declared.descriptors.Desc.{Desc}}
use Rattle.client_world.specs.{declared.descriptors.Origin.{Origin}, declared.descriptors.Origin.TheVariants.{Own, Low, Entry, Psp}}
use Rattle.client_world.specs.{declared.descriptors.Origin.TheVariants.{Segment, Dos, Host}, declared.outcome.Exit.{Exit}}
use Rattle.client_world.specs.{declared.registers.Mode.{Mode}, declared.registers.Mode.TheVariants.{Real, Protected}}
use Rattle.client_world.specs.{declared.registers.Regs.{Regs}, Descriptor.{access_byte, flags_byte, byte_limit}, Registers.{flags_image}}
use Rattle.client_world.specs.{Selector.{Row, row_at_index, selector_of}, World.{MemoryBlock, block_at}}
use Rattle.dpmi_io.specs.LineEnd.{line_end}
use Rattle.dpmi_report.specs.{Digits.{hex_digit, hex_byte, hex_word, hex_doubleword}, Exits.{exit_text}}

-- the lines of how a run ended, and after how many turns
abbrev pub exit_part : Exit → ℕ → List ℕ
exit_part exit steps = codes "exit " ++ exit_text exit ++ line_end ++ codes "steps " ++ decimal steps ++ line_end

-- how a mode is written
abbrev pub mode_text : Mode → List ℕ
mode_text Real = codes "real"
mode_text Protected = codes "protected"

-- the registers of 32 bits
abbrev pub wide_text : Regs → List ℕ
wide_text r =
    (codes "eax=" ++ hex_doubleword r.eax) ++ (codes " ebx=" ++ hex_doubleword r.ebx) ++ (codes " ecx=" ++ hex_doubleword r.ecx)
    ++ (codes " edx=" ++ hex_doubleword r.edx) ++ (codes " esi=" ++ hex_doubleword r.esi) ++ (codes " edi=" ++ hex_doubleword r.edi)
    ++ (codes " ebp=" ++ hex_doubleword r.ebp) ++ (codes " esp=" ++ hex_doubleword r.esp) ++ (codes " eip=" ++ hex_doubleword r.eip)

-- the flags, with the virtual interrupt flag as IF, and the segment registers
abbrev pub narrow_text : Regs → Bool → List ℕ
narrow_text r vif =
    (codes " fl=" ++ hex_word (flags_image r.flags vif)) ++ (codes " cs=" ++ hex_word r.cs) ++ (codes " ss=" ++ hex_word r.ss)
    ++ (codes " ds=" ++ hex_word r.ds) ++ (codes " es=" ++ hex_word r.es) ++ (codes " fs=" ++ hex_word r.fs)
    ++ (codes " gs=" ++ hex_word r.gs)

-- all registers
abbrev pub regs_text : Regs → Bool → List ℕ
regs_text r vif = wide_text r ++ narrow_text r vif

-- how an origin is written
abbrev pub origin_text : Origin → List ℕ
origin_text Own = codes "own"
origin_text Low = codes "low"
origin_text Entry = codes "entry"
origin_text Psp = codes "psp"
origin_text (Segment segment) = codes "segment"
origin_text (Dos segment) = codes "dos"
origin_text Host = codes "host"

-- the line of the descriptor of a selector: its base and limit in bytes, its access byte, the high half of the flags byte, and its origin
abbrev pub desc_line : ℕ → Desc → Origin → List ℕ
desc_line selector d origin =
    (codes "desc " ++ hex_word selector) ++ (codes " base=" ++ hex_doubleword d.base) ++ (codes " limit=" ++ hex_doubleword (byte_limit d))
    ++ codes " access=" ++ hex_byte (access_byte d) ++ codes " flags=" ++ (hex_digit (flags_byte d / 16) ∷ [])
    ++ codes " origin=" ++ origin_text origin ++ line_end

-- the line of the row at an index; none where it holds no descriptor
abbrev pub desc_text : ℕ → Row → List ℕ
desc_text index None = []
desc_text index (Some row) = desc_line (selector_of index) row.0 row.1

abbrev pub desc_row : List Row → ℕ → List ℕ
desc_row rows index = desc_text index (row_at_index rows index)

-- the line of a memory block: its handle, base and pages, the pages that are locked, and the digest of its bytes
abbrev pub block_line_with : ℕ → ℕ → ℕ → ℕ → List ℕ → List ℕ
block_line_with handle base pages locked digest =
    codes "block " ++ decimal handle ++ (codes " base=" ++ hex_doubleword base) ++ codes " pages=" ++ decimal pages
    ++ codes " locked=" ++ decimal locked ++ codes " sha256=" ++ encode_lower digest ++ line_end

abbrev pub block_line : ℕ → MemoryBlock → List ℕ
block_line handle b = block_line_with handle b.base (length b.bytes / PAGE_SIZE) (count_by (nat_lt 0) b.locks) (sha256 b.bytes)

abbrev pub block_text : ℕ → Option MemoryBlock → List ℕ
block_text handle None = []
block_text handle (Some b) = block_line handle b

-- the line of the block at a place; its handle is one more
abbrev pub block_row : List (Option MemoryBlock) → ℕ → List ℕ
block_row blocks place = block_text (place + 1) (block_at blocks (place + 1))

-- the line of the DOS megabyte, from its digest
abbrev pub digest_line : List ℕ → List ℕ
digest_line digest = codes "dos sha256=" ++ encode_lower digest ++ line_end

abbrev pub dos_line : List ℕ → List ℕ
dos_line dos = digest_line (sha256 dos)
