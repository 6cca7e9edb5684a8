-- The hidden parts of the segment registers, from which accesses are decided.
-- Source: 80386 Programmer's Reference Manual, ch. 5, "Segment Registers", figure 5-7, and figure 5-3 for the bits; own where there is
-- none.
use Rattle.std.specs.Prelude.{ℕ, ◌*◌, Bool, false, ◌&&◌, not, if◌then◌else◌, List, [], ◌∷◌, None, Some, Ok, Err}
use Rattle.std.specs.{declared.option.Option.{Option}, declared.result.Result.{Result}}
use Rattle.client_world.specs.{declared.faults.Fault.{Fault}, declared.faults.TheConstants.{GENERAL_PROTECTION}}
use Rattle.client_world.specs.{declared.memory_map.TheConstants.{PARAGRAPH_SIZE}, declared.registers.Mode.{Mode}}
use Rattle.client_world.specs.{declared.registers.Mode.TheVariants.{Real, Protected}, declared.registers.Regs.{Regs}}
use Rattle.client_world.specs.{declared.segments.SegReg.{SegReg}, declared.segments.SegReg.TheVariants.{Es, Cs, Ss, Ds, Fs, Gs}}
use Rattle.client_world.specs.{Access.{fault_with, stack_or, suits_register}, Descriptor.{access_byte, byte_limit, is_within}}
use Rattle.client_world.specs.{Registers.{has_bit}, Segments.{selector}, Selector.{Row, is_null, row_of_selector}}
use Rattle.guest_space.specs.declared.hidden_parts.Hidden.{Hidden}

-- the part that a row of the table gives a register: none where a read and a write are refused before the offset is asked
abbrev pub part_in_row : SegReg → Row → Option Hidden
part_in_row seg None = None
part_in_row seg (Some row) =
    if not (suits_register seg row.0.kind) then None else
    if not row.0.present then None else
    Some (record { base = row.0.base; limit = byte_limit row.0; access = access_byte row.0; size = row.0.size })

-- a segment of real mode, as present data that may be written
abbrev pub real_part : ℕ → Hidden
real_part segment = record { base = segment * PARAGRAPH_SIZE; limit = 0xFFFF; access = 0xF3; size = false }

-- the part of a register that holds that
unfoldable pub part_of_selector : Mode → List Row → SegReg → ℕ → Option Hidden
part_of_selector Real rows seg sel = Some (real_part sel)
part_of_selector Protected rows seg sel = if is_null sel then None else part_in_row seg (row_of_selector rows sel)

-- the part of a register, by the mode, the registers and the rows of the descriptors
abbrev pub found : Mode → Regs → List Row → SegReg → Option Hidden
found mode r rows seg = part_of_selector mode rows seg (selector r seg)

-- those of all six, by the registers' numbers
abbrev pub all_found : Mode → Regs → List Row → List (Option Hidden)
all_found mode r rows =
    found mode r rows Es ∷ found mode r rows Cs ∷ found mode r rows Ss ∷
    found mode r rows Ds ∷ found mode r rows Fs ∷ found mode r rows Gs ∷ []

-- a register's number
abbrev pub number : SegReg → ℕ
number Es = 0
number Cs = 1
number Ss = 2
number Ds = 3
number Fs = 4
number Gs = 5

-- the access byte is one of data, and that bit of it is set: 2 in what may be written, 4 in what expands down
abbrev pub is_data_with : ℕ → ℕ → Bool
is_data_with access bit = not (has_bit access 8) && has_bit access bit

-- an access decided from a part: the linear address of the segment's first byte, or the fault
abbrev pub base_within : Hidden → SegReg → ℕ → ℕ → Bool → Result ℕ Fault
base_within part seg offset n write =
    if write && not (is_data_with part.access 2) then Err (fault_with GENERAL_PROTECTION 0) else
    if not (is_within (is_data_with part.access 4) part.size part.limit offset n)
    then Err (fault_with (stack_or seg GENERAL_PROTECTION) 0) else
    Ok part.base
