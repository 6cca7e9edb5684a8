-- Where a linear address lies, which places a client may touch, and how an access is refused.
-- Source: 80386 Programmer's Reference Manual, ch. 5, 6, 9 and 15; the memory map and the order of the refusals are own.
use Rattle.std.specs.Prelude.{ℕ, ◌+◌, ◌-◌, ◌*◌, ◌%◌, ◌<◌, ◌^◌, ⊤, zero, suc, Bool, true, false, ◌&&◌, ◌||◌, not, nat_lt, nat_le}
use Rattle.std.specs.Prelude.{if◌then◌else◌, cond, List, [], ◌∷◌, length, None, Some, Ok, Err, is_ok, slice_index, slice_set}
use Rattle.std.specs.{declared.option.Option.{Option}, declared.result.Result.{Result}}
use Rattle.client_world.specs.{declared.registers.Mode.{Mode}, declared.registers.Mode.TheVariants.{Real, Protected}}
use Rattle.client_world.specs.{declared.registers.Regs.{Regs}, declared.segments.SegReg.{SegReg}, declared.segments.SegReg.TheVariants.{Es}}
use Rattle.client_world.specs.{declared.segments.SegReg.TheVariants.{Cs, Ss, Ds, Fs, Gs}, declared.segments.FarPtr.{FarPtr}}
use Rattle.client_world.specs.{declared.descriptors.Kind.{Kind}, declared.faults.Fault.{Fault}}
use Rattle.client_world.specs.declared.faults.TheConstants.{SEGMENT_NOT_PRESENT, STACK_EXCEPTION, GENERAL_PROTECTION, PAGE_FAULT}
use Rattle.client_world.specs.{declared.faults.TheConstants.{PROTECTION_CODE, WRITE_CODE, USER_CODE}, declared.place.Place.{Place}}
use Rattle.client_world.specs.declared.place.Place.TheVariants.{Dos, Block, Host, Nothing}
use Rattle.client_world.specs.declared.memory_map.TheConstants.{PARAGRAPH_SIZE, SEGMENT_SIZE, DOS_SIZE, ROM_START, DOS_VIEW_END}
use Rattle.client_world.specs.declared.memory_map.TheConstants.{BLOCK_REGION, BLOCK_REGION_END, HOST_WINDOW, HOST_WINDOW_END}
use Rattle.client_world.specs.{Descriptor.{is_code, is_writable, is_inside}, Segments.{selector}, Selector.{Row, is_null, row_of_selector}}
use Rattle.client_world.specs.{Selector.{selector_code}, World.{World, MemoryBlock, block_at, with_block_at}}

-- the linear address of an offset in a real-mode segment (80386 Programmer's Reference Manual, ch. 15)
abbrev pub linear_address : ℕ → ℕ → ℕ
linear_address segment offset = segment * PARAGRAPH_SIZE + offset

-- the address in the DOS megabyte that a linear address below 110000h shows (own)
abbrev pub dos_address : ℕ → ℕ
dos_address linear = linear % DOS_SIZE

-- where the byte at an offset of a real-mode segment lies in it; the offset wraps in its segment (own)
abbrev pub real_address : ℕ → ℕ → ℕ
real_address segment offset = dos_address (linear_address segment (offset % SEGMENT_SIZE))

-- the block covers the linear address
abbrev pub covers : MemoryBlock → ℕ → Bool
covers block linear = nat_le block.base linear && nat_lt linear (block.base + length block.bytes)

-- the byte of the block that covers the linear address; the first block of the list has that handle
abbrev pub block_place : List (Option MemoryBlock) → ℕ → ℕ → Place
block_place [] handle linear = Nothing
block_place (None ∷ blocks) handle linear = block_place blocks (handle + 1) linear
block_place (Some block ∷ blocks) handle linear =
    if covers block linear then Block handle (linear - block.base) else block_place blocks (handle + 1) linear

-- where a linear address lies, by the memory map
unfoldable pub place_in : List (Option MemoryBlock) → ℕ → Place
place_in blocks linear =
    if nat_lt linear DOS_VIEW_END then Dos (dos_address linear) else
    if nat_le BLOCK_REGION linear && nat_lt linear BLOCK_REGION_END then block_place blocks 1 linear else
    if nat_le HOST_WINDOW linear && nat_lt linear HOST_WINDOW_END then Host else
    Nothing

abbrev pub place_of : World → ℕ → Place
place_of w linear = place_in w.blocks linear

-- the block is there and has that byte
abbrev pub HasByte : Option MemoryBlock → ℕ → Type 0
HasByte None at = ⊥
HasByte (Some block) at = at < length block.bytes

-- the place is the client's: it lies in the DOS megabyte, or in a memory block that the client holds
abbrev pub IsHeldIn : List (Option MemoryBlock) → Place → Type 0
IsHeldIn blocks (Dos at) = ⊤
IsHeldIn blocks (Block number at) = HasByte (block_at blocks number) at
IsHeldIn blocks Host = ⊥
IsHeldIn blocks Nothing = ⊥

abbrev pub IsHeld : World → Place → Type 0
IsHeld w place = IsHeldIn w.blocks place

-- the client may read, or write, what is there
abbrev pub may_touch : Place → Bool → Bool
may_touch (Dos at) write = not write || nat_lt at ROM_START
may_touch (Block number at) write = true
may_touch Host write = false
may_touch Nothing write = false

-- a page is there, though it may be forbidden
abbrev pub is_present : Place → Bool
is_present (Dos at) = true
is_present (Block number at) = true
is_present Host = true
is_present Nothing = false

-- the bytes of a block, where it is there
abbrev pub bytes_of_block : Option MemoryBlock → List ℕ
bytes_of_block None = []
bytes_of_block (Some block) = block.bytes

-- the byte at a place
abbrev pub byte_of : World → Place → ℕ
byte_of w (Dos at) = slice_index w.dos at
byte_of w (Block number at) = slice_index (bytes_of_block (block_at w.blocks number)) at
byte_of w Host = 0
byte_of w Nothing = 0

abbrev pub with_block_byte : Option MemoryBlock → ℕ → ℕ → Option MemoryBlock
with_block_byte None at v = None
with_block_byte (Some block) at v = Some (record block { bytes = slice_set block.bytes at v })

-- the world with another byte at a place
abbrev pub with_byte_of : World → Place → ℕ → World
with_byte_of w (Dos at) v = record w { dos = slice_set w.dos at v }
with_byte_of w (Block number at) v =
    record w { blocks = with_block_at w.blocks number (with_block_byte (block_at w.blocks number) at v) }
with_byte_of w Host v = w
with_byte_of w Nothing v = w

-- the bytes at places, and the world with other bytes there, the first one first
abbrev pub bytes_of : World → List Place → List ℕ
bytes_of w [] = []
bytes_of w (place ∷ places) = byte_of w place ∷ bytes_of w places

abbrev pub with_bytes_of : World → List Place → List ℕ → World
with_bytes_of w [] bytes = w
with_bytes_of w (place ∷ places) [] = w
with_bytes_of w (place ∷ places) (byte ∷ bytes) = with_bytes_of (with_byte_of w place byte) places bytes

-- exceptions
abbrev pub fault_with : ℕ → ℕ → Fault
fault_with number code = record { number = number; code = code }

-- of an access through SS the stack's exception, else the general one
abbrev pub stack_or : SegReg → ℕ → ℕ
stack_or Es number = number
stack_or Cs number = number
stack_or Ss number = STACK_EXCEPTION
stack_or Ds number = number
stack_or Fs number = number
stack_or Gs number = number

-- the exception of an access to a forbidden page: whether a page is there, and whether it is a write
abbrev pub page_fault : Bool → Bool → Fault
page_fault present write =
    fault_with PAGE_FAULT (USER_CODE + cond present PROTECTION_CODE 0 + cond write WRITE_CODE 0)

-- what the segment holds suits the register: CS wants code, and SS data that may be written
abbrev pub suits_register : SegReg → Kind → Bool
suits_register Es kind = true
suits_register Cs kind = is_code kind
suits_register Ss kind = is_writable kind
suits_register Ds kind = true
suits_register Fs kind = true
suits_register Gs kind = true

-- an access through a row of the table: the linear address of the segment's first byte, or the first fault that applies. Selectors that
-- aren't held and segments that don't suit the register; segments that aren't present; writes through what isn't writable; the limit
abbrev pub base_in_row : SegReg → ℕ → Row → ℕ → ℕ → Bool → Result ℕ Fault
base_in_row seg sel None offset n write = Err (fault_with (stack_or seg GENERAL_PROTECTION) (selector_code sel))
base_in_row seg sel (Some row) offset n write =
    if not (suits_register seg row.0.kind) then Err (fault_with (stack_or seg GENERAL_PROTECTION) (selector_code sel)) else
    if not row.0.present then Err (fault_with (stack_or seg SEGMENT_NOT_PRESENT) (selector_code sel)) else
    if write && not (is_writable row.0.kind) then Err (fault_with GENERAL_PROTECTION 0) else
    if not (is_inside row.0 offset n) then Err (fault_with (stack_or seg GENERAL_PROTECTION) 0) else
    Ok row.0.base

-- an access through a selector in protected mode; a null one comes first
abbrev pub protected_base : List Row → SegReg → ℕ → ℕ → ℕ → Bool → Result ℕ Fault
protected_base rows seg sel offset n write =
    if is_null sel then Err (fault_with GENERAL_PROTECTION 0) else
    base_in_row seg sel (row_of_selector rows sel) offset n write

-- an access through a segment in real mode, whose limit is FFFFh
abbrev pub real_base : SegReg → ℕ → ℕ → ℕ → Result ℕ Fault
real_base seg segment offset n =
    if nat_le (offset + n) SEGMENT_SIZE then Ok (segment * PARAGRAPH_SIZE)
    else Err (fault_with (stack_or seg GENERAL_PROTECTION) 0)

-- an access to n bytes at an offset of a segment register, by the mode: the first five refusals
unfoldable pub segment_base : Mode → Regs → List Row → SegReg → ℕ → ℕ → Bool → Result ℕ Fault
segment_base Real r rows seg offset n write = real_base seg (selector r seg) offset n
segment_base Protected r rows seg offset n write = protected_base rows seg (selector r seg) offset n write

-- linear addresses count modulo 2^32
abbrev pub linear : ℕ → ℕ
linear address = address % 2 ^ 32

-- the places of n bytes from a linear address on
unfoldable pub places_from : List (Option MemoryBlock) → ℕ → ℕ → List Place
places_from blocks at zero = []
places_from blocks at (suc n) = place_in blocks (linear at) ∷ places_from blocks (at + 1) n

-- the first of the places that forbids the access
abbrev pub first_forbidden : List Place → Bool → Option Place
first_forbidden [] write = None
first_forbidden (place ∷ places) write = if may_touch place write then first_forbidden places write else Some place

-- the last refusal: the first byte in a page that forbids the access
abbrev pub unless_forbidden : Option Place → List Place → Bool → Result (List Place) Fault
unless_forbidden None places write = Ok places
unless_forbidden (Some place) places write = Err (page_fault (is_present place) write)

abbrev pub touched_places : List Place → Bool → Result (List Place) Fault
touched_places places write = unless_forbidden (first_forbidden places write) places write

abbrev pub places_at : List (Option MemoryBlock) → Result ℕ Fault → ℕ → ℕ → Bool → Result (List Place) Fault
places_at blocks (Ok base) offset n write = touched_places (places_from blocks (base + offset) n) write
places_at blocks (Err fault) offset n write = Err fault

-- an access to n bytes at an offset of a segment register: their places in order, or its fault
unfoldable pub access : World → SegReg → ℕ → ℕ → Bool → Result (List Place) Fault
access w seg offset n write =
    places_at w.blocks (segment_base w.mode w.regs w.descriptors seg offset n write) offset n write

-- an access to n bytes at a far pointer by the rules of protected mode, whatever the mode is, as through ES
unfoldable pub far_access : World → FarPtr → ℕ → Bool → Result (List Place) Fault
far_access w p n write = places_at w.blocks (protected_base w.descriptors Es p.sel p.off n write) p.off n write

-- it gives no fault
abbrev pub is_reachable : World → FarPtr → ℕ → Bool → Bool
is_reachable w p n write = is_ok (far_access w p n write)
