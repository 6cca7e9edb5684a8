-- The services of INT 31h on DOS memory: a block with descriptors for each 64 KB of it, one after another.
-- Source: DPMI 0.9, INT 31h functions 0100h to 0102h, and for the errors in AX MS-DOS functions 48h to 4Ah; that DX must name the first
-- descriptor of a block, and what BX reports where descriptors are missing, is own.
use Rattle.std.specs.Prelude.{ℕ, ◌-◌, Bool, true, ◌&&◌, None, Some, Ok, Err, nat_eq, nat_le, nat_lt, if◌then◌else◌, List}
use Rattle.std.specs.declared.option.Option.{Option}
use Rattle.client_world.specs.{declared.dos_memory.DosEntry.{DosEntry}, declared.dos_memory.DosRefusal.{DosRefusal}}
use Rattle.client_world.specs.declared.dos_memory.DosRefusal.TheVariants.{NoMemory, WrongBlock}
use Rattle.client_world.specs.{declared.services.Carry.TheVariants.{Clear, Set}, Registers.{with_low_half}, Selector.{Row, index_of}}
use Rattle.client_world.specs.{Selector.{is_local, row_at_index, selector_of}, Services.{Served, bx, dx}, Soundness.{descriptors_for}}
use Rattle.client_world.specs.World.{World}
use Rattle.service_rows.specs.{Rows.{with_ax, with_bx}, FreeRun.{first_free_run}}
use Rattle.dos_blocks.specs.{declared.services.TheConstants.{NO_MEMORY, WRONG_BLOCK}, Blocks.{Done, allocation_result, entry_of_place}}
use Rattle.dos_blocks.specs.Blocks.{free_result, has_room_to_grow, is_of_segment, largest, place_of_block, greatest_size, resize_result}
use Rattle.dos_blocks.specs.Blocks.{run_of_block, segment_of_row}

abbrev pub with_dx : ℕ → World → World
with_dx v w = record w { regs = record w.regs { edx = with_low_half w.regs.edx v } }

-- ---- 0100h

-- the block that the call made, with its segment in AX and the selector of its first descriptor in DX
abbrev pub with_first_selector : ℕ → Done ℕ → Done (Unit {0})
with_first_selector first done = elim done.answer [
  | Ok segment ↦ record { answer = Ok tt; world = with_dx (selector_of first) (with_ax segment done.world) }
  | Err refusal ↦ record { answer = Err refusal; world = done.world }
]

abbrev pub allocation_result_from : ℕ → Option ℕ → World → Done (Unit {0})
allocation_result_from n None w = record { answer = Err (NoMemory (largest w.arena)); world = w }
allocation_result_from n (Some first) w = with_first_selector first (allocation_result w true n)

-- 0100h (allocate DOS memory block): a block of BX paragraphs; AX is its segment, and DX the first of its descriptors' selectors
unfoldable pub allocate_dos_block : World → Done (Unit {0})
allocate_dos_block w =
    if nat_eq (bx w) 0 then record { answer = Err (NoMemory (largest w.arena)); world = w } else
    allocation_result_from (bx w) (first_free_run w.descriptors (descriptors_for (bx w))) w

-- ---- the block of a selector

-- the segment of the block, given that of its descriptor and that of the descriptor before
abbrev pub first_of_segment : Option ℕ → Option ℕ → Option ℕ
first_of_segment None before = None
first_of_segment (Some segment) before = if is_of_segment before segment then None else Some segment

-- the segment of the block whose first descriptor a selector names
unfoldable pub segment_of_selector : List Row → ℕ → Option ℕ
segment_of_selector rows sel =
    if is_local sel
    then first_of_segment (segment_of_row (row_at_index rows (index_of sel))) (segment_of_row (row_at_index rows (index_of sel - 1)))
    else None

-- and its place in the arena
abbrev pub place_of_segment : List DosEntry → Option ℕ → Option ℕ
place_of_segment entries None = None
place_of_segment entries (Some segment) = place_of_block true entries segment 0

unfoldable pub place_of_selector : World → ℕ → Option ℕ
place_of_selector w sel = place_of_segment w.arena (segment_of_selector w.descriptors sel)

-- ---- 0101h

abbrev pub free_result_of_segment : Option ℕ → World → Done (Unit {0})
free_result_of_segment None w = record { answer = Err WrongBlock; world = w }
free_result_of_segment (Some segment) w = free_result w true segment

-- 0101h (free DOS memory block): frees the block of DX and its descriptors
unfoldable pub free_dos_block : World → Done (Unit {0})
free_dos_block w = free_result_of_segment (segment_of_selector w.descriptors (dx w)) w

-- ---- 0102h

-- the block at a place can have n paragraphs, and their descriptors
abbrev pub can_have : World → ℕ → ℕ → ℕ → Bool
can_have w n first place = nat_lt 0 n && (nat_le n (greatest_size w.arena place)
    && has_room_to_grow w.descriptors (run_of_block (entry_of_place w.arena place) first (entry_of_place w.arena place).paras n))

abbrev pub resize_result_of_place : ℕ → ℕ → ℕ → Option ℕ → World → Done (Unit {0})
resize_result_of_place n first segment None w = record { answer = Err WrongBlock; world = w }
resize_result_of_place n first segment (Some place) w =
    if can_have w n first place then resize_result w true segment n
    else record { answer = Err (NoMemory (greatest_size w.arena place)); world = w }

abbrev pub resize_result_of_segment : ℕ → ℕ → Option ℕ → World → Done (Unit {0})
resize_result_of_segment n first None w = record { answer = Err WrongBlock; world = w }
resize_result_of_segment n first (Some segment) w = resize_result_of_place n first segment (place_of_block true w.arena segment 0) w

-- 0102h (resize DOS memory block): the block of DX gets BX paragraphs where it is, and the descriptors of as many
unfoldable pub resize_dos_block : World → Done (Unit {0})
resize_dos_block w = resize_result_of_segment (bx w) (index_of (dx w)) (segment_of_selector w.descriptors (dx w)) w

-- ---- what each function returns

-- a refusal has its number in AX; where memory is short, BX is the most that there could be
abbrev pub with_refusal : DosRefusal → World → World
with_refusal (NoMemory most) w = with_ax NO_MEMORY (with_bx most w)
with_refusal WrongBlock w = with_ax WRONG_BLOCK w

unfoldable pub served_result : Done (Unit {0}) → Served
served_result done = elim done.answer [
  | Ok v ↦ record { carry = Clear; world = done.world }
  | Err refusal ↦ record { carry = Set; world = with_refusal refusal done.world }
]

-- the carry, and the world after the function of a number; other functions are refused, and change nothing
unfoldable pub dos_service : ℕ → World → Served
dos_service ax w =
    if nat_eq ax 0x0100 then served_result (allocate_dos_block w) else
    if nat_eq ax 0x0101 then served_result (free_dos_block w) else
    if nat_eq ax 0x0102 then served_result (resize_dos_block w) else
    record { carry = Set; world = w }
