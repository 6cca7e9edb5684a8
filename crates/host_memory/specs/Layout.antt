-- The parts of the memory, and the world that they hold. Each part is a region of the bytes, and each part of the world is decoded from
-- regions alone, so that a write elsewhere leaves it. Source: own.
use Rattle.std.specs.Prelude.{ℕ, zero, suc, ◌+◌, ◌-◌, ◌*◌, ◌/◌, ◌%◌, Bool, nat_eq, if◌then◌else◌, List, None, Some, slice_index}
use Rattle.std.specs.declared.option.Option.{Option}
use Rattle.client_world.specs.{declared.registers.Mode.{Mode}, declared.registers.Regs.{Regs}, declared.registers.Width.{Width}}
use Rattle.client_world.specs.{declared.place.Place.{Place}, declared.place.Place.TheVariants.{Dos, Block, Host, Nothing}}
use Rattle.client_world.specs.declared.host_frames.TheConstants.{PAGE_SIZE, PAGE_DIRECTORY, BLOCK_TABLES, BLOCK_TABLE_FRAMES}
use Rattle.client_world.specs.declared.host_frames.TheConstants.{DESCRIPTOR_ROWS, DESCRIPTOR_ROW_FRAMES, VECTORS, RECORDS, BLOCK_ROWS}
use Rattle.client_world.specs.declared.host_frames.TheConstants.{BLOCK_ROW_FRAMES, LOCK_COUNTS, LOCK_COUNT_FRAMES, DOS_LIST}
use Rattle.client_world.specs.declared.host_frames.TheConstants.{DOS_LIST_FRAMES, TAKEN_FRAMES, TAKEN_BYTE_FRAMES, BUDGET_FRAMES}
use Rattle.client_world.specs.declared.host_frames.TheConstants.{BLOCK_ROW_SIZE, FIXED_TABLE_FRAMES, LOCK_COUNT_SIZE, PAGE_ENTRY_SIZE}
use Rattle.client_world.specs.{declared.host_frames.TheConstants.{RECORD_FRAMES, VECTOR_FRAMES}, declared.limits.TheConstants.{MAX_BLOCKS}}
use Rattle.client_world.specs.{declared.memory_map.TheConstants.{DOS_SIZE, BLOCK_REGION}, World.{World, MemoryBlock}}
use Rattle.guest_ram.specs.{Bytes.{region, word_of, dword}, Listed.{listed}}
use Rattle.desc_table.specs.Rows.{rows_from}
use Rattle.host_memory.specs.{Vectors.{interrupt_vectors_in, exception_vectors_in, callbacks_in, pageable_in}, Records.{calls_in}}
use Rattle.host_memory.specs.DosList.{arena_in}

-- the bytes of some frames
abbrev pub frames_at : List ℕ → ℕ → ℕ → List ℕ
frames_at b first n = region b (PAGE_SIZE * first) (PAGE_SIZE * n)

-- the DOS megabyte
abbrev pub dos_part : List ℕ → List ℕ
dos_part b = region b 0 DOS_SIZE

-- the page directory, the table of the first 4 MB and the table of the host's window
abbrev pub fixed_part : List ℕ → List ℕ
fixed_part b = frames_at b PAGE_DIRECTORY FIXED_TABLE_FRAMES

-- the page tables of the block region
abbrev pub tables_part : List ℕ → List ℕ
tables_part b = frames_at b BLOCK_TABLES BLOCK_TABLE_FRAMES

-- the rows of the client's descriptors
abbrev pub rows_part : List ℕ → List ℕ
rows_part b = frames_at b DESCRIPTOR_ROWS DESCRIPTOR_ROW_FRAMES

-- the protected-mode vectors, the callbacks and the pageable pages
abbrev pub vectors_part : List ℕ → List ℕ
vectors_part b = frames_at b VECTORS VECTOR_FRAMES

abbrev pub records_part : List ℕ → List ℕ
records_part b = frames_at b RECORDS RECORD_FRAMES

-- the rows of the memory blocks, by their handles
abbrev pub handles_part : List ℕ → List ℕ
handles_part b = frames_at b BLOCK_ROWS BLOCK_ROW_FRAMES

-- the lock counts of the pages of the block region
abbrev pub locks_part : List ℕ → List ℕ
locks_part b = frames_at b LOCK_COUNTS LOCK_COUNT_FRAMES

-- the list of DOS memory
abbrev pub arena_part : List ℕ → List ℕ
arena_part b = frames_at b DOS_LIST DOS_LIST_FRAMES

-- which budget frames are taken
abbrev pub taken_part : List ℕ → List ℕ
taken_part b = frames_at b TAKEN_FRAMES TAKEN_BYTE_FRAMES

-- the budget frames themselves
abbrev pub budget_part : List ℕ → ℕ → List ℕ
budget_part b budget = frames_at b BUDGET_FRAMES budget

-- of a handle less 1: the linear address of its block, the block's pages (0 where there is none), and the number of the first of them among
-- the pages of the block region
abbrev pub base_of : List ℕ → ℕ → ℕ
base_of handles place = dword handles (BLOCK_ROW_SIZE * place)

abbrev pub pages_of : List ℕ → ℕ → ℕ
pages_of handles place = dword handles (BLOCK_ROW_SIZE * place + 4)

abbrev pub first_page_of : List ℕ → ℕ → ℕ
first_page_of handles place = (base_of handles place - BLOCK_REGION) / PAGE_SIZE

-- the page entry of a page of the block region
abbrev pub entry_of : List ℕ → ℕ → ℕ
entry_of tables page = dword tables (PAGE_ENTRY_SIZE * page)

-- the lock count of a page of the block region
abbrev pub lock_of : List ℕ → ℕ → ℕ
lock_of locks page = word_of locks (LOCK_COUNT_SIZE * page)

-- the byte at an offset from the start of a page of the block region, through the page entries
abbrev pub page_byte : List ℕ → List ℕ → ℕ → ℕ → ℕ
page_byte tables budget page at =
    slice_index budget (PAGE_SIZE * (entry_of tables (page + at / PAGE_SIZE) / PAGE_SIZE - BUDGET_FRAMES) + at % PAGE_SIZE)

-- the block of a handle less 1
unfoldable pub held_block : List ℕ → List ℕ → List ℕ → List ℕ → ℕ → MemoryBlock
held_block handles tables locks budget place = record {
  base = base_of handles place;
  bytes = listed (PAGE_SIZE * pages_of handles place) (page_byte tables budget (first_page_of handles place));
  locks = listed (pages_of handles place) (λ page. lock_of locks (first_page_of handles place + page));
}

unfoldable pub block_in : List ℕ → List ℕ → List ℕ → List ℕ → ℕ → Option MemoryBlock
block_in handles tables locks budget place =
    if nat_eq (pages_of handles place) 0 then None else Some (held_block handles tables locks budget place)

abbrev pub blocks_in : List ℕ → List ℕ → List ℕ → List ℕ → List (Option MemoryBlock)
blocks_in handles tables locks budget = listed MAX_BLOCKS (block_in handles tables locks budget)

-- the world that the memory holds, for a page budget and what the processor keeps itself
unfoldable pub world_of : List ℕ → ℕ → Mode → Regs → Bool → Option Width → World
world_of b budget mode regs vif width = record {
  mode = mode;
  regs = regs;
  vif = vif;
  width = width;
  dos = dos_part b;
  arena = arena_in (arena_part b);
  blocks = blocks_in (handles_part b) (tables_part b) (locks_part b) (budget_part b budget);
  budget = budget;
  pageable = pageable_in (vectors_part b);
  descriptors = rows_from (rows_part b) 0;
  interrupt_vectors = interrupt_vectors_in (vectors_part b);
  exception_vectors = exception_vectors_in (vectors_part b);
  callbacks = callbacks_in (vectors_part b);
  calls = calls_in (records_part b);
}

-- where the byte of a place lies in the memory; of a block through its row and its page's entry
abbrev pub block_address : List ℕ → ℕ → ℕ → ℕ
block_address b zero at = 0
block_address b (suc place) at =
    PAGE_SIZE * (entry_of (tables_part b) (first_page_of (handles_part b) place + at / PAGE_SIZE) / PAGE_SIZE) + at % PAGE_SIZE

unfoldable pub address_of : List ℕ → Place → ℕ
address_of b (Dos at) = at
address_of b (Block number at) = block_address b number at
address_of b Host = 0
address_of b Nothing = 0
