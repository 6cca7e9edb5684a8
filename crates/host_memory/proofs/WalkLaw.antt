-- A walk of the page tables ends exactly where the client may touch, at the address of the place, and else fails as the place says.
use Rattle.std.proofs.Common.{◌≡◌, ◌≢◌, ℕ, ◌+◌, ◌-◌, ◌*◌, ◌/◌, ◌%◌, ◌<◌, ◌≤◌, ◌^◌, inl, inr, Bool, true, false, List, ap, ◌∙◌, sym, arith}
use Rattle.std.proofs.{Common.{Ok}, lemmas.Bool.{lt-ltb, le-ltb, cases_lt}}
use Rattle.std.specs.declared.option.Option.{Option}
use Rattle.client_world.specs.{declared.limits.TheConstants.{MAX_BLOCKS}, declared.registers.Mode.{Mode}, declared.registers.Regs.{Regs}}
use Rattle.client_world.specs.{declared.registers.Width.{Width}, declared.place.Place.{Place}}
use Rattle.client_world.specs.declared.host_frames.TheConstants.{PAGE_SIZE, PAGE_DIRECTORY, LOW_TABLE, WINDOW_TABLE, DOS_FRAMES}
use Rattle.client_world.specs.declared.host_frames.TheConstants.{BUDGET_FRAMES, TABLE_ENTRIES}
use Rattle.client_world.specs.declared.memory_map.TheConstants.{DOS_VIEW_PAGES, ROM_START, BLOCK_REGION, BLOCK_REGION_END, HOST_WINDOW}
use Rattle.client_world.specs.{Access.{place_in, place_of, dos_address}, Soundness.{SoundBlocks}, World.{MemoryBlock}}
use Rattle.client_world.proofs.PlaceLaws.{place-above, place-dos, place-gap, place-gap_above_blocks, place-host}
use Rattle.page_tables.specs.{Entry.{page_entry}, Walk.{walked, walk_end}, declared.entry.TheConstants.{TABLE_SPAN}}
use Rattle.host_memory.specs.{Holds.{Holds}, Law.{walk_result}, Layout.{world_of, fixed_part, tables_part, handles_part, locks_part}}
use Rattle.host_memory.specs.{Layout.{taken_part, budget_part, base_of, pages_of, first_page_of, blocks_in}, Tables.{HasFixedEntries}}
use Rattle.host_memory.specs.Tables.{HasBlockEntries, IsOutside}
use Rattle.host_memory.proofs.{BlockRows.{HasRanges, InRow, InBlock, InNoBlock, over_tells, ranges}, PlaceEnds.{ends_in_page}}
use Rattle.host_memory.proofs.PlaceEnds.{reads_in_page, forbids_write, finds_no_page, forbids_client, finds_no_host_page, told_dos}
use Rattle.host_memory.proofs.{PlaceEnds.{told_read, told_rom_write, told_block, told_host, told_nothing}, HostTables.{low_walk}}
use Rattle.host_memory.proofs.{HostTables.{window_walk, region_walk, no_walk}, Parts.{blocks_is}}

-- an access ends at the place that is there
pub to_place : (b : List ℕ) (blocks : List (Option MemoryBlock)) (lin : ℕ) (write : Bool) (place : Place) → place_in blocks lin ≡ place →
    walk_result b place write ≡ walk_result b (place_in blocks lin) write
to_place b blocks lin write place e = sym (ap (λ (p : Place). walk_result b p write) e)

-- in the view of the DOS megabyte, below read-only memory
writable_law : (b : List ℕ) (blocks : List (Option MemoryBlock)) (lin frame : ℕ) (write : Bool) → lin < 0x110000 →
    PAGE_SIZE * frame + lin % PAGE_SIZE ≡ dos_address lin → dos_address lin < ROM_START →
    walk_end (page_entry LOW_TABLE true) (page_entry frame true) lin write ≡ walk_result b (place_in blocks lin) write
writable_law b blocks lin frame write shown e below =
    ends_in_page LOW_TABLE frame lin write
    ∙ ap (λ (p : ℕ). Ok p) e
    ∙ sym (told_dos b (dos_address lin) write below)
    ∙ to_place b blocks lin write _ (place-dos blocks lin shown)

-- in read-only memory
rom_law : (b : List ℕ) (blocks : List (Option MemoryBlock)) (lin : ℕ) (write : Bool) → ROM_START ≤ lin → lin < 0x100000 →
    walk_end (page_entry LOW_TABLE true) (page_entry (lin / PAGE_SIZE) false) lin write ≡ walk_result b (place_in blocks lin) write
rom_law b blocks lin true from to =
    forbids_write LOW_TABLE (lin / PAGE_SIZE) lin
    ∙ sym (told_rom_write b (dos_address lin) (omega arith))
    ∙ to_place b blocks lin true _ (place-dos blocks lin (omega arith))
rom_law b blocks lin false from to =
    reads_in_page LOW_TABLE (lin / PAGE_SIZE) lin
    ∙ ap (λ (p : ℕ). Ok p) (let e : PAGE_SIZE * (lin / PAGE_SIZE) + lin % PAGE_SIZE ≡ dos_address lin = omega arith in e)
    ∙ sym (told_read b (dos_address lin))
    ∙ to_place b blocks lin false _ (place-dos blocks lin (omega arith))

-- below 4 MB
pub low_law : (b : List ℕ) (blocks : List (Option MemoryBlock)) (lin : ℕ) (write : Bool) → HasFixedEntries (fixed_part b) →
    lin < BLOCK_REGION → walked b PAGE_DIRECTORY lin write ≡ walk_result b (place_in blocks lin) write
low_law b blocks lin write fixed below = low_walk b lin write fixed below ∙ elim (cases_lt (lin / PAGE_SIZE) (ROM_START / PAGE_SIZE)) [
  | inl writable ↦ rw (lt-ltb (lin / PAGE_SIZE) (ROM_START / PAGE_SIZE) writable)
      (writable_law b blocks lin (lin / PAGE_SIZE) write (omega arith) (omega arith) (omega arith))
  | inr from_rom ↦ elim (cases_lt (lin / PAGE_SIZE) DOS_FRAMES) [
    | inl rom ↦ rw (le-ltb (lin / PAGE_SIZE) (ROM_START / PAGE_SIZE) from_rom, lt-ltb (lin / PAGE_SIZE) DOS_FRAMES rom)
        (rom_law b blocks lin write (omega arith) (omega arith))
    | inr from_view ↦ elim (cases_lt (lin / PAGE_SIZE) DOS_VIEW_PAGES) [
      | inl view ↦ grind (arith, le-ltb, lt-ltb, writable_law)
      | inr gap ↦ rw (
        le-ltb (lin / PAGE_SIZE) (ROM_START / PAGE_SIZE) from_rom,
        le-ltb (lin / PAGE_SIZE) DOS_FRAMES from_view,
        le-ltb (lin / PAGE_SIZE) DOS_VIEW_PAGES gap,
      )
          (finds_no_page LOW_TABLE lin write ∙ sym (told_nothing b write)
          ∙ to_place b blocks lin write _ (place-gap blocks lin (omega arith) below))
    ]
  ]
]

-- after the block region
pub high_law : (b : List ℕ) (blocks : List (Option MemoryBlock)) (lin : ℕ) (write : Bool) → HasFixedEntries (fixed_part b) →
    BLOCK_REGION_END ≤ lin → lin < 2 ^ 32 → walked b PAGE_DIRECTORY lin write ≡ walk_result b (place_in blocks lin) write
high_law b blocks lin write fixed from small = elim (cases_lt lin HOST_WINDOW) [
  | inl below ↦ no_walk b lin write fixed small from (inl below) ∙ sym (told_nothing b write)
      ∙ to_place b blocks lin write _ (place-gap_above_blocks blocks lin from below)
  | inr window ↦ elim (cases_lt lin (HOST_WINDOW + TABLE_SPAN)) [
    | inl table ↦ window_walk b lin write fixed window table
        ∙ elim (cases_lt (lin / PAGE_SIZE % TABLE_ENTRIES) (BUDGET_FRAMES - PAGE_DIRECTORY)) [
          | inl host ↦ rw (lt-ltb (lin / PAGE_SIZE % TABLE_ENTRIES) (BUDGET_FRAMES - PAGE_DIRECTORY) host)
              (forbids_client WINDOW_TABLE (PAGE_DIRECTORY + lin / PAGE_SIZE % TABLE_ENTRIES) lin write ∙ sym (told_host b write)
              ∙ to_place b blocks lin write _ (place-host blocks lin window (omega arith)))
          | inr none ↦ rw (le-ltb (lin / PAGE_SIZE % TABLE_ENTRIES) (BUDGET_FRAMES - PAGE_DIRECTORY) none)
              (finds_no_host_page WINDOW_TABLE lin write ∙ sym (told_nothing b write)
              ∙ to_place b blocks lin write _ (place-above blocks lin (omega arith)))
        ]
    | inr above ↦ no_walk b lin write fixed small from (inr above) ∙ sym (told_nothing b write)
        ∙ to_place b blocks lin write _ (place-above blocks lin (omega arith))
  ]
]

-- where in its block, and in the block region, a byte of a block is
pub record InPages (handles : List ℕ) (place at lin : ℕ) : Type 0 where
  pub page : at / PAGE_SIZE < pages_of handles place
  pub number : (lin - BLOCK_REGION) / PAGE_SIZE ≡ first_page_of handles place + at / PAGE_SIZE
  pub rest : at % PAGE_SIZE ≡ lin % PAGE_SIZE

pub in_pages : (handles : List ℕ) (place at lin : ℕ) → HasRanges handles → place < MAX_BLOCKS → pages_of handles place ≢ 0 →
    lin ≡ base_of handles place + at → at < PAGE_SIZE * pages_of handles place → InPages handles place at lin
in_pages handles place at lin ranged within some offset inside = grind arith

-- at a byte of a block
pub block_law : (b : List ℕ) (budget lin : ℕ) (write : Bool) → HasFixedEntries (fixed_part b) → HasRanges (handles_part b) →
    HasBlockEntries (handles_part b) (tables_part b) (taken_part b) budget → BLOCK_REGION ≤ lin → lin < BLOCK_REGION_END →
    InBlock (handles_part b) (tables_part b) (locks_part b) (budget_part b budget) lin → walked b PAGE_DIRECTORY lin write
    ≡ walk_result b (place_in (blocks_in (handles_part b) (tables_part b) (locks_part b) (budget_part b budget)) lin) write
block_law b budget lin write fixed ranged entries from to found = grind (arith, ends_in_page, in_pages, region_walk, to_place, told_block)

-- a page that no row covers belongs to no block
pub outside_rows : (handles : List ℕ) (lin : ℕ) → HasRanges handles → BLOCK_REGION ≤ lin → ((place : ℕ) → InRow handles place lin → ⊥) →
    IsOutside handles ((lin - BLOCK_REGION) / PAGE_SIZE)
outside_rows handles lin ranged from none place offset within inside e = grind arith

-- and where no block is
pub no_block_law : (b : List ℕ) (budget lin : ℕ) (write : Bool) → HasFixedEntries (fixed_part b) → HasRanges (handles_part b) →
    HasBlockEntries (handles_part b) (tables_part b) (taken_part b) budget → BLOCK_REGION ≤ lin → lin < BLOCK_REGION_END →
    InNoBlock (handles_part b) (tables_part b) (locks_part b) (budget_part b budget) lin → walked b PAGE_DIRECTORY lin write
    ≡ walk_result b (place_in (blocks_in (handles_part b) (tables_part b) (locks_part b) (budget_part b budget)) lin) write
no_block_law b budget lin write fixed ranged entries from to missed =
    grind (arith, finds_no_page, outside_rows, region_walk, to_place, told_nothing)

-- the law, of the blocks that the memory holds
pub walk_in_blocks : (b : List ℕ) (budget lin : ℕ) (write : Bool) → Holds b budget → HasRanges (handles_part b) → lin < 2 ^ 32 →
    walked b PAGE_DIRECTORY lin write
    ≡ walk_result b (place_in (blocks_in (handles_part b) (tables_part b) (locks_part b) (budget_part b budget)) lin) write
walk_in_blocks b budget lin write holds ranged small = grind (arith, block_law, high_law, low_law, no_block_law, over_tells)

-- the rows of a memory whose world has sound blocks
pub world_ranges : (b : List ℕ) (budget : ℕ) (mode : Mode) (regs : Regs) (vif : Bool) (width : Option Width) (pages : ℕ) →
    SoundBlocks (world_of b budget mode regs vif width).blocks pages → HasRanges (handles_part b)
world_ranges b budget mode regs vif width pages sound =
    ranges (handles_part b) (tables_part b) (locks_part b) (budget_part b budget) pages
    (rw (blocks_is b budget mode regs vif width) at sound)

-- the law
pub walk_agrees : (b : List ℕ) (budget : ℕ) → Holds b budget → (mode : Mode) (regs : Regs) (vif : Bool) (width : Option Width) →
    SoundBlocks (world_of b budget mode regs vif width).blocks budget → (lin : ℕ) (write : Bool) → lin < 2 ^ 32 →
    walked b PAGE_DIRECTORY lin write ≡ walk_result b (place_of (world_of b budget mode regs vif width) lin) write
walk_agrees b budget holds mode regs vif width sound lin write small =
    walk_in_blocks b budget lin write holds (world_ranges b budget mode regs vif width budget sound) small
    ∙ sym (ap (λ (blocks : List (Option MemoryBlock)). walk_result b (place_in blocks lin) write) (blocks_is b budget mode regs vif width))
