-- What mapping asks of the pages of the block region, and where their entries are.
use Rattle.std.proofs.Common.{◌≡◌, ◌≢◌, ℕ, ◌+◌, ◌-◌, ◌*◌, ◌/◌, ◌%◌, ◌<◌, ◌≤◌, ◌^◌, ◌⊎◌, inl, inr, true, List, slice_index, ap, ◌∙◌, sym}
use Rattle.std.proofs.{Common.{subst, arith}, lemmas.Bool.{cases_lt, lt-ltb, le-ltb, false≢true}}
use Rattle.client_world.specs.{Registers.{has_bit}, declared.host_frames.TheConstants.{PAGE_SIZE, PAGE_DIRECTORY, BLOCK_TABLES}}
use Rattle.client_world.specs.declared.host_frames.TheConstants.{BUDGET_FRAMES, TAKEN_FRAMES, BLOCK_TABLE_FRAMES, PAGE_ENTRY_SIZE}
use Rattle.client_world.specs.declared.host_frames.TheConstants.{TABLE_ENTRIES, TAKEN_BYTE_FRAMES}
use Rattle.client_world.specs.{declared.limits.TheConstants.{MAX_PAGES}, declared.memory_map.TheConstants.{BLOCK_REGION, BLOCK_REGION_END}}
use Rattle.client_world.specs.declared.memory_map.TheConstants.{BLOCK_REGION_PAGES, HOST_WINDOW}
use Rattle.guest_ram.specs.Bytes.{dword}
use Rattle.guest_ram.proofs.PutLaws.{at_region, dword-region}
use Rattle.page_tables.specs.{Entry.{page_entry}, Budget.{HasBudget, IsNamedNowhere}, Mapping.{HasTables, IsCovered, IsMapped, IsUnmapped}}
use Rattle.page_tables.specs.Walk.{directory_entry, table_place, table_entry, entry_place, frame_of}
use Rattle.page_tables.specs.declared.entry.TheConstants.{PRESENT, TABLE_SPAN}
use Rattle.page_tables.proofs.{MapLaws.{page_entry_present}, HostDirectory.{HasTables-host_directory}}
use Rattle.host_memory.specs.{Layout.{fixed_part, tables_part, taken_part, first_page_of, entry_of}, Tables.{HasFixedEntries}}
use Rattle.host_memory.specs.Tables.{HasBlockEntries, NamesBudgetFrame, low_entry_at, window_entry_at}
use Rattle.host_memory.proofs.{BlockRows.{HasRanges, over_tells}, HostTables.{directory_is, directory_of_block, directory_of_none}}
use Rattle.host_memory.proofs.{HostTables.{block_table, host_directory}, Parts.{HasSize}}

-- what stays while a page is mapped: the size, the budget, and the host's own entries
pub record HasHost (b : List ℕ) (budget : ℕ) : Type 0 where
  pub size : HasSize b budget
  pub most : budget ≤ MAX_PAGES
  pub fixed : HasFixedEntries (fixed_part b)

pub tables_of : (b : List ℕ) (budget : ℕ) → HasHost b budget → HasTables b
tables_of b budget host = let size = host.size in HasTables-host_directory b (host_directory b host.fixed) (omega arith)

pub budget_of : (b : List ℕ) (budget : ℕ) → HasHost b budget → HasBudget b
budget_of b budget host = grind arith

-- the linear address is one of the block region
pub record InRegion (lin : ℕ) : Type 0 where
  pub from : BLOCK_REGION ≤ lin
  pub to : lin < BLOCK_REGION_END

-- its page there
abbrev pub page_at : ℕ → ℕ
page_at lin = (lin - BLOCK_REGION) / PAGE_SIZE

pub region_directory : (b : List ℕ) (budget lin : ℕ) → HasHost b budget → InRegion lin →
    directory_entry b PAGE_DIRECTORY lin ≡ page_entry (block_table lin) true
region_directory b budget lin host in_region = grind (arith, directory_is, directory_of_block)

pub region_place : (b : List ℕ) (budget lin : ℕ) → HasHost b budget → InRegion lin →
    table_place b PAGE_DIRECTORY lin ≡ PAGE_SIZE * BLOCK_TABLES + PAGE_ENTRY_SIZE * page_at lin
region_place b budget lin host in_region =
    let from = in_region.from in let to = in_region.to in
    ap (λ (d : ℕ). entry_place (frame_of d) (lin / PAGE_SIZE % TABLE_ENTRIES)) (region_directory b budget lin host in_region)
    ∙ (let at : entry_place (frame_of (page_entry (block_table lin) true)) (lin / PAGE_SIZE % TABLE_ENTRIES)
    ≡ PAGE_SIZE * BLOCK_TABLES + PAGE_ENTRY_SIZE * page_at lin = omega arith in at)

pub region_entry : (b : List ℕ) (budget lin : ℕ) → HasHost b budget → InRegion lin →
    table_entry b PAGE_DIRECTORY lin ≡ entry_of (tables_part b) (page_at lin)
region_entry b budget lin host in_region =
    let from = in_region.from in let to = in_region.to in
    ap (dword b) (region_place b budget lin host in_region)
    ∙ sym (dword-region b (PAGE_SIZE * BLOCK_TABLES) (PAGE_SIZE * BLOCK_TABLE_FRAMES) (PAGE_ENTRY_SIZE * page_at lin) (omega arith))

pub region_covered : (b : List ℕ) (budget lin : ℕ) → HasHost b budget → InRegion lin → IsCovered b lin
region_covered b budget lin host in_region =
    ap (λ (d : ℕ). has_bit d PRESENT) (region_directory b budget lin host in_region) ∙ page_entry_present (block_table lin) true

pub region_unmapped : (b : List ℕ) (budget lin : ℕ) → HasHost b budget → InRegion lin → entry_of (tables_part b) (page_at lin) ≡ 0 →
    IsUnmapped b lin
region_unmapped b budget lin host in_region none = ap (λ (e : ℕ). has_bit e PRESENT) (region_entry b budget lin host in_region ∙ none)

pub region_mapped : (b : List ℕ) (budget lin frame : ℕ) → HasHost b budget → InRegion lin →
    entry_of (tables_part b) (page_at lin) ≡ page_entry frame true → IsMapped b lin
region_mapped b budget lin frame host in_region entry = record {
  covered = region_covered b budget lin host in_region;
  present = ap (λ (e : ℕ). has_bit e PRESENT) (region_entry b budget lin host in_region ∙ entry) ∙ page_entry_present frame true;
}

-- the entries of the other tables name no frame of the budget
low_entry : (b : List ℕ) (budget lin : ℕ) → HasHost b budget → lin < BLOCK_REGION →
    table_entry b PAGE_DIRECTORY lin ≡ low_entry_at (lin / PAGE_SIZE)
low_entry b budget lin host below = grind (arith, directory_is, dword-region)

low_frame : (page : ℕ) → frame_of (low_entry_at page) < BUDGET_FRAMES
low_frame page = grind (arith, le-ltb, lt-ltb)

window_entry : (b : List ℕ) (budget lin : ℕ) → HasHost b budget → HOST_WINDOW ≤ lin → lin < HOST_WINDOW + TABLE_SPAN →
    table_entry b PAGE_DIRECTORY lin ≡ window_entry_at (lin / PAGE_SIZE % TABLE_ENTRIES)
window_entry b budget lin host from to = grind (arith, directory_is, dword-region)

window_frame : (page : ℕ) → frame_of (window_entry_at page) < BUDGET_FRAMES
window_frame page = grind (arith, le-ltb, lt-ltb)

nothing_covered : (b : List ℕ) (budget lin : ℕ) → HasHost b budget → lin < 2 ^ 32 → BLOCK_REGION_END ≤ lin →
    (lin < HOST_WINDOW) ⊎ (HOST_WINDOW + TABLE_SPAN ≤ lin) → IsMapped b lin → ⊥
nothing_covered b budget lin host small from out mapped = grind (arith, directory_is, directory_of_none, false≢true)

-- a frame of the budget that no page of the block region names is named nowhere
pub named_nowhere : (b : List ℕ) (budget frame : ℕ) → HasHost b budget → BUDGET_FRAMES ≤ frame →
    ((page : ℕ) → page < BLOCK_REGION_PAGES → frame_of (entry_of (tables_part b) page) ≢ frame) → IsNamedNowhere b frame
named_nowhere b budget frame host from none = λ lin small mapped same.
    elim (cases_lt lin BLOCK_REGION) [
      | inl low ↦ (
          let entry = low_entry b budget lin host low in
          let less = low_frame (lin / PAGE_SIZE) in
          let named : frame_of (low_entry_at (lin / PAGE_SIZE)) ≡ frame = sym (ap frame_of entry) ∙ same in
          omega arith)
      | inr above ↦ elim (cases_lt lin BLOCK_REGION_END) [
        | inl inside ↦ none (page_at lin) (omega arith)
            (sym (ap frame_of (region_entry b budget lin host (record { from = above; to = inside }))) ∙ same)
        | inr over ↦ elim (cases_lt lin HOST_WINDOW) [
          | inl gap ↦ nothing_covered b budget lin host small over (inl gap) mapped
          | inr window ↦ elim (cases_lt lin (HOST_WINDOW + TABLE_SPAN)) [
            | inl within ↦ (
                let entry = window_entry b budget lin host window within in
                let less = window_frame (lin / PAGE_SIZE % TABLE_ENTRIES) in
                let named : frame_of (window_entry_at (lin / PAGE_SIZE % TABLE_ENTRIES)) ≡ frame = sym (ap frame_of entry) ∙ same in
                omega arith)
            | inr past ↦ nothing_covered b budget lin host small over (inr past) mapped
          ]
        ]
      ]
    ]

-- an entry of the block region is absent, or names a frame of the budget
pub entry_kinds : (handles tables locks frames taken : List ℕ) (budget page : ℕ) → HasRanges handles →
    HasBlockEntries handles tables taken budget →
    page < BLOCK_REGION_PAGES → (entry_of tables page ≡ 0) ⊎ NamesBudgetFrame budget (entry_of tables page)
entry_kinds handles tables locks frames taken budget page ranges h small =
    elim (over_tells handles tables locks frames (BLOCK_REGION + PAGE_SIZE * page) (omega arith) (omega arith)) [
      | inl found ↦ (
          let some = found.some in let inside = found.inside in let offset = found.offset in
          let r = ranges.each found.place found.within some in
          let whole = r.whole in let from = r.from in let to = r.to in
          let same : first_page_of handles found.place + found.at / PAGE_SIZE ≡ page = omega arith in
          inr (subst (λ (k : ℕ). NamesBudgetFrame budget (entry_of tables k)) same
          (h.named found.place (found.at / PAGE_SIZE) found.within (omega arith))))
      | inr missed ↦ inl (h.absent page small (grind arith))
    ]

-- the taken byte of a frame
pub taken_byte : (b : List ℕ) (frame : ℕ) → frame < MAX_PAGES →
    slice_index b (PAGE_SIZE * TAKEN_FRAMES + frame) ≡ slice_index (taken_part b) frame
taken_byte b frame small = sym (at_region b (PAGE_SIZE * TAKEN_FRAMES) (PAGE_SIZE * TAKEN_BYTE_FRAMES) frame (omega arith))
