-- A row of the descriptors that is written is that row of the world, and nothing else changes; the rows of the memory are those of the
-- world.
use Rattle.std.proofs.Common.{◌≡◌, ◌≢◌, ℕ, ◌+◌, ◌*◌, ◌<◌, ◌≤◌, ◌⊎◌, Bool, List, length, slice_set, ap, ◌∙◌, sym, arith, Option, None}
use Rattle.std.proofs.{Common.{zero-add}, lemmas.Bool.{cases_order}}
use Rattle.client_world.specs.{declared.registers.Mode.{Mode}, declared.registers.Regs.{Regs}, declared.registers.Width.{Width}}
use Rattle.client_world.specs.declared.host_frames.TheConstants.{PAGE_SIZE, DESCRIPTOR_ROWS, DESCRIPTORS, DESCRIPTOR_ROW_SIZE}
use Rattle.client_world.specs.{declared.host_frames.TheConstants.{FIRST_FREE_DESCRIPTOR, DESCRIPTOR_ROW_FRAMES}, FreeRuns.{IsFreeRunOf}}
use Rattle.client_world.specs.{FreeRuns.{IsFirstFreeRunOf}, Selector.{Row, FitsRow, row_at_index}}
use Rattle.guest_ram.specs.Bytes.{put}
use Rattle.guest_ram.proofs.PutLaws.{put_within, put_away, length-region}
use Rattle.desc_table.specs.Rows.{row_at, row_bytes, rows_from, rows_start, row_address, IsFreeRun, IsFirstFreeRun}
use Rattle.desc_table.proofs.RowLaws.{length-row_bytes, row_at-put, row_at-put_away, rows_from-put, rows_from-region, at_rows_from}
use Rattle.host_memory.specs.{Layout.{world_of, rows_part}, Holds.{Holds, KeepsRows}}
use Rattle.host_memory.proofs.Parts.{HasParts, holds_by, holds_parts, holds_with_rows, own_parts, parts_of, world_by, descriptors_is}
use Rattle.host_memory.proofs.PutParts.{Rows, put_part}

length-rows_part : (b : List ℕ) (budget : ℕ) → Holds b budget → length (rows_part b) ≡ DESCRIPTOR_ROW_SIZE * DESCRIPTORS
length-rows_part b budget holds =
    length-region b (PAGE_SIZE * DESCRIPTOR_ROWS) (PAGE_SIZE * DESCRIPTOR_ROW_FRAMES) (omega (arith, holds.size))

-- a row in the part of the rows
abbrev with_row : List ℕ → ℕ → Row → List ℕ
with_row rows index row = put rows (DESCRIPTOR_ROW_SIZE * index) (row_bytes row)

-- another row is beside it
beside_row : (index other : ℕ) → other ≢ index → (DESCRIPTOR_ROW_SIZE * index + DESCRIPTOR_ROW_SIZE ≤ DESCRIPTOR_ROW_SIZE * other)
    ⊎ (DESCRIPTOR_ROW_SIZE * other + DESCRIPTOR_ROW_SIZE ≤ DESCRIPTOR_ROW_SIZE * index)
beside_row index other ne = grind (arith, cases_order)

-- each row is still exactly the bytes of what it holds
keeps_rows : (rows : List ℕ) (index : ℕ) (row : Row) → length rows ≡ DESCRIPTOR_ROW_SIZE * DESCRIPTORS → index < DESCRIPTORS → FitsRow row →
    KeepsRows rows → KeepsRows (with_row rows index row)
keeps_rows rows index row long small fits keeps =
    grind (arith, beside_row, cases_order, length-row_bytes, put_away, put_within, row_at-put, row_at-put_away)

-- what the write does to the parts
row_has : (b : List ℕ) (budget : ℕ) → Holds b budget → (index : ℕ) (row : Row) → index < DESCRIPTORS →
    HasParts (put b (row_address index) (row_bytes row)) budget (record (parts_of b budget) { rows = with_row (rows_part b) index row })
row_has b budget holds index row small =
    put_part Rows b budget (parts_of b budget) (row_address index) (DESCRIPTOR_ROW_SIZE * index) (row_bytes row) (own_parts b budget holds)
    (omega arith) (omega (arith, length-row_bytes row))

pub row_world : (b : List ℕ) (budget : ℕ) → Holds b budget →
    (mode : Mode) (regs : Regs) (vif : Bool) (width : Option Width) (index : ℕ) (row : Row) → index < DESCRIPTORS → FitsRow row →
    world_of (put b (row_address index) (row_bytes row)) budget mode regs vif width ≡ record (world_of b budget mode regs vif
    width) { descriptors = slice_set (world_of b budget mode regs vif width).descriptors index row }
unfolding world_of
row_world b budget holds mode regs vif width index row small fits =
    world_by (put b (row_address index) (row_bytes row)) budget _ (row_has b budget holds index row small) mode regs vif width
    ∙ ap (λ (rows : List Row). record (world_of b budget mode regs vif width) { descriptors = rows })
    (ap (λ (at : ℕ). rows_from (put (rows_part b) at (row_bytes row)) 0) (sym (zero-add (DESCRIPTOR_ROW_SIZE * index)))
    ∙ rows_from-put (rows_part b) 0 index row fits small (omega (arith, length-rows_part b budget holds)))

pub row_holds : (b : List ℕ) (budget : ℕ) → Holds b budget → (index : ℕ) (row : Row) → index < DESCRIPTORS → FitsRow row →
    Holds (put b (row_address index) (row_bytes row)) budget
row_holds b budget holds index row small fits =
    holds_by (put b (row_address index) (row_bytes row)) budget _ (row_has b budget holds index row small) holds.most
    (holds_with_rows (parts_of b budget) budget (with_row (rows_part b) index row)
    (keeps_rows (rows_part b) index row (length-rows_part b budget holds) small fits holds.rows) (holds_parts b budget holds))

-- the rows of the memory are the world's
pub rows_are : (b : List ℕ) (budget : ℕ) (mode : Mode) (regs : Regs) (vif : Bool) (width : Option Width) →
    rows_from b rows_start ≡ (world_of b budget mode regs vif width).descriptors
rows_are b budget mode regs vif width =
    sym (descriptors_is b budget mode regs vif width
    ∙ rows_from-region b (PAGE_SIZE * DESCRIPTOR_ROWS) (PAGE_SIZE * DESCRIPTOR_ROW_FRAMES) 0 (omega arith))

pub row_reads : (b : List ℕ) (budget : ℕ) (mode : Mode) (regs : Regs) (vif : Bool) (width : Option Width) (index : ℕ) →
    index < DESCRIPTORS → row_at b (row_address index) ≡ row_at_index (world_of b budget mode regs vif width).descriptors index
row_reads b budget mode regs vif width index small =
    sym (at_rows_from b rows_start index None small)
    ∙ ap (λ (rows : List Row). row_at_index rows index) (rows_are b budget mode regs vif width)

-- rows that are free in the memory are free in the world, and the other way round

pub run_in_world : (b : List ℕ) (budget : ℕ) (mode : Mode) (regs : Regs) (vif : Bool) (width : Option Width) (first n : ℕ) →
    IsFreeRun b first n → IsFreeRunOf (world_of b budget mode regs vif width).descriptors first n
run_in_world b budget mode regs vif width first n run = grind (arith, row_reads)

pub run_in_memory : (b : List ℕ) (budget : ℕ) (mode : Mode) (regs : Regs) (vif : Bool) (width : Option Width) (first n : ℕ) →
    IsFreeRunOf (world_of b budget mode regs vif width).descriptors first n → IsFreeRun b first n
run_in_memory b budget mode regs vif width first n run =
    let within = run.within in
    record {
      within = within;
      free = λ index from to. row_reads b budget mode regs vif width index (omega arith) ∙ run.free index from to;
    }

-- and so is the first such run
pub first_run_in_world : (b : List ℕ) (budget : ℕ) (mode : Mode) (regs : Regs) (vif : Bool) (width : Option Width) (first n : ℕ) →
    IsFirstFreeRun b first n → IsFirstFreeRunOf (world_of b budget mode regs vif width).descriptors first n
first_run_in_world b budget mode regs vif width first n run = record {
  from = run.from;
  run = run_in_world b budget mode regs vif width first n run.run;
  least = λ below from under free. run.least below from under (run_in_memory b budget mode regs vif width below n free);
}

-- there is none in the memory exactly where there is none in the world
pub no_run_in_world : (b : List ℕ) (budget : ℕ) (mode : Mode) (regs : Regs) (vif : Bool) (width : Option Width) (n : ℕ) →
    ((first : ℕ) → FIRST_FREE_DESCRIPTOR ≤ first → ¬ IsFreeRun b first n) →
    (first : ℕ) → FIRST_FREE_DESCRIPTOR ≤ first → ¬ IsFreeRunOf (world_of b budget mode regs vif width).descriptors first n
no_run_in_world b budget mode regs vif width n none first from run =
    none first from (run_in_memory b budget mode regs vif width first n run)

pub no_run_in_memory : (b : List ℕ) (budget : ℕ) (mode : Mode) (regs : Regs) (vif : Bool) (width : Option Width) (n : ℕ) →
    ((first : ℕ) → FIRST_FREE_DESCRIPTOR ≤ first → ¬ IsFreeRunOf (world_of b budget mode regs vif width).descriptors first n) →
    (first : ℕ) → FIRST_FREE_DESCRIPTOR ≤ first → ¬ IsFreeRun b first n
no_run_in_memory b budget mode regs vif width n none first from run =
    none first from (run_in_world b budget mode regs vif width first n run)
