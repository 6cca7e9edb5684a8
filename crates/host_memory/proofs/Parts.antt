-- All parts of the memory together, and the world and what the memory must keep as functions of them alone. A write is one equation of the
-- parts (`PutParts`), and from it follow the world after it and that the memory still holds one.
use Rattle.std.proofs.Common.{◌≡◌, ℕ, ◌+◌, ◌*◌, ◌<◌, ◌≤◌, List, slice_index, sym, add_assoc, arith, ◌-◌, length, ap, ◌∙◌, zero, suc, Bool}
use Rattle.std.proofs.Common.{refl, subst}
use Rattle.client_world.specs.declared.host_frames.TheConstants.{PAGE_SIZE, VECTORS, TAKEN_FRAMES, BUDGET_FRAMES, TAKEN_BYTE_FRAMES}
use Rattle.client_world.specs.{declared.host_frames.TheConstants.{VECTOR_FRAMES}, declared.limits.TheConstants.{MAX_PAGES}}
use Rattle.client_world.specs.{declared.registers.Mode.{Mode}, declared.registers.Regs.{Regs}, declared.registers.Width.{Width}}
use Rattle.client_world.specs.{declared.place.Place.{Place}, declared.place.Place.TheVariants.{Dos, Block, Host, Nothing}, World.{World}}
use Rattle.guest_ram.specs.{Bytes.{dword, word_of}, Count.{used}}
use Rattle.guest_ram.proofs.PutLaws.{at_region, dword-region}
use Rattle.host_memory.specs.Layout.{frames_at, budget_part, taken_part, vectors_part, world_of, address_of, dos_part, fixed_part}
use Rattle.host_memory.specs.Layout.{tables_part, rows_part, records_part, handles_part, locks_part, arena_part, blocks_in}
use Rattle.host_memory.specs.{HoldsWorld.{frame_place}, Holds.{ListsFreeFrames, Holds, KeepsRows, KeepsHandles, KeepsLocks, all_pages}}
use Rattle.host_memory.specs.{Tables.{IsIdle, next_frame, HasFixedEntries, HasBlockEntries}, Vectors.{head_start, interrupt_vectors_in}}
use Rattle.host_memory.specs.{Vectors.{exception_vectors_in, callbacks_in, pageable_in, KeepsVectors}, Records.{calls_in, KeepsRecords}}
use Rattle.host_memory.specs.DosList.{arena_in, KeepsArena}
use Rattle.page_tables.specs.FreeList.{HasFreeList, IsFreeFrame, first_free, next_free}
use Rattle.page_tables.proofs.FreeFrames.{same_free}
use Rattle.std.specs.declared.option.Option.{Option}
use Rattle.desc_table.specs.Rows.{rows_from}

pub part_byte : (b : List ℕ) (first n at : ℕ) → at < PAGE_SIZE * n →
    slice_index b (frame_place first at) ≡ slice_index (frames_at b first n) at
part_byte b first n at within = sym (at_region b (PAGE_SIZE * first) (PAGE_SIZE * n) at within)

pub part_word : (b : List ℕ) (first n at : ℕ) → at + 2 ≤ PAGE_SIZE * n → word_of b (frame_place first at) ≡ word_of (frames_at b first n) at
part_word b first n at within = grind (arith, add_assoc, part_byte)

pub part_dword : (b : List ℕ) (first n at : ℕ) → at + 4 ≤ PAGE_SIZE * n → dword b (frame_place first at) ≡ dword (frames_at b first n) at
part_dword b first n at within = sym (dword-region b (PAGE_SIZE * first) (PAGE_SIZE * n) at within)

-- ---- the list of free frames in the parts of the memory and in its bytes, and what leaves it

-- the memory has that many bytes, of a budget that its taken bytes have room for
pub record HasFrames (b : List ℕ) (budget : ℕ) : Type 0 where
  pub size : length b ≡ PAGE_SIZE * (BUDGET_FRAMES + budget)
  pub most : budget ≤ MAX_PAGES

pub head_is : (b : List ℕ) → first_free b ≡ dword (vectors_part b) head_start
head_is b = part_dword b VECTORS VECTOR_FRAMES head_start (omega arith)

pub next_is : (b : List ℕ) (budget frame : ℕ) → BUDGET_FRAMES ≤ frame → frame < BUDGET_FRAMES + budget →
    next_free b frame ≡ next_frame (budget_part b budget) frame
next_is b budget frame from to =
    ap (dword b) (let e : PAGE_SIZE * frame ≡ PAGE_SIZE * BUDGET_FRAMES + PAGE_SIZE * (frame - BUDGET_FRAMES) = omega arith in e)
    ∙ part_dword b BUDGET_FRAMES budget (PAGE_SIZE * (frame - BUDGET_FRAMES)) (omega arith)

free_is_idle : (b : List ℕ) (budget frame : ℕ) → HasFrames b budget → IsFreeFrame b frame → IsIdle (taken_part b) budget frame
free_is_idle b budget frame has is =
    let size = has.size in let most = has.most in let from = is.budget.from in let inside = is.budget.inside in
    record {
      from = from;
      to = omega arith;
      idle = sym (part_byte b TAKEN_FRAMES TAKEN_BYTE_FRAMES (frame - BUDGET_FRAMES) (omega arith)) ∙ is.free;
    }

idle_is_free : (b : List ℕ) (budget frame : ℕ) → HasFrames b budget → IsIdle (taken_part b) budget frame → IsFreeFrame b frame
idle_is_free b budget frame has is =
    let size = has.size in let most = has.most in let from = is.from in let to = is.to in
    record {
      budget = record { from = from; inside = omega arith };
      free = part_byte b TAKEN_FRAMES TAKEN_BYTE_FRAMES (frame - BUDGET_FRAMES) (omega arith) ∙ is.idle;
    }

-- what the parts list, the bytes list
pub list_of_parts : (b : List ℕ) (budget : ℕ) → HasFrames b budget →
    ListsFreeFrames (vectors_part b) (taken_part b) (budget_part b budget) budget → HasFreeList b
list_of_parts b budget has list =
    same_free (dword (vectors_part b) head_start) (first_free b) (next_frame (budget_part b budget)) (next_free b)
    (IsIdle (taken_part b) budget) (IsFreeFrame b) list
    (head_is b) (λ frame is. next_is b budget frame is.from is.to)
    (λ frame. (free_is_idle b budget frame has, idle_is_free b budget frame has))

-- and the other way round
pub parts_of_list : (b : List ℕ) (budget : ℕ) → HasFrames b budget → HasFreeList b →
    ListsFreeFrames (vectors_part b) (taken_part b) (budget_part b budget) budget
parts_of_list b budget has list =
    same_free (first_free b) (dword (vectors_part b) head_start) (next_free b) (next_frame (budget_part b budget)) (IsFreeFrame b)
    (IsIdle (taken_part b) budget) list
    (sym (head_is b)) (λ frame is. (let idle = free_is_idle b budget frame has is in sym (next_is b budget frame idle.from idle.to)))
    (λ frame. (idle_is_free b budget frame has, free_is_idle b budget frame has))

-- a write that leaves the head, the taken bytes and the first doublewords of idle frames leaves the list
pub list_kept : (vectors others taken frames writes : List ℕ) (budget : ℕ) → dword others head_start ≡ dword vectors head_start →
    ((frame : ℕ) → IsIdle taken budget frame → next_frame writes frame ≡ next_frame frames frame) →
    ListsFreeFrames vectors taken frames budget → ListsFreeFrames others taken writes budget
list_kept vectors others taken frames writes budget head next list = grind (arith, same_free)

-- ---- all parts together

-- the bytes of each part
pub record MemoryParts : Type 0 where
  pub dos : List ℕ
  pub fixed : List ℕ
  pub tables : List ℕ
  pub rows : List ℕ
  pub vectors : List ℕ
  pub records : List ℕ
  pub handles : List ℕ
  pub locks : List ℕ
  pub arena : List ℕ
  pub taken : List ℕ
  pub frames : List ℕ

abbrev pub parts_of : List ℕ → ℕ → MemoryParts
parts_of b budget = record {
  dos = dos_part b;
  fixed = fixed_part b;
  tables = tables_part b;
  rows = rows_part b;
  vectors = vectors_part b;
  records = records_part b;
  handles = handles_part b;
  locks = locks_part b;
  arena = arena_part b;
  taken = taken_part b;
  frames = budget_part b budget;
}

-- the memory has that many bytes
abbrev pub HasSize : List ℕ → ℕ → Type 0
HasSize b budget = length b ≡ PAGE_SIZE * (BUDGET_FRAMES + budget)

-- the world that the parts hold
abbrev pub world_of_parts : MemoryParts → ℕ → Mode → Regs → Bool → Option Width → World
world_of_parts parts budget mode regs vif width = record {
  mode = mode;
  regs = regs;
  vif = vif;
  width = width;
  dos = parts.dos;
  arena = arena_in parts.arena;
  blocks = blocks_in parts.handles parts.tables parts.locks parts.frames;
  budget = budget;
  pageable = pageable_in parts.vectors;
  descriptors = rows_from parts.rows 0;
  interrupt_vectors = interrupt_vectors_in parts.vectors;
  exception_vectors = exception_vectors_in parts.vectors;
  callbacks = callbacks_in parts.vectors;
  calls = calls_in parts.records;
}

-- a memory of that page budget that has these parts
pub record HasParts (c : List ℕ) (budget : ℕ) (parts : MemoryParts) : Type 0 where
  pub size : HasSize c budget
  pub are : parts_of c budget ≡ parts

pub own_parts : (b : List ℕ) (budget : ℕ) → Holds b budget → HasParts b budget (parts_of b budget)
own_parts b budget holds = record { size = holds.size; are = refl }

-- then their world is its world
pub world_by : (c : List ℕ) (budget : ℕ) (parts : MemoryParts) → HasParts c budget parts →
    (mode : Mode) (regs : Regs) (vif : Bool) (width : Option Width) →
    world_of c budget mode regs vif width ≡ world_of_parts parts budget mode regs vif width
unfolding world_of
world_by c budget parts has mode regs vif width = ap (λ (p : MemoryParts). world_of_parts p budget mode regs vif width) has.are

-- what the parts must keep
pub record HoldsParts (parts : MemoryParts) (budget : ℕ) : Type 0 where
  pub fixed : HasFixedEntries parts.fixed
  pub rows : KeepsRows parts.rows
  pub vectors : KeepsVectors parts.vectors
  pub records : KeepsRecords parts.records
  pub handles : KeepsHandles parts.handles
  pub blocks : HasBlockEntries parts.handles parts.tables parts.taken budget
  pub free : ListsFreeFrames parts.vectors parts.taken parts.frames budget
  pub count : used parts.taken ≡ all_pages parts.handles
  pub locks : KeepsLocks parts.handles parts.locks
  pub arena : KeepsArena parts.arena

pub holds_parts : (b : List ℕ) (budget : ℕ) → Holds b budget → HoldsParts (parts_of b budget) budget
holds_parts b budget holds = assumption

parts_hold : (c : List ℕ) (budget : ℕ) → HasSize c budget → budget ≤ MAX_PAGES → HoldsParts (parts_of c budget) budget → Holds c budget
parts_hold c budget size most holds = assumption

-- a memory that has them holds a world where they keep it
pub holds_by : (c : List ℕ) (budget : ℕ) (parts : MemoryParts) → HasParts c budget parts → budget ≤ MAX_PAGES → HoldsParts parts budget →
    Holds c budget
holds_by c budget parts has most holds =
    parts_hold c budget has.size most (subst (λ (p : MemoryParts). HoldsParts p budget) (sym has.are) holds)

-- places keep their addresses where the rows of blocks and the page entries are the same
pub addresses_by : (b c : List ℕ) → handles_part c ≡ handles_part b → tables_part c ≡ tables_part b → (place : Place) →
    address_of c place ≡ address_of b place
unfolding address_of
addresses_by b c handles tables (Dos at) = refl
addresses_by b c handles tables (Block zero at) = refl
addresses_by b c handles tables (Block (suc place) at) = rw (handles, tables)
addresses_by b c handles tables Host = refl
addresses_by b c handles tables Nothing = refl

-- the same where the parts that were put have these two still
pub addresses_of : (b c : List ℕ) (budget : ℕ) (parts : MemoryParts) → HasParts c budget parts → parts.handles ≡ handles_part b →
    parts.tables ≡ tables_part b → (place : Place) → address_of c place ≡ address_of b place
addresses_of b c budget parts has handles tables =
    addresses_by b c (ap (λ (p : MemoryParts). p.handles) has.are ∙ handles) (ap (λ (p : MemoryParts). p.tables) has.are ∙ tables)

-- the parts that no other has to agree with may change; each has its own condition
holds_with : (parts : MemoryParts) (budget : ℕ) (dos rows vectors records arena frames : List ℕ) → KeepsRows rows → KeepsVectors vectors →
    KeepsRecords records → KeepsArena arena → ListsFreeFrames vectors parts.taken frames budget → HoldsParts parts budget →
    HoldsParts (record parts { dos = dos; rows = rows; vectors = vectors; records = records; arena = arena; frames = frames }) budget
holds_with parts budget dos rows vectors records arena frames keeps_rows keeps_vectors keeps_records keeps_arena free h = assumption

pub holds_with_dos : (parts : MemoryParts) (budget : ℕ) (dos : List ℕ) → HoldsParts parts budget →
    HoldsParts (record parts { dos = dos }) budget
holds_with_dos p budget dos h =
    holds_with p budget dos p.rows p.vectors p.records p.arena p.frames h.rows h.vectors h.records h.arena h.free h

pub holds_with_rows : (parts : MemoryParts) (budget : ℕ) (rows : List ℕ) → KeepsRows rows → HoldsParts parts budget →
    HoldsParts (record parts { rows = rows }) budget
holds_with_rows p budget rows keeps h =
    holds_with p budget p.dos rows p.vectors p.records p.arena p.frames keeps h.vectors h.records h.arena h.free h

pub holds_with_vectors : (parts : MemoryParts) (budget : ℕ) (vectors : List ℕ) → KeepsVectors vectors →
    dword vectors head_start ≡ dword parts.vectors head_start → HoldsParts parts budget →
    HoldsParts (record parts { vectors = vectors }) budget
holds_with_vectors p budget vectors keeps head h =
    holds_with p budget p.dos p.rows vectors p.records p.arena p.frames h.rows keeps h.records h.arena
    (list_kept p.vectors vectors p.taken p.frames p.frames budget head (λ frame is. refl) h.free) h

pub holds_with_records : (parts : MemoryParts) (budget : ℕ) (records : List ℕ) → KeepsRecords records → HoldsParts parts budget →
    HoldsParts (record parts { records = records }) budget
holds_with_records p budget records keeps h =
    holds_with p budget p.dos p.rows p.vectors records p.arena p.frames h.rows h.vectors keeps h.arena h.free h

pub holds_with_arena : (parts : MemoryParts) (budget : ℕ) (arena : List ℕ) → KeepsArena arena → HoldsParts parts budget →
    HoldsParts (record parts { arena = arena }) budget
holds_with_arena p budget arena keeps h =
    holds_with p budget p.dos p.rows p.vectors p.records arena p.frames h.rows h.vectors h.records keeps h.free h

pub holds_with_frames : (parts : MemoryParts) (budget : ℕ) (frames : List ℕ) →
    ((frame : ℕ) → IsIdle parts.taken budget frame → next_frame frames frame ≡ next_frame parts.frames frame) → HoldsParts parts budget →
    HoldsParts (record parts { frames = frames }) budget
holds_with_frames p budget frames same h =
    holds_with p budget p.dos p.rows p.vectors p.records p.arena frames h.rows h.vectors h.records h.arena
    (list_kept p.vectors p.vectors p.taken p.frames frames budget refl same h.free) h

-- ---- parts of the world, each read by itself

-- what the processor keeps
pub regs_is : (b : List ℕ) (budget : ℕ) (mode : Mode) (regs : Regs) (vif : Bool) (width : Option Width) →
    (world_of b budget mode regs vif width).regs ≡ regs
unfolding world_of
regs_is b budget mode regs vif width = refl

-- what the memory holds
pub dos_is : (b : List ℕ) (budget : ℕ) (mode : Mode) (regs : Regs) (vif : Bool) (width : Option Width) →
    (world_of b budget mode regs vif width).dos ≡ dos_part b
unfolding world_of
dos_is b budget mode regs vif width = refl

pub arena_is : (b : List ℕ) (budget : ℕ) (mode : Mode) (regs : Regs) (vif : Bool) (width : Option Width) →
    (world_of b budget mode regs vif width).arena ≡ arena_in (arena_part b)
unfolding world_of
arena_is b budget mode regs vif width = refl

pub blocks_is : (b : List ℕ) (budget : ℕ) (mode : Mode) (regs : Regs) (vif : Bool) (width : Option Width) →
    (world_of b budget mode regs vif width).blocks ≡ blocks_in (handles_part b) (tables_part b) (locks_part b) (budget_part b budget)
unfolding world_of
blocks_is b budget mode regs vif width = refl

pub budget_is : (b : List ℕ) (budget : ℕ) (mode : Mode) (regs : Regs) (vif : Bool) (width : Option Width) →
    (world_of b budget mode regs vif width).budget ≡ budget
unfolding world_of
budget_is b budget mode regs vif width = refl

pub pageable_is : (b : List ℕ) (budget : ℕ) (mode : Mode) (regs : Regs) (vif : Bool) (width : Option Width) →
    (world_of b budget mode regs vif width).pageable ≡ pageable_in (vectors_part b)
unfolding world_of
pageable_is b budget mode regs vif width = refl

pub descriptors_is : (b : List ℕ) (budget : ℕ) (mode : Mode) (regs : Regs) (vif : Bool) (width : Option Width) →
    (world_of b budget mode regs vif width).descriptors ≡ rows_from (rows_part b) 0
unfolding world_of
descriptors_is b budget mode regs vif width = refl

pub interrupt_vectors_is : (b : List ℕ) (budget : ℕ) (mode : Mode) (regs : Regs) (vif : Bool) (width : Option Width) →
    (world_of b budget mode regs vif width).interrupt_vectors ≡ interrupt_vectors_in (vectors_part b)
unfolding world_of
interrupt_vectors_is b budget mode regs vif width = refl

pub exception_vectors_is : (b : List ℕ) (budget : ℕ) (mode : Mode) (regs : Regs) (vif : Bool) (width : Option Width) →
    (world_of b budget mode regs vif width).exception_vectors ≡ exception_vectors_in (vectors_part b)
unfolding world_of
exception_vectors_is b budget mode regs vif width = refl

pub callbacks_is : (b : List ℕ) (budget : ℕ) (mode : Mode) (regs : Regs) (vif : Bool) (width : Option Width) →
    (world_of b budget mode regs vif width).callbacks ≡ callbacks_in (vectors_part b)
unfolding world_of
callbacks_is b budget mode regs vif width = refl

pub calls_is : (b : List ℕ) (budget : ℕ) (mode : Mode) (regs : Regs) (vif : Bool) (width : Option Width) →
    (world_of b budget mode regs vif width).calls ≡ calls_in (records_part b)
unfolding world_of
calls_is b budget mode regs vif width = refl
