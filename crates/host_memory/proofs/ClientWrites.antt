-- A byte that the client may write, put where its place is, is that byte in the world, and in nothing else: the memory still holds a
-- world, the host's frames keep their bytes and places their addresses.
use Rattle.std.proofs.Common.{◌≡◌, ◌≢◌, ℕ, suc, ◌+◌, ◌-◌, ◌*◌, ◌<◌, ◌≤◌, inl, inr, Bool, true, List, [], ◌∷◌, length, slice_index}
use Rattle.std.proofs.Common.{slice_set, refl, ap, ◌∙◌, arith, Option, get_or-set_other}
use Rattle.client_world.specs.{declared.registers.Mode.{Mode}, declared.registers.Regs.{Regs}, declared.registers.Width.{Width}}
use Rattle.client_world.specs.{declared.place.Place.{Place}, declared.place.Place.TheVariants.{Block}}
use Rattle.client_world.specs.{declared.host_frames.TheConstants.{PAGE_SIZE, BUDGET_FRAMES}, declared.memory_map.TheConstants.{DOS_SIZE}}
use Rattle.client_world.specs.{declared.memory_map.TheConstants.{ROM_START}, Access.{may_touch, with_byte_of, IsHeld}}
use Rattle.client_world.specs.{Soundness.{SoundBlocks}, World.{MemoryBlock}}
use Rattle.guest_ram.specs.Bytes.{put}
use Rattle.guest_ram.proofs.PutLaws.{length-region}
use Rattle.page_tables.proofs.FreeFrames.{dword_set_other}
use Rattle.host_memory.specs.Layout.{world_of, address_of, dos_part, handles_part, tables_part, locks_part, budget_part, taken_part}
use Rattle.host_memory.specs.{Layout.{first_page_of, blocks_in}, Holds.{Holds}, Tables.{IsIdle, next_frame}}
use Rattle.host_memory.proofs.Parts.{HasParts, addresses_of, holds_by, holds_parts, holds_with_dos, holds_with_frames, own_parts, parts_of}
use Rattle.host_memory.proofs.{Parts.{world_by}, PutParts.{Dos, Frames, put_part}, BlockRows.{HasRanges}, ClientPlaces.{IsBlockByte}}
use Rattle.host_memory.proofs.ClientPlaces.{spot_small, blocks_written, spot, block_spot, spot_away, IsWritable, writable, ranges_of}
use Rattle.host_memory.proofs.ClientPlaces.{address_dos, address_outside}

-- a run of bytes in the megabyte

dos_has : (b : List ℕ) (budget : ℕ) → Holds b budget → (at : ℕ) (xs : List ℕ) → at + length xs ≤ DOS_SIZE →
    HasParts (put b at xs) budget (record (parts_of b budget) { dos = put (dos_part b) at xs })
dos_has b budget holds at xs room = put_part Dos b budget (parts_of b budget) at at xs (own_parts b budget holds) (omega arith) room

pub dos_world : (b : List ℕ) (budget : ℕ) → Holds b budget →
    (mode : Mode) (regs : Regs) (vif : Bool) (width : Option Width) (at : ℕ) (xs : List ℕ) → at + length xs ≤ DOS_SIZE →
    world_of (put b at xs) budget mode regs vif width
    ≡ record (world_of b budget mode regs vif width) { dos = put (world_of b budget mode regs vif width).dos at xs }
unfolding world_of
dos_world b budget holds mode regs vif width at xs room =
    world_by (put b at xs) budget _ (dos_has b budget holds at xs room) mode regs vif width

pub dos_holds : (b : List ℕ) (budget : ℕ) → Holds b budget → (at : ℕ) (xs : List ℕ) → at + length xs ≤ DOS_SIZE → Holds (put b at xs) budget
dos_holds b budget holds at xs room = holds_by (put b at xs) budget _ (dos_has b budget holds at xs room) holds.most
    (holds_with_dos (parts_of b budget) budget (put (dos_part b) at xs) (holds_parts b budget holds))

pub dos_addresses : (b : List ℕ) (budget : ℕ) → Holds b budget → (at : ℕ) (xs : List ℕ) → at + length xs ≤ DOS_SIZE → (place : Place) →
    address_of (put b at xs) place ≡ address_of b place
dos_addresses b budget holds at xs room = addresses_of b (put b at xs) budget _ (dos_has b budget holds at xs room) refl refl

-- a run of bytes in the budget frames. Which blocks it changes, the caller says

frames_has : (b : List ℕ) (budget : ℕ) → Holds b budget → (address at : ℕ) (xs : List ℕ) →
    address ≡ PAGE_SIZE * BUDGET_FRAMES + at → at + length xs ≤ PAGE_SIZE * budget →
    HasParts (put b address xs) budget (record (parts_of b budget) { frames = put (budget_part b budget) at xs })
frames_has b budget holds address at xs e room =
    put_part Frames b budget (parts_of b budget) address at xs (own_parts b budget holds) (omega (arith, e)) room

pub frames_world : (b : List ℕ) (budget : ℕ) → Holds b budget →
    (mode : Mode) (regs : Regs) (vif : Bool) (width : Option Width) (address at : ℕ) (xs : List ℕ) →
    address ≡ PAGE_SIZE * BUDGET_FRAMES + at → at + length xs ≤ PAGE_SIZE * budget → (blocks : List (Option MemoryBlock)) →
    blocks_in (handles_part b) (tables_part b) (locks_part b) (put (budget_part b budget) at xs) ≡ blocks →
    world_of (put b address xs) budget mode regs vif width ≡ record (world_of b budget mode regs vif width) { blocks = blocks }
unfolding world_of
frames_world b budget holds mode regs vif width address at xs e room blocks is =
    world_by (put b address xs) budget _ (frames_has b budget holds address at xs e room) mode regs vif width
    ∙ ap (λ (bs : List (Option MemoryBlock)). record (world_of b budget mode regs vif width) { blocks = bs }) is

pub frames_holds : (b : List ℕ) (budget : ℕ) → Holds b budget → (address at : ℕ) (xs : List ℕ) →
    address ≡ PAGE_SIZE * BUDGET_FRAMES + at → at + length xs ≤ PAGE_SIZE * budget → ((frame : ℕ) → IsIdle (taken_part b) budget frame →
    next_frame (put (budget_part b budget) at xs) frame ≡ next_frame (budget_part b budget) frame) → Holds (put b address xs) budget
frames_holds b budget holds address at xs e room idle =
    holds_by (put b address xs) budget _ (frames_has b budget holds address at xs e room) holds.most
    (holds_with_frames (parts_of b budget) budget (put (budget_part b budget) at xs) idle (holds_parts b budget holds))

pub frames_addresses : (b : List ℕ) (budget : ℕ) → Holds b budget → (address at : ℕ) (xs : List ℕ) →
    address ≡ PAGE_SIZE * BUDGET_FRAMES + at → at + length xs ≤ PAGE_SIZE * budget → (place : Place) →
    address_of (put b address xs) place ≡ address_of b place
frames_addresses b budget holds address at xs e room =
    addresses_of b (put b address xs) budget _ (frames_has b budget holds address at xs e room) refl refl

-- one byte of a block

block_world : (b : List ℕ) (budget : ℕ) → Holds b budget → HasRanges (handles_part b) →
    (mode : Mode) (regs : Regs) (vif : Bool) (width : Option Width) (place at v : ℕ) → IsBlockByte (handles_part b) place at →
    world_of (slice_set b (address_of b (Block (suc place) at)) v) budget mode regs vif width
    ≡ with_byte_of (world_of b budget mode regs vif width) (Block (suc place) at) v
unfolding world_of
block_world b budget holds ranges mode regs vif width place at v byte =
    let offset = spot (tables_part b) (first_page_of (handles_part b) place) at in
    let small : offset < PAGE_SIZE * budget =
    spot_small (handles_part b) (tables_part b) (taken_part b) budget holds.blocks place at byte in
    let long : length (budget_part b budget) ≡ PAGE_SIZE * budget =
    length-region b (PAGE_SIZE * BUDGET_FRAMES) (PAGE_SIZE * budget) (omega (arith, holds.size)) in
    frames_world b budget holds mode regs vif width (address_of b (Block (suc place) at)) offset (v ∷ [])
    (block_spot b budget place at holds byte.within byte.inside) (omega arith) _
    (blocks_written (handles_part b) (tables_part b) (locks_part b) (taken_part b) (budget_part b budget) budget ranges holds.blocks long
    place at v byte)

block_holds : (b : List ℕ) (budget : ℕ) → Holds b budget → (place at v : ℕ) → IsBlockByte (handles_part b) place at →
    Holds (slice_set b (address_of b (Block (suc place) at)) v) budget
block_holds b budget holds place at v byte =
    let small = spot_small (handles_part b) (tables_part b) (taken_part b) budget holds.blocks place at byte in
    frames_holds b budget holds (address_of b (Block (suc place) at))
    (spot (tables_part b) (first_page_of (handles_part b) place) at) (v ∷ [])
    (block_spot b budget place at holds byte.within byte.inside) (omega arith)
    (λ frame is. dword_set_other (budget_part b budget) (spot (tables_part b) (first_page_of (handles_part b) place) at)
    (PAGE_SIZE * (frame - BUDGET_FRAMES)) v
    (spot_away b budget place at frame holds byte is))

block_addresses : (b : List ℕ) (budget : ℕ) → Holds b budget → (place at v : ℕ) → IsBlockByte (handles_part b) place at → (q : Place) →
    address_of (slice_set b (address_of b (Block (suc place) at)) v) q ≡ address_of b q
block_addresses b budget holds place at v byte =
    let small = spot_small (handles_part b) (tables_part b) (taken_part b) budget holds.blocks place at byte in
    frames_addresses b budget holds (address_of b (Block (suc place) at))
    (spot (tables_part b) (first_page_of (handles_part b) place) at) (v ∷ [])
    (block_spot b budget place at holds byte.within byte.inside) (omega arith)

-- one byte at a place that the client may write

pub store_world : (b : List ℕ) (budget : ℕ) → Holds b budget → HasRanges (handles_part b) →
    (mode : Mode) (regs : Regs) (vif : Bool) (width : Option Width) (p : Place) (v : ℕ) → IsWritable (handles_part b) p →
    world_of (slice_set b (address_of b p) v) budget mode regs vif width ≡ with_byte_of (world_of b budget mode regs vif width) p v
store_world b budget holds ranges mode regs vif width p v at = elim at [
  | inl dos ↦ (let low = dos.low in
      rw dos.is (rw (address_dos b dos.at) (dos_world b budget holds mode regs vif width dos.at (v ∷ []) (omega arith))))
  | inr block ↦ rw block.is (block_world b budget holds ranges mode regs vif width block.place block.at v block.byte)
]

pub store_holds : (b : List ℕ) (budget : ℕ) → Holds b budget → (p : Place) (v : ℕ) → IsWritable (handles_part b) p →
    Holds (slice_set b (address_of b p) v) budget
store_holds b budget holds p v at = elim at [
  | inl dos ↦ (let low = dos.low in rw dos.is (rw (address_dos b dos.at) (dos_holds b budget holds dos.at (v ∷ []) (omega arith))))
  | inr block ↦ rw block.is (block_holds b budget holds block.place block.at v block.byte)
]

pub store_addresses : (b : List ℕ) (budget : ℕ) → Holds b budget → (p : Place) (v : ℕ) → IsWritable (handles_part b) p → (q : Place) →
    address_of (slice_set b (address_of b p) v) q ≡ address_of b q
store_addresses b budget holds p v at q = elim at [
  | inl dos ↦ (let low = dos.low in rw dos.is (rw (address_dos b dos.at) (dos_addresses b budget holds dos.at (v ∷ []) (omega arith) q)))
  | inr block ↦ rw block.is (block_addresses b budget holds block.place block.at v block.byte q)
]

-- no such byte is the host's, or lies in read-only memory
pub store_host : (b : List ℕ) (budget : ℕ) → Holds b budget → (p : Place) (v : ℕ) → IsWritable (handles_part b) p → (k : ℕ) →
    ROM_START ≤ k → k < PAGE_SIZE * BUDGET_FRAMES → slice_index (slice_set b (address_of b p) v) k ≡ slice_index b k
store_host b budget holds p v at k from to =
    let ne : k ≢ address_of b p = elim (address_outside b budget holds ROM_START p at) [
      | inl low ↦ omega arith
      | inr high ↦ omega arith
    ] in
    get_or-set_other b (address_of b p) k v 0 ne

-- the same of a place that the client holds and may write

pub write_world : (b : List ℕ) (budget pages : ℕ) → Holds b budget → (mode : Mode) (regs : Regs) (vif : Bool) (width : Option Width) →
    SoundBlocks (world_of b budget mode regs vif width).blocks pages → (p : Place) (v : ℕ) → may_touch p true ≡ true →
    IsHeld (world_of b budget mode regs vif width) p →
    world_of (slice_set b (address_of b p) v) budget mode regs vif width ≡ with_byte_of (world_of b budget mode regs vif width) p v
write_world b budget pages holds mode regs vif width sound p v may held =
    store_world b budget holds (ranges_of b budget pages mode regs vif width sound) mode regs vif width p v
    (writable b budget mode regs vif width p may held)

pub write_holds : (b : List ℕ) (budget : ℕ) → Holds b budget →
    (mode : Mode) (regs : Regs) (vif : Bool) (width : Option Width) (p : Place) (v : ℕ) →
    may_touch p true ≡ true → IsHeld (world_of b budget mode regs vif width) p → Holds (slice_set b (address_of b p) v) budget
write_holds b budget holds mode regs vif width p v may held =
    store_holds b budget holds p v (writable b budget mode regs vif width p may held)

pub write_addresses : (b : List ℕ) (budget : ℕ) → Holds b budget →
    (mode : Mode) (regs : Regs) (vif : Bool) (width : Option Width) (p : Place) (v : ℕ) → may_touch p true ≡ true →
    IsHeld (world_of b budget mode regs vif width) p → (q : Place) → address_of (slice_set b (address_of b p) v) q ≡ address_of b q
write_addresses b budget holds mode regs vif width p v may held =
    store_addresses b budget holds p v (writable b budget mode regs vif width p may held)

pub write_host : (b : List ℕ) (budget : ℕ) → Holds b budget →
    (mode : Mode) (regs : Regs) (vif : Bool) (width : Option Width) (p : Place) (v : ℕ) →
    may_touch p true ≡ true → IsHeld (world_of b budget mode regs vif width) p → (k : ℕ) → ROM_START ≤ k → k < PAGE_SIZE * BUDGET_FRAMES →
    slice_index (slice_set b (address_of b p) v) k ≡ slice_index b k
write_host b budget holds mode regs vif width p v may held =
    store_host b budget holds p v (writable b budget mode regs vif width p may held)
