-- What was written at a pointer is read there again: two bytes of a short run that the client may write are at two places.
use Rattle.std.proofs.Common.{◌≡◌, ◌≢◌, ℕ, zero, suc, ◌<◌, true, List, [], ◌∷◌, length, slice_index, slice_index_or, slice_set, refl, ap}
use Rattle.std.proofs.Common.{◌∙◌, sym, arith, None, Some, Option, get_or-set_same, get_or-set_other, length-set, ◌+◌, ◌-◌, ◌%◌, ◌≤◌, ◌^◌}
use Rattle.std.proofs.{Common.{◌⊎◌, inl, inr, false, get_or}, lemmas.Bool.{ltb-true, cases_Bool, cases_lt}, lemmas.Bool.Decides.{nat_tests}}
use Rattle.client_world.specs.{declared.place.Place.{Place}, declared.place.Place.TheVariants.{Dos, Block, Host, Nothing}}
use Rattle.client_world.specs.{declared.memory_map.TheConstants.{ROM_START, DOS_SIZE, DOS_VIEW_END}, Access.{may_touch, byte_of, bytes_of}}
use Rattle.client_world.specs.Access.{bytes_of_block, with_block_byte, with_byte_of, with_bytes_of, HasByte, IsHeld, place_in, block_place}
use Rattle.client_world.specs.{Access.{covers, dos_address}, World.{World, MemoryBlock}, declared.host_frames.TheConstants.{PAGE_SIZE}}
use Rattle.guest_space.proofs.Machines.{CanWrite, CanWriteAll, held_there, can_write_after}
use Rattle.client_world.proofs.PlaceLaws.{place-dos, place-gap, place-block, place-gap_above_blocks, place-host, place-above}

-- a byte that is held and written is the byte there
set_byte : (block : Option MemoryBlock) (at x : ℕ) → HasByte block at → slice_index (bytes_of_block (with_block_byte block at x)) at ≡ x
set_byte None at x held = absurd held
set_byte (Some block) at x held = get_or-set_same block.bytes at x 0 held

other_byte : (block : Option MemoryBlock) (at k x : ℕ) → k ≢ at →
    slice_index (bytes_of_block (with_block_byte block at x)) k ≡ slice_index (bytes_of_block block) k
other_byte None at k x other = refl
other_byte (Some block) at k x other = get_or-set_other block.bytes at k x 0 other

block_there : (blocks : List (Option MemoryBlock)) (n at x : ℕ) → HasByte (slice_index_or blocks n None) at →
    slice_index (bytes_of_block (slice_index_or (slice_set blocks n (with_block_byte (slice_index_or blocks n None) at x)) n None)) at ≡ x
block_there [] n at x held = absurd held
block_there (o ∷ blocks) zero at x held = set_byte o at x held
block_there (o ∷ blocks) (suc n) at x held = block_there blocks n at x held

block_kept : (blocks : List (Option MemoryBlock)) (n m at k x : ℕ) → (n ≡ m → k ≢ at) →
    slice_index (bytes_of_block (slice_index_or (slice_set blocks n (with_block_byte (slice_index_or blocks n None) at x)) m None)) k
    ≡ slice_index (bytes_of_block (slice_index_or blocks m None)) k
block_kept [] n m at k x other = refl
block_kept (o ∷ blocks) zero zero at k x other = other_byte o at k x (other refl)
block_kept (o ∷ blocks) zero (suc m) at k x other = refl
block_kept (o ∷ blocks) (suc n) zero at k x other = refl
block_kept (o ∷ blocks) (suc n) (suc m) at k x other = block_kept blocks n m at k x (λ e. other (ap suc e))

-- a byte of another place stays
byte_kept : (w : World) (q p : Place) (x : ℕ) → (q ≡ p → ⊥) → byte_of (with_byte_of w q x) p ≡ byte_of w p
byte_kept w (Dos a) (Dos b) x other = get_or-set_other w.dos a b x 0 (λ e. other (ap Dos (sym e)))
byte_kept w (Dos a) (Block number b) x other = refl
byte_kept w (Dos a) Host x other = refl
byte_kept w (Dos a) Nothing x other = refl
byte_kept w (Block number a) (Dos b) x other = refl
byte_kept w (Block zero a) (Block m b) x other = refl
byte_kept w (Block (suc n) a) (Block zero b) x other = refl
byte_kept w (Block (suc n) a) (Block (suc m) b) x other = grind (arith, block_kept)
byte_kept w (Block number a) Host x other = refl
byte_kept w (Block number a) Nothing x other = refl
byte_kept w Host p x other = refl
byte_kept w Nothing p x other = refl

-- the byte of the place is the one that was written
byte_there : (w : World) (p : Place) (x : ℕ) → length w.dos ≡ DOS_SIZE → may_touch p true ≡ true → IsHeld w p →
    byte_of (with_byte_of w p x) p ≡ x
byte_there w (Dos at) x size may held = let low = ltb-true at ROM_START may in get_or-set_same w.dos at x 0 (omega arith)
byte_there w (Block zero at) x size may held = absurd held
byte_there w (Block (suc n) at) x size may held = block_there w.blocks n at x held
byte_there w Host x size may held = absurd held
byte_there w Nothing x size may held = absurd held

dos_size : (w : World) (p : Place) (x : ℕ) → length w.dos ≡ DOS_SIZE → length (with_byte_of w p x).dos ≡ DOS_SIZE
dos_size w (Dos at) x size = length-set w.dos at x ∙ size
dos_size w (Block number at) x size = size
dos_size w Host x size = size
dos_size w Nothing x size = size

-- a write at places leaves the byte of every other place
pub bytes_kept : (w : World) (places : List Place) (bytes : List ℕ) (p : Place) →
    ((i : ℕ) → i < length places → slice_index_or places i Nothing ≡ p → ⊥) → byte_of (with_bytes_of w places bytes) p ≡ byte_of w p
bytes_kept w [] bytes p other = refl
bytes_kept w (q ∷ places) [] p other = refl
bytes_kept w (q ∷ places) (x ∷ bytes) p other =
    bytes_kept (with_byte_of w q x) places bytes p (λ i within. other (suc i) (omega arith)) ∙ byte_kept w q p x (other 0 (omega arith))

-- no place is twice among them
abbrev pub AreDistinct : List Place → Type 0
AreDistinct places = (i j : ℕ) → i < length places → j < length places →
    slice_index_or places i Nothing ≡ slice_index_or places j Nothing → i ≡ j

pub read_back : (w : World) (places : List Place) (bytes : List ℕ) → length w.dos ≡ DOS_SIZE → CanWriteAll w places → AreDistinct places →
    length bytes ≡ length places → bytes_of (with_bytes_of w places bytes) places ≡ bytes
read_back w [] [] size can distinct same = refl
read_back w [] (x ∷ bytes) size can distinct same = absurd cc
read_back w (p ∷ places) [] size can distinct same = absurd cc
read_back w (p ∷ places) (x ∷ bytes) size can distinct same =
    let first : CanWrite w p = can 0 (omega arith) in
    let here : byte_of (with_bytes_of (with_byte_of w p x) places bytes) p ≡ x =
    bytes_kept (with_byte_of w p x) places bytes p
    (λ i within e. (let twice : suc i ≡ 0 = distinct (suc i) 0 (omega arith) (omega arith) e in absurd cc))
    ∙ byte_there w p x size first.may (held_there w p first) in
    let later = read_back (with_byte_of w p x) places bytes (dos_size w p x size)
    (λ i within. can_write_after w p (slice_index_or places i Nothing) x (can (suc i) (omega arith)))
    (λ i j one two e. (let next : suc i ≡ suc j = distinct (suc i) (suc j) (omega arith) (omega arith) e in omega arith)) (omega arith) in
    ap (λ (y : ℕ). y ∷ bytes_of (with_bytes_of (with_byte_of w p x) places bytes) places) here ∙ ap (λ (ys : List ℕ). x ∷ ys) later

-- ---- two places

-- a byte of a block determines the block and the linear address
pub record OfBlock (blocks : List (Option MemoryBlock)) (start l number at : ℕ) : Type 0 where
  pub place : ℕ
  pub is : number ≡ start + place
  pub block : MemoryBlock
  pub there : get_or blocks place None ≡ Some block
  pub from : block.base ≤ l
  pub offset : at ≡ l - block.base

covers_from : (block : MemoryBlock) (l : ℕ) → covers block l ≡ true → block.base ≤ l
covers_from block l e = grind (arith, nat_tests)

same_block : (a b c d : ℕ) → Block a b ≡ Block c d → (a ≡ c) × (b ≡ d)
same_block a b c d e = (cc, cc)

of_block : (blocks : List (Option MemoryBlock)) (start l number at : ℕ) → block_place blocks start l ≡ Block number at →
    OfBlock blocks start l number at
of_block [] start l number at e = absurd cc
of_block (None ∷ blocks) start l number at e =
    let later = of_block blocks (start + 1) l number at e in
    let is = later.is in
    record { place = suc later.place; is = omega arith; block = later.block; there = later.there; from = later.from; offset = later.offset }
of_block (Some block ∷ blocks) start l number at e = elim (cases_Bool (covers block l)) [
  | inl here ↦ (
      let same = same_block start (l - block.base) number at (rw here at e) in
      let first = same.0 in
      record { place = 0; is = omega arith; block = block; there = refl; from = covers_from block l here; offset = sym same.1 })
  | inr not_here ↦ (
      let later = of_block blocks (start + 1) l number at (rw not_here at e) in
      let is = later.is in
      record
      { place = suc later.place; is = omega arith; block = later.block; there = later.there; from = later.from; offset = later.offset })
]

same_some : (a b : MemoryBlock) → Some a ≡ Some b → a.base ≡ b.base
same_some a b e = let same : a ≡ b = cc in ap (λ (m : MemoryBlock). m.base) same

same_offset : (blocks : List (Option MemoryBlock)) (start l k number at : ℕ) → OfBlock blocks start l number at →
    OfBlock blocks start k number at → l ≡ k
same_offset blocks start l k number at one other = grind (arith, same_some)

-- the place of an address that the client may write, by the memory map
pub record InDos (blocks : List (Option MemoryBlock)) (l : ℕ) : Type 0 where
  pub below : l < DOS_VIEW_END
  pub is : place_in blocks l ≡ Dos (dos_address l)

pub record InBlocks (blocks : List (Option MemoryBlock)) (l : ℕ) : Type 0 where
  pub is : place_in blocks l ≡ block_place blocks 1 l

barred : (p q : Place) → p ≡ q → may_touch q true ≡ false → may_touch p true ≡ true → ⊥
barred p q e closed may = let same = ap (λ (r : Place). may_touch r true) e in absurd cc

pub where_writable : (blocks : List (Option MemoryBlock)) (l : ℕ) → may_touch (place_in blocks l) true ≡ true →
    InDos blocks l ⊎ InBlocks blocks l
where_writable blocks l may =
    grind (arith, barred, cases_lt, place-above, place-block, place-dos, place-gap, place-gap_above_blocks, place-host)

-- a place of a block is none of the megabyte
dos_not_block : (blocks : List (Option MemoryBlock)) (start l at : ℕ) → block_place blocks start l ≡ Dos at → ⊥
dos_not_block [] start l at e = absurd cc
dos_not_block (None ∷ blocks) start l at e = dos_not_block blocks (start + 1) l at e
dos_not_block (Some block ∷ blocks) start l at e = elim (cases_Bool (covers block l)) [
  | inl here ↦ (let same = rw here at e in absurd cc)
  | inr not_here ↦ dos_not_block blocks (start + 1) l at (rw not_here at e)
]

pub same_dos : (a b : ℕ) → Dos a ≡ Dos b → a ≡ b
same_dos a b e = cc

-- two addresses that lie close together and have one place are one
blocks_apart : (blocks : List (Option MemoryBlock)) (l k : ℕ) (p : Place) → may_touch p true ≡ true → block_place blocks 1 l ≡ p →
    block_place blocks 1 k ≡ p → l ≡ k
blocks_apart blocks l k (Dos at) may e f = absurd (dos_not_block blocks 1 l at e)
blocks_apart blocks l k (Block number at) may e f =
    same_offset blocks 1 l k number at (of_block blocks 1 l number at e) (of_block blocks 1 k number at f)
blocks_apart blocks l k Host may e f = absurd cc
blocks_apart blocks l k Nothing may e f = absurd cc

pub addresses_apart : (blocks : List (Option MemoryBlock)) (a i j : ℕ) → i < PAGE_SIZE → j < PAGE_SIZE →
    may_touch (place_in blocks ((a + i) % 2 ^ 32)) true ≡ true →
    place_in blocks ((a + i) % 2 ^ 32) ≡ place_in blocks ((a + j) % 2 ^ 32) → i ≡ j
addresses_apart blocks a i j small less may same = grind (arith, blocks_apart, dos_not_block, same_dos, where_writable)
