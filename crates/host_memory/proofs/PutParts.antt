-- A run of bytes that is put into one part of the memory leaves all the others.
use Rattle.std.proofs.Common.{◌≡◌, ℕ, zero, suc, ◌+◌, ◌*◌, ◌≤◌, inl, inr, List, [], ◌∷◌, length, get_or, set, refl, ap, ◌∙◌, arith}
use Rattle.client_world.specs.declared.host_frames.TheConstants.{PAGE_SIZE, BLOCK_ROW_FRAMES, BLOCK_TABLE_FRAMES, DESCRIPTOR_ROW_FRAMES}
use Rattle.client_world.specs.declared.host_frames.TheConstants.{DOS_LIST_FRAMES, FIXED_TABLE_FRAMES, LOCK_COUNT_FRAMES, RECORD_FRAMES}
use Rattle.client_world.specs.declared.host_frames.TheConstants.{TAKEN_BYTE_FRAMES, VECTOR_FRAMES}
use Rattle.client_world.specs.declared.memory_map.TheConstants.{DOS_SIZE}
use Rattle.guest_ram.specs.Bytes.{put, region}
use Rattle.guest_ram.proofs.PutLaws.{length-put, region-put, region-put_away}
use Rattle.host_memory.proofs.Parts.{HasParts, MemoryParts}

-- ---- regions one after another

-- the regions of those sizes from an address on
abbrev pub pieces : List ℕ → ℕ → List ℕ → List (List ℕ)
pieces [] start b = []
pieces (n ∷ sizes) start b = region b start n ∷ pieces sizes (start + n) b

-- where the region of that number begins, counted from the first; that of the number of the regions is their end
abbrev pub start_of : List ℕ → ℕ → ℕ
start_of [] k = 0
start_of (n ∷ sizes) zero = 0
start_of (n ∷ sizes) (suc k) = n + start_of sizes k

pieces_after : (sizes : List ℕ) (start : ℕ) (b : List ℕ) (address : ℕ) (xs : List ℕ) → start + start_of sizes (length sizes) ≤ length b →
    address + length xs ≤ start → pieces sizes start (put b address xs) ≡ pieces sizes start b
pieces_after [] start b address xs room before = refl
pieces_after (n ∷ sizes) start b address xs room before =
    let end : start_of (n ∷ sizes) (length (n ∷ sizes)) ≡ n + start_of sizes (length sizes) = refl in
    rw (
      region-put_away b address xs start n (inl before) (omega (arith, room, end)),
      pieces_after sizes (start + n) b address xs (omega (arith, room, end)) (omega arith),
    ) refl

-- a run that is put into one of them changes that one alone
put_piece : (sizes : List ℕ) (start : ℕ) (b : List ℕ) (k address at : ℕ) (xs : List ℕ) → start + start_of sizes (length sizes) ≤ length b →
    address ≡ start + start_of sizes k + at → at + length xs ≤ get_or sizes k 0 →
    pieces sizes start (put b address xs) ≡ set (pieces sizes start b) k (put (get_or (pieces sizes start b) k []) at xs)
put_piece [] start b k address at xs room e within = refl
put_piece (n ∷ sizes) start b zero address at xs room e within =
    let end : start_of (n ∷ sizes) (length (n ∷ sizes)) ≡ n + start_of sizes (length sizes) = refl in
    let first : start_of (n ∷ sizes) 0 ≡ 0 = refl in
    let size : get_or (n ∷ sizes) 0 0 ≡ n = refl in
    rw (
      region-put b address xs start n at (omega (arith, e, first)) within,
      pieces_after sizes (start + n) b address xs (omega (arith, room, end)) (omega (arith, e, first, within, size)),
    ) refl
put_piece (n ∷ sizes) start b (suc k) address at xs room e within =
    let end : start_of (n ∷ sizes) (length (n ∷ sizes)) ≡ n + start_of sizes (length sizes) = refl in
    let next : start_of (n ∷ sizes) (suc k) ≡ n + start_of sizes k = refl in
    rw (
      region-put_away b address xs start n (inr (omega (arith, e, next))) (omega (arith, room, end)),
      put_piece sizes (start + n) b k address at xs (omega (arith, room, end)) (omega (arith, e, next)) within,
    ) refl

-- ---- the parts

-- their sizes
abbrev pub sizes_of : ℕ → List ℕ
sizes_of budget =
    DOS_SIZE ∷ PAGE_SIZE * FIXED_TABLE_FRAMES ∷ PAGE_SIZE * BLOCK_TABLE_FRAMES ∷ PAGE_SIZE * DESCRIPTOR_ROW_FRAMES ∷
    PAGE_SIZE * VECTOR_FRAMES ∷ PAGE_SIZE * RECORD_FRAMES ∷ PAGE_SIZE * BLOCK_ROW_FRAMES ∷ PAGE_SIZE * LOCK_COUNT_FRAMES ∷
    PAGE_SIZE * DOS_LIST_FRAMES ∷ PAGE_SIZE * TAKEN_BYTE_FRAMES ∷ PAGE_SIZE * budget ∷ []

abbrev pub list_of : MemoryParts → List (List ℕ)
list_of p = p.dos ∷ p.fixed ∷ p.tables ∷ p.rows ∷ p.vectors ∷ p.records ∷ p.handles ∷ p.locks ∷ p.arena ∷ p.taken ∷ p.frames ∷ []

abbrev pub parts_in : List (List ℕ) → MemoryParts
parts_in parts = record {
  dos = get_or parts 0 [];
  fixed = get_or parts 1 [];
  tables = get_or parts 2 [];
  rows = get_or parts 3 [];
  vectors = get_or parts 4 [];
  records = get_or parts 5 [];
  handles = get_or parts 6 [];
  locks = get_or parts 7 [];
  arena = get_or parts 8 [];
  taken = get_or parts 9 [];
  frames = get_or parts 10 [];
}

-- a part by its place in that order
pub data Part : Type 0 where
  Dos Fixed Tables Rows Vectors Records Handles Locks Arena Taken Frames : Part

abbrev pub number : Part → ℕ
number p = elim p [
  | Dos ↦ 0
  | Fixed ↦ 1
  | Tables ↦ 2
  | Rows ↦ 3
  | Vectors ↦ 4
  | Records ↦ 5
  | Handles ↦ 6
  | Locks ↦ 7
  | Arena ↦ 8
  | Taken ↦ 9
  | Frames ↦ 10
]

-- the parts with other bytes in one of them
abbrev pub with_put : MemoryParts → Part → ℕ → List ℕ → MemoryParts
with_put parts p at xs = parts_in (set (list_of parts) (number p) (put (get_or (list_of parts) (number p) []) at xs))

-- a run that is put into a part changes that part alone
pub put_part : (p : Part) (b : List ℕ) (budget : ℕ) (parts : MemoryParts) (address at : ℕ) (xs : List ℕ) → HasParts b budget parts →
    address ≡ start_of (sizes_of budget) (number p) + at → at + length xs ≤ get_or (sizes_of budget) (number p) 0 →
    HasParts (put b address xs) budget (with_put parts p at xs)
put_part p b budget parts address at xs has e room = record {
  size = length-put b address xs ∙ has.size;
  are = ap parts_in (put_piece (sizes_of budget) 0 b (number p) address at xs (omega (arith, has.size)) (omega (arith, e)) room)
      ∙ ap (λ (q : MemoryParts). with_put q p at xs) has.are;
}
