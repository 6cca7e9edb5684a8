-- The bytes and the locks of a memory block.
use Rattle.std.proofs.Common.{arith, ◌≡◌, ◌≤◌, ◌<◌, ◌+◌, ◌-◌, ◌*◌, ◌⊎◌, inl, inr, ℕ, zero, suc, true, false, List, [], ◌∷◌, length}
use Rattle.std.proofs.{Common.{slice_index_or, refl, ◌∙◌, ap, add-one, Option, None, Some}, lemmas.Bool.{and_from, and_left, and_right}}
use Rattle.std.proofs.lemmas.Bool.{le-leb, le-ltb, lt-leb, lt-ltb}
use Rattle.std.specs.Prelude.{is_some, slice_index}
use Rattle.client_world.specs.{declared.blocks.BlockRow.{BlockRow}, declared.host_frames.TheConstants.{PAGE_SIZE}}
use Rattle.client_world.specs.{declared.memory_map.TheConstants.{BLOCK_REGION_END}, declared.place.Place.TheVariants.{Block}}
use Rattle.client_world.specs.{Access.{HasByte, bytes_of_block, block_place, covers, place_in}, Soundness.{SoundBlocks, IsBlock}}
use Rattle.client_world.specs.World.{MemoryBlock, block_at}
use Rattle.client_world.proofs.PlaceLaws.{place-block}
use Rattle.block_memory.specs.BlockSizes.{lock_in, locks_of_block, row_seen}

pub has_byte : (b : Option MemoryBlock) (at : ℕ) → at < length (bytes_of_block b) → HasByte b at
has_byte None at lt = absurd (omega arith)
has_byte (Some block) at lt = lt

-- the block of a row that was seen
pub record Seen (blocks : List (Option MemoryBlock)) (handle at n : ℕ) : Type 0 where
  pub block : MemoryBlock
  pub there : block_at blocks handle ≡ Some block
  pub base : block.base ≡ at
  pub pages : length block.locks ≡ n
  pub is : IsBlock block

seen_by : (blocks : List (Option MemoryBlock)) (budget handle base pages : ℕ) → SoundBlocks blocks budget → (b : Option MemoryBlock) →
    block_at blocks handle ≡ b → row_seen b ≡ Some (record { base = base; pages = pages }) → Seen blocks handle base pages
seen_by blocks budget handle base pages sound None e s = absurd cc
seen_by blocks budget handle base pages sound (Some block) e s = record {
  block = block;
  there = e;
  base = ap (λ (o : Option BlockRow). elim o [ None ↦ 0 | Some p ↦ p.base ]) s;
  pages = ap (λ (o : Option BlockRow). elim o [ None ↦ 0 | Some p ↦ p.pages ]) s;
  is = sound.each handle block e;
}

pub seen : (blocks : List (Option MemoryBlock)) (budget handle base pages : ℕ) → SoundBlocks blocks budget →
    row_seen (block_at blocks handle) ≡ Some (record { base = base; pages = pages }) → Seen blocks handle base pages
seen blocks budget handle base pages sound s = seen_by blocks budget handle base pages sound (block_at blocks handle) refl s

-- the first block that covers an address has its place
first_place : (blocks : List (Option MemoryBlock)) (handle lin place : ℕ) (block : MemoryBlock) →
    slice_index_or blocks place None ≡ Some block → covers block lin ≡ true →
    ((p : ℕ) (other : MemoryBlock) → p < place → slice_index_or blocks p None ≡ Some other → covers other lin ≡ false) →
    block_place blocks handle lin ≡ Block (handle + place) (lin - block.base)
first_place [] handle lin place block e over before = absurd cc
first_place (None ∷ blocks) handle lin zero block e over before = absurd cc
first_place (None ∷ blocks) handle lin (suc place) block e over before =
    first_place blocks (handle + 1) lin place block e over (λ p other lt there. before (suc p) other (omega arith) there)
    ∙ ap (λ n. Block n (lin - block.base)) (omega arith)
first_place (Some own ∷ blocks) handle lin zero block e over before =
    let same : own ≡ block = cc in
    rw (ap (λ (b : MemoryBlock). covers b lin) same ∙ over) (ap (λ (b : MemoryBlock). Block handle (lin - b.base)) same
    ∙ ap (λ n. Block n (lin - block.base)) (omega arith))
first_place (Some own ∷ blocks) handle lin (suc place) block e over before =
    rw (before zero own (omega arith) refl)
    (first_place blocks (handle + 1) lin place block e over (λ p other lt there. before (suc p) other (omega arith) there)
    ∙ ap (λ n. Block n (lin - block.base)) (omega arith))

clear_of : (own other : MemoryBlock) (lin : ℕ) → own.base ≤ lin → lin < own.base + length own.bytes →
    (own.base + length own.bytes ≤ other.base) ⊎ (other.base + length other.bytes ≤ own.base) → covers other lin ≡ false
clear_of own other lin from to (inl before) = and_left _ _ (lt-leb other.base lin (omega arith))
clear_of own other lin from to (inr behind) = and_right _ _ (le-ltb lin (other.base + length other.bytes) (omega arith))

-- an address within a block has its place
pub block_has : (blocks : List (Option MemoryBlock)) (budget place lin : ℕ) (block : MemoryBlock) → SoundBlocks blocks budget →
    block_at blocks (suc place) ≡ Some block →
    block.base ≤ lin → lin < block.base + length block.bytes → place_in blocks lin ≡ Block (suc place) (lin - block.base)
block_has blocks budget place lin block sound there from to =
    let is = sound.each (suc place) block there in
    let low = is.from in let high = is.to in
    place-block blocks lin (omega arith) (omega arith)
    ∙ first_place blocks 1 lin place block there
    (and_from _ _ (le-leb block.base lin from) (lt-ltb lin (block.base + length block.bytes) to))
    (λ p other lt e. clear_of block other lin from to (sound.apart (suc place) (suc p) block other (λ same. omega arith) there e))
    ∙ ap (λ n. Block n (lin - block.base)) (omega arith)

lock_by : (blocks : List (Option MemoryBlock)) (budget handle base pages page : ℕ) → SoundBlocks blocks budget →
    Seen blocks handle base pages → page < pages →
    lock_in blocks (place_in blocks (base + page * PAGE_SIZE)) ≡ slice_index (locks_of_block (block_at blocks handle)) page
lock_by blocks budget zero base pages page sound s lt = let there = s.there in absurd cc
lock_by blocks budget (suc place) base pages page sound s lt =
    let is = s.is in let size = is.pages in let at = s.base in let many = s.pages in
    ap (λ p. lock_in blocks p) (block_has blocks budget place (base + page * PAGE_SIZE) s.block sound s.there (omega arith) (omega arith))
    ∙ ap (λ n. slice_index (locks_of_block (block_at blocks (suc place))) n) (omega arith)

-- the lock count of a page of a block
pub lock_is : (blocks : List (Option MemoryBlock)) (budget handle base pages page : ℕ) → SoundBlocks blocks budget →
    row_seen (block_at blocks handle) ≡ Some (record { base = base; pages = pages }) → page < pages →
    lock_in blocks (place_in blocks (base + page * PAGE_SIZE)) ≡ slice_index (locks_of_block (block_at blocks handle)) page
lock_is blocks budget handle base pages page sound s lt =
    lock_by blocks budget handle base pages page sound (seen blocks budget handle base pages sound s) lt

-- a block ends in the block region
pub page_below : (blocks : List (Option MemoryBlock)) (budget handle base pages : ℕ) → SoundBlocks blocks budget →
    row_seen (block_at blocks handle) ≡ Some (record { base = base; pages = pages }) → base + pages * PAGE_SIZE ≤ BLOCK_REGION_END
page_below blocks budget handle base pages sound s =
    let own = seen blocks budget handle base pages sound s in
    let is = own.is in let size = is.pages in let to = is.to in let at = own.base in let many = own.pages in omega arith

-- a place has a block where one is seen
pub has_block : (blocks : List (Option MemoryBlock)) (place : ℕ) →
    is_some (row_seen (block_at blocks (place + 1))) ≡ is_some (slice_index_or blocks place None)
has_block blocks place = rw add-one (go (slice_index_or blocks place None))
  where
    go : (b : Option MemoryBlock) → is_some (row_seen b) ≡ is_some b
    go None = refl
    go (Some block) = refl
