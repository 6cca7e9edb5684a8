-- A byte that the client may write, the registers, the virtual interrupt flag and the mode leave a sound world sound.
use Rattle.std.proofs.Common.{◌≡◌, ◌≢◌, ℕ, ◌+◌, ◌<◌, ◌≤◌, ◌⊎◌, inl, inr, zero, suc, Bool, true, List, [], ◌∷◌, length, get_or, set}
use Rattle.std.proofs.Common.{slice_index, slice_index_or, slice_set, refl, ap, ◌∙◌, sym, subst, arith, Option, Some, None, get_or-set_same}
use Rattle.std.proofs.{Common.{get_or-set_other, length-set}, lemmas.Bool.{cases_eq, ltb-true}, lemmas.Option.{same_Some}}
use Rattle.client_world.specs.{declared.registers.Mode.{Mode}, declared.registers.Mode.TheVariants.{Real, Protected}}
use Rattle.client_world.specs.{declared.registers.Regs.{Regs}, declared.registers.Width.{Width}, declared.place.Place.{Place}}
use Rattle.client_world.specs.{declared.place.Place.TheVariants.{Dos, Block, Host, Nothing}, declared.memory_map.TheConstants.{ROM_START}}
use Rattle.client_world.specs.{Access.{may_touch, with_byte_of, with_bytes_of, with_block_byte, byte_of, bytes_of}, World.{World}}
use Rattle.client_world.specs.{World.{MemoryBlock, block_at, with_block_at}, Soundness.{IsSound, HasSegments, SoundMegabyte, SoundBlocks}}
use Rattle.client_world.specs.Soundness.{SoundWidth, IsBlock, HoldBytes, pages_of_block, pages_of_blocks}

-- the megabyte

pub SoundMegabyte-set : (dos : List ℕ) (at v : ℕ) → SoundMegabyte dos → at < ROM_START → v < 0x100 → SoundMegabyte (slice_set dos at v)
SoundMegabyte-set dos at v s low small = record {
  size = length-set dos at v ∙ s.size;
  bytes = bytes;
  rom = λ k from to. get_or-set_other dos at k v 0 (omega arith) ∙ s.rom k from to;
}
  where
    bytes : (k : ℕ) → slice_index (slice_set dos at v) k < 0x100
    bytes k = elim (cases_eq k at) [
      | inl e ↦ subst (λ (n : ℕ). n < 0x100) (sym (ap (λ (j : ℕ). get_or (set dos at v) j 0) e
          ∙ get_or-set_same dos at v 0 (omega (arith, s.size)))) small
      | inr ne ↦ subst (λ (n : ℕ). n < 0x100) (sym (get_or-set_other dos at k v 0 ne)) (s.bytes k)
    ]

-- a byte of a block: every other block is as it was, and that one but for the byte

abbrev pub written : List (Option MemoryBlock) → ℕ → ℕ → ℕ → List (Option MemoryBlock)
written blocks number at v = with_block_at blocks number (with_block_byte (block_at blocks number) at v)

-- the row is as it was, or has that byte
abbrev Written : Option MemoryBlock → Option MemoryBlock → ℕ → ℕ → Type 0
Written old new at v = (new ≡ old) ⊎ (new ≡ with_block_byte old at v)

written_place : (blocks : List (Option MemoryBlock)) (place at v other : ℕ) →
    Written (get_or blocks other None) (get_or (set blocks place (with_block_byte (get_or blocks place None) at v)) other None) at v
written_place [] place at v other = inl refl
written_place (block ∷ blocks) zero at v zero = inr refl
written_place (block ∷ blocks) zero at v (suc other) = inl refl
written_place (block ∷ blocks) (suc place) at v zero = inl refl
written_place (block ∷ blocks) (suc place) at v (suc other) = written_place blocks place at v other

pub written_at : (blocks : List (Option MemoryBlock)) (number at v other : ℕ) →
    Written (block_at blocks other) (block_at (written blocks number at v) other) at v
written_at blocks zero at v other = inl refl
written_at blocks (suc place) at v zero = inl refl
written_at blocks (suc place) at v (suc other) = written_place blocks place at v other

-- the block was there with the same base, length and locks
pub record WasLike (old : Option MemoryBlock) (block : MemoryBlock) : Type 0 where
  pub was : MemoryBlock
  pub there : old ≡ Some was
  pub base : block.base ≡ was.base
  pub size : length block.bytes ≡ length was.bytes
  pub locks : block.locks ≡ was.locks

like_byte : (old : Option MemoryBlock) (at v : ℕ) (block : MemoryBlock) → with_block_byte old at v ≡ Some block → WasLike old block
like_byte None at v block e = cc
like_byte (Some was) at v block e =
    let same : record was { bytes = slice_set was.bytes at v } ≡ block = same_Some _ _ e in
    record {
      was = was;
      there = refl;
      base = ap (λ (b : MemoryBlock). b.base) (sym same);
      size = ap (λ (b : MemoryBlock). length b.bytes) (sym same) ∙ length-set was.bytes at v;
      locks = ap (λ (b : MemoryBlock). b.locks) (sym same);
    }

like_written : (old new : Option MemoryBlock) (at v : ℕ) (block : MemoryBlock) → Written old new at v → new ≡ Some block → WasLike old block
like_written old new at v block w e = elim w [
  | inl same ↦ record { was = block; there = sym same ∙ e; base = refl; size = refl; locks = refl }
  | inr byte ↦ like_byte old at v block (sym byte ∙ e)
]

pub was_like : (blocks : List (Option MemoryBlock)) (number at v other : ℕ) (block : MemoryBlock) →
    block_at (written blocks number at v) other ≡ Some block → WasLike (block_at blocks other) block
was_like blocks number at v other block e = like_written (block_at blocks other) _ at v block (written_at blocks number at v other) e

-- where there was none there is none
pub written_none : (blocks : List (Option MemoryBlock)) (number at v other : ℕ) → block_at blocks other ≡ None →
    block_at (written blocks number at v) other ≡ None
written_none blocks number at v other none = elim (written_at blocks number at v other) [
  | inl same ↦ same ∙ none
  | inr byte ↦ byte ∙ ap (λ (o : Option MemoryBlock). with_block_byte o at v) none
]

pub length-written : (blocks : List (Option MemoryBlock)) (number at v : ℕ) → length (written blocks number at v) ≡ length blocks
length-written blocks zero at v = refl
length-written blocks (suc place) at v = length-set blocks place (with_block_byte (get_or blocks place None) at v)

pages_byte : (block : Option MemoryBlock) (at v : ℕ) → pages_of_block (with_block_byte block at v) ≡ pages_of_block block
pages_byte None at v = refl
pages_byte (Some block) at v = refl

pages_place : (blocks : List (Option MemoryBlock)) (place at v : ℕ) →
    pages_of_blocks (set blocks place (with_block_byte (get_or blocks place None) at v)) ≡ pages_of_blocks blocks
pages_place [] place at v = refl
pages_place (block ∷ blocks) zero at v = ap (λ (n : ℕ). n + pages_of_blocks blocks) (pages_byte block at v)
pages_place (block ∷ blocks) (suc place) at v = ap (λ (n : ℕ). pages_of_block block + n) (pages_place blocks place at v)

pub pages-written : (blocks : List (Option MemoryBlock)) (number at v : ℕ) →
    pages_of_blocks (written blocks number at v) ≡ pages_of_blocks blocks
pages-written blocks zero at v = refl
pages-written blocks (suc place) at v = pages_place blocks place at v

is_block : (old : Option MemoryBlock) (block : MemoryBlock) (like : WasLike old block) → IsBlock like.was → IsBlock block
is_block old block like h = record {
  some = rw like.size h.some;
  pages = rw (like.size, like.locks) h.pages;
  whole = rw like.base h.whole;
  from = rw like.base h.from;
  to = rw (like.base, like.size) h.to;
  locks = rw like.locks h.locks;
}

pub SoundBlocks-written : (blocks : List (Option MemoryBlock)) (budget number at v : ℕ) → SoundBlocks blocks budget →
    SoundBlocks (written blocks number at v) budget
SoundBlocks-written blocks budget number at v s = record {
  handles = length-written blocks number at v ∙ s.handles;
  each = λ handle block e.
      (let like = was_like blocks number at v handle block e in
      is_block (block_at blocks handle) block like (s.each handle like.was like.there));
  apart = λ one other first second ne e f.
      (let a = was_like blocks number at v one first e in
      let b = was_like blocks number at v other second f in
      rw (a.base, a.size, b.base, b.size) (s.apart one other a.was b.was ne a.there b.there));
  within = subst (λ (n : ℕ). n ≤ budget) (sym (pages-written blocks number at v)) s.within;
}

-- a byte among bytes leaves bytes
bytes-set : (xs : List ℕ) (at v : ℕ) → ((k : ℕ) → slice_index xs k < 0x100) → v < 0x100 → (k : ℕ) →
    slice_index (slice_set xs at v) k < 0x100
bytes-set [] at v small fits k = omega arith
bytes-set (x ∷ xs) zero v small fits zero = fits
bytes-set (x ∷ xs) zero v small fits (suc k) = small (suc k)
bytes-set (x ∷ xs) (suc at) v small fits zero = small 0
bytes-set (x ∷ xs) (suc at) v small fits (suc k) = bytes-set xs at v (λ j. small (suc j)) fits k

bytes_with : (old : Option MemoryBlock) (at v : ℕ) (block : MemoryBlock) →
    ((was : MemoryBlock) → old ≡ Some was → (k : ℕ) → slice_index was.bytes k < 0x100) → v < 0x100 → with_block_byte old at v ≡ Some block →
    (k : ℕ) → slice_index block.bytes k < 0x100
bytes_with None at v block small fits e = absurd cc
bytes_with (Some was) at v block small fits e = λ k.
    let same : record was { bytes = slice_set was.bytes at v } ≡ block = same_Some _ _ e in
    subst (λ (b : MemoryBlock). slice_index b.bytes k < 0x100) same (bytes-set was.bytes at v (small was refl) fits k)

pub HoldBytes-written : (blocks : List (Option MemoryBlock)) (number at v : ℕ) → HoldBytes blocks → v < 0x100 →
    HoldBytes (written blocks number at v)
HoldBytes-written blocks number at v small fits handle block e = elim (written_at blocks number at v handle) [
  | inl same ↦ small handle block (sym same ∙ e)
  | inr byte ↦ bytes_with (block_at blocks handle) at v block (small handle) fits (sym byte ∙ e)
]

-- a change that no width looks at
keeps_width : (width : Option Width) (w c : World) → c.mode ≡ w.mode → c.descriptors ≡ w.descriptors →
    ((handle : ℕ) → block_at w.blocks handle ≡ None → block_at c.blocks handle ≡ None) →
    c.callbacks ≡ w.callbacks → c.calls ≡ w.calls → SoundWidth width w → SoundWidth width c
keeps_width None w c mode descriptors blocks callbacks calls s = record {
  mode = mode ∙ s.mode;
  descriptors = rw descriptors s.descriptors;
  blocks = λ handle. blocks handle (s.blocks handle);
  callbacks = rw callbacks s.callbacks;
  calls = rw calls s.calls;
}
keeps_width (Some width) w c mode descriptors blocks callbacks calls s = rw descriptors s

pub IsSound-dos : (w : World) (dos : List ℕ) → IsSound w → SoundMegabyte dos → IsSound (record w { dos = dos })
IsSound-dos w dos s megabyte = grind (arith, keeps_width)

IsSound-block : (w : World) (number at v : ℕ) → IsSound w → v < 0x100 → IsSound (record w { blocks = written w.blocks number at v })
IsSound-block w number at v s small =
    let blocks = SoundBlocks-written w.blocks w.budget number at v s.blocks in
    let bytes = HoldBytes-written w.blocks number at v s.block_bytes small in
    grind (arith, keeps_width, written_none)

-- a byte that the client may write
pub IsSound-with_byte_of : (w : World) (p : Place) (v : ℕ) → IsSound w → may_touch p true ≡ true → v < 0x100 → IsSound (with_byte_of w p v)
IsSound-with_byte_of w (Dos at) v s may small =
    IsSound-dos w (slice_set w.dos at v) s (SoundMegabyte-set w.dos at v s.megabyte (ltb-true at ROM_START may) small)
IsSound-with_byte_of w (Block number at) v s may small = IsSound-block w number at v s small
IsSound-with_byte_of w Host v s may small = s
IsSound-with_byte_of w Nothing v s may small = s

-- the client may write there, at each of the places
abbrev pub MayWrite : List Place → Type 0
MayWrite places = (i : ℕ) → i < length places → may_touch (slice_index_or places i Nothing) true ≡ true

-- and bytes at several places
pub IsSound-with_bytes_of : (w : World) (places : List Place) (bytes : List ℕ) → IsSound w → MayWrite places →
    ((i : ℕ) → i < length bytes → slice_index bytes i < 0x100) → IsSound (with_bytes_of w places bytes)
IsSound-with_bytes_of w [] bytes s may small = s
IsSound-with_bytes_of w (place ∷ places) [] s may small = s
IsSound-with_bytes_of w (place ∷ places) (byte ∷ bytes) s may small =
    IsSound-with_bytes_of (with_byte_of w place byte) places bytes
    (IsSound-with_byte_of w place byte s (may 0 (omega arith)) (small 0 (omega arith)))
    (λ i l. may (suc i) (omega arith)) (λ i l. small (suc i) (omega arith))

-- the bytes at places are as many, and each is that of its place
pub length-bytes_of : (w : World) (places : List Place) → length (bytes_of w places) ≡ length places
length-bytes_of w [] = refl
length-bytes_of w (place ∷ places) = ap suc (length-bytes_of w places)

pub at_bytes_of : (w : World) (places : List Place) (i : ℕ) → i < length places →
    slice_index (bytes_of w places) i ≡ byte_of w (slice_index_or places i Nothing)
at_bytes_of w [] i l = absurd (omega arith)
at_bytes_of w (place ∷ places) zero l = refl
at_bytes_of w (place ∷ places) (suc i) l = at_bytes_of w places i (omega arith)

-- what the processor keeps

pub IsSound-regs : (w : World) (r : Regs) → IsSound w → HasSegments r → IsSound (record w { regs = r })
IsSound-regs w r s segments = grind (arith, keeps_width)

-- general registers hold anything
pub sound_general : (w : World) (a b c d si di : ℕ) → IsSound w →
    IsSound (record w { regs = record w.regs { eax = a; ebx = b; ecx = c; edx = d; esi = si; edi = di } })
sound_general w a b c d si di s =
    let segments = s.segments in
    IsSound-regs w (record w.regs { eax = a; ebx = b; ecx = c; edx = d; esi = si; edi = di }) s assumption

pub IsSound-vif : (w : World) (vif : Bool) → IsSound w → IsSound (record w { vif = vif })
IsSound-vif w vif s = grind (arith, keeps_width)

with_mode : (w : World) (mode : Mode) → IsSound w → SoundWidth w.width (record w { mode = mode }) → IsSound (record w { mode = mode })
with_mode w mode s width = assumption

real_width : (width : Option Width) (w : World) → SoundWidth width w → SoundWidth width (record w { mode = Real })
real_width None w s = record { mode = refl; descriptors = s.descriptors; blocks = s.blocks; callbacks = s.callbacks; calls = s.calls }
real_width (Some width) w s = s

some_width : (width : Option Width) (x : Width) (mode : Mode) (w : World) → width ≡ Some x → SoundWidth width w →
    SoundWidth width (record w { mode = mode })
some_width None x mode w e s = cc
some_width (Some width) x mode w e s = s

-- and in protected mode there is one
pub protected_by : (width : Option Width) (w : World) → w.mode ≡ Protected → SoundWidth width w → width ≢ None
protected_by None w is s = λ e. (let real = s.mode in cc)
protected_by (Some width) w is s = λ e. cc

-- the mode may become real always, and any once there is a width
pub IsSound-real : (w : World) → IsSound w → IsSound (record w { mode = Real })
IsSound-real w s = with_mode w Real s (real_width w.width w s.width)

pub IsSound-mode : (w : World) (mode : Mode) (width : Width) → IsSound w → w.width ≡ Some width → IsSound (record w { mode = mode })
IsSound-mode w mode width s e = with_mode w mode s (some_width w.width width mode w e s.width)
