-- The world of a new machine is sound.
use Rattle.std.proofs.Common.{◌≡◌, ℕ, ◌+◌, ◌-◌, ◌<◌, ◌≤◌, ◌⊎◌, inl, inr, zero, suc, true, false, List, [], ◌∷◌, length, slice_index}
use Rattle.std.proofs.Common.{slice_get, get_or, None, Some, nat_eq, if◌then◌else◌, refl, ap, ◌∙◌, subst, arith, lit<, lit≤}
use Rattle.std.proofs.{lemmas.Bool.{cases_lt}, lemmas.List.{get_or_past}}
use Rattle.std.specs.declared.option.Option.{Option}
use Rattle.client_world.specs.{declared.descriptors.Origin.{Origin}, declared.dos_memory.DosEntry.{DosEntry}}
use Rattle.client_world.specs.{declared.host_frames.TheConstants.{DESCRIPTORS}, declared.limits.TheConstants.{MAX_BLOCKS, CALLBACKS}}
use Rattle.client_world.specs.declared.limits.TheConstants.{INTERRUPT_VECTORS, EXCEPTION_VECTORS}
use Rattle.client_world.specs.declared.memory_map.TheConstants.{DOS_SIZE, DOS_VIEW_PAGES}
use Rattle.client_world.specs.{declared.traps.TheConstants.{PROTECTED_VECTOR_TRAPS, EXCEPTION_TRAPS}, DosMemory.{IsArena, is_dpmi}}
use Rattle.client_world.specs.{Selector.{Row, row_at_index}, World.{MemoryBlock, block_at}, Soundness.{IsSound, SoundMegabyte, SoundBlocks}}
use Rattle.client_world.specs.Soundness.{SoundDescriptors, SoundRuns, HasOrigin, pages_of_block, pages_of_blocks}
use Rattle.guest_ram.specs.{Bytes.{put}, Listed.{listed}}
use Rattle.guest_ram.proofs.{PutLaws.{length-put, put_away, put_within}, ListedLaws.{length-listed, at_listed}}
use Rattle.host_memory.specs.{Blank.{plain_byte, blank_arena, blank_megabyte, blank_world, host_pointer}, Headers.{dos_header}}
use Rattle.host_memory.proofs.FreshMemory.{whole_arena, plain_vector, plain_zero, plain_rom}

-- a list of nothing
abbrev nothing : {X : Type 0} → ℕ → Option X
nothing k = None

no_item : {X : Type 0} (n k : ℕ) → get_or (listed n (nothing {X = X})) k None ≡ None
no_item {X = X} n k = grind (arith, at_listed, get_or_past, length-listed)

-- the megabyte
half_fits : (n r : ℕ) → n < 0x100 → r < 4 → (if nat_eq r 0 then n else if nat_eq r 3 then 0xF0 else 0) < 0x100
half_fits n zero small within = small
half_fits n (suc zero) small within = omega arith
half_fits n (suc (suc zero)) small within = omega arith
half_fits n (suc (suc (suc zero))) small within = omega arith
half_fits n (suc (suc (suc (suc r)))) small within = absurd (omega arith)

plain_fits : (k : ℕ) → plain_byte k < 0x100
plain_fits k = grind (arith, half_fits, plain_rom, plain_vector, plain_zero)

-- the header of the one entry
length-head : length (dos_header 0x5A whole_arena) ≡ 16
unfolding dos_header
length-head = refl

abbrev AllFit : List ℕ → Type 0
AllFit [] = Unit {0}
AllFit (x ∷ xs) = (x < 0x100) × AllFit xs

all_fit : (xs : List ℕ) → AllFit xs → (k : ℕ) → slice_index xs k < 0x100
all_fit [] h k = omega arith
all_fit (x ∷ xs) h zero = h.0
all_fit (x ∷ xs) h (suc k) = all_fit xs h.1 k

head_fits : (k : ℕ) → slice_index (dos_header 0x5A whole_arena) k < 0x100
unfolding dos_header
head_fits k = all_fit (dos_header 0x5A whole_arena) (
  lit< tt,
  (
    lit< tt,
    (
      lit< tt,
      (
        lit< tt,
        (
          lit< tt,
          (lit< tt, (lit< tt, (lit< tt, (lit< tt, (lit< tt, (lit< tt, (lit< tt, (lit< tt, (lit< tt, (lit< tt, (lit< tt, tt))))))))))),
        ),
      ),
    ),
  ),
) k

-- megabytes with a run of other bytes in their low part
with_run : (run : List ℕ) → length run ≡ 16 → ((k : ℕ) → slice_index run k < 0x100) →
    SoundMegabyte (put (listed DOS_SIZE plain_byte) 1536 run)
with_run run long fits = record {
  size = length-put (listed DOS_SIZE plain_byte) 1536 run ∙ room;
  bytes = λ at. elim (cases_lt at DOS_SIZE) [
    | inl within ↦ elim (cases_lt at 1536) [
      | inl low ↦ plain at within (inr low)
      | inr high ↦ elim (cases_lt at 1552) [
        | inl inside ↦
            below (put_within (listed DOS_SIZE plain_byte) 1536 run (at - 1536) at (let size = room in omega arith) (omega arith)
            (omega arith))
            (fits (at - 1536))
        | inr behind ↦ plain at within (inl (omega arith))
      ]
    ]
    | inr past ↦ grind (arith, below, get_or_past, length-put, room)
  ];
  rom = λ at from to.
      put_away (listed DOS_SIZE plain_byte) 1536 run at (inl (omega arith)) ∙ at_listed DOS_SIZE plain_byte at 0 to ∙ plain_rom at from;
}
  where
    room : length (listed DOS_SIZE plain_byte) ≡ DOS_SIZE
    room = length-listed DOS_SIZE plain_byte

    below : {m n : ℕ} → m ≡ n → n < 0x100 → m < 0x100
    below e h = omega arith

    plain : (at : ℕ) → at < DOS_SIZE → (1536 + length run ≤ at) ⊎ (at < 1536) →
        slice_index (put (listed DOS_SIZE plain_byte) 1536 run) at < 0x100
    plain at within away =
        below (put_away (listed DOS_SIZE plain_byte) 1536 run at away ∙ at_listed DOS_SIZE plain_byte at 0 within) (plain_fits at)

megabyte_sound : SoundMegabyte blank_megabyte
unfolding blank_megabyte
megabyte_sound = with_run (dos_header 0x5A whole_arena) length-head head_fits

-- no block
no_block : (handle : ℕ) → block_at (listed MAX_BLOCKS nothing) handle ≡ None
no_block zero = refl
no_block (suc place) = no_item MAX_BLOCKS place

no_pages : (blocks : List (Option MemoryBlock)) → ((k : ℕ) → get_or blocks k None ≡ None) → pages_of_blocks blocks ≡ 0
no_pages [] h = refl
no_pages (block ∷ blocks) h =
    let first : pages_of_block block ≡ 0 = ap pages_of_block (h 0) in
    let others = no_pages blocks (λ k. h (suc k)) in
    omega arith

none_some : {X : Type 0} (o : Option X) (x : X) → o ≡ None → o ≡ Some x → ⊥
none_some o x e f = cc

blocks_sound : (budget : ℕ) → SoundBlocks (listed MAX_BLOCKS nothing) budget
blocks_sound budget = grind (arith, length-listed, no_block, no_item, no_pages, none_some)

-- no descriptor
no_row : (index : ℕ) → row_at_index (listed DESCRIPTORS nothing) index ≡ None
no_row index = no_item DESCRIPTORS index

no_origin : (index : ℕ) (origin : Origin) → HasOrigin (row_at_index (listed DESCRIPTORS nothing) index) origin → ⊥
no_origin index origin has = let P : Row → Type 0 = λ row. HasOrigin row origin in subst P (no_row index) has

rows_sound : SoundDescriptors (listed DESCRIPTORS nothing)
rows_sound = grind (arith, length-listed, no_origin, no_row)

-- the one entry of DOS memory is free
not_dpmi : (place : ℕ) (entry : DosEntry) → slice_get blank_arena place ≡ Some entry → is_dpmi entry.state ≡ true → ⊥
not_dpmi zero entry there made = grind arith
not_dpmi (suc place) entry there made = cc

runs_sound : SoundRuns (listed DESCRIPTORS nothing) blank_arena
runs_sound = grind (arith, no_origin, not_dpmi)

arena_sound : IsArena blank_arena
arena_sound = record { fills = (refl, refl); joined = (λ free. refl, tt) }

pub blank_is_sound : (budget : ℕ) → IsSound (blank_world budget)
unfolding blank_world
blank_is_sound budget = record {
  segments = record { es = lit< tt; cs = lit< tt; ss = lit< tt; ds = lit< tt; fs = lit< tt; gs = lit< tt };
  megabyte = megabyte_sound;
  arena = arena_sound;
  blocks = blocks_sound budget;
  block_bytes = λ handle block there at. absurd (none_some (block_at (listed MAX_BLOCKS nothing) handle) block (no_block handle) there);
  pageable = length-listed DOS_VIEW_PAGES (λ page. false);
  descriptors = rows_sound;
  runs = runs_sound;
  interrupt_vectors = length-listed INTERRUPT_VECTORS (λ n. host_pointer (PROTECTED_VECTOR_TRAPS + n));
  exception_vectors = length-listed EXCEPTION_VECTORS (λ n. host_pointer (EXCEPTION_TRAPS + n));
  callbacks = length-listed CALLBACKS nothing;
  depth = lit≤ tt;
  width = grind (arith, no_block, no_item, no_row);
}
