-- A client starts in a sound world.
use Rattle.std.proofs.Common.{◌≡◌, ℕ, zero, suc, ◌+◌, ◌-◌, ◌*◌, ◌/◌, ◌%◌, ◌≤◌, inl, inr, List, [], ◌∷◌, length, slice_index, slice_set}
use Rattle.std.proofs.Common.{refl, arith, nat_eq, nat_lt, min, if◌then◌else◌, ◌&&◌, Bool, true, false, Option, None, Some}
use Rattle.std.proofs.{lemmas.Bool.{cases_lt, eqb-true, eqb-false, ltb-false, false≢true, or_parts}, lemmas.List.{get_or_past}}
use Rattle.client_world.specs.{declared.dos_memory.DosEntry.{DosEntry}, declared.dos_memory.DosState.TheVariants.{Free, Used}}
use Rattle.client_world.specs.declared.memory_map.TheConstants.{ARENA_START, ARENA_END, PARAGRAPH_SIZE, PSP_SEGMENT, ROM_START}
use Rattle.client_world.specs.{declared.memory_map.TheConstants.{IMAGE_SEGMENT, IMAGE_START}, declared.outcome.LoadFault.{LoadFault}}
use Rattle.client_world.specs.{DosMemory.{IsArena}, Soundness.{IsSound, SoundMegabyte}}
use Rattle.client_world.proofs.SoundWrites.{IsSound-dos, IsSound-regs, SoundMegabyte-set}
use Rattle.guest_ram.specs.{Bytes.{AreBytes, word_of, put}, Listed.{listed}}
use Rattle.guest_ram.proofs.{ListedLaws.{length-listed, at_listed}, ByteLists.{bytes_word, more_bytes, fits_at}}
use Rattle.guest_space.specs.Arena.{with_replaced_entries, NoneMade, with_entries}
use Rattle.guest_space.proofs.ArenaWrites.{IsSound-entries}
use Rattle.host_memory.specs.{Blank.{blank_arena, blank_world}, Vectors.{word_bytes}}
use Rattle.host_memory.proofs.BlankSound.{blank_is_sound}
use Rattle.mz_loader.specs.Header.{relocations, relocation_table, header_length, image_length, minimum, maximum, block_paras, most_paras}
use Rattle.mz_loader.specs.{Header.{psp_paras}, Refusal.{is_short, lacks_signature, has_bad_pages, has_bad_table, has_no_room}}
use Rattle.mz_loader.specs.{Refusal.{has_bad_target, relocation_target, some_beyond, refusal}, Start.{start_blocks, environment_paras}}
use Rattle.mz_loader.specs.Start.{environment, environment_segment, psp_front, psp_environment, psp_command, psp_address, with_psp, image}
use Rattle.mz_loader.specs.Start.{after_relocation, after_relocations, with_program, start_regs, world_at_start}

-- ---- bytes

bytes_image : (file : List ℕ) → AreBytes file → AreBytes (image file)
unfolding image
bytes_image file bytes at =
    let n = image_length file in
    let f = λ (k : ℕ). slice_index file (header_length file + k) in
    elim (cases_lt at n) [
      | inl within ↦ (let is = at_listed n f at 0 within in
          let small = bytes (header_length file + at) in
          omega arith)
      | inr past ↦ (let is = get_or_past (listed n f) at 0 (let long = length-listed n f in omega arith) in omega arith)
    ]

-- bytes below read-only memory
sound_put : (dos : List ℕ) (at : ℕ) (xs : List ℕ) → SoundMegabyte dos → at + length xs ≤ ROM_START → AreBytes xs →
    SoundMegabyte (put dos at xs)
sound_put dos at [] s room bytes = s
sound_put dos at (x ∷ xs) s room bytes =
    sound_put (slice_set dos at x) (at + 1) xs (SoundMegabyte-set dos at x s (omega arith) (bytes 0)) (omega arith) (λ k. bytes (suc k))

-- ---- the blocks

few_paras : (c : Bool) (n : ℕ) → (if c then most_paras else min most_paras n) ≤ most_paras
few_paras true n = omega arith
few_paras false n = omega arith

block_is_few : (file : List ℕ) → block_paras file ≤ most_paras
block_is_few file = few_paras (nat_eq (minimum file) 0 && nat_eq (maximum file) 0) _

-- the blocks, where the program has all paragraphs and where it hasn't
abbrev blocks_by : Bool → ℕ → List DosEntry
blocks_by whole paras =
    record { at = ARENA_START; paras = environment_paras; state = Used } ∷
    record { at = PSP_SEGMENT - 1; paras = paras; state = Used } ∷
    (if whole then []
    else record { at = PSP_SEGMENT + paras; paras = ARENA_END - PSP_SEGMENT - paras - 1; state = Free } ∷ [])

plain_by : (whole : Bool) (paras : ℕ) → NoneMade (blocks_by whole paras)
plain_by true paras = (refl, (refl, tt))
plain_by false paras = (refl, (refl, (refl, tt)))

used : (b : Bool) → false ≡ true → b ≡ false
used b h = absurd (false≢true h)

filled_by : (whole : Bool) (paras : ℕ) → nat_eq paras most_paras ≡ whole → paras ≤ most_paras →
    IsArena (with_replaced_entries blank_arena 0 1 (blocks_by whole paras))
filled_by true paras e few = record {
  fills = (refl, (refl, (let all = eqb-true paras most_paras e in omega arith)));
  joined = (used _, (used _, tt));
}
filled_by false paras e few = record {
  fills = (refl, (refl, (let some = eqb-false paras most_paras e in (omega arith, omega arith))));
  joined = (used _, (used _, (λ free. refl, tt)));
}

sound_blocks : (pages paras : ℕ) → paras ≤ most_paras → IsSound (with_entries (blank_world pages) 0 1 (start_blocks paras))
unfolding blank_world
sound_blocks pages paras few =
    IsSound-entries (blank_world pages) 0 1 (start_blocks paras) (blank_is_sound pages) (refl, tt)
    (plain_by (nat_eq paras most_paras) paras)
    (filled_by (nat_eq paras most_paras) paras refl few)

-- ---- environment and prefix

sound_psp : (paras : ℕ) (dos : List ℕ) → paras ≤ most_paras → SoundMegabyte dos → SoundMegabyte (with_psp paras dos)
unfolding with_psp environment psp_front psp_environment psp_command
sound_psp paras dos few s =
    sound_put _ (psp_address + 0x80) psp_command
    (sound_put _ (psp_address + 0x2C) psp_environment
    (sound_put _ psp_address (psp_front paras)
    (sound_put dos (PARAGRAPH_SIZE * environment_segment) environment s (omega arith) (fits_at environment refl))
    (omega arith)
    (more_bytes 0xCD (0x20 ∷ word_bytes (PSP_SEGMENT + paras)) (omega arith)
    (more_bytes 0x20 (word_bytes (PSP_SEGMENT + paras)) (omega arith) (bytes_word (PSP_SEGMENT + paras) (omega arith)))))
    (omega arith) (fits_at psp_environment refl))
    (omega arith) (fits_at psp_command refl)

-- ---- the program

image_fits : (n m : ℕ) → nat_lt most_paras (psp_paras + (n + 15) / PARAGRAPH_SIZE + m) ≡ false → IMAGE_START + n ≤ ROM_START
image_fits n m room = let within = ltb-false most_paras (psp_paras + (n + 15) / PARAGRAPH_SIZE + m) room in omega arith

sound_relocated : (dos : List ℕ) (target paras : ℕ) → SoundMegabyte dos → paras ≤ most_paras →
    target + 2 ≤ PARAGRAPH_SIZE * (paras - psp_paras) → SoundMegabyte (after_relocation dos target)
unfolding after_relocation
sound_relocated dos target paras s few within =
    let v = (word_of dos (IMAGE_START + target) + IMAGE_SEGMENT) % 0x10000 in
    sound_put dos (IMAGE_START + target) (word_bytes v) s (omega arith) (bytes_word v (omega arith))

sound_all_relocated : (file : List ℕ) (paras at n : ℕ) (dos : List ℕ) → SoundMegabyte dos → paras ≤ most_paras →
    some_beyond file (PARAGRAPH_SIZE * (paras - psp_paras)) at n ≡ false → SoundMegabyte (after_relocations file at n dos)
unfolding after_relocations some_beyond
sound_all_relocated file paras at zero dos s few none = s
sound_all_relocated file paras at (suc n) dos s few none =
    let limit = PARAGRAPH_SIZE * (paras - psp_paras) in
    let target = relocation_target file at in
    let parts = or_parts (nat_lt limit (target + 2)) (some_beyond file limit (at + 4) n) none in
    sound_all_relocated file paras (at + 4) n (after_relocation dos target)
    (sound_relocated dos target paras s few (ltb-false limit (target + 2) parts.0)) few parts.1

length-image : (file : List ℕ) → length (image file) ≡ image_length file
unfolding image
length-image file = length-listed (image_length file) (λ k. slice_index file (header_length file + k))

sound_program : (file : List ℕ) (dos : List ℕ) → AreBytes file → has_no_room file ≡ false → has_bad_target file ≡ false →
    SoundMegabyte dos → SoundMegabyte (with_program file dos)
unfolding with_program
sound_program file dos bytes room targets s =
    let fits = image_fits (image_length file) (minimum file) room in
    sound_all_relocated file (block_paras file) (relocation_table file) (relocations file) (put dos IMAGE_START (image file))
    (sound_put dos IMAGE_START (image file) s (let long = length-image file in omega arith) (bytes_image file bytes))
    (block_is_few file) targets

-- ---- a file that is loaded

passed : (c : Bool) (x : LoadFault) (rest : Option LoadFault) → (if c then Some x else rest) ≡ None → (c ≡ false) × (rest ≡ None)
passed true x rest h = absurd cc
passed false x rest h = (refl, h)

record Loads (file : List ℕ) : Type 0 where
  room : has_no_room file ≡ false
  targets : has_bad_target file ≡ false

loads : (file : List ℕ) → refusal file ≡ None → Loads file
unfolding refusal
loads file h =
    let long = passed (is_short file) _ _ h in
    let signed = passed (lacks_signature file) _ _ long.1 in
    let paged = passed (has_bad_pages file) _ _ signed.1 in
    let table = passed (has_bad_table file) _ _ paged.1 in
    let room = passed (has_no_room file) _ _ table.1 in
    let targets = passed (has_bad_target file) _ _ room.1 in
    record { room = room.0; targets = targets.0 }

pub sound_start : (file : List ℕ) (pages : ℕ) → AreBytes file → refusal file ≡ None → IsSound (world_at_start file (blank_world pages))
unfolding world_at_start
sound_start file pages bytes h =
    let w = blank_world pages in
    let paras = block_paras file in
    let few = block_is_few file in
    let v = with_entries w 0 1 (start_blocks paras) in
    let sound = sound_blocks pages paras few in
    let before = (blank_is_sound pages).segments in
    let l = loads file h in
    let dos = with_program file (with_psp paras v.dos) in
    IsSound-regs (record v { dos = dos }) (start_regs file w.regs)
    (IsSound-dos v dos sound (sound_program file (with_psp paras v.dos) bytes l.room l.targets (sound_psp paras v.dos few sound.megabyte)))
    (record { es = omega arith; cs = omega arith; ss = omega arith; ds = omega arith; fs = before.fs; gs = before.gs })
