-- The world in which a client starts. Source: MS-DOS program segment prefix and environment; what they hold is own.
use Rattle.std.specs.Prelude.{ℕ, zero, suc, ◌+◌, ◌-◌, ◌*◌, ◌%◌, nat_eq, if◌then◌else◌, List, [], ◌∷◌, slice_index}
use Rattle.client_world.specs.{declared.dos_memory.DosEntry.{DosEntry}, declared.dos_memory.DosState.TheVariants.{Free, Used}}
use Rattle.client_world.specs.declared.memory_map.TheConstants.{ARENA_START, ARENA_END, PARAGRAPH_SIZE, PSP_SEGMENT, IMAGE_SEGMENT}
use Rattle.client_world.specs.{declared.memory_map.TheConstants.{IMAGE_START}, declared.registers.Regs.{Regs}, World.{World}}
use Rattle.guest_ram.specs.{Bytes.{word_of, put}, Listed.{listed}}
use Rattle.guest_space.specs.Arena.{with_entries}
use Rattle.host_memory.specs.Vectors.{word_bytes}
use Rattle.mz_loader.specs.Header.{relocations, relocation_table, header_length, image_length, block_paras, most_paras}
use Rattle.mz_loader.specs.Refusal.{relocation_target, first_segment}

-- the paragraphs of the environment's block, and its segment
abbrev pub environment_paras : ℕ
environment_paras = 2

abbrev pub environment_segment : ℕ
environment_segment = ARENA_START + 1

-- the blocks: the environment, the program with n paragraphs, and what is left
abbrev pub start_blocks : ℕ → List DosEntry
start_blocks paras =
    record { at = ARENA_START; paras = environment_paras; state = Used } ∷
    record { at = PSP_SEGMENT - 1; paras = paras; state = Used } ∷
    (if nat_eq paras most_paras then []
    else record { at = PSP_SEGMENT + paras; paras = ARENA_END - PSP_SEGMENT - paras - 1; state = Free } ∷ [])

-- the environment: no variables, one string after them, `C:\CLIENT.EXE`
unfoldable pub environment : List ℕ
environment =
    0 ∷ 0 ∷ 1 ∷ 0 ∷ 0x43 ∷ 0x3A ∷ 0x5C ∷ 0x43 ∷ 0x4C ∷ 0x49 ∷ 0x45 ∷ 0x4E ∷ 0x54 ∷ 0x2E ∷ 0x45 ∷ 0x58 ∷ 0x45 ∷ 0 ∷ []

-- the program segment prefix: INT 20h and the segment after the block at 00, the environment's segment at 2C, an empty command line at 80
unfoldable pub psp_front : ℕ → List ℕ
psp_front paras = 0xCD ∷ 0x20 ∷ word_bytes (PSP_SEGMENT + paras)

unfoldable pub psp_environment : List ℕ
psp_environment = word_bytes environment_segment

unfoldable pub psp_command : List ℕ
psp_command = 0 ∷ 0x0D ∷ []

abbrev pub psp_address : ℕ
psp_address = PARAGRAPH_SIZE * PSP_SEGMENT

-- the megabyte with environment and prefix
unfoldable pub with_psp : ℕ → List ℕ → List ℕ
with_psp paras dos =
    put (put (put (put dos (PARAGRAPH_SIZE * environment_segment) environment)
    psp_address (psp_front paras)) (psp_address + 0x2C) psp_environment) (psp_address + 0x80) psp_command

-- the image: the file's bytes after the header; past the file's end they are zeros
unfoldable pub image : List ℕ → List ℕ
image file = listed (image_length file) (λ at. slice_index file (header_length file + at))

-- the megabyte with the image's segment added to the word at a place of the image, modulo 65536
unfoldable pub after_relocation : List ℕ → ℕ → List ℕ
after_relocation dos target =
    put dos (IMAGE_START + target) (word_bytes ((word_of dos (IMAGE_START + target) + IMAGE_SEGMENT) % 0x10000))

-- after n relocations, from that at an address of the file on, one after the other
unfoldable pub after_relocations : List ℕ → ℕ → ℕ → List ℕ → List ℕ
after_relocations file at zero dos = dos
after_relocations file at (suc n) dos = after_relocations file (at + 4) n (after_relocation dos (relocation_target file at))

-- the megabyte with the program
unfoldable pub with_program : List ℕ → List ℕ → List ℕ
with_program file dos =
    after_relocations file (relocation_table file) (relocations file) (put dos IMAGE_START (image file))

-- the first registers
abbrev pub start_regs : List ℕ → Regs → Regs
start_regs file r = record r {
  cs = first_segment file;
  eip = word_of file 0x14;
  ss = (IMAGE_SEGMENT + word_of file 0x0E) % 0x10000;
  esp = word_of file 0x10;
  ds = PSP_SEGMENT;
  es = PSP_SEGMENT;
}

-- the world of a machine that held nothing, with the client of a file in it
unfoldable pub world_at_start : List ℕ → World → World
world_at_start file w = record (with_entries w 0 1 (start_blocks (block_paras file))) {
  dos = with_program file (with_psp (block_paras file) (with_entries w 0 1 (start_blocks (block_paras file))).dos);
  regs = start_regs file w.regs;
}
