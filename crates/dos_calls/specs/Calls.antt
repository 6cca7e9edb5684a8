-- The DOS calls of INT 21h, by AH, and what is served of INT 2Fh. A call sees the machine, the keys that are left, and the console.
-- Source: MS-DOS functions 01h to 62h; which of them there are, and what a full console and missing keys do, is own.
use Rattle.std.specs.Prelude.{ℕ, Bool, ◌+◌, ◌-◌, ◌*◌, true, false, ◌||◌, nat_eq, nat_le, if◌then◌else◌, List, [], ◌∷◌, ◌++◌, length, take}
use Rattle.std.specs.{Prelude.{drop, Some, None, Ok, Err}, declared.option.Option.{Option}}
use Rattle.client_world.specs.{declared.dos_memory.DosRefusal.{DosRefusal}, declared.dos_memory.DosRefusal.TheVariants.{NoMemory}}
use Rattle.client_world.specs.{declared.dos_memory.DosRefusal.TheVariants.{WrongBlock}, declared.limits.TheConstants.{CONSOLE_ROOM}}
use Rattle.client_world.specs.{declared.memory_map.TheConstants.{PSP_SEGMENT, SEGMENT_SIZE}, declared.outcome.Exit.{Exit}}
use Rattle.client_world.specs.{declared.registers.TheConstants.{CARRY_BIT, ZERO_BIT}, declared.services.DosDone.{DosDone}}
use Rattle.client_world.specs.{declared.services.DosDone.TheVariants.{Served, Ended}, Registers.{low_byte, high_byte, low_half}}
use Rattle.client_world.specs.{Registers.{with_low_byte, with_low_half}, World.{World}}
use Rattle.guest_ram.specs.Bytes.{word_of}
use Rattle.host_memory.specs.Vectors.{word_bytes}
use Rattle.dos_blocks.specs.{declared.services.TheConstants.{NO_MEMORY, WRONG_BLOCK}, Blocks.{Done, allocation_result, free_result}}
use Rattle.dos_blocks.specs.Blocks.{resize_result}
use Rattle.service_rows.specs.Rows.{with_ax, with_bx}
use Rattle.dos_calls.specs.DosBytes.{byte_at, with_dos_bytes_at, bytes_from, text_from, with_stacked}
use Rattle.client_world.specs.declared.outcome.Exit.TheVariants as exits

-- what a call comes to
pub record CallResult : Type 0 where
  pub done : DosDone
  pub world : World
  pub keys : List ℕ
  pub console : List ℕ

-- what it sees
pub record CallState : Type 0 where
  pub world : World
  pub keys : List ℕ
  pub console : List ℕ

-- it is served, with another machine and the keys that are left
abbrev pub served_call : CallState → World → List ℕ → CallResult
served_call s world keys = record { done = Served; world = world; keys = keys; console = s.console }

-- it ends the client, and changes nothing
abbrev pub ended_call : CallState → Exit → CallResult
ended_call s exit = record { done = Ended exit; world = s.world; keys = s.keys; console = s.console }

-- the console has room for all of the bytes
abbrev pub has_room : List ℕ → List ℕ → Bool
has_room console bytes = nat_le (length console + length bytes) CONSOLE_ROOM

-- bytes go to the console, and it is served; where the console has no room for all, as many as fit are written, and the client ends
unfoldable pub print_result : CallState → List ℕ → World → List ℕ → CallResult
print_result s bytes world keys =
    if has_room s.console bytes then
    record { done = Served; world = world; keys = keys; console = s.console ++ bytes }
    else record {
      done = Ended exits.ConsoleFull;
      world = s.world;
      keys = keys;
      console = s.console ++ take (CONSOLE_ROOM - length s.console) bytes;
    }

-- the machine with another AL
abbrev pub with_al : ℕ → World → World
with_al v w = record w { regs = record w.regs { eax = with_low_byte w.regs.eax v } }

-- carry clear, and carry set with an error in AX
abbrev pub without_carry : World → World
without_carry w = with_stacked CARRY_BIT false w

abbrev pub with_error : ℕ → World → World
with_error code w = with_stacked CARRY_BIT true (with_ax code w)

-- ---- characters

-- the first key, or the end of the client without one
abbrev pub with_key : CallState → (ℕ → List ℕ → CallResult) → CallResult
with_key s rest = elim s.keys [ [] ↦ ended_call s exits.NoKeys | key ∷ keys ↦ rest key keys ]

-- 01h: a key into AL, and to the console
unfoldable pub read_echo : CallState → CallResult
read_echo s = with_key s (λ key keys. print_result s (key ∷ []) (with_al key s.world) keys)

-- 02h: DL to the console
unfoldable pub write_character : CallState → CallResult
write_character s = print_result s (low_byte s.world.regs.edx ∷ []) s.world s.keys

-- 06h with DL = FFh: a key into AL and ZF clear, or AL = 0 and ZF set
abbrev pub poll_key : CallState → CallResult
poll_key s = elim s.keys [
  | [] ↦ served_call s (with_stacked ZERO_BIT true (with_al 0 s.world)) []
  | key ∷ keys ↦ served_call s (with_stacked ZERO_BIT false (with_al key s.world)) keys
]

-- 06h: DL to the console, or FFh asks for a key
unfoldable pub direct_console : CallState → CallResult
direct_console s = if nat_eq (low_byte s.world.regs.edx) 0xFF then poll_key s else write_character s

-- 07h, 08h: a key into AL
unfoldable pub read_key : CallState → CallResult
read_key s = with_key s (λ key keys. served_call s (with_al key s.world) keys)

-- 09h: the text at DS:DX up to `$`; after the 65536 bytes of a segment it stops
unfoldable pub write_text : CallState → CallResult
write_text s = print_result s (text_from s.world.dos s.world.regs.ds (low_half s.world.regs.edx) SEGMENT_SIZE) s.world s.keys

-- the keys before the first return, and those after it, where there is one
unfoldable pub line_of : List ℕ → Option (List ℕ × List ℕ)
line_of [] = None
line_of (key ∷ keys) =
    if nat_eq key 0x0D then Some ([], keys) else
    elim (line_of keys) [ None ↦ None | Some line ↦ Some (key ∷ line.0, line.1) ]

-- the buffer at DS:DX with a line: its characters and a return from byte 2 on, and their number without it in byte 1
abbrev pub with_line : World → List ℕ → World
with_line w line = record w {
  dos = with_dos_bytes_at (with_dos_bytes_at w.dos w.regs.ds (low_half w.regs.edx + 2) (line ++ 0x0D ∷ []))
      w.regs.ds (low_half w.regs.edx + 1) (length line ∷ []);
}

-- the line that was typed, of which n characters less one are kept
abbrev pub line_result : CallState → ℕ → Option (List ℕ × List ℕ) → CallResult
line_result s n None = ended_call s exits.NoKeys
line_result s n (Some line) =
    print_result s (take (n - 1) line.0 ++ 0x0D ∷ []) (with_line s.world (take (n - 1) line.0)) line.1

-- 0Ah: a line into the buffer at DS:DX, whose first byte is its room; a room of 0 does nothing
unfoldable pub read_line : CallState → CallResult
read_line s =
    let n = byte_at s.world.dos s.world.regs.ds (low_half s.world.regs.edx) in
    if nat_eq n 0 then served_call s s.world s.keys else line_result s n (line_of s.keys)

-- 0Bh: AL = FFh where a key is left, else 0
unfoldable pub ask_key : CallState → CallResult
ask_key s = served_call s (with_al (elim s.keys [ [] ↦ 0 | key ∷ keys ↦ 0xFF ]) s.world) s.keys

-- ---- vectors, version, prefix

-- 25h: vector AL of real mode becomes DS:DX
unfoldable pub set_vector : CallState → CallResult
set_vector s = served_call s (record s.world {
  dos = with_dos_bytes_at s.world.dos 0 (4 * low_byte s.world.regs.eax)
      (word_bytes (low_half s.world.regs.edx) ++ word_bytes s.world.regs.ds);
}) s.keys

-- 30h: the version, 5.0
unfoldable pub dos_version : CallState → CallResult
dos_version s = served_call s (record s.world {
  regs = record s.world.regs {
    eax = with_low_half s.world.regs.eax 5;
    ebx = with_low_half s.world.regs.ebx 0;
    ecx = with_low_half s.world.regs.ecx 0;
  };
}) s.keys

-- 35h: ES:BX becomes vector AL of real mode
unfoldable pub get_vector : CallState → CallResult
get_vector s =
    let at = 4 * low_byte s.world.regs.eax in
    served_call s (record s.world {
      regs = record s.world.regs {
        ebx = with_low_half s.world.regs.ebx (word_of s.world.dos at);
        es = word_of s.world.dos (at + 2);
      };
    }) s.keys

-- 62h: BX becomes the segment of the prefix
unfoldable pub get_prefix : CallState → CallResult
get_prefix s = served_call s (with_bx PSP_SEGMENT s.world) s.keys

-- ---- files: 0 is the keys, 1 and 2 are the console

abbrev pub bad_handle : ℕ
bad_handle = 6

-- 3Fh: the first CX keys, or all that are left, go to DS:DX, and AX is their number
abbrev pub keys_result : CallState → List ℕ → CallResult
keys_result s keys = served_call s (without_carry (with_ax (length keys) (record s.world {
  dos = with_dos_bytes_at s.world.dos s.world.regs.ds (low_half s.world.regs.edx) keys;
}))) (drop (length keys) s.keys)

unfoldable pub read_file : CallState → CallResult
read_file s =
    if nat_eq (low_half s.world.regs.ebx) 0 then keys_result s (take (low_half s.world.regs.ecx) s.keys) else
    served_call s (with_error bad_handle s.world) s.keys

-- 40h: CX bytes from DS:DX on go to the console, and AX is their number
unfoldable pub write_file : CallState → CallResult
write_file s =
    if nat_eq (low_half s.world.regs.ebx) 1 || nat_eq (low_half s.world.regs.ebx) 2 then
    print_result s (bytes_from s.world.dos s.world.regs.ds (low_half s.world.regs.edx) (low_half s.world.regs.ecx))
    (without_carry (with_ax (low_half s.world.regs.ecx) s.world)) s.keys
    else served_call s (with_error bad_handle s.world) s.keys

-- ---- memory

-- a refusal: where there is no room BX is the most paragraphs that there could be
abbrev pub with_memory_error : DosRefusal → World → World
with_memory_error (NoMemory largest) w = with_error NO_MEMORY (with_bx largest w)
with_memory_error WrongBlock w = with_error WRONG_BLOCK w

-- 48h: BX paragraphs; AX is the segment
abbrev pub after_allocate_call : Done ℕ → World
after_allocate_call d = elim d.answer [ Ok segment ↦ without_carry (with_ax segment d.world) | Err r ↦ with_memory_error r d.world ]

unfoldable pub allocate : CallState → CallResult
allocate s = served_call s (after_allocate_call (allocation_result s.world false (low_half s.world.regs.ebx))) s.keys

-- 49h and 4Ah: the block at ES
abbrev pub after_block_call : Done (Unit {0}) → World
after_block_call d = elim d.answer [ Ok done ↦ without_carry d.world | Err r ↦ with_memory_error r d.world ]

unfoldable pub free : CallState → CallResult
free s = served_call s (after_block_call (free_result s.world false s.world.regs.es)) s.keys

unfoldable pub resize : CallState → CallResult
resize s = served_call s (after_block_call (resize_result s.world false s.world.regs.es (low_half s.world.regs.ebx))) s.keys

-- ---- all of them

-- 4Ch: the client ends itself with the code in AL
unfoldable pub terminate : CallState → CallResult
terminate s = ended_call s (exits.Exited (low_byte s.world.regs.eax))

abbrev pub bad_function : ℕ
bad_function = 1

unfoldable pub unknown_function : CallState → CallResult
unknown_function s = served_call s (with_error bad_function s.world) s.keys

-- the call by AH
unfoldable pub dos_call : CallState → CallResult
dos_call s =
    let ah = high_byte s.world.regs.eax in
    if nat_eq ah 0x01 then read_echo s else
    if nat_eq ah 0x02 then write_character s else
    if nat_eq ah 0x06 then direct_console s else
    if nat_eq ah 0x07 || nat_eq ah 0x08 then read_key s else
    if nat_eq ah 0x09 then write_text s else
    if nat_eq ah 0x0A then read_line s else
    if nat_eq ah 0x0B then ask_key s else
    if nat_eq ah 0x25 then set_vector s else
    if nat_eq ah 0x30 then dos_version s else
    if nat_eq ah 0x35 then get_vector s else
    if nat_eq ah 0x3F then read_file s else
    if nat_eq ah 0x40 then write_file s else
    if nat_eq ah 0x48 then allocate s else
    if nat_eq ah 0x49 then free s else
    if nat_eq ah 0x4A then resize s else
    if nat_eq ah 0x4C then terminate s else
    if nat_eq ah 0x62 then get_prefix s else
    unknown_function s
