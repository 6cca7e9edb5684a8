-- A call leads from a sound world to a sound one: bytes of the megabyte, a flag and registers may be put; where the keys are bytes, those
-- that are left are bytes, and so is what it writes.
use Rattle.std.proofs.Common.{ℕ, ◌+◌, ◌<◌, List, [], ◌∷◌, arith, Bool, true, false, slice_index, ◌-◌, ◌*◌, ◌||◌, ◌++◌, length, take, drop}
use Rattle.std.proofs.Common.{nat_eq, nat_le, if◌then◌else◌, Option, None, Some, Result, Ok, Err}
use Rattle.client_world.specs.{declared.registers.TheConstants.{CARRY_BIT, ZERO_BIT}, Access.{real_address}, Soundness.{IsSound}}
use Rattle.client_world.specs.{Soundness.{SoundMegabyte}, World.{World}, declared.dos_memory.DosRefusal.{DosRefusal}}
use Rattle.client_world.specs.declared.dos_memory.DosRefusal.TheVariants.{NoMemory, WrongBlock}
use Rattle.client_world.specs.{declared.limits.TheConstants.{CONSOLE_ROOM}, declared.memory_map.TheConstants.{PSP_SEGMENT, SEGMENT_SIZE}}
use Rattle.client_world.specs.{declared.outcome.Exit.{Exit}, declared.outcome.Exit.TheVariants.{NoKeys}, Registers.{low_byte, high_byte}}
use Rattle.client_world.specs.Registers.{low_half}
use Rattle.client_world.proofs.SoundWrites.{IsSound-dos, IsSound-regs, sound_general}
use Rattle.guest_space.specs.Dos.{with_dos_byte}
use Rattle.service_rows.specs.Rows.{with_ax, with_bx}
use Rattle.dos_calls.specs.Calls.{with_al, with_error, CallResult, CallState, served_call, ended_call, print_result, without_carry}
use Rattle.dos_calls.specs.Calls.{poll_key, with_line, line_result, line_of, keys_result, bad_handle, with_memory_error}
use Rattle.dos_calls.specs.{Calls.{after_allocate_call, after_block_call, bad_function, dos_call}, DosBytes.{with_bit, with_dos_bytes_at}}
use Rattle.dos_calls.specs.{DosBytes.{with_stacked, byte_at}, Multiplex.{with_entry, multiplex_call}}
use Rattle.guest_ram.specs.Bytes.{AreBytes, word_of}
use Rattle.dos_calls.proofs.ByteLaws.{bytes_behind, bytes_take, bytes_drop, length-taken, bytes_read, bytes_text, LineOfBytes, bytes_line}
use Rattle.guest_space.proofs.SoundLists.{sound_byte}
use Rattle.service_rows.proofs.AnswerLaws.{sound_ax}
use Rattle.dos_blocks.specs.{declared.services.TheConstants.{NO_MEMORY, WRONG_BLOCK}, Blocks.{allocation_result, free_result}}
use Rattle.dos_blocks.specs.Blocks.{resize_result}
use Rattle.dos_blocks.proofs.ServiceLaws.{sound_allocated, sound_freed, sound_resized}
use Rattle.host_memory.specs.Vectors.{word_bytes}
use Rattle.guest_ram.proofs.ByteLists.{bytes_word, join_bytes, more_bytes, no_bytes}
use Rattle.dos_calls.specs.Calls as calls

-- ---- bytes

pub sound_bytes : (dos : List ℕ) (segment offset : ℕ) (xs : List ℕ) → SoundMegabyte dos → AreBytes xs →
    SoundMegabyte (with_dos_bytes_at dos segment offset xs)
unfolding with_dos_bytes_at
sound_bytes dos segment offset [] s bytes = s
sound_bytes dos segment offset (x ∷ xs) s bytes =
    sound_bytes (with_dos_byte dos (real_address segment offset) x) segment (offset + 1) xs
    (sound_byte dos (real_address segment offset) x s (bytes 0)) (bytes_behind x xs bytes)

-- ---- a flag

carry_fits : (on : Bool) (byte : ℕ) → byte < 0x100 → with_bit byte CARRY_BIT on < 0x100
carry_fits true byte small = omega arith
carry_fits false byte small = omega arith

zero_fits : (on : Bool) (byte : ℕ) → byte < 0x100 → with_bit byte ZERO_BIT on < 0x100
zero_fits true byte small = omega arith
zero_fits false byte small = omega arith

sound_stacked : (w : World) (bit : ℕ) (on : Bool) → ((byte : ℕ) → byte < 0x100 → with_bit byte bit on < 0x100) → IsSound w →
    IsSound (with_stacked bit on w)
sound_stacked w bit on fits s =
    let at = real_address w.regs.ss (w.regs.esp + 4) in
    IsSound-dos w (with_dos_byte w.dos at (with_bit (slice_index w.dos at) bit on)) s
    (sound_byte w.dos at (with_bit (slice_index w.dos at) bit on) s.megabyte (fits (slice_index w.dos at) (s.megabyte.bytes at)))

pub sound_carry : (w : World) (on : Bool) → IsSound w → IsSound (with_stacked CARRY_BIT on w)
sound_carry w on s = sound_stacked w CARRY_BIT on (carry_fits on) s

pub sound_zero : (w : World) (on : Bool) → IsSound w → IsSound (with_stacked ZERO_BIT on w)
sound_zero w on s = sound_stacked w ZERO_BIT on (zero_fits on) s

-- ---- registers

-- ES with a word
pub sound_es : (w : World) (sel : ℕ) → IsSound w → sel < 0x10000 → IsSound (record w { regs = record w.regs { es = sel } })
sound_es w sel s small = let segments = s.segments in IsSound-regs w (record w.regs { es = sel }) s assumption

pub sound_al : (w : World) (v : ℕ) → IsSound w → IsSound (with_al v w)
sound_al w v s = sound_general w _ w.regs.ebx w.regs.ecx w.regs.edx w.regs.esi w.regs.edi s

pub sound_bx : (w : World) (v : ℕ) → IsSound w → IsSound (with_bx v w)
sound_bx w v s = sound_general w w.regs.eax _ w.regs.ecx w.regs.edx w.regs.esi w.regs.edi s

pub sound_error : (w : World) (code : ℕ) → IsSound w → IsSound (with_error code w)
sound_error w code s = sound_carry (with_ax code w) true (sound_ax w code s)

-- ---- the calls

-- what a call sees, and what it comes to, where the console was this

pub record Seen (s : CallState) : Type 0 where
  pub world : IsSound s.world
  pub keys : AreBytes s.keys

pub record IsGood (before : List ℕ) (r : CallResult) : Type 0 where
  pub world : IsSound r.world
  pub keys : AreBytes r.keys
  pub console : AreBytes before → AreBytes r.console

abbrev Keeps : CallState → CallResult → Type 0
Keeps s r = IsGood s.console r

keeps_if : (s : CallState) (c : Bool) (r q : CallResult) → Keeps s r → Keeps s q → Keeps s (if c then r else q)
keeps_if s true r q one other = one
keeps_if s false r q one other = other

keeps_served : (s : CallState) (w : World) (keys : List ℕ) → IsSound w → AreBytes keys → Keeps s (served_call s w keys)
keeps_served s w keys sound bytes = record { world = sound; keys = bytes; console = λ console. console }

keeps_ended : (s : CallState) (exit : Exit) → Seen s → Keeps s (ended_call s exit)
keeps_ended s exit seen = record { world = seen.world; keys = seen.keys; console = λ console. console }

keeps_printed : (s : CallState) (xs : List ℕ) (w : World) (keys : List ℕ) → Seen s → AreBytes xs → IsSound w → AreBytes keys →
    Keeps s (print_result s xs w keys)
unfolding print_result
keeps_printed s xs w keys seen bytes sound left =
    keeps_if s (nat_le (length s.console + length xs) CONSOLE_ROOM) _ _
    (record { world = sound; keys = left; console = λ console. join_bytes s.console xs console bytes })
    (record {
      world = seen.world;
      keys = left;
      console = λ console. join_bytes s.console (take (CONSOLE_ROOM - length s.console) xs) console
          (bytes_take (CONSOLE_ROOM - length s.console) xs bytes);
    })

-- ---- characters

by_key : (s : CallState) (rest : ℕ → List ℕ → CallResult) (keys : List ℕ) → Seen s → AreBytes keys →
    ((key : ℕ) (left : List ℕ) → key < 0x100 → AreBytes left → Keeps s (rest key left)) →
    Keeps s (elim keys [ [] ↦ ended_call s NoKeys | key ∷ left ↦ rest key left ])
by_key s rest [] seen bytes keeps = keeps_ended s _ seen
by_key s rest (key ∷ keys) seen bytes keeps = keeps key keys (bytes 0) (bytes_behind key keys bytes)

one_byte : (v : ℕ) → v < 0x100 → AreBytes (v ∷ [])
one_byte v small = more_bytes v [] small no_bytes

keeps_read_echo : (s : CallState) → Seen s → Keeps s (calls.read_echo s)
unfolding calls.read_echo
keeps_read_echo s seen = by_key s _ s.keys seen seen.keys
    (λ key keys small left.
    keeps_printed s (key ∷ []) (with_al key s.world) keys seen (one_byte key small) (sound_al s.world key seen.world) left)

keeps_write_character : (s : CallState) → Seen s → Keeps s (calls.write_character s)
unfolding calls.write_character
keeps_write_character s seen =
    keeps_printed s _ s.world s.keys seen (one_byte (low_byte s.world.regs.edx) (omega arith)) seen.world seen.keys

keeps_poll : (w : World) (keys console : List ℕ) → IsSound w → AreBytes keys →
    IsGood console (poll_key (record { world = w; keys = keys; console = console }))
keeps_poll w [] console s bytes = record { world = sound_zero (with_al 0 w) true (sound_al w 0 s); keys = no_bytes; console = λ c. c }
keeps_poll w (key ∷ keys) console s bytes = record {
  world = sound_zero (with_al key w) false (sound_al w key s);
  keys = bytes_behind key keys bytes;
  console = λ c. c;
}

keeps_direct_console : (s : CallState) → Seen s → Keeps s (calls.direct_console s)
unfolding calls.direct_console
keeps_direct_console s seen = keeps_if s (nat_eq (low_byte s.world.regs.edx) 0xFF) _ _
    (keeps_poll s.world s.keys s.console seen.world seen.keys) (keeps_write_character s seen)

keeps_read_key : (s : CallState) → Seen s → Keeps s (calls.read_key s)
unfolding calls.read_key
keeps_read_key s seen = by_key s _ s.keys seen seen.keys
    (λ key keys small left. keeps_served s (with_al key s.world) keys (sound_al s.world key seen.world) left)

keeps_write_text : (s : CallState) → Seen s → Keeps s (calls.write_text s)
unfolding calls.write_text
keeps_write_text s seen = keeps_printed s _ s.world s.keys seen
    (bytes_text s.world.dos s.world.regs.ds (low_half s.world.regs.edx) SEGMENT_SIZE seen.world.megabyte) seen.world seen.keys

-- a line of less than 256 characters
sound_line : (w : World) (line : List ℕ) → IsSound w → AreBytes line → length line < 0x100 → IsSound (with_line w line)
sound_line w line s bytes short = IsSound-dos w _ s
    (sound_bytes _ w.regs.ds (low_half w.regs.edx + 1) (length line ∷ [])
    (sound_bytes w.dos w.regs.ds (low_half w.regs.edx + 2) (line ++ 0x0D ∷ []) s.megabyte
    (join_bytes line (0x0D ∷ []) bytes (one_byte 0x0D (omega arith))))
    (one_byte (length line) short))

keeps_line : (s : CallState) (n : ℕ) (o : Option (List ℕ × List ℕ)) → n < 0x100 → Seen s → LineOfBytes o → Keeps s (line_result s n o)
keeps_line s n None small seen line = keeps_ended s _ seen
keeps_line s n (Some whole) small seen line =
    let taken = take (n - 1) whole.0 in
    let bytes = bytes_take (n - 1) whole.0 line.0 in
    keeps_printed s (taken ++ 0x0D ∷ []) (with_line s.world taken) whole.1 seen
    (join_bytes taken (0x0D ∷ []) bytes (one_byte 0x0D (omega arith)))
    (sound_line s.world taken seen.world bytes (omega (arith, length-taken (n - 1) whole.0))) line.1

keeps_read_line : (s : CallState) → Seen s → Keeps s (calls.read_line s)
unfolding calls.read_line
keeps_read_line s seen =
    let n = byte_at s.world.dos s.world.regs.ds (low_half s.world.regs.edx) in
    keeps_if s (nat_eq n 0) (served_call s s.world s.keys) (line_result s n (line_of s.keys))
    (keeps_served s s.world s.keys seen.world seen.keys)
    (keeps_line s n (line_of s.keys) (seen.world.megabyte.bytes (real_address s.world.regs.ds (low_half s.world.regs.edx))) seen
    (bytes_line s.keys seen.keys))

keeps_ask_key : (s : CallState) → Seen s → Keeps s (calls.ask_key s)
unfolding calls.ask_key
keeps_ask_key s seen = keeps_served s _ s.keys (sound_al s.world _ seen.world) seen.keys

-- ---- vectors, version, prefix

keeps_set_vector : (s : CallState) → Seen s → Keeps s (calls.set_vector s)
unfolding calls.set_vector
keeps_set_vector s seen =
    let w = s.world in
    let offset = low_half w.regs.edx in
    keeps_served s _ s.keys
    (IsSound-dos w _ seen.world
    (sound_bytes w.dos 0 (4 * low_byte w.regs.eax) (word_bytes offset ++ word_bytes w.regs.ds) seen.world.megabyte
    (join_bytes (word_bytes offset) (word_bytes w.regs.ds) (bytes_word offset (omega arith))
    (bytes_word w.regs.ds seen.world.segments.ds))))
    seen.keys

keeps_version : (s : CallState) → Seen s → Keeps s (calls.dos_version s)
unfolding calls.dos_version
keeps_version s seen =
    let w = s.world in
    keeps_served s _ s.keys (sound_general w _ _ _ w.regs.edx w.regs.esi w.regs.edi seen.world) seen.keys

keeps_get_vector : (s : CallState) → Seen s → Keeps s (calls.get_vector s)
unfolding calls.get_vector
keeps_get_vector s seen =
    let w = s.world in
    let at = 4 * low_byte w.regs.eax + 2 in
    let sel = word_of w.dos at in
    keeps_served s _ s.keys
    (sound_general (record w { regs = record w.regs { es = sel } }) w.regs.eax _ w.regs.ecx w.regs.edx w.regs.esi w.regs.edi
    (sound_es w sel seen.world (omega (arith, seen.world.megabyte.bytes at, seen.world.megabyte.bytes (at + 1)))))
    seen.keys

keeps_get_prefix : (s : CallState) → Seen s → Keeps s (calls.get_prefix s)
unfolding calls.get_prefix
keeps_get_prefix s seen = keeps_served s (with_bx PSP_SEGMENT s.world) s.keys (sound_bx s.world PSP_SEGMENT seen.world) seen.keys

-- ---- files

keeps_error : (s : CallState) (code : ℕ) → Seen s → Keeps s (served_call s (with_error code s.world) s.keys)
keeps_error s code seen = keeps_served s (with_error code s.world) s.keys (sound_error s.world code seen.world) seen.keys

keeps_keys_read : (s : CallState) (keys : List ℕ) → Seen s → AreBytes keys → Keeps s (keys_result s keys)
keeps_keys_read s keys seen bytes =
    let w = s.world in
    let put = record w { dos = with_dos_bytes_at w.dos w.regs.ds (low_half w.regs.edx) keys } in
    keeps_served s (without_carry (with_ax (length keys) put)) (drop (length keys) s.keys)
    (sound_carry (with_ax (length keys) put) false (sound_ax put (length keys)
    (IsSound-dos w _ seen.world (sound_bytes w.dos w.regs.ds (low_half w.regs.edx) keys seen.world.megabyte bytes))))
    (bytes_drop (length keys) s.keys seen.keys)

keeps_read_file : (s : CallState) → Seen s → Keeps s (calls.read_file s)
unfolding calls.read_file
keeps_read_file s seen = keeps_if s (nat_eq (low_half s.world.regs.ebx) 0) _ _
    (keeps_keys_read s (take (low_half s.world.regs.ecx) s.keys) seen (bytes_take (low_half s.world.regs.ecx) s.keys seen.keys))
    (keeps_error s bad_handle seen)

keeps_write_file : (s : CallState) → Seen s → Keeps s (calls.write_file s)
unfolding calls.write_file
keeps_write_file s seen =
    let w = s.world in
    let n = low_half w.regs.ecx in
    keeps_if s (nat_eq (low_half w.regs.ebx) 1 || nat_eq (low_half w.regs.ebx) 2) _ _
    (keeps_printed s _ (without_carry (with_ax n w)) s.keys seen
    (bytes_read w.dos w.regs.ds (low_half w.regs.edx) n seen.world.megabyte)
    (sound_carry (with_ax n w) false (sound_ax w n seen.world)) seen.keys)
    (keeps_error s bad_handle seen)

-- ---- memory

sound_refused : (refusal : DosRefusal) (w : World) → IsSound w → IsSound (with_memory_error refusal w)
sound_refused (NoMemory largest) w s = sound_error (with_bx largest w) NO_MEMORY (sound_bx w largest s)
sound_refused WrongBlock w s = sound_error w WRONG_BLOCK s

sound_given : (answer : Result ℕ DosRefusal) (w : World) → IsSound w → IsSound (after_allocate_call (record { answer = answer; world = w }))
sound_given (Ok segment) w s = sound_carry (with_ax segment w) false (sound_ax w segment s)
sound_given (Err refusal) w s = sound_refused refusal w s

sound_changed : (answer : Result (Unit {0}) DosRefusal) (w : World) → IsSound w →
    IsSound (after_block_call (record { answer = answer; world = w }))
sound_changed (Ok done) w s = sound_carry w false s
sound_changed (Err refusal) w s = sound_refused refusal w s

keeps_allocate : (s : CallState) → Seen s → Keeps s (calls.allocate s)
unfolding calls.allocate
keeps_allocate s seen =
    let n = low_half s.world.regs.ebx in
    let d = allocation_result s.world false n in
    keeps_served s (after_allocate_call d) s.keys (sound_given d.answer d.world (sound_allocated s.world n seen.world)) seen.keys

keeps_free : (s : CallState) → Seen s → Keeps s (calls.free s)
unfolding calls.free
keeps_free s seen =
    let segment = s.world.regs.es in
    let d = free_result s.world false segment in
    keeps_served s (after_block_call d) s.keys (sound_changed d.answer d.world (sound_freed s.world segment seen.world)) seen.keys

keeps_resize : (s : CallState) → Seen s → Keeps s (calls.resize s)
unfolding calls.resize
keeps_resize s seen =
    let segment = s.world.regs.es in
    let n = low_half s.world.regs.ebx in
    let d = resize_result s.world false segment n in
    keeps_served s (after_block_call d) s.keys (sound_changed d.answer d.world (sound_resized s.world segment n seen.world)) seen.keys

-- ---- all of them

keeps_terminate : (s : CallState) → Seen s → Keeps s (calls.terminate s)
unfolding calls.terminate
keeps_terminate s seen = keeps_ended s _ seen

keeps_unknown : (s : CallState) → Seen s → Keeps s (calls.unknown_function s)
unfolding calls.unknown_function
keeps_unknown s seen = keeps_error s bad_function seen

pub call_keeps : (s : CallState) → Seen s → Keeps s (dos_call s)
unfolding dos_call
call_keeps s seen =
    let ah = high_byte s.world.regs.eax in
    keeps_if s (nat_eq ah 0x01) _ _ (keeps_read_echo s seen)
    (keeps_if s (nat_eq ah 0x02) _ _ (keeps_write_character s seen)
    (keeps_if s (nat_eq ah 0x06) _ _ (keeps_direct_console s seen)
    (keeps_if s (nat_eq ah 0x07 || nat_eq ah 0x08) _ _ (keeps_read_key s seen)
    (keeps_if s (nat_eq ah 0x09) _ _ (keeps_write_text s seen)
    (keeps_if s (nat_eq ah 0x0A) _ _ (keeps_read_line s seen)
    (keeps_if s (nat_eq ah 0x0B) _ _ (keeps_ask_key s seen)
    (keeps_if s (nat_eq ah 0x25) _ _ (keeps_set_vector s seen)
    (keeps_if s (nat_eq ah 0x30) _ _ (keeps_version s seen)
    (keeps_if s (nat_eq ah 0x35) _ _ (keeps_get_vector s seen)
    (keeps_if s (nat_eq ah 0x3F) _ _ (keeps_read_file s seen)
    (keeps_if s (nat_eq ah 0x40) _ _ (keeps_write_file s seen)
    (keeps_if s (nat_eq ah 0x48) _ _ (keeps_allocate s seen)
    (keeps_if s (nat_eq ah 0x49) _ _ (keeps_free s seen)
    (keeps_if s (nat_eq ah 0x4A) _ _ (keeps_resize s seen)
    (keeps_if s (nat_eq ah 0x4C) _ _ (keeps_terminate s seen)
    (keeps_if s (nat_eq ah 0x62) _ _ (keeps_get_prefix s seen)
    (keeps_unknown s seen)))))))))))))))))

-- ---- INT 2Fh

sound_if : (c : Bool) (one other : World) → IsSound one → IsSound other → IsSound (if c then one else other)
sound_if true one other s t = s
sound_if false one other s t = t

pub multiplex_keeps : (w : World) → IsSound w → IsSound (multiplex_call w)
unfolding multiplex_call
multiplex_keeps w s = sound_if (nat_eq (low_half w.regs.eax) 0x1687) _ w
    (sound_general (record w { regs = record w.regs { es = (with_entry w.regs).es } }) _ _ _ _ _ _
    (sound_es w (with_entry w.regs).es s (omega arith))) s
