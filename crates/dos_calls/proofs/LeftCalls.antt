-- What a call keeps: all of the machine but registers and DOS memory; what the client wrote before; and, where it ends the client, the
-- machine, and but for a full console the keys and the console.
use Rattle.std.proofs.Common.{◌≡◌, ◌≢◌, ◌∙◌, ℕ, ◌+◌, ◌||◌, List, [], ◌∷◌, length, take, append-nil, refl, sym, ap, nat_eq, nat_le}
use Rattle.std.proofs.Common.{if◌then◌else◌, Bool, true, false, Option, None, Some, Result, Ok, Err}
use Rattle.client_world.specs.{declared.dos_memory.DosEntry.{DosEntry}, declared.dos_memory.DosRefusal.{DosRefusal}}
use Rattle.client_world.specs.declared.dos_memory.DosRefusal.TheVariants.{NoMemory, WrongBlock}
use Rattle.client_world.specs.{declared.limits.TheConstants.{CONSOLE_ROOM}, declared.outcome.Exit.{Exit}}
use Rattle.client_world.specs.{declared.outcome.Exit.TheVariants.{NoKeys, ConsoleFull}, declared.registers.Regs.{Regs}}
use Rattle.client_world.specs.{declared.services.DosDone.TheVariants.{Ended}, Registers.{low_byte, high_byte, low_half}, World.{World}}
use Rattle.client_world.specs.Console.{Extends}
use Rattle.guest_space.specs.Arena.{with_entries}
use Rattle.dos_blocks.specs.Blocks.{Done, first_fit, place_of_block, greatest_size, allocation_result_at, allocation_result}
use Rattle.dos_blocks.specs.Blocks.{resize_result_at, resize_result, free_result_at, free_result}
use Rattle.dos_calls.specs.Calls.{CallResult, CallState, served_call, ended_call, print_result, poll_key, line_result, line_of, keys_result}
use Rattle.dos_calls.specs.{Calls.{with_memory_error, after_allocate_call, after_block_call, dos_call}, DosBytes.{byte_at}}
use Rattle.dos_calls.specs.{Multiplex.{multiplex_call, with_entry}, Kept.{HasOtherDosMemory, HasSameStack}}
use Rattle.dos_calls.specs.Calls as calls

-- what no call changes, as one value: DOS memory and the registers that some call changes are blank
abbrev pub rest_of : World → World
rest_of w = record w {
  regs = record w.regs { eax = 0; ebx = 0; ecx = 0; edx = 0; esi = 0; edi = 0; es = 0 };
  dos = [];
  arena = [];
}

pub same_stack : (w u : World) → rest_of u ≡ rest_of w → HasSameStack w u
same_stack w u e = record {
  mode = ap (λ (x : World). x.mode) e;
  segment = ap (λ (x : World). x.regs.ss) e;
  pointer = ap (λ (x : World). x.regs.esp) e;
}

pub other_dos_memory : (w u : World) → rest_of u ≡ rest_of w → HasOtherDosMemory w u
other_dos_memory w u e = ap (λ (x : World). record x { regs = u.regs; dos = u.dos; arena = u.arena }) e

pub record Leaves (s : CallState) (r : CallResult) : Type 0 where
  pub rest : rest_of r.world ≡ rest_of s.world
  pub console : Extends s.console r.console
  pub machine : (exit : Exit) → r.done ≡ Ended exit → r.world ≡ s.world
  pub outside : (exit : Exit) → r.done ≡ Ended exit → exit ≢ ConsoleFull → (r.keys ≡ s.keys) × (r.console ≡ s.console)

pub extends_itself : (console : List ℕ) → Extends console console
extends_itself console = ([], sym (append-nil console))

leaves_if : (s : CallState) (c : Bool) (r q : CallResult) → Leaves s r → Leaves s q → Leaves s (if c then r else q)
leaves_if s true r q one other = one
leaves_if s false r q one other = other

leaves_served : (s : CallState) (w : World) (keys : List ℕ) → rest_of w ≡ rest_of s.world → Leaves s (served_call s w keys)
leaves_served s w keys e = record {
  rest = e;
  console = extends_itself s.console;
  machine = λ exit other. cc;
  outside = λ exit other full. cc;
}

leaves_ended : (s : CallState) (exit : Exit) → Leaves s (ended_call s exit)
leaves_ended s exit = record {
  rest = refl;
  console = extends_itself s.console;
  machine = λ same e. refl;
  outside = λ same e full. (refl, refl);
}

leaves_printed : (s : CallState) (xs : List ℕ) (w : World) (keys : List ℕ) → rest_of w ≡ rest_of s.world →
    Leaves s (print_result s xs w keys)
unfolding print_result
leaves_printed s xs w keys e =
    leaves_if s (nat_le (length s.console + length xs) CONSOLE_ROOM) _ _
    (record { rest = e; console = (xs, refl); machine = λ exit other. cc; outside = λ exit other full. cc })
    (record { rest = refl; console = (_, refl); machine = λ exit same. refl; outside = λ exit same full. absurd (full (cc)) })

-- ---- characters

by_key : (s : CallState) (rest : ℕ → List ℕ → CallResult) (keys : List ℕ) → ((key : ℕ) (left : List ℕ) → Leaves s (rest key left)) →
    Leaves s (elim keys [ [] ↦ ended_call s NoKeys | key ∷ left ↦ rest key left ])
by_key s rest [] leaves = leaves_ended s NoKeys
by_key s rest (key ∷ keys) leaves = leaves key keys

leaves_write_character : (s : CallState) → Leaves s (calls.write_character s)
unfolding calls.write_character
leaves_write_character s = leaves_printed s _ s.world s.keys refl

leaves_poll : (w : World) (keys console : List ℕ) →
    let s : CallState = record { world = w; keys = keys; console = console } in Leaves s (poll_key s)
leaves_poll w [] console = leaves_served (record { world = w; keys = []; console = console }) _ [] refl
leaves_poll w (key ∷ keys) console = leaves_served (record { world = w; keys = key ∷ keys; console = console }) _ keys refl

leaves_direct_console : (s : CallState) → Leaves s (calls.direct_console s)
unfolding calls.direct_console
leaves_direct_console s =
    leaves_if s (nat_eq (low_byte s.world.regs.edx) 0xFF) _ _ (leaves_poll s.world s.keys s.console) (leaves_write_character s)

leaves_line : (s : CallState) (n : ℕ) (o : Option (List ℕ × List ℕ)) → Leaves s (line_result s n o)
leaves_line s n None = leaves_ended s NoKeys
leaves_line s n (Some line) = leaves_printed s _ _ line.1 refl

leaves_read_line : (s : CallState) → Leaves s (calls.read_line s)
unfolding calls.read_line
leaves_read_line s =
    let n = byte_at s.world.dos s.world.regs.ds (low_half s.world.regs.edx) in
    leaves_if s (nat_eq n 0) _ _ (leaves_served s s.world s.keys refl) (leaves_line s n (line_of s.keys))

-- ---- files

leaves_read_file : (s : CallState) → Leaves s (calls.read_file s)
unfolding calls.read_file
leaves_read_file s =
    leaves_if s (nat_eq (low_half s.world.regs.ebx) 0) (keys_result s (take (low_half s.world.regs.ecx) s.keys)) _
    (leaves_served s _ _ refl) (leaves_served s _ s.keys refl)

leaves_write_file : (s : CallState) → Leaves s (calls.write_file s)
unfolding calls.write_file
leaves_write_file s =
    leaves_if s (nat_eq (low_half s.world.regs.ebx) 1 || nat_eq (low_half s.world.regs.ebx) 2) _ _
    (leaves_printed s _ _ s.keys refl) (leaves_served s _ s.keys refl)

-- ---- memory

-- a change of the blocks, and what is said of it in registers and flags

rest_entries : (w : World) (place old : ℕ) (new : List DosEntry) → rest_of (with_entries w place old new) ≡ rest_of w
unfolding with_entries
rest_entries w place old new = refl

rest_if_done : (w : World) (c : Bool) (one other : Done (Unit {0})) → rest_of one.world ≡ rest_of w → rest_of other.world ≡ rest_of w →
    rest_of (if c then one else other).world ≡ rest_of w
rest_if_done w true one other d e = d
rest_if_done w false one other d e = e

rest_allocated : (w : World) (n : ℕ) (o : Option ℕ) → rest_of (allocation_result_at w false n o).world ≡ rest_of w
rest_allocated w n None = refl
rest_allocated w n (Some place) = rest_entries w place 1 _

rest_resized : (w : World) (segment n : ℕ) (o : Option ℕ) → rest_of (resize_result_at w false segment n o).world ≡ rest_of w
rest_resized w segment n None = refl
rest_resized w segment n (Some place) = rest_if_done w (nat_le n (greatest_size w.arena place)) _ _ (rest_entries w place _ _) refl

rest_freed : (w : World) (segment : ℕ) (o : Option ℕ) → rest_of (free_result_at w false segment o).world ≡ rest_of w
rest_freed w segment None = refl
rest_freed w segment (Some place) = rest_entries w _ _ _

rest_refused : (refusal : DosRefusal) (w : World) → rest_of (with_memory_error refusal w) ≡ rest_of w
rest_refused (NoMemory largest) w = refl
rest_refused WrongBlock w = refl

rest_given : (answer : Result ℕ DosRefusal) (w : World) → rest_of (after_allocate_call (record { answer = answer; world = w })) ≡ rest_of w
rest_given (Ok segment) w = refl
rest_given (Err refusal) w = rest_refused refusal w

rest_changed : (answer : Result (Unit {0}) DosRefusal) (w : World) →
    rest_of (after_block_call (record { answer = answer; world = w })) ≡ rest_of w
rest_changed (Ok done) w = refl
rest_changed (Err refusal) w = rest_refused refusal w

leaves_allocate : (s : CallState) → Leaves s (calls.allocate s)
unfolding calls.allocate allocation_result
leaves_allocate s =
    let n = low_half s.world.regs.ebx in
    let o = first_fit s.world.arena n 0 in
    let d = allocation_result_at s.world false n o in
    leaves_served s (after_allocate_call d) s.keys (rest_given d.answer d.world ∙ rest_allocated s.world n o)

leaves_free : (s : CallState) → Leaves s (calls.free s)
unfolding calls.free free_result
leaves_free s =
    let o = place_of_block false s.world.arena s.world.regs.es 0 in
    let d = free_result_at s.world false s.world.regs.es o in
    leaves_served s (after_block_call d) s.keys (rest_changed d.answer d.world ∙ rest_freed s.world s.world.regs.es o)

leaves_resize : (s : CallState) → Leaves s (calls.resize s)
unfolding calls.resize resize_result
leaves_resize s =
    let n = low_half s.world.regs.ebx in
    let o = place_of_block false s.world.arena s.world.regs.es 0 in
    let d = resize_result_at s.world false s.world.regs.es n o in
    leaves_served s (after_block_call d) s.keys (rest_changed d.answer d.world ∙ rest_resized s.world s.world.regs.es n o)

-- ---- all of them

pub call_leaves : (s : CallState) → Leaves s (dos_call s)
unfolding dos_call calls.read_echo calls.read_key calls.write_text calls.ask_key calls.set_vector calls.dos_version calls.get_vector
    calls.get_prefix calls.terminate calls.unknown_function
call_leaves s =
    let ah = high_byte s.world.regs.eax in
    leaves_if s (nat_eq ah 0x01) _ _ (by_key s _ s.keys (λ key keys. leaves_printed s _ _ keys refl))
    (leaves_if s (nat_eq ah 0x02) _ _ (leaves_write_character s)
    (leaves_if s (nat_eq ah 0x06) _ _ (leaves_direct_console s)
    (leaves_if s (nat_eq ah 0x07 || nat_eq ah 0x08) _ _ (by_key s _ s.keys (λ key keys. leaves_served s _ keys refl))
    (leaves_if s (nat_eq ah 0x09) _ _ (leaves_printed s _ s.world s.keys refl)
    (leaves_if s (nat_eq ah 0x0A) _ _ (leaves_read_line s)
    (leaves_if s (nat_eq ah 0x0B) _ _ (leaves_served s _ s.keys refl)
    (leaves_if s (nat_eq ah 0x25) _ _ (leaves_served s _ s.keys refl)
    (leaves_if s (nat_eq ah 0x30) _ _ (leaves_served s _ s.keys refl)
    (leaves_if s (nat_eq ah 0x35) _ _ (leaves_served s _ s.keys refl)
    (leaves_if s (nat_eq ah 0x3F) _ _ (leaves_read_file s)
    (leaves_if s (nat_eq ah 0x40) _ _ (leaves_write_file s)
    (leaves_if s (nat_eq ah 0x48) _ _ (leaves_allocate s)
    (leaves_if s (nat_eq ah 0x49) _ _ (leaves_free s)
    (leaves_if s (nat_eq ah 0x4A) _ _ (leaves_resize s)
    (leaves_if s (nat_eq ah 0x4C) _ _ (leaves_ended s _)
    (leaves_if s (nat_eq ah 0x62) _ _ (leaves_served s _ s.keys refl)
    (leaves_served s _ s.keys refl)))))))))))))))))

-- ---- INT 2Fh

rest_if : (w : World) (c : Bool) (one : World) → rest_of one ≡ rest_of w → rest_of (if c then one else w) ≡ rest_of w
rest_if w true one e = e
rest_if w false one e = refl

pub multiplex_leaves : (w : World) → rest_of (multiplex_call w) ≡ rest_of w
unfolding multiplex_call
multiplex_leaves w = rest_if w (nat_eq (low_half w.regs.eax) 0x1687) _ refl

regs_if : (w : World) (c : Bool) (regs : Regs) → let u : World = if c then record w { regs = regs } else w in u ≡ record w { regs = u.regs }
regs_if w true regs = refl
regs_if w false regs = refl

pub multiplex_regs : (w : World) → multiplex_call w ≡ record w { regs = (multiplex_call w).regs }
unfolding multiplex_call
multiplex_regs w = regs_if w (nat_eq (low_half w.regs.eax) 0x1687) (with_entry w.regs)
