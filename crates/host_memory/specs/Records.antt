-- The frame of the records of calls. Source: own.
use Rattle.std.specs.Prelude.{◌≡◌, ℕ, zero, suc, ◌+◌, ◌*◌, ◌<◌, ◌≤◌, Bool, not, nat_eq, if◌then◌else◌, cond, List, [], ◌∷◌, ◌++◌}
use Rattle.std.specs.Prelude.{slice_index, false}
use Rattle.client_world.specs.{declared.registers.Regs.{Regs}, declared.segments.FarPtr.{FarPtr}, declared.calls.Call.{Call}}
use Rattle.client_world.specs.{declared.calls.Call.TheVariants.{Int, Far, Iret, Reflect}, declared.calls.Record.{Record}}
use Rattle.client_world.specs.{declared.calls.Record.TheVariants.{Sim, Back, Exc}, declared.host_frames.TheConstants.{PAGE_SIZE}}
use Rattle.client_world.specs.declared.host_frames.TheConstants.{RECORD_FRAMES, RECORD_SIZE}
use Rattle.client_world.specs.{declared.limits.TheConstants.{GREATEST_DEPTH}, Registers.{flags_image, flags_of_image}}
use Rattle.client_world.specs.Segments.{null_pointer}
use Rattle.guest_ram.specs.{Bytes.{word_of, dword, dword_bytes}, Listed.{listed, zeros}}
use Rattle.host_memory.specs.Vectors.{word_bytes, pointer_at, pointer_bytes}

-- the bytes of a record
abbrev pub record_size : ℕ
record_size = RECORD_SIZE

-- the registers in a record: nine doublewords, the flags image without IF, and six words
unfoldable pub regs_at : List ℕ → ℕ → Regs
regs_at part at = record {
  eax = dword part at;
  ecx = dword part (at + 4);
  edx = dword part (at + 8);
  ebx = dword part (at + 12);
  esp = dword part (at + 16);
  ebp = dword part (at + 20);
  esi = dword part (at + 24);
  edi = dword part (at + 28);
  eip = dword part (at + 32);
  flags = flags_of_image (word_of part (at + 36));
  es = word_of part (at + 38);
  cs = word_of part (at + 40);
  ss = word_of part (at + 42);
  ds = word_of part (at + 44);
  fs = word_of part (at + 46);
  gs = word_of part (at + 48);
}

unfoldable pub regs_bytes : Regs → List ℕ
regs_bytes r =
    dword_bytes r.eax ++ dword_bytes r.ecx ++ dword_bytes r.edx ++ dword_bytes r.ebx
    ++ dword_bytes r.esp ++ dword_bytes r.ebp ++ dword_bytes r.esi ++ dword_bytes r.edi ++ dword_bytes r.eip
    ++ word_bytes (flags_image r.flags false)
    ++ word_bytes r.es ++ word_bytes r.cs ++ word_bytes r.ss ++ word_bytes r.ds ++ word_bytes r.fs ++ word_bytes r.gs

-- the call of a simulated call's kind, 1 to 4
abbrev pub call_of : ℕ → ℕ → Call
call_of kind number =
    if nat_eq kind 1 then Int number else
    if nat_eq kind 2 then Far else
    if nat_eq kind 3 then Iret else
    Reflect number

-- the record at an address: its kind (1 to 4 a simulated call, 5 a callback, 6 an exception), its number, the virtual flag, the error code
-- at 4, the structure's pointer at 8, and the registers at 16
unfoldable pub record_at : List ℕ → ℕ → Record
record_at part at =
    let kind = slice_index part at in
    let number = slice_index part (at + 1) in
    if nat_eq kind 5 then Back number (pointer_at part (at + 8)) else
    if nat_eq kind 6 then Exc number (dword part (at + 4)) else
    Sim (call_of kind number) (regs_at part (at + 16)) (not (nat_eq (slice_index part (at + 2)) 0)) (pointer_at part (at + 8))

-- its bytes before the registers
abbrev pub record_head : ℕ → ℕ → Bool → ℕ → FarPtr → List ℕ
record_head kind number vif code at =
    kind ∷ number ∷ cond vif 1 0 ∷ 0 ∷ [] ++ dword_bytes code ++ pointer_bytes at ++ 0 ∷ 0 ∷ []

abbrev pub call_kind : Call → ℕ
call_kind (Int number) = 1
call_kind Far = 2
call_kind Iret = 3
call_kind (Reflect number) = 4

abbrev pub call_number : Call → ℕ
call_number (Int number) = number
call_number Far = 0
call_number Iret = 0
call_number (Reflect number) = number

-- the bytes of a record; what its kind lacks is 0
unfoldable pub record_bytes : Record → List ℕ
record_bytes (Sim call saved vif at) =
    record_head (call_kind call) (call_number call) vif 0 at ++ regs_bytes saved ++ zeros 62
record_bytes (Back slot at) = record_head 5 slot false 0 at ++ zeros 112
record_bytes (Exc number code) = record_head 6 number false code null_pointer ++ zeros 112

-- how many records lie one after another from a place on, of n at most: up to the first kind that is 0
unfoldable pub records_from : List ℕ → ℕ → ℕ → ℕ
records_from part place zero = 0
records_from part place (suc n) =
    if nat_eq (slice_index part (record_size * place)) 0 then 0 else 1 + records_from part (place + 1) n

abbrev pub record_count : List ℕ → ℕ
record_count part = records_from part 0 GREATEST_DEPTH

-- the records that the frame holds
unfoldable pub calls_in : List ℕ → List Record
calls_in part = listed (record_count part) (λ place. record_at part (record_size * place))

-- the bytes of the frame are exactly those of its records, and zeros after them
pub record KeepsRecords (part : List ℕ) : Type 0 where
  pub each : (place at : ℕ) → place < record_count part → at < record_size →
      slice_index part (record_size * place + at) ≡ slice_index (record_bytes (record_at part (record_size * place))) at
  pub rest : (at : ℕ) → record_size * record_count part ≤ at → at < PAGE_SIZE * RECORD_FRAMES → slice_index part at ≡ 0
