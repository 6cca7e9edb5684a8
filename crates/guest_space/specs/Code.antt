-- The code bytes of the next instruction.
-- Source: 80386 Programmer's Reference Manual, ch. 17; that an instruction has at most 15 bytes, ch. 9.
use Rattle.std.specs.{Prelude.{ℕ, zero, suc, ◌+◌, List, [], ◌∷◌, Ok, Err, slice_index}, declared.result.Result.{Result}}
use Rattle.client_world.specs.{declared.faults.Fault.{Fault}, declared.segments.SegReg.TheVariants.{Cs}, World.{World}}
use Rattle.guest_space.specs.Transfer.{read_result}

-- the most bytes of an instruction
abbrev pub code_room : ℕ
code_room = 15

-- the byte that a read of one byte gives
abbrev pub one_byte : Result (List ℕ) Fault → Result ℕ Fault
one_byte (Ok bytes) = Ok (slice_index bytes 0)
one_byte (Err fault) = Err fault

-- the byte at CS:EIP and n further, or the fault of its fetch. The offset doesn't wrap
unfoldable pub code_byte : World → ℕ → Result ℕ Fault
code_byte w at = one_byte (read_result w Cs (w.regs.eip + at) 1)

-- the bytes from a place on, n at most, up to the first that can't be fetched
unfoldable pub code_from : World → ℕ → ℕ → List ℕ
code_from w at zero = []
code_from w at (suc n) = elim (code_byte w at) [ Ok byte ↦ byte ∷ code_from w (at + 1) n | Err fault ↦ [] ]
