-- The places that the client's next instruction touches, in the order of the accesses: the bytes that are fetched, what it reads, what it
-- writes; and what its software interrupt pushes, and the vector that this reads. An access that faults names no place, and nothing is
-- accessed after it. Source: own.
use Rattle.std.specs.Prelude.{ℕ, zero, suc, ◌+◌, ◌*◌, ◌^◌, ◌≤◌, true, false, List, [], ◌∷◌, ◌++◌, Ok, Err, None, Some, if◌then◌else◌}
use Rattle.std.specs.declared.result.Result.{Result}
use Rattle.client_world.specs.{declared.faults.Event.{Event}, declared.faults.Event.TheVariants.{Fault as fault, Soft}}
use Rattle.client_world.specs.{declared.faults.Fault.{Fault}, declared.place.Place.{Place}, declared.place.Place.TheVariants.{Dos}}
use Rattle.client_world.specs.{declared.registers.Mode.TheVariants.{Real, Protected}, declared.segments.SegReg.TheVariants.{Cs}}
use Rattle.client_world.specs.{Access.{access, places_from}, World.{World}, declared.watchpoints.Touch.{Touch}}
use Rattle.exec_flow.specs.Interrupts.{interrupt_push}
use Rattle.guest_space.specs.{Code.{code_room}, declared.pending.Write.{Write}, Pending.{byte_count, first_write_fault}}
use Rattle.insn_decode.specs.{declared.decoding.Decoded.{Decoded}, declared.decoding.Decoded.TheVariants.{Whole, More, Invalid}}
use Rattle.insn_decode.specs.Decode.{decoded}
use Rattle.insn_plan.specs.{Accesses.{with_next_eip}, Act.{Act, End, Read, Input, Given, From, Pending, value_of}, Plan.{plan_result}}
use Rattle.cpu_step.specs.Step.{has_big_code, code, client_row}

-- the places of an access, and of what comes after it where it doesn't fault
abbrev pub and_then : Result (List Place) Fault → List Place → List Place
and_then (Ok places) more = places ++ more
and_then (Err f) more = []

-- the code bytes from a place on, n at most
unfoldable pub touched_by_fetch : World → ℕ → ℕ → List Place
touched_by_fetch w at zero = []
touched_by_fetch w at (suc n) = and_then (access w Cs (w.regs.eip + at) 1 false) (touched_by_fetch w (at + 1) n)

-- the reads of an instruction
abbrev pub input_read : World → Input → List Place → List Place
input_read w (Given v) more = more
input_read w (From seg off n) more = and_then (access w seg off n false) more

unfoldable pub read_places : World → Act → List Place
read_places w (End outcome) = []
read_places w (Read input rest) = input_read w input (elim (value_of w input) [ Ok v ↦ read_places w (rest v) | Err e ↦ [] ])

-- the writes of an instruction
unfoldable pub write_places : World → List Write → List Place
write_places w [] = []
write_places w (x ∷ xs) = and_then (access w x.seg x.off (byte_count x.width) true) (write_places w xs)

-- the real-mode vector of an interrupt
abbrev pub vector_places : ℕ → List Place
vector_places n = Dos (4 * n) ∷ Dos (4 * n + 1) ∷ Dos (4 * n + 2) ∷ Dos (4 * n + 3) ∷ []

-- it is read in real mode, where all was pushed
abbrev pub vector_read_places : World → ℕ → List Place
vector_read_places w n = elim w.mode [
  | Real ↦ elim (first_write_fault w (interrupt_push w).writes) [ None ↦ vector_places n | Some f ↦ [] ]
  | Protected ↦ []
]

-- what comes after the reads
abbrev pub places_after_reads : World → Result Pending Event → List Place
places_after_reads w (Ok p) = write_places w p.writes
places_after_reads w (Err (fault f)) = []
places_after_reads w (Err (Soft number len)) = write_places w (interrupt_push w).writes ++ vector_read_places w number

-- an instruction, with EIP after it
abbrev pub touched_by_instruction : World → Act → List Place
touched_by_instruction w act = read_places w act ++ places_after_reads w (plan_result w act)

abbrev pub touched_by_decoded : World → Decoded → List Place
touched_by_decoded w (Whole insn len) = touched_by_instruction (with_next_eip len w) (client_row (with_next_eip len w) insn len)
touched_by_decoded w More = []
touched_by_decoded w Invalid = []

-- all of them
unfoldable pub touched_by_step : World → List Place
touched_by_step w = touched_by_fetch w 0 code_room ++ touched_by_decoded w (decoded (has_big_code w) (code w))

-- ---- the same bytes as runs of linear addresses

-- the places of touches, one after another
abbrev pub touch_places : World → List Touch → List Place
touch_places w [] = []
touch_places w (t ∷ rest) = places_from w.blocks t.lin t.len ++ touch_places w rest

-- the places of those touches that write
abbrev pub written_touch_places : World → List Touch → List Place
written_touch_places w [] = []
written_touch_places w (t ∷ rest) = (if t.write then places_from w.blocks t.lin t.len else []) ++ written_touch_places w rest

-- the run has no byte past the last address
abbrev pub DoesNotWrap : Touch → Type 0
DoesNotWrap t = t.lin + t.len ≤ 2 ^ 32
