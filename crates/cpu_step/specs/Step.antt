-- One instruction of the client: twice, as what the grammar says of the code bytes, and as what reading them from left to right gives.
-- Source: 80386 Programmer's Reference Manual, ch. 9 and 17; which of several exceptions is raised, and that an instruction of more than 15
-- bytes is a general protection fault with code 0 before its next byte is fetched, is own.
use Rattle.std.specs.{Prelude.{◌≡◌, ◌<◌, ℕ, Bool, List, ◌++◌, length, Ok, Err, nat_eq, if◌then◌else◌}, declared.result.Result.{Result}}
use Rattle.client_world.specs.{declared.faults.Event.{Event}, declared.faults.Event.TheVariants.{Fault as fault}}
use Rattle.client_world.specs.{declared.faults.Fault.{Fault}, declared.faults.TheConstants.{GENERAL_PROTECTION, INVALID_OPCODE}}
use Rattle.client_world.specs.{Access.{fault_with}, World.{World}}
use Rattle.exec_core.specs.Dispatch.{is_core, core_row}
use Rattle.exec_flow.specs.Dispatch.{flow_row}
use Rattle.guest_space.specs.{Code.{code_byte, code_from, code_room}, SegmentRows.{is_big}}
use Rattle.host_memory.specs.View.{MachineView}
use Rattle.insn_decode.specs.{declared.decoding.Decoded.{Decoded}, declared.decoding.Decoded.TheVariants.{Whole, More, Invalid}}
use Rattle.insn_decode.specs.Decode.{decoded}
use Rattle.insn_forms.specs.{declared.insn.Insn.{Insn}, Grammar.{Encoding, HasEncoding, BeginsEncoding}}
use Rattle.insn_plan.specs.{Accesses.{with_next_eip}, Act.{Act}, Plan.{plan_result, after_plan}}

-- operands and addresses have 32 bits where nothing else is said: the code segment has D = 1
unfoldable pub has_big_code : World → Bool
has_big_code w = is_big w.mode w.descriptors w.regs.cs

-- the code bytes from CS:EIP on: 15 of them, or those before the first that can't be fetched
abbrev pub code : World → List ℕ
code w = code_from w 0 code_room

-- the machine with EIP past an instruction of `len` bytes
abbrev pub view_with_next_eip : ℕ → MachineView → MachineView
view_with_next_eip len v = record v { world = with_next_eip len v.world }

-- what an instruction of `len` bytes does
unfoldable pub client_row : World → Insn → ℕ → Act
client_row w insn len =
    if is_core insn.op insn.first insn.second then core_row insn.op w insn len else flow_row insn.op w insn len

-- the machine after it, or its event
unfoldable pub after_instruction : MachineView → Insn → ℕ → Result MachineView Event
after_instruction v insn len = after_plan (view_with_next_eip len v)
    (plan_result (view_with_next_eip len v).world (client_row (view_with_next_eip len v).world insn len))

-- ---- what the grammar says

-- this is what the client's next instruction comes to
pub record IsStep (v : MachineView) (outcome : Result MachineView Event) : Type 0 where
  -- the first of the code bytes encode an instruction: what it does
  pub whole : (insn : Insn) (front rest : List ℕ) → code v.world ≡ front ++ rest → Encoding (has_big_code v.world) insn front →
      outcome ≡ after_instruction v insn (length front)
  -- they encode none, and are the first bytes of none
  pub invalid : ¬ HasEncoding (has_big_code v.world) (code v.world) → ¬ BeginsEncoding (has_big_code v.world) (code v.world) →
      outcome ≡ Err (fault (fault_with INVALID_OPCODE 0))
  -- they encode none, and are the first bytes of one which is too long
  pub too_long : ¬ HasEncoding (has_big_code v.world) (code v.world) → BeginsEncoding (has_big_code v.world) (code v.world) →
      length (code v.world) ≡ code_room → outcome ≡ Err (fault (fault_with GENERAL_PROTECTION 0))
  -- they encode none, and are the first bytes of one whose next byte can't be fetched
  pub cut_off : ¬ HasEncoding (has_big_code v.world) (code v.world) → BeginsEncoding (has_big_code v.world) (code v.world) →
      length (code v.world) < code_room → (f : Fault) → code_byte v.world (length (code v.world)) ≡ Err f → outcome ≡ Err (fault f)

-- ---- what reading gives

-- the fault where the code bytes are only the first ones of an instruction; a next byte that can be fetched is one too many
abbrev pub next_fault : Result ℕ Fault → Fault
next_fault (Ok byte) = fault_with GENERAL_PROTECTION 0
next_fault (Err f) = f

abbrev pub incomplete_fault : World → List ℕ → Fault
incomplete_fault w bytes =
    if nat_eq (length bytes) code_room then fault_with GENERAL_PROTECTION 0 else next_fault (code_byte w (length bytes))

abbrev pub step_of : MachineView → Decoded → Result MachineView Event
step_of v (Whole insn len) = after_instruction v insn len
step_of v Invalid = Err (fault (fault_with INVALID_OPCODE 0))
step_of v More = Err (fault (incomplete_fault v.world (code v.world)))

-- the machine after the client's next instruction, or its event
unfoldable pub client_step : MachineView → Result MachineView Event
client_step v = step_of v (decoded (has_big_code v.world) (code v.world))
