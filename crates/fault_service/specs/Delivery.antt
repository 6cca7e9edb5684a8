-- Exceptions in protected mode: the frame on the host's protected-mode stack of the depth, and the handler.
-- Source: DPMI 0.9, "Exceptions"; where the frame lies, and that an exception whose handler can't be loaded ends the client, is own.
use Rattle.std.specs.Prelude.{ℕ, ◌-◌, ◌*◌, false, List, [], ◌∷◌, ◌++◌, nat_le, if◌then◌else◌, Ok, Err, Some, None}
use Rattle.std.specs.declared.result.Result.{Result}
use Rattle.client_world.specs.{declared.calls.Record.TheVariants.{Exc}, declared.faults.Fault.{Fault}}
use Rattle.client_world.specs.{declared.limits.TheConstants.{GREATEST_DEPTH}, declared.memory_map.TheConstants.{ROM_START}}
use Rattle.client_world.specs.{declared.outcome.Exit.{Exit}, declared.registers.Regs.{Regs}, declared.segments.FarPtr.{FarPtr}}
use Rattle.client_world.specs.{declared.segments.SegReg.TheVariants.{Cs}, declared.selectors.TheConstants.{HOST_CODE, HOST_STACKS}}
use Rattle.client_world.specs.{declared.traps.TheConstants.{EXCEPTION_RETURN_TRAP}, Loading.{load_fault}, Registers.{flags_image}}
use Rattle.client_world.specs.{Selector.{selector_of}, World.{World, depth}}
use Rattle.exec_flow.specs.{FarTransfers.{code_selector}, Interrupts.{frame_bits}}
use Rattle.interrupts.specs.Delivery.{exit_of_fault}
use Rattle.guest_space.specs.{Far.{after_far_write}, Pending.{byte_count, number_bytes}, VectorLists.{vector_at}}
use Rattle.host_memory.specs.View.{MachineView}
use Rattle.insn_plan.specs.Plan.{with_state}
use Rattle.mode_stack.specs.{Frames.{frame_address}, Stack.{after_push}}
use Rattle.client_world.specs.declared.outcome.Exit.TheVariants as exits

-- the items of the frame, from the stack pointer up: the return address of the handler, the error code, and the client's EIP, CS, flags
-- image with the virtual interrupt flag, ESP and SS
unfoldable pub exception_items : World → Fault → List ℕ
exception_items w f =
    (EXCEPTION_RETURN_TRAP - ROM_START) ∷ selector_of HOST_CODE ∷ f.code
    ∷ w.regs.eip ∷ w.regs.cs ∷ flags_image w.regs.flags w.vif ∷ w.regs.esp ∷ w.regs.ss ∷ []

-- items of that many bits, one after the other; each is cut to its width
abbrev pub items_bytes : ℕ → List ℕ → List ℕ
items_bytes bits [] = []
items_bytes bits (item ∷ items) = number_bytes bits item ++ items_bytes bits items

-- the bytes of the frame: the items are words for a 16-bit client, and doublewords for a 32-bit client
unfoldable pub exception_frame : World → Fault → List ℕ
exception_frame w f = items_bytes (frame_bits w) (exception_items w f)

abbrev pub exception_frame_size : World → ℕ
exception_frame_size w = 8 * byte_count (frame_bits w)

-- where it lies
abbrev pub exception_frame_start : World → FarPtr
exception_frame_start w = frame_address w (exception_frame_size w)

-- the registers at the handler: it runs on the host's stack, with the frame at the stack's top
abbrev pub handler_regs : World → FarPtr → Regs
handler_regs w p =
    record w.regs { cs = code_selector w p.sel; eip = p.off; ss = selector_of HOST_STACKS; esp = (exception_frame_start w).off }

-- the machine at the handler: the frame is written, the exception is the innermost record, and virtual interrupts are off
unfoldable pub after_delivery : MachineView → Fault → FarPtr → MachineView
after_delivery v f p = with_state (handler_regs v.world p) false
    (after_push (after_far_write v (exception_frame_start v.world) (exception_frame_size v.world) (exception_frame v.world f))
    (Exc f.number f.code))

-- the delivery to a handler: where its address can't be loaded into CS, the exception ends the client
abbrev pub delivery_to : MachineView → Fault → FarPtr → Result MachineView Exit
delivery_to v f p = elim (load_fault v.world.descriptors Cs p.sel p.off false) [
  | Some g ↦ Err (exit_of_fault f)
  | None ↦ Ok (after_delivery v f p)
]

-- the machine after an exception of protected mode, or the exit: first that calls are nested too deeply, then that the handler can't be
-- loaded
unfoldable pub protected_delivery : MachineView → Fault → Result MachineView Exit
protected_delivery v f =
    if nat_le GREATEST_DEPTH (depth v.world) then Err exits.Deep else delivery_to v f (vector_at v.world.exception_vectors f.number)
