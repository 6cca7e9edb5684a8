-- Software interrupts, exceptions in real mode, and the return from an interrupt at a trap.
-- Source: 80386 Programmer's Reference Manual, ch. 17, INT/INTO and IRET, and ch. 9; DPMI 0.9, "Interrupts"; which exceptions the vectors
-- of real mode serve, and that all others end the client, is own.
use Rattle.std.specs.{Prelude.{ℕ, Bool, false, ◌||◌, nat_eq, if◌then◌else◌, Ok, Err, Some, None}, declared.option.Option.{Option}}
use Rattle.std.specs.declared.result.Result.{Result}
use Rattle.client_world.specs.{declared.faults.Event.{Event}, declared.faults.Fault.{Fault}, declared.faults.TheConstants.{DIVIDE_ERROR}}
use Rattle.client_world.specs.declared.faults.TheConstants.{BOUNDS_CHECK, INVALID_OPCODE, COPROCESSOR_NOT_AVAILABLE}
use Rattle.client_world.specs.{declared.outcome.Exit.{Exit}, declared.registers.Mode.TheVariants.{Real, Protected}}
use Rattle.client_world.specs.{declared.segments.FarPtr.{FarPtr}, Loading.{transfer_fault}, World.{World}}
use Rattle.cpu_step.specs.Step.{view_with_next_eip}
use Rattle.exec_flow.specs.{FarTransfers.{code_selector, interrupt_frame_pop}, Interrupts.{frame_bits, interrupt_push}}
use Rattle.guest_space.specs.{Dos.{real_vector}, Pending.{first_write_fault, after_writes}, VectorLists.{vector_at}}
use Rattle.host_memory.specs.View.{MachineView}
use Rattle.insn_plan.specs.Plan.{plan_result, after_plan, with_state}
use Rattle.client_world.specs.declared.outcome.Exit.TheVariants as exits

-- ---- software interrupts

-- the vector of the mode; each number below 256 has one in protected mode
abbrev pub interrupt_vector : World → ℕ → FarPtr
interrupt_vector w n = elim w.mode [
  | Real ↦ real_vector w n
  | Protected ↦ vector_at w.interrupt_vectors n
]

-- the fault of loading the handler's address into CS
abbrev pub vector_fault : World → ℕ → Option Fault
vector_fault w n = transfer_fault w (interrupt_vector w n).sel (interrupt_vector w n).off false

-- the same before the pushes: in real mode they may change the vector, but every vector can be loaded; in protected mode they leave it
abbrev pub handler_fault : World → ℕ → Option Fault
handler_fault w n = elim w.mode [ Real ↦ None | Protected ↦ vector_fault w n ]

-- virtual interrupts while the handler runs: in real mode off, in protected mode as before
abbrev pub handler_interrupts : World → Bool
handler_interrupts w = elim w.mode [ Real ↦ false | Protected ↦ w.vif ]

-- the machine at a handler, or the fault of loading its address into CS
abbrev pub after_handler_entry : MachineView → FarPtr → Result MachineView Fault
after_handler_entry v p = elim (transfer_fault v.world p.sel p.off false) [
  | Some f ↦ Err f
  | None ↦ Ok (with_state (record v.world.regs { cs = code_selector v.world p.sel; eip = p.off }) (handler_interrupts v.world) v)
]

-- the machine with what the interrupt pushes
abbrev pub after_frame_push : MachineView → MachineView
after_frame_push v =
    with_state (interrupt_push v.world).regs (interrupt_push v.world).vif (after_writes v (interrupt_push v.world).writes)

-- the interrupt n of a machine whose instruction pointer is the one to push; the vector is read as the pushes left it
abbrev pub after_interrupt_entry : MachineView → ℕ → Result MachineView Fault
after_interrupt_entry v n = elim (first_write_fault v.world (interrupt_push v.world).writes) [
  | Some f ↦ Err f
  | None ↦ after_handler_entry (after_frame_push v) (interrupt_vector (after_frame_push v).world n)
]

-- the machine after the software interrupt n, whose instruction has `len` bytes; or its fault, with nothing changed
unfoldable pub software_interrupt : MachineView → ℕ → ℕ → Result MachineView Fault
software_interrupt v n len = after_interrupt_entry (view_with_next_eip len v) n

-- ---- exceptions in real mode

-- the exceptions that real vectors serve
abbrev pub has_real_vector : ℕ → Bool
has_real_vector number =
    nat_eq number DIVIDE_ERROR || nat_eq number BOUNDS_CHECK || nat_eq number INVALID_OPCODE
    || nat_eq number COPROCESSOR_NOT_AVAILABLE

-- an exception that nothing serves
abbrev pub exit_of_fault : Fault → Exit
exit_of_fault f = exits.Fault f.number f.code

-- the interrupt that an exception is, with the instruction pointer of its instruction; where that faults the exception ends the client
abbrev pub interrupt_of : Fault → Result MachineView Fault → Result MachineView Exit
interrupt_of f (Ok v) = Ok v
interrupt_of f (Err g) = Err (exit_of_fault f)

-- the machine after an exception of real mode, or the exit
unfoldable pub real_delivery : MachineView → Fault → Result MachineView Exit
real_delivery v f =
    if has_real_vector f.number then interrupt_of f (software_interrupt v f.number 0) else Err (exit_of_fault f)

-- ---- the return at a trap

abbrev pub result_of_pop : Result MachineView Event → Result MachineView Exit
result_of_pop (Ok v) = Ok v
result_of_pop (Err e) = Err exits.BadFrame

-- the machine after the frame at the stack's top is popped; one that can't be popped ends the client
unfoldable pub after_iret : MachineView → Result MachineView Exit
after_iret v = result_of_pop (after_plan v (plan_result v.world (interrupt_frame_pop v.world (frame_bits v.world))))
