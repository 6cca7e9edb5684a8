-- The return from an exception through the host's trap: the handler has popped its return address, and the rest of the frame is popped.
-- Source: DPMI 0.9, "Exceptions"; which exit each refusal is, is own.
use Rattle.std.specs.{Prelude.{ℕ, Bool, true, false, [], if◌then◌else◌, Ok, Err, Some, None}, declared.option.Option.{Option}}
use Rattle.std.specs.declared.result.Result.{Result}
use Rattle.client_world.specs.{declared.calls.Record.{Record}, declared.calls.Record.TheVariants.{Sim, Back, Exc}}
use Rattle.client_world.specs.{declared.faults.Event.{Event}, declared.outcome.Exit.{Exit}, declared.registers.Regs.{Regs}}
use Rattle.client_world.specs.{declared.registers.TheConstants.{INTERRUPT_BIT}, declared.segments.SegReg.TheVariants.{Cs, Ss}}
use Rattle.client_world.specs.{Loading.{load_fault}, Registers.{flags_of_image, has_bit, low_half}, World.{World}}
use Rattle.exec_flow.specs.Interrupts.{frame_bits}
use Rattle.host_memory.specs.View.{MachineView}
use Rattle.insn_plan.specs.{Act.{Act, ◌>>=◌, Pending, done, unless_fault}, Plan.{plan_result, after_plan}, Stack.{stack_item}}
use Rattle.mode_stack.specs.Stack.{after_pop, top}
use Rattle.client_world.specs.declared.outcome.Exit.TheVariants as exits

-- the registers with those of a frame
abbrev pub frame_regs : Regs → ℕ → ℕ → ℕ → ℕ → ℕ → Regs
frame_regs r ip cs image sp ss = record r { eip = ip; cs = cs; flags = flags_of_image image; esp = sp; ss = ss }

-- what the frame of an exception leaves when it is popped, by what its items hold; the virtual interrupt flag is IF of the flags image
abbrev pub pending_of_exception_frame : World → ℕ → ℕ → ℕ → ℕ → ℕ → Pending
pending_of_exception_frame w ip cs image sp ss =
    record { regs = frame_regs w.regs ip cs image sp ss; vif = has_bit image INTERRUPT_BIT; writes = [] }

-- the frame popped, in items of that many bits, above the return address: the error code, which counts for nothing, EIP, CS, the flags
-- image, ESP and SS. CS and EIP must be such as a return may load, and SS one that may be loaded; the high halves of items of 16 bits are 0
unfoldable pub exception_frame_pop : World → ℕ → Act
exception_frame_pop w bits = do
  code ← stack_item w bits 0
  ip ← stack_item w bits 1
  cs ← stack_item w bits 2
  image ← stack_item w bits 3
  sp ← stack_item w bits 4
  ss ← stack_item w bits 5
  unless_fault (load_fault w.descriptors Cs (low_half cs) ip true)
      (unless_fault (load_fault w.descriptors Ss (low_half ss) 0 false)
      (done (pending_of_exception_frame w ip (low_half cs) (low_half image) sp (low_half ss))))

-- a record is an exception's
abbrev pub is_exception : Option Record → Bool
is_exception None = false
is_exception (Some (Sim call saved vif at)) = false
is_exception (Some (Back slot at)) = false
is_exception (Some (Exc number code)) = true

-- the machine without its innermost record, where the frame could be popped
abbrev pub result_of_exception_pop : Result MachineView Event → Result MachineView Exit
result_of_exception_pop (Ok v) = Ok (after_pop v)
result_of_exception_pop (Err e) = Err exits.BadFrame

-- the machine after the return from the innermost exception, or the exit: first that the innermost record is no exception's, then that the
-- frame can't be popped
unfoldable pub exception_return : MachineView → Result MachineView Exit
exception_return v =
    if is_exception (top v.world)
    then result_of_exception_pop (after_plan v (plan_result v.world (exception_frame_pop v.world (frame_bits v.world))))
    else Err exits.Stray

-- the exit of a default exception handler: the innermost record's exception, which nothing serves
abbrev pub exit_of_record : Option Record → Exit
exit_of_record None = exits.Stray
exit_of_record (Some (Sim call saved vif at)) = exits.Stray
exit_of_record (Some (Back slot at)) = exits.Stray
exit_of_record (Some (Exc number code)) = exits.Fault number code
