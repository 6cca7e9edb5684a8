-- One turn: it serves a trap byte, or runs one client instruction with its software interrupt, or delivers its exception. Source: own.
use Rattle.std.specs.Prelude.{ℕ, ◌+◌, Bool, [], ◌∷◌, ◌++◌, length, ◌&&◌, ◌||◌, nat_eq, nat_lt, if◌then◌else◌, None, Some, Ok, Err}
use Rattle.std.specs.{declared.option.Option.{Option}, declared.result.Result.{Result}}
use Rattle.client_world.specs.{declared.calls.Call.{Call}, declared.calls.Call.TheVariants.{Int, Far, Iret, Reflect}}
use Rattle.client_world.specs.{declared.calls.Record.{Record}, declared.calls.Record.TheVariants.{Sim, Back, Exc}}
use Rattle.client_world.specs.{declared.calls.What.{What}, declared.faults.Event.{Event}, declared.faults.Fault.{Fault}}
use Rattle.client_world.specs.declared.faults.TheConstants.{DIVIDE_ERROR, INVALID_OPCODE, COPROCESSOR_NOT_AVAILABLE}
use Rattle.client_world.specs.{declared.outcome.Exit.{Exit}, declared.registers.Mode.{Mode}, declared.registers.Mode.TheVariants.{Real}}
use Rattle.client_world.specs.{declared.registers.Mode.TheVariants.{Protected}, declared.services.Carry.{Carry}}
use Rattle.client_world.specs.{declared.services.Carry.TheVariants.{Clear, Set}, declared.trace.TraceLine.{TraceLine}}
use Rattle.client_world.specs.{Registers.{high_byte, low_byte, low_half, with_low_half}, Services.{Served, is_set}, World.{World}}
use Rattle.client_world.specs.World.{HostWorld, depth}
use Rattle.callbacks.specs.Callbacks.{enter_callback, leave_callback}
use Rattle.dos_calls.specs.{Calls.{CallState, CallResult, dos_call}, Multiplex.{multiplex_call}}
use Rattle.interrupts.specs.Worlds.{world_step, world_interrupt, world_delivery, world_after_iret}
use Rattle.mode_gates.specs.{Entry.{asked_width, entry}, FarFrames.{world_after_far_return}, Switches.{world_after_switch_to_protected}}
use Rattle.mode_gates.specs.Switches.{world_after_switch_to_real}
use Rattle.mode_stack.specs.Stack.{top}
use Rattle.service_rows.specs.Rows.{with_carry}
use Rattle.fault_service.specs.{Return.{exit_of_record}, Worlds.{world_exception_return, world_protected_delivery}}
use Rattle.translation.specs.SimulatedCall.{begin_call, end_call, reflect}
use Rattle.host_run.specs.{declared.traps.Trap.{Trap}, declared.traps.Trap.TheVariants.{RealVector, Entry, ToProtected, RealState}}
use Rattle.host_run.specs.declared.traps.Trap.TheVariants.{CallReturn, Callback, ProtectedVector, ExceptionHandler, ToReal, ProtectedState}
use Rattle.host_run.specs.declared.traps.Trap.TheVariants.{ExceptionReturn, CallbackReturn, NoTrap}
use Rattle.host_run.specs.declared.vectors.TheConstants.{DOS_INTERRUPT, DPMI_INTERRUPT, MULTIPLEX_INTERRUPT, TERMINATE_INTERRUPT}
use Rattle.host_run.specs.{Families.{service}, Traps.{current_trap}}
use Rattle.client_world.specs.declared.calls.What.TheVariants as whats
use Rattle.client_world.specs.declared.faults.Event.TheVariants as events
use Rattle.client_world.specs.declared.outcome.Exit.TheVariants as exits
use Rattle.client_world.specs.declared.services.DosDone.TheVariants as done
use Rattle.client_world.specs.declared.trace.TraceLine.TheVariants as lines

-- what a turn does: the host after it, and the exit that ends the run, if there is one
pub record Outcome : Type 0 where
  pub host : HostWorld
  pub exit : Option Exit

abbrev pub goes_on : HostWorld → Outcome
goes_on h = record { host = h; exit = None }

abbrev pub ends : HostWorld → Exit → Outcome
ends h exit = record { host = h; exit = Some exit }

-- the host with another machine, or the exit
abbrev pub with_machine : HostWorld → Result World Exit → Outcome
with_machine h (Ok machine) = goes_on (record h { machine = machine })
with_machine h (Err exit) = ends h exit

-- one more line of the trace: it is kept where there is room, and counted
abbrev pub with_trace_line : TraceLine → HostWorld → HostWorld
with_trace_line line h = record h {
  kept = if nat_lt (length h.kept) h.keep then h.kept ++ line ∷ [] else h.kept;
  lines = h.lines + 1;
}

-- the run goes on with another machine, and one more line of the trace
abbrev pub goes_on_with : HostWorld → TraceLine → World → Outcome
goes_on_with h line w = goes_on (record (with_trace_line line h) { machine = w })

-- ---- the default vectors of real mode

-- the interrupt's frame popped
abbrev pub after_frame_pop : HostWorld → Outcome
after_frame_pop h = with_machine h (world_after_iret h.machine)

-- what a DOS call sees, and the host after it; a call that ends the client leaves the machine
abbrev pub dos_call_state : HostWorld → CallState
dos_call_state h = record { world = h.machine; keys = h.keys; console = h.console }

abbrev pub after_call : HostWorld → CallResult → Outcome
after_call h r = elim r.done [
  | done.Served ↦ after_frame_pop (record h { machine = r.world; keys = r.keys; console = r.console })
  | done.Ended exit ↦ ends (record h { keys = r.keys; console = r.console }) exit
]

-- INT 21h: a DOS call
abbrev pub after_dos_call : HostWorld → Outcome
after_dos_call h = after_call (with_trace_line (lines.Int21 (high_byte h.machine.regs.eax)) h) (dos_call (dos_call_state h))

-- INT 2Fh
abbrev pub after_multiplex_call : HostWorld → Outcome
after_multiplex_call h =
    after_frame_pop (record (with_trace_line (lines.Int2f (low_half h.machine.regs.eax)) h) { machine = multiplex_call h.machine })

-- the exceptions whose default vectors end the client
abbrev pub ends_client : ℕ → Bool
ends_client n = nat_eq n DIVIDE_ERROR || nat_eq n INVALID_OPCODE || nat_eq n COPROCESSOR_NOT_AVAILABLE

-- the default vector n: INT 20h ends the client, INT 21h and 2Fh serve, three exceptions end it, and all others do nothing
unfoldable pub after_default_vector : HostWorld → ℕ → Outcome
after_default_vector h n =
    if ends_client n then ends h (exits.Fault n 0) else
    if nat_eq n TERMINATE_INTERRUPT then ends (with_trace_line lines.Int20 h) (exits.Exited 0) else
    if nat_eq n DOS_INTERRUPT then after_dos_call h else
    if nat_eq n MULTIPLEX_INTERRUPT then after_multiplex_call h else
    after_frame_pop h

-- it is asked first whether the frame can be popped
abbrev pub after_real_vector : HostWorld → ℕ → Outcome
after_real_vector h n = elim (world_after_iret h.machine) [ Ok w ↦ after_default_vector h n | Err exit ↦ ends h exit ]

-- ---- the entry to protected mode

-- the trace line of a call of the entry, by the carry that it returns and the world after it
abbrev pub entry_line : Carry → World → TraceLine
entry_line Clear w = lines.Entry (asked_width w)
entry_line Set w = lines.EntryRefused

abbrev pub after_entry : HostWorld → Result Served Exit → Outcome
after_entry h (Ok s) = goes_on (record (with_trace_line (entry_line s.carry s.world) h) { machine = s.world })
after_entry h (Err exit) = ends h exit

unfoldable pub after_entry_trap : HostWorld → Outcome
after_entry_trap h = after_entry h (entry h.machine)

-- ---- the raw switches

abbrev pub after_switch_to_protected : HostWorld → Result World Exit → Outcome
after_switch_to_protected h (Ok w) = goes_on_with h lines.ToProtected w
after_switch_to_protected h (Err exit) = ends h exit

-- ---- calls of real mode

-- the line of the trace of a call that starts: the depth before it, and the registers with which its procedure starts
abbrev pub call_enter_line : World → Call → World → TraceLine
call_enter_line w call v = lines.Enter (depth w) (whats.Call call) v.regs v.vif

-- the line of a call that returns: the depth after it, and the registers that its procedure left
abbrev pub call_leave_line : World → Call → World → TraceLine
call_leave_line w call v = lines.Leave (depth v) (whats.Call call) w.regs w.vif

-- the call of a record; every other record names no call
abbrev pub call_of_record : Option Record → Call
call_of_record None = Far
call_of_record (Some (Sim call saved vif at)) = call
call_of_record (Some (Back slot at)) = Far
call_of_record (Some (Exc number code)) = Far

abbrev pub after_call_return : HostWorld → Result World Exit → Outcome
after_call_return h (Ok w) = goes_on_with h (call_leave_line h.machine (call_of_record (top h.machine)) w) w
after_call_return h (Err exit) = ends h exit

-- ---- the default vectors of protected mode

-- the call of real mode that a function of INT 31h asks for: 0300h the interrupt BL, 0301h a procedure with a far return, 0302h one with
-- IRET
abbrev pub asked_call : ℕ → World → Option Call
asked_call ax w =
    if nat_eq ax 0x0300 then Some (Int (low_byte w.regs.ebx)) else
    if nat_eq ax 0x0301 then Some Far else
    if nat_eq ax 0x0302 then Some Iret else
    None

-- INT 21h function 4Ch: the client ends itself with the code in AL
abbrev pub after_exit_call : HostWorld → Outcome
after_exit_call h = ends (with_trace_line (lines.Int21 (high_byte h.machine.regs.eax)) h) (exits.Exited (low_byte h.machine.regs.eax))

-- INT 2Fh AX = 1686h: AX becomes 0, since the client runs in protected mode
abbrev pub after_presence_call : HostWorld → World → Outcome
after_presence_call h w =
    goes_on_with h (lines.Int2f (low_half w.regs.eax)) (record w { regs = record w.regs { eax = with_low_half w.regs.eax 0 } })

-- a function of INT 31h: the carry goes into the flags that were popped
abbrev pub after_service : HostWorld → ℕ → Served → Outcome
after_service h ax s =
    goes_on_with h (lines.Int31 ax s.carry) (record s.world { regs = with_carry (is_set s.carry) s.world.regs })

-- a call that the client asks for, of a host; w is the machine after its frame is popped. It starts, after a line of its own; or the carry
-- is set
abbrev pub after_begin : HostWorld → ℕ → World → Call → Served → Outcome
after_begin h ax w call s =
    if is_set s.carry then after_service h ax s
    else goes_on_with (with_trace_line (lines.Int31 ax Clear) h) (call_enter_line w call s.world) s.world

abbrev pub after_int31 : HostWorld → World → Outcome
after_int31 h w = elim (asked_call (low_half w.regs.eax) w) [
  | Some call ↦ after_begin h (low_half w.regs.eax) w call (begin_call w call)
  | None ↦ after_service h (low_half w.regs.eax) (service (low_half w.regs.eax) w)
]

-- every other interrupt is reflected to real mode
abbrev pub after_reflected_interrupt : HostWorld → ℕ → World → Result World Exit → Outcome
after_reflected_interrupt h n w (Ok v) = goes_on_with h (call_enter_line w (Reflect n) v) v
after_reflected_interrupt h n w (Err exit) = ends h exit

-- INT 21h function 4Ch, and INT 2Fh AX = 1686h
abbrev pub is_exit_call : World → ℕ → Bool
is_exit_call w n = nat_eq n DOS_INTERRUPT && nat_eq (high_byte w.regs.eax) 0x4C

abbrev pub is_presence_call : World → ℕ → Bool
is_presence_call w n = nat_eq n MULTIPLEX_INTERRUPT && nat_eq (low_half w.regs.eax) 0x1686

-- the default vector n of a host; w is the machine after its frame is popped
unfoldable pub after_protected_call : HostWorld → ℕ → World → Outcome
after_protected_call h n w =
    if is_exit_call h.machine n then after_exit_call h else
    if is_presence_call h.machine n then after_presence_call h w else
    if nat_eq n DPMI_INTERRUPT then after_int31 h w else
    after_reflected_interrupt h n w (reflect w n)

-- the frame is popped first; an exit leaves the machine as it was before
abbrev pub after_protected_pop : HostWorld → ℕ → Result World Exit → Outcome
after_protected_pop h n (Ok w) = after_protected_call h n w
after_protected_pop h n (Err exit) = ends h exit

unfoldable pub after_protected_vector : HostWorld → ℕ → Outcome
after_protected_vector h n = after_protected_pop h n (world_after_iret h.machine)

-- ---- exceptions of protected mode, and callbacks

-- the line of the trace of an exception or a callback that starts: the depth, and the registers at the exception or of the real caller
abbrev pub enter_line : World → What → TraceLine
enter_line w what = lines.Enter (depth w) what w.regs w.vif

-- the line of one that has returned: the depth and the registers after it
abbrev pub leave_line : World → What → TraceLine
leave_line w what = lines.Leave (depth w) what w.regs w.vif

abbrev pub after_protected_delivery : HostWorld → ℕ → Result World Exit → Outcome
after_protected_delivery h number (Ok w) = goes_on_with h (enter_line h.machine (whats.Exc number)) w
after_protected_delivery h number (Err exit) = ends h exit

-- the number of a record's exception
abbrev pub exception_number : Option Record → ℕ
exception_number None = 0
exception_number (Some (Sim call saved vif at)) = 0
exception_number (Some (Back slot at)) = 0
exception_number (Some (Exc number code)) = number

abbrev pub after_exception_return : HostWorld → Result World Exit → Outcome
after_exception_return h (Ok w) = goes_on_with h (leave_line w (whats.Exc (exception_number (top h.machine)))) w
after_exception_return h (Err exit) = ends h exit

abbrev pub after_callback : HostWorld → ℕ → Result World Exit → Outcome
after_callback h slot (Ok w) = goes_on_with h (enter_line h.machine (whats.Back slot)) w
after_callback h slot (Err exit) = ends h exit

-- the slot of a record's callback
abbrev pub callback_slot : Option Record → ℕ
callback_slot None = 0
callback_slot (Some (Sim call saved vif at)) = 0
callback_slot (Some (Back slot at)) = slot
callback_slot (Some (Exc number code)) = 0

abbrev pub after_callback_return : HostWorld → Result World Exit → Outcome
after_callback_return h (Ok w) = goes_on_with h (leave_line w (whats.Back (callback_slot (top h.machine)))) w
after_callback_return h (Err exit) = ends h exit

-- ---- client instructions

-- an exception delivered
abbrev pub after_exception_in_mode : Mode → HostWorld → Fault → Outcome
after_exception_in_mode Real h f = with_machine h (world_delivery h.machine f)
after_exception_in_mode Protected h f = after_protected_delivery h f.number (world_protected_delivery h.machine f)

abbrev pub after_exception : HostWorld → Fault → Outcome
after_exception h f = after_exception_in_mode h.machine.mode h f

-- a software interrupt, or the exception that it raises
abbrev pub after_interrupt : HostWorld → Result World Fault → Outcome
after_interrupt h (Ok w) = goes_on (record h { machine = w })
after_interrupt h (Err f) = after_exception h f

-- what a client instruction comes to
abbrev pub after_step : HostWorld → Result World Event → Outcome
after_step h (Ok w) = goes_on (record h { machine = w })
after_step h (Err (events.Fault f)) = after_exception h f
after_step h (Err (events.Soft number len)) = after_interrupt h (world_interrupt h.machine number len)

-- the next instruction
unfoldable pub after_next_instruction : HostWorld → Outcome
after_next_instruction h = after_step h (world_step h.machine)

-- ---- turns

-- what a turn does at a trap, or where there is none
abbrev pub after_trap : HostWorld → Trap → Outcome
after_trap h (RealVector n) = after_real_vector h n
after_trap h Entry = after_entry_trap h
after_trap h ToProtected = after_switch_to_protected h (world_after_switch_to_protected h.machine)
after_trap h RealState = with_machine h (world_after_far_return h.machine)
after_trap h CallReturn = after_call_return h (end_call h.machine)
after_trap h (Callback slot) = after_callback h slot (enter_callback h.machine slot)
after_trap h (ProtectedVector n) = after_protected_vector h n
after_trap h (ExceptionHandler n) = ends h (exit_of_record (top h.machine))
after_trap h ToReal = goes_on_with h lines.ToReal (world_after_switch_to_real h.machine)
after_trap h ProtectedState = with_machine h (world_after_far_return h.machine)
after_trap h ExceptionReturn = after_exception_return h (world_exception_return h.machine)
after_trap h CallbackReturn = after_callback_return h (leave_callback h.machine)
after_trap h NoTrap = after_next_instruction h

unfoldable pub work : HostWorld → Outcome
work h = after_trap h (current_trap h.machine)

-- the turn is counted first
abbrev pub with_turn_counted : HostWorld → HostWorld
with_turn_counted h = record h { steps = h.steps + 1 }

-- the host after what a turn did
abbrev pub after_outcome : Outcome → HostWorld
after_outcome o = record o.host { exit = o.exit }

-- one turn; a world with an exit stays as it is
unfoldable pub turn : HostWorld → HostWorld
turn w = elim w.exit [ Some _ ↦ w | None ↦ after_outcome (work (with_turn_counted w)) ]
