-- The trap bytes: bytes of read-only memory that the host serves instead of running them. They are known by the mode and by the linear
-- address of CS:EIP, where a fetch there is allowed. Source: own.
use Rattle.std.specs.Prelude.{ℕ, ◌+◌, ◌-◌, Bool, true, false, ◌&&◌, nat_le, nat_lt, nat_eq, if◌then◌else◌, None, Some, Ok, Err}
use Rattle.std.specs.declared.option.Option.{Option}
use Rattle.client_world.specs.declared.limits.TheConstants.{CALLBACKS, INTERRUPT_VECTORS, EXCEPTION_VECTORS}
use Rattle.client_world.specs.{declared.registers.Mode.{Mode}, declared.registers.Mode.TheVariants.{Real, Protected}}
use Rattle.client_world.specs.declared.traps.TheConstants.{REAL_VECTOR_TRAPS, ENTRY_TRAP, SWITCH_TO_PROTECTED_TRAP, REAL_STATE_TRAP}
use Rattle.client_world.specs.declared.traps.TheConstants.{CALL_RETURN_TRAP, CALLBACK_TRAPS, PROTECTED_VECTOR_TRAPS, EXCEPTION_TRAPS}
use Rattle.client_world.specs.declared.traps.TheConstants.{SWITCH_TO_REAL_TRAP, PROTECTED_STATE_TRAP, EXCEPTION_RETURN_TRAP}
use Rattle.client_world.specs.{declared.traps.TheConstants.{CALLBACK_RETURN_TRAP}, Access.{linear, linear_address}, World.{World}}
use Rattle.guest_space.specs.{Code.{code_byte}, SegmentRows.{first_byte}}
use Rattle.host_run.specs.{declared.traps.Trap.{Trap}, declared.traps.Trap.TheVariants.{RealVector, Entry, ToProtected, RealState}}
use Rattle.host_run.specs.declared.traps.Trap.TheVariants.{CallReturn, Callback, ProtectedVector, ExceptionHandler, ToReal, ProtectedState}
use Rattle.host_run.specs.declared.traps.Trap.TheVariants.{ExceptionReturn, CallbackReturn, NoTrap}

-- an address is one of the n from another on
abbrev pub is_among : ℕ → ℕ → ℕ → Bool
is_among from n at = nat_le from at && nat_lt at (from + n)

-- there is a trap: the host serves it in place of an instruction
abbrev pub is_trap : Trap → Bool
is_trap NoTrap = false
is_trap _ = true

-- the traps of real mode
unfoldable pub real_trap_at : ℕ → Trap
real_trap_at at =
    if is_among REAL_VECTOR_TRAPS INTERRUPT_VECTORS at then RealVector (at - REAL_VECTOR_TRAPS) else
    if nat_eq at ENTRY_TRAP then Entry else
    if nat_eq at SWITCH_TO_PROTECTED_TRAP then ToProtected else
    if nat_eq at REAL_STATE_TRAP then RealState else
    if nat_eq at CALL_RETURN_TRAP then CallReturn else
    if is_among CALLBACK_TRAPS CALLBACKS at then Callback (at - CALLBACK_TRAPS) else
    NoTrap

-- those of protected mode
unfoldable pub protected_trap_at : ℕ → Trap
protected_trap_at at =
    if is_among PROTECTED_VECTOR_TRAPS INTERRUPT_VECTORS at then ProtectedVector (at - PROTECTED_VECTOR_TRAPS) else
    if is_among EXCEPTION_TRAPS EXCEPTION_VECTORS at then ExceptionHandler (at - EXCEPTION_TRAPS) else
    if nat_eq at SWITCH_TO_REAL_TRAP then ToReal else
    if nat_eq at PROTECTED_STATE_TRAP then ProtectedState else
    if nat_eq at EXCEPTION_RETURN_TRAP then ExceptionReturn else
    if nat_eq at CALLBACK_RETURN_TRAP then CallbackReturn else
    NoTrap

abbrev pub trap_at : Mode → ℕ → Trap
trap_at Real at = real_trap_at at
trap_at Protected at = protected_trap_at at

-- the linear address of CS:EIP, by the mode: in protected mode it counts modulo 2^32
abbrev pub address_in : Mode → World → ℕ
address_in Real w = linear_address w.regs.cs w.regs.eip
address_in Protected w = linear (first_byte Protected w.descriptors w.regs.cs + w.regs.eip)

abbrev pub code_address : World → ℕ
code_address w = address_in w.mode w

-- that address where one byte may be fetched there
unfoldable pub code_linear : World → Option ℕ
code_linear w = elim (code_byte w 0) [ Ok byte ↦ Some (code_address w) | Err f ↦ None ]

abbrev pub trap_where : Mode → Option ℕ → Trap
trap_where mode None = NoTrap
trap_where mode (Some at) = trap_at mode at

-- the trap byte of the mode at CS:EIP
unfoldable pub current_trap : World → Trap
current_trap w = trap_where w.mode (code_linear w)
