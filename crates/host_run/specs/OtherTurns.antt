-- Turns that are made in place of the host's own: INT 31h that is served from outside, an exception and an interrupt that come from
-- outside. Each is counted as a turn. Source: own.
use Rattle.std.specs.Prelude.{◌≡◌, ℕ, ◌+◌, Bool, false, ◌&&◌, is_ok, nat_eq, if◌then◌else◌, None, Some, Ok, Err}
use Rattle.std.specs.{declared.option.Option.{Option}, declared.result.Result.{Result}}
use Rattle.client_world.specs.{declared.faults.Fault.{Fault}, declared.outcome.Exit.{Exit}, declared.registers.Mode.{Mode}}
use Rattle.client_world.specs.{declared.registers.Mode.TheVariants.{Real, Protected}, declared.registers.Regs.{Regs}}
use Rattle.client_world.specs.{declared.services.Carry.{Carry}, declared.traps.TheConstants.{PROTECTED_VECTOR_TRAPS}, Registers.{low_half}}
use Rattle.client_world.specs.{Services.{Served}, World.{World, HostWorld}}
use Rattle.interrupts.specs.Worlds.{world_interrupt, world_after_iret}
use Rattle.guest_space.specs.VectorLists.{vector_at}
use Rattle.host_memory.specs.Blank.{host_pointer}
use Rattle.host_run.specs.{Footprint.{Footprint, interrupt_footprint, unsaid}, declared.traps.Trap.{Trap}}
use Rattle.host_run.specs.{declared.traps.Trap.TheVariants.{ProtectedVector}, declared.vectors.TheConstants.{DPMI_INTERRUPT}}
use Rattle.host_run.specs.{Traps.{current_trap}, Turn.{Outcome, after_interrupt, after_reflected_interrupt, after_service, after_exception}}
use Rattle.host_run.specs.Turn.{ends, after_outcome, with_turn_counted}
use Rattle.translation.specs.SimulatedCall.{reflect}

-- the second host is one turn later, with the same keystrokes and the same console
abbrev pub IsOneQuietTurn : HostWorld → HostWorld → Type 0
IsOneQuietTurn w v = (v.keys ≡ w.keys) × (v.console ≡ w.console) × (v.steps ≡ w.steps + 1)

-- ---- INT 31h, served from outside

-- the trap byte of INT 31h
abbrev pub is_int31 : Trap → Bool
is_int31 (ProtectedVector n) = nat_eq n DPMI_INTERRUPT
is_int31 _ = false

-- AX of the call of INT 31h at whose trap byte the machine is, where its frame can be popped
abbrev pub int31_at : World → Option ℕ
int31_at w = if is_int31 (current_trap w) && is_ok (world_after_iret w) then Some (low_half w.regs.eax) else None

-- AX of the call of INT 31h that the next turn would serve
unfoldable pub int31_call : HostWorld → Option ℕ
int31_call h = elim h.exit [ Some _ ↦ None | None ↦ int31_at h.machine ]

-- a service that answers in EAX, EBX and the carry; w is the machine after the frame is popped
abbrev pub with_answer : World → Regs → Carry → Served
with_answer w r carry = record { carry = carry; world = record w { regs = record w.regs { eax = r.eax; ebx = r.ebx } } }

-- the line of the trace has the AX of the call
abbrev pub after_answer : HostWorld → Regs → Carry → Result World Exit → Outcome
after_answer h r carry (Ok w) = after_service h (low_half h.machine.regs.eax) (with_answer w r carry)
after_answer h r carry (Err exit) = ends h exit

-- the host after such a turn
unfoldable pub int31_turn : HostWorld → Regs → Carry → HostWorld
int31_turn h r carry = after_outcome (after_answer (with_turn_counted h) r carry (world_after_iret h.machine))

-- ---- an exception from outside

unfoldable pub exception_turn : HostWorld → Fault → HostWorld
exception_turn h f = after_outcome (after_exception (with_turn_counted h) f)

-- ---- an interrupt from outside

-- the client has set no handler of its own: the vector of protected mode still leads to the host
abbrev pub is_hosts_vector : World → ℕ → Bool
is_hosts_vector w n =
    let p = vector_at w.interrupt_vectors n in
    let own = host_pointer (PROTECTED_VECTOR_TRAPS + n) in
    nat_eq p.sel own.sel && nat_eq p.off own.off

-- the client's own handler starts with virtual interrupts off
abbrev pub with_interrupts_off : Result World Fault → Result World Fault
with_interrupts_off (Ok w) = Ok (record w { vif = false })
with_interrupts_off (Err f) = Err f

-- in real mode and to the client's own handler it pushes the address of the present instruction; else it is reflected, with the present
-- registers
abbrev pub after_interrupt_in_mode : Mode → HostWorld → ℕ → Outcome
after_interrupt_in_mode Real h n = after_interrupt h (world_interrupt h.machine n 0)
after_interrupt_in_mode Protected h n =
    if is_hosts_vector h.machine n then after_reflected_interrupt h n h.machine (reflect h.machine n)
    else after_interrupt h (with_interrupts_off (world_interrupt h.machine n 0))

-- the bytes of the memory that it may change: those that it pushes, or of the exception that a push or the load raises. Where it is
-- reflected nothing is said
abbrev pub footprint_in_mode : Mode → World → ℕ → Footprint
footprint_in_mode Real w n = interrupt_footprint w 0 (world_interrupt w n 0)
footprint_in_mode Protected w n = if is_hosts_vector w n then unsaid else interrupt_footprint w 0 (world_interrupt w n 0)

abbrev pub outside_interrupt_footprint : World → ℕ → Footprint
outside_interrupt_footprint w n = footprint_in_mode w.mode w n

unfoldable pub interrupt_turn : HostWorld → ℕ → HostWorld
interrupt_turn h n = after_outcome (after_interrupt_in_mode h.machine.mode (with_turn_counted h) n)
