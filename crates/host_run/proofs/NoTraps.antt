-- The traps of a mode; and below and above read-only memory there is none.
use Rattle.std.proofs.Common.{◌≡◌, ℕ, ◌-◌, nat_eq, Bool, true, false, refl, subst, sym, Option, None, Some, ◌∙◌, ap, inl, inr, ◌+◌, ◌%◌}
use Rattle.std.proofs.{Common.{◌^◌, ◌<◌, ◌≤◌, arith, Result, Ok, Err}, lemmas.Bool.{cases_lt}}
use Rattle.std.specs.Prelude.{if◌then◌else◌}
use Rattle.client_world.specs.{declared.registers.Mode.{Mode}, declared.registers.Mode.TheVariants.{Real, Protected}}
use Rattle.client_world.specs.declared.limits.TheConstants.{CALLBACKS, INTERRUPT_VECTORS, EXCEPTION_VECTORS}
use Rattle.client_world.specs.declared.traps.TheConstants.{REAL_VECTOR_TRAPS, ENTRY_TRAP, SWITCH_TO_PROTECTED_TRAP, REAL_STATE_TRAP}
use Rattle.client_world.specs.declared.traps.TheConstants.{CALL_RETURN_TRAP, CALLBACK_TRAPS, PROTECTED_VECTOR_TRAPS, EXCEPTION_TRAPS}
use Rattle.client_world.specs.declared.traps.TheConstants.{SWITCH_TO_REAL_TRAP, PROTECTED_STATE_TRAP, EXCEPTION_RETURN_TRAP}
use Rattle.client_world.specs.{declared.traps.TheConstants.{CALLBACK_RETURN_TRAP}, World.{World}, declared.faults.Fault.{Fault}}
use Rattle.client_world.specs.{declared.host_frames.TheConstants.{PAGE_SIZE}, declared.memory_map.TheConstants.{DOS_SIZE, ROM_START}}
use Rattle.client_world.specs.{declared.segments.SegReg.TheVariants.{Cs}, Access.{linear}}
use Rattle.host_run.specs.{declared.traps.Trap.{Trap}, declared.traps.Trap.TheVariants.{RealVector, Entry, ToProtected, RealState}}
use Rattle.host_run.specs.declared.traps.Trap.TheVariants.{CallReturn, Callback, ProtectedVector, ExceptionHandler, ToReal, ProtectedState}
use Rattle.host_run.specs.{declared.traps.Trap.TheVariants.{ExceptionReturn, CallbackReturn, NoTrap}, Traps.{is_among, code_linear}}
use Rattle.host_run.specs.Traps.{protected_trap_at, real_trap_at, current_trap, trap_where, address_in, code_address, trap_at}
use Rattle.host_run.specs.Windows.{IsOutside, IsStart, IsTrapFree}
use Rattle.cpu_step.proofs.Joined.{base_first}
use Rattle.guest_space.specs.{Code.{code_byte}, declared.windows.CodeWindow.{CodeWindow}, SegmentRows.{first_byte}}
use Rattle.host_memory.specs.View.{MachineView}

-- a trap that is served in one mode is reached in that mode alone
abbrev pub Suits : Mode → Trap → Type 0
Suits mode (RealVector n) = mode ≡ Real
Suits mode Entry = mode ≡ Real
Suits mode CallReturn = mode ≡ Real
Suits mode (Callback slot) = mode ≡ Real
Suits mode ToProtected = mode ≡ Real
Suits mode ToReal = mode ≡ Protected
Suits mode (ProtectedVector n) = mode ≡ Protected
Suits mode CallbackReturn = mode ≡ Protected
Suits mode _ = Unit {0}

either : (mode : Mode) (b : Bool) (x y : Trap) → Suits mode x → Suits mode y → Suits mode (if b then x else y)
either mode true x y p q = p
either mode false x y p q = q

real_suits : (at : ℕ) → Suits Real (real_trap_at at)
unfolding real_trap_at
real_suits at =
    either Real (is_among REAL_VECTOR_TRAPS INTERRUPT_VECTORS at) (RealVector (at - REAL_VECTOR_TRAPS)) _ refl
    (either Real (nat_eq at ENTRY_TRAP) Entry _ refl
    (either Real (nat_eq at SWITCH_TO_PROTECTED_TRAP) ToProtected _ refl
    (either Real (nat_eq at REAL_STATE_TRAP) RealState _ tt
    (either Real (nat_eq at CALL_RETURN_TRAP) CallReturn _ refl
    (either Real (is_among CALLBACK_TRAPS CALLBACKS at) (Callback (at - CALLBACK_TRAPS)) NoTrap refl tt)))))

protected_suits : (at : ℕ) → Suits Protected (protected_trap_at at)
unfolding protected_trap_at
protected_suits at =
    either Protected (is_among PROTECTED_VECTOR_TRAPS INTERRUPT_VECTORS at) (ProtectedVector (at - PROTECTED_VECTOR_TRAPS)) _ refl
    (either Protected (is_among EXCEPTION_TRAPS EXCEPTION_VECTORS at) (ExceptionHandler (at - EXCEPTION_TRAPS)) _ tt
    (either Protected (nat_eq at SWITCH_TO_REAL_TRAP) ToReal _ refl
    (either Protected (nat_eq at PROTECTED_STATE_TRAP) ProtectedState _ tt
    (either Protected (nat_eq at EXCEPTION_RETURN_TRAP) ExceptionReturn _ tt
    (either Protected (nat_eq at CALLBACK_RETURN_TRAP) CallbackReturn NoTrap refl tt)))))

suits_at : (mode : Mode) (o : Option ℕ) → Suits mode (trap_where mode o)
suits_at mode None = tt
suits_at Real (Some at) = real_suits at
suits_at Protected (Some at) = protected_suits at

pub trap_suits : (w : World) (t : Trap) → t ≡ current_trap w → Suits w.mode t
unfolding current_trap
trap_suits w t is = subst (Suits w.mode) (sym is) (suits_at w.mode (code_linear w))

pub vector_is_real : (w : World) (t : Trap) (n : ℕ) → t ≡ current_trap w → t ≡ RealVector n → w.mode ≡ Real
vector_is_real w t n here is = subst (Suits w.mode) is (trap_suits w t here)

pub entry_is_real : (w : World) (t : Trap) → t ≡ current_trap w → t ≡ Entry → w.mode ≡ Real
entry_is_real w t here is = subst (Suits w.mode) is (trap_suits w t here)

pub call_return_is_real : (w : World) (t : Trap) → t ≡ current_trap w → t ≡ CallReturn → w.mode ≡ Real
call_return_is_real w t here is = subst (Suits w.mode) is (trap_suits w t here)

pub switch_is_real : (w : World) (t : Trap) → t ≡ current_trap w → t ≡ ToProtected → w.mode ≡ Real
switch_is_real w t here is = subst (Suits w.mode) is (trap_suits w t here)

pub switch_is_protected : (w : World) (t : Trap) → t ≡ current_trap w → t ≡ ToReal → w.mode ≡ Protected
switch_is_protected w t here is = subst (Suits w.mode) is (trap_suits w t here)

pub vector_is_protected : (w : World) (t : Trap) (n : ℕ) → t ≡ current_trap w → t ≡ ProtectedVector n → w.mode ≡ Protected
vector_is_protected w t n here is = subst (Suits w.mode) is (trap_suits w t here)

pub callback_is_real : (w : World) (t : Trap) (slot : ℕ) → t ≡ current_trap w → t ≡ Callback slot → w.mode ≡ Real
callback_is_real w t slot here is = subst (Suits w.mode) is (trap_suits w t here)

pub callback_return_is_protected : (w : World) (t : Trap) → t ≡ current_trap w → t ≡ CallbackReturn → w.mode ≡ Protected
callback_return_is_protected w t here is = subst (Suits w.mode) is (trap_suits w t here)

real_none : (at : ℕ) → IsOutside at → real_trap_at at ≡ NoTrap
unfolding real_trap_at
real_none at (inl below) = grind arith
real_none at (inr above) = grind arith

protected_none : (at : ℕ) → IsOutside at → protected_trap_at at ≡ NoTrap
unfolding protected_trap_at
protected_none at (inl below) = grind arith
protected_none at (inr above) = grind arith

pub none_at : (mode : Mode) (at : ℕ) → IsOutside at → trap_at mode at ≡ NoTrap
none_at Real at outside = real_none at outside
none_at Protected at outside = protected_none at outside

none_where : (mode : Mode) (at : ℕ) (r : Result ℕ Fault) → IsOutside at →
    trap_where mode (elim r [ Ok byte ↦ Some at | Err f ↦ None ]) ≡ NoTrap
none_where mode at (Ok byte) outside = none_at mode at outside
none_where mode at (Err f) outside = refl

none_at_address : (w : World) → IsOutside (code_address w) → current_trap w ≡ NoTrap
unfolding current_trap code_linear
none_at_address w outside = none_where w.mode (code_address w) (code_byte w 0) outside

-- where the sum is no more than 32 bits hold, it is the address in either mode
sum_is_address : (mode : Mode) (w : World) → first_byte mode w.descriptors w.regs.cs + w.regs.eip < 2 ^ 32 →
    first_byte mode w.descriptors w.regs.cs + w.regs.eip ≡ address_in mode w
sum_is_address Real w small = omega arith
sum_is_address Protected w small = omega arith

none_at_sum : (w : World) → first_byte w.mode w.descriptors w.regs.cs + w.regs.eip < 2 ^ 32 →
    IsOutside (first_byte w.mode w.descriptors w.regs.cs + w.regs.eip) → current_trap w ≡ NoTrap
none_at_sum w small outside = none_at_address w (subst IsOutside (sum_is_address w.mode w small) outside)

pub none_below : (w : World) → first_byte w.mode w.descriptors w.regs.cs + w.regs.eip < ROM_START → current_trap w ≡ NoTrap
none_below w below = none_at_sum w (omega arith) (inl below)

pub none_above : (w : World) → DOS_SIZE ≤ first_byte w.mode w.descriptors w.regs.cs + w.regs.eip →
    first_byte w.mode w.descriptors w.regs.cs + w.regs.eip < 2 ^ 32 → current_trap w ≡ NoTrap
none_above w above small = none_at_sum w small (inr above)

-- ---- in a window of code

-- a real address is a sum, which may pass 32 bits; a protected one counts modulo 2^32
real_outside : (sum linear from : ℕ) → linear ≡ sum % 2 ^ 32 → linear % PAGE_SIZE + from < PAGE_SIZE → IsOutside linear →
    IsOutside (sum + from)
real_outside sum linear from is room outside = elim (cases_lt sum (2 ^ 32)) [
  | inl small ↦ elim outside [ inl below ↦ inl (omega arith) | inr above ↦ inr (omega arith) ]
  | inr great ↦ inr (omega arith)
]

protected_outside : (sum linear from : ℕ) → linear ≡ sum % 2 ^ 32 → linear % PAGE_SIZE + from < PAGE_SIZE → IsOutside linear →
    IsOutside ((sum + from) % 2 ^ 32)
protected_outside sum linear from is room (inl below) = inl (omega arith)
protected_outside sum linear from is room (inr above) = inr (omega arith)

in_window : (mode : Mode) (w : World) (window : CodeWindow) (from : ℕ) →
    window.linear ≡ linear (first_byte mode w.descriptors w.regs.cs + window.first) → window.linear % PAGE_SIZE + from < PAGE_SIZE →
    window.first + from ≡ w.regs.eip → IsOutside window.linear → IsOutside (address_in mode w)
in_window Real w window from is room here outside =
    subst IsOutside (omega (arith, here))
    (real_outside (first_byte Real w.descriptors w.regs.cs + window.first) window.linear from is room outside)
in_window Protected w window from is room here outside =
    let same : first_byte Protected w.descriptors w.regs.cs + window.first + from
    ≡ first_byte Protected w.descriptors w.regs.cs + w.regs.eip = omega arith in
    subst (λ (n : ℕ). IsOutside (n % 2 ^ 32)) same
    (protected_outside (first_byte Protected w.descriptors w.regs.cs + window.first) window.linear from is room outside)

pub none_in_window : (v : MachineView) (window : CodeWindow) (from : ℕ) → IsTrapFree v window → IsStart v.world window from →
    current_trap v.world ≡ NoTrap
none_in_window v window from free start =
    let is = free.0 in
    let w = v.world in
    let first = base_first w.mode w.regs w.descriptors Cs window.first (window.starts + 14) false is.run.base is.run.allowed in
    let lin : window.linear ≡ linear (first_byte w.mode w.descriptors w.regs.cs + window.first) =
    is.start ∙ ap (λ (n : ℕ). linear (n + window.first)) first in
    let room = is.run.room in
    let start_is = is.start in
    let within = start.1 in
    none_at_address w (in_window w.mode w window from lin (omega arith) start.0 free.1)
