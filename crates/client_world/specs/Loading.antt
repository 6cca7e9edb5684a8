-- When a selector may be loaded into a segment register.
-- Source: 80386 Programmer's Reference Manual, ch. 17, MOV, JMP and RET, and ch. 9; the order of the refusals is own.
use Rattle.std.specs.Prelude.{ℕ, Bool, ◌&&◌, ◌||◌, not, nat_eq, nat_lt, if◌then◌else◌, List, None, Some, is_none, false}
use Rattle.std.specs.declared.option.Option.{Option}
use Rattle.client_world.specs.{declared.registers.Mode.TheVariants.{Real, Protected}, declared.segments.SegReg.{SegReg}}
use Rattle.client_world.specs.{declared.segments.SegReg.TheVariants.{Es, Cs, Ss, Ds, Fs, Gs}, declared.faults.Fault.{Fault}}
use Rattle.client_world.specs.declared.faults.TheConstants.{SEGMENT_NOT_PRESENT, STACK_EXCEPTION, GENERAL_PROTECTION}
use Rattle.client_world.specs.{declared.memory_map.TheConstants.{SEGMENT_SIZE}, declared.selectors.TheConstants.{CLIENT_PRIVILEGE}}
use Rattle.client_world.specs.{Access.{fault_with}, Descriptor.{is_code, is_writable, is_inside}, Selector.{Row, is_null, privilege_of}}
use Rattle.client_world.specs.{Selector.{row_of_selector, selector_code}, World.{World}}

-- the privilege level that the selector asks for isn't the client's
abbrev pub is_privileged : ℕ → Bool
is_privileged sel = not (nat_eq (privilege_of sel) CLIENT_PRIVILEGE)

-- DS, ES, FS and GS take null, data and code
abbrev pub data_row_fault : Row → ℕ → Option Fault
data_row_fault None sel = Some (fault_with GENERAL_PROTECTION (selector_code sel))
data_row_fault (Some row) sel =
    if not row.0.present then Some (fault_with SEGMENT_NOT_PRESENT (selector_code sel)) else None

abbrev pub data_fault : List Row → ℕ → Option Fault
data_fault rows sel = if is_null sel then None else data_row_fault (row_of_selector rows sel) sel

-- SS takes writable data, with privilege level 3
abbrev pub stack_row_fault : Row → ℕ → Option Fault
stack_row_fault None sel = Some (fault_with GENERAL_PROTECTION (selector_code sel))
stack_row_fault (Some row) sel =
    if is_privileged sel || not (is_writable row.0.kind) then Some (fault_with GENERAL_PROTECTION (selector_code sel)) else
    if not row.0.present then Some (fault_with STACK_EXCEPTION (selector_code sel)) else
    None

abbrev pub stack_fault : List Row → ℕ → Option Fault
stack_fault rows sel =
    if is_null sel then Some (fault_with GENERAL_PROTECTION 0) else stack_row_fault (row_of_selector rows sel) sel

-- CS takes code, and with it an offset inside the segment; a return takes privilege level 3 alone
abbrev pub code_row_fault : Row → ℕ → ℕ → Bool → Option Fault
code_row_fault None sel offset return = Some (fault_with GENERAL_PROTECTION (selector_code sel))
code_row_fault (Some row) sel offset return =
    if not (is_code row.0.kind) || return && is_privileged sel then Some (fault_with GENERAL_PROTECTION (selector_code sel)) else
    if not row.0.present then Some (fault_with SEGMENT_NOT_PRESENT (selector_code sel)) else
    if not (is_inside row.0 offset 1) then Some (fault_with GENERAL_PROTECTION 0) else
    None

abbrev pub code_fault : List Row → ℕ → ℕ → Bool → Option Fault
code_fault rows sel offset return =
    if is_null sel then Some (fault_with GENERAL_PROTECTION 0) else
    code_row_fault (row_of_selector rows sel) sel offset return

-- the fault of a load in protected mode, or none; the offset, and whether it is a return, matter for CS alone
unfoldable pub load_fault : List Row → SegReg → ℕ → ℕ → Bool → Option Fault
load_fault rows Es sel offset return = data_fault rows sel
load_fault rows Cs sel offset return = code_fault rows sel offset return
load_fault rows Ss sel offset return = stack_fault rows sel
load_fault rows Ds sel offset return = data_fault rows sel
load_fault rows Fs sel offset return = data_fault rows sel
load_fault rows Gs sel offset return = data_fault rows sel

-- of a register other than CS, by the mode: in real mode every word loads
abbrev pub register_fault : World → SegReg → ℕ → Option Fault
register_fault w seg sel = elim w.mode [
  | Real ↦ None
  | Protected ↦ load_fault w.descriptors seg sel 0 false
]

-- of a far transfer, by the mode: in real mode the offset alone is asked
abbrev pub transfer_fault : World → ℕ → ℕ → Bool → Option Fault
transfer_fault w sel offset return = elim w.mode [
  | Real ↦ if nat_lt offset SEGMENT_SIZE then None else Some (fault_with GENERAL_PROTECTION 0)
  | Protected ↦ load_fault w.descriptors Cs sel offset return
]

-- the rules of protected mode give no fault
abbrev pub is_loadable : World → SegReg → ℕ → ℕ → Bool → Bool
is_loadable w seg sel offset return = is_none (load_fault w.descriptors seg sel offset return)
