-- A delivery and the return from it: at the handler the frame lies at SS:ESP; after the handler has popped its return address, the return
-- restores what the delivery replaced, cut to the width of the frame's items. Source: DPMI 0.9, "Exceptions".
use Rattle.std.specs.Prelude.{◌≡◌, ℕ, ◌+◌, ◌*◌, ◌%◌, ◌^◌, Bool, true, false, nat_eq, if◌then◌else◌, None, Ok}
use Rattle.client_world.specs.{declared.faults.Fault.{Fault}, declared.registers.Mode.TheVariants.{Protected}}
use Rattle.client_world.specs.{declared.registers.Regs.{Regs}, declared.segments.SegReg.TheVariants.{Cs, Ss}}
use Rattle.client_world.specs.{declared.selectors.TheConstants.{HOST_STACKS}, Loading.{load_fault}, Selector.{selector_of}}
use Rattle.client_world.specs.{Soundness.{IsSound, HasSegments}, World.{World}}
use Rattle.exec_flow.specs.Interrupts.{frame_bits}
use Rattle.guest_space.specs.{Pending.{byte_count}, Transfer.{read_result}}
use Rattle.host_memory.specs.View.{MachineView}
use Rattle.insn_plan.specs.Plan.{with_state}
use Rattle.mode_stack.specs.Stack.{after_pop}
use Rattle.fault_service.specs.Delivery.{exception_frame, exception_frame_start, exception_frame_size, protected_delivery}
use Rattle.fault_service.specs.Return.{exception_return}

-- at the handler the frame is read at SS:ESP
abbrev pub FrameLaw : Type 0
FrameLaw = (v u : MachineView) (f : Fault) → IsSound v.world → v.world.mode ≡ Protected → protected_delivery v f ≡ Ok u →
    read_result u.world Ss u.world.regs.esp (exception_frame_size v.world) ≡ Ok (exception_frame v.world f)

-- a number in an item of that many bits
abbrev pub cut_item : ℕ → ℕ → ℕ
cut_item bits v = if nat_eq bits 16 then v % 0x10000 else v % 2 ^ 32

-- the handler's registers with what the delivery saved of those in w
abbrev pub regs_after_return : World → Regs → Regs
regs_after_return w r = record r {
  eip = cut_item (frame_bits w) w.regs.eip;
  cs = w.regs.cs;
  flags = w.regs.flags;
  esp = cut_item (frame_bits w) w.regs.esp;
  ss = w.regs.ss;
}

-- whatever the handler left in the other registers and in the virtual interrupt flag, with the stack pointer above the return address, and
-- with the memory as the delivery left it
abbrev pub TripLaw : Type 0
TripLaw = (v u : MachineView) (f : Fault) (r : Regs) (on : Bool) → IsSound v.world → v.world.mode ≡ Protected →
    protected_delivery v f ≡ Ok u →
    HasSegments r → r.ss ≡ selector_of HOST_STACKS → r.esp ≡ (exception_frame_start v.world).off + 2 * byte_count (frame_bits v.world) →
    load_fault v.world.descriptors Cs v.world.regs.cs (cut_item (frame_bits v.world) v.world.regs.eip) true ≡ None →
    load_fault v.world.descriptors Ss v.world.regs.ss 0 false ≡ None →
    exception_return (with_state r on u) ≡ Ok (with_state (regs_after_return v.world r) v.world.vif (after_pop u))

-- and the records are then those from before the delivery
abbrev pub RecordsLaw : Type 0
RecordsLaw = (v u : MachineView) (f : Fault) → protected_delivery v f ≡ Ok u → (after_pop u).world.calls ≡ v.world.calls
