-- Which bytes of the memory the client's next instruction changes: those of the places that it writes, or to which its software interrupt
-- pushes. An exception of real mode is such an interrupt. Source: own.
use Rattle.std.specs.{Prelude.{◌≡◌, ℕ, List, [], Ok, Err}, declared.result.Result.{Result}}
use Rattle.client_world.specs.{declared.faults.Event.{Event}, declared.faults.Fault.{Fault}, declared.place.Place.{Place}, World.{World}}
use Rattle.cpu_step.specs.Step.{client_row, client_step, code, has_big_code}
use Rattle.exec_flow.specs.Interrupts.{interrupt_push}
use Rattle.interrupts.specs.Delivery.{real_delivery, software_interrupt}
use Rattle.guest_space.specs.Pending.{places_of_writes}
use Rattle.host_memory.specs.View.{MachineView, OnlyAt}
use Rattle.insn_decode.specs.{declared.decoding.Decoded.{Decoded}, declared.decoding.Decoded.TheVariants.{Whole, More, Invalid}}
use Rattle.insn_decode.specs.Decode.{decoded}
use Rattle.insn_plan.specs.{Accesses.{with_next_eip}, Act.{Pending}, Plan.{plan_result}}

-- the places that a plan writes
abbrev pub written_by : World → Result Pending Event → List Place
written_by w (Ok p) = places_of_writes w p.writes
written_by w (Err e) = []

-- the places that a decoded instruction writes
abbrev pub written_of : World → Decoded → List Place
written_of w (Whole insn len) =
    written_by (with_next_eip len w) (plan_result (with_next_eip len w) (client_row (with_next_eip len w) insn len))
written_of w More = []
written_of w Invalid = []

-- the places that the client's next instruction writes
unfoldable pub written_places : World → List Place
written_places w = written_of w (decoded (has_big_code w) (code w))

-- it changes at most their bytes
abbrev pub StepLaw : MachineView → Type 0
StepLaw v = (u : MachineView) → client_step v ≡ Ok u → OnlyAt (written_places v.world) v.bytes u.bytes

-- the places to which a software interrupt pushes whose instruction has `len` bytes
abbrev pub interrupt_places : World → ℕ → List Place
interrupt_places w len = places_of_writes (with_next_eip len w) (interrupt_push (with_next_eip len w)).writes

abbrev pub InterruptLaw : MachineView → Type 0
InterruptLaw v = (n len : ℕ) (u : MachineView) → software_interrupt v n len ≡ Ok u → OnlyAt (interrupt_places v.world len) v.bytes u.bytes

-- an exception of real mode pushes the instruction pointer of its instruction
abbrev pub RealDeliveryLaw : MachineView → Type 0
RealDeliveryLaw v = (f : Fault) (u : MachineView) → real_delivery v f ≡ Ok u → OnlyAt (interrupt_places v.world 0) v.bytes u.bytes
