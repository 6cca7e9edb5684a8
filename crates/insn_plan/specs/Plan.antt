-- The plan of an instruction: what it leaves, before anything is written; and what carrying it out makes of the machine.
-- Source: own; that an instruction that faults changes nothing is own.
use Rattle.std.specs.{Prelude.{◌≡◌, Bool, Ok, Err, Some, None, MatchResult}, declared.result.Result.{Result}}
use Rattle.client_world.specs.{declared.registers.Regs.{Regs}, declared.faults.Event.{Event}}
use Rattle.client_world.specs.{declared.faults.Event.TheVariants.{Fault as fault, Soft}, World.{World}}
use Rattle.host_memory.specs.View.{MachineView}
use Rattle.guest_space.specs.Pending.{first_write_fault, after_writes}
use Rattle.insn_plan.specs.Act.{Act, End, Read, Done, Raise, Interrupt, Pending, value_of}

-- what an instruction leaves, or its event. The first read that faults is the fault
abbrev pub plan_result : World → Act → Result Pending Event
plan_result w (End (Done p)) = Ok p
plan_result w (End (Raise f)) = Err (fault f)
plan_result w (End (Interrupt number len)) = Err (Soft number len)
plan_result w (Read input rest) = elim (value_of w input) [ Ok v ↦ plan_result w (rest v) | Err e ↦ Err e ]

-- a result, and what is pending after it, are those of a plan
abbrev pub Leaves : Pending → Result (Unit {0}) Event → Result Pending Event → Type 0
Leaves pending result plan = MatchResult result (λ _. plan ≡ Ok pending) (λ e. plan ≡ Err e)

-- the machine with other registers and another virtual interrupt flag
abbrev pub with_state : Regs → Bool → MachineView → MachineView
with_state r on v = record v { world = record v.world { regs = r; vif = on } }

-- the machine after what an instruction leaves, or the fault of the first of its writes that has one
unfoldable pub after_commit : MachineView → Pending → Result MachineView Event
after_commit v p = elim (first_write_fault v.world p.writes) [
  | Some f ↦ Err (fault f)
  | None ↦ Ok (with_state p.regs p.vif (after_writes v p.writes))
]

-- the machine after a plan is carried out, or its event
unfoldable pub after_plan : MachineView → Result Pending Event → Result MachineView Event
after_plan v (Ok p) = after_commit v p
after_plan v (Err e) = Err e

-- a result, and the machine after it, are what is expected; an event changes nothing
abbrev pub Follows : MachineView → MachineView → Result (Unit {0}) Event → Result MachineView Event → Type 0
Follows old new result expected = MatchResult result (λ _. expected ≡ Ok new) (λ e. (expected ≡ Err e) × (new ≡ old))

-- an instruction is carried out, or it is its event, which changes nothing
abbrev pub CarriesOut : MachineView → MachineView → Result (Unit {0}) Event → Act → Type 0
CarriesOut old new result act = Follows old new result (after_plan old (plan_result old.world act))
