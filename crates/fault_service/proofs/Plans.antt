-- What the plan of a return leaves: no write, and segment registers that are words; where the innermost record is an exception's there is
-- one, and popping the frame keeps it.
use Rattle.std.proofs.Common.{◌≡◌, ℕ, ◌<◌, Bool, [], refl, Option, None, Some, Result, Ok, Err, arith, ◌-◌, true, List, ◌∷◌, length, ap}
use Rattle.client_world.specs.{declared.faults.Event.{Event}, declared.faults.Event.TheVariants.{Fault as fault}}
use Rattle.client_world.specs.{declared.faults.Fault.{Fault}, declared.registers.Regs.{Regs}, Soundness.{HasSegments}, World.{World, depth}}
use Rattle.client_world.specs.declared.calls.Record.{Record}
use Rattle.cpu_step.proofs.SegmentWords.{half_is_word}
use Rattle.guest_space.proofs.Writes.{all_none, first_none}
use Rattle.host_memory.specs.View.{MachineView}
use Rattle.insn_plan.specs.{Act.{Act, Input, Pending, Read, unless_fault, value_of}, Plan.{after_plan, plan_result, after_commit}}
use Rattle.insn_plan.specs.Plan.{with_state}
use Rattle.fault_service.specs.Return.{pending_of_exception_frame, exception_frame_pop, is_exception}
use Rattle.std.specs.List.{slice_get}
use Rattle.mode_stack.specs.Stack.{top}

-- what is left is such that nothing is written, and the segment registers are words
pub record IsRestore (regs : Regs) (p : Pending) : Type 0 where
  pub writes : p.writes ≡ []
  pub segments : HasSegments regs → HasSegments p.regs

abbrev pub OfPlan : Regs → Result Pending Event → Type 0
OfPlan regs (Ok p) = IsRestore regs p
OfPlan regs (Err e) = Unit {0}

-- a record, so that an act is found from what is said of it
pub record OfAct (w : World) (act : Act) : Type 0 where
  pub plan : OfPlan w.regs (plan_result w act)

by_value : (w : World) (r : Result ℕ Event) (rest : ℕ → Act) → ((v : ℕ) → OfAct w (rest v)) →
    OfPlan w.regs (elim r [ Ok v ↦ plan_result w (rest v) | Err e ↦ Err e ])
by_value w (Ok v) rest each = (each v).plan
by_value w (Err e) rest each = tt

of_read : (w : World) (input : Input) (rest : ℕ → Act) → ((v : ℕ) → OfAct w (rest v)) → OfAct w (Read input rest)
of_read w input rest each = record { plan = by_value w (value_of w input) rest each }

of_unless : (w : World) (o : Option Fault) (act : Act) → OfAct w act → OfAct w (unless_fault o act)
of_unless w None act h = h
of_unless w (Some f) act h = record { plan = tt }

is_restore : (w : World) (ip cs image sp ss : ℕ) → cs < 0x10000 → ss < 0x10000 →
    IsRestore w.regs (pending_of_exception_frame w ip cs image sp ss)
is_restore w ip cs image sp ss code stack = assumption

pub of_popped : (w : World) (bits : ℕ) → OfAct w (exception_frame_pop w bits)
unfolding exception_frame_pop
of_popped w bits = grind (arith, half_is_word, is_restore, of_read, of_unless)

-- so carrying it out changes the registers and the virtual interrupt flag alone
pub record Restores (v u : MachineView) : Type 0 where
  pub regs : Regs
  pub vif : Bool
  pub segments : HasSegments v.world.regs → HasSegments regs
  pub is : u ≡ with_state regs vif v

granted : (o : Option Fault) (x u : MachineView) → o ≡ None →
    elim o as (λ _. Result MachineView Event) [ Some f ↦ Err (fault f) | None ↦ Ok x ] ≡ Ok u → u ≡ x
granted None x u none e = cc
granted (Some f) x u none e = absurd cc

granted_is : (o : Option Fault) (x : MachineView) → o ≡ None →
    elim o as (λ _. Result MachineView Event) [ Some f ↦ Err (fault f) | None ↦ Ok x ] ≡ Ok x
granted_is None x none = refl
granted_is (Some f) x none = absurd cc

pub settled_is : (v : MachineView) (p : Pending) → p.writes ≡ [] → after_commit v p ≡ Ok (with_state p.regs p.vif v)
unfolding after_commit
settled_is v p none = grind (arith, all_none, first_none, granted_is)

settles : (v u : MachineView) (p : Pending) → IsRestore v.world.regs p → after_commit v p ≡ Ok u → Restores v u
unfolding after_commit
settles v u p h e = grind (arith, all_none, first_none, granted)

carries : (v u : MachineView) (r : Result Pending Event) → OfPlan v.world.regs r → after_plan v r ≡ Ok u → Restores v u
unfolding after_plan
carries v u (Ok p) h e = settles v u p h e
carries v u (Err f) h e = absurd cc

pub pop_restores : (v u : MachineView) (bits : ℕ) → after_plan v (plan_result v.world (exception_frame_pop v.world bits)) ≡ Ok u →
    Restores v u
pop_restores v u bits e = carries v u (plan_result v.world (exception_frame_pop v.world bits)) (of_popped v.world bits).plan e

abbrev top_of : List Record → Option Record
top_of calls = slice_get calls (length calls - 1)

some_record : (calls : List Record) → is_exception (top_of calls) ≡ true → 0 < length calls
some_record [] e = absurd cc
some_record (r ∷ calls) e = omega arith

pub exception_there : (w : World) → is_exception (top w) ≡ true → 0 < depth w
exception_there w e = some_record w.calls e

pub pop_keeps_depth : (v u : MachineView) (bits : ℕ) → after_plan v (plan_result v.world (exception_frame_pop v.world bits)) ≡ Ok u →
    depth u.world ≡ depth v.world
pop_keeps_depth v u bits e = ap (λ (t : MachineView). depth t.world) (pop_restores v u bits e).is
