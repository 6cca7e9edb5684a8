use Rattle.std.proofs.Common.{◌≡◌, ◌∙◌, Ok, Result, ap, rules, subst, sym}
use Rattle.client_world.specs.{declared.faults.Fault.{Fault}, declared.outcome.Exit.{Exit}, declared.registers.Mode.{Mode}}
use Rattle.client_world.specs.declared.registers.Mode.TheVariants.{Real, Protected}
use Rattle.fault_service.specs.{ByMode.{delivery}, Delivery.{protected_delivery}, Memory.{DeliveryLaw}}
use Rattle.{host_memory.specs.View.{MachineView}, interrupts.specs.Delivery.{real_delivery}}
use Rattle.host_run.specs.{OtherTurns.{exception_turn}, View.{machine_view}}
use Rattle.host_run.proofs.host.Host.deliver_turn.Goals.{returns-in-Ok as goal}

-- in protected mode it is the delivery of that mode
in_protected : (v : MachineView) (f : Fault) → v.world.mode ≡ Protected → protected_delivery v f ≡ delivery v f
unfolding delivery
in_protected v f mode =
    sym (ap (λ (m : Mode). elim m as (λ _. Result MachineView Exit) [ Real ↦ real_delivery v f | Protected ↦ protected_delivery v f ]) mode)

pub returns-in-Ok : goal
unfolding exception_turn
returns-in-Ok c =
    let machine : c.self.inside.machine ≡ machine_view c.args.self.now = ap machine_view c.self.view_is in
    let law : DeliveryLaw (machine_view c.args.self.now) =
    subst DeliveryLaw machine c.a_machine_changes_only_what_is_written.ensures.delivery in
    let new = machine_view c.deliver.new.self in
    let made : delivery (machine_view c.args.self.now) c.args.f ≡ Ok new =
    subst (λ (v : MachineView). delivery v c.args.f ≡ Ok new) machine c.in-Ok.ensures.machine in
    record {
      world = search rules;
      bytes = law c.args.f new (in_protected (machine_view c.args.self.now) c.args.f c.requires.mode ∙ made);
      kept = tt;
      goes_on = search rules;
      ends = tt;
      steps = search rules;
      was_on = λ _. c.requires.no_exit;
    }
