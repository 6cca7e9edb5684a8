use Rattle.fault_service.specs.Memory.{IsMachineView}
use Rattle.fault_service.proofs.laws.a_machine_changes_only_what_is_written.Goals.{returns as goal}

pub returns : goal
returns c =
    let m : IsMachineView c.args.m.now =
    record { sound = c.ram-ram.ensures.sound; holds = c.ram-ram.ensures.holds; places = c.ram-ram.ensures.places } in
    record {
      step = c.every_step_changes_only_what_it_writes.ensures.step c.args.m.now m;
      interrupt = c.every_step_changes_only_what_it_writes.ensures.interrupt c.args.m.now m;
      exception = c.every_step_changes_only_what_it_writes.ensures.exception c.args.m.now m;
      delivery = c.every_delivery_and_return_changes_only_its_bytes.ensures.delivery c.args.m.now m;
      back = c.every_delivery_and_return_changes_only_its_bytes.ensures.back c.args.m.now m;
    }
