use Rattle.fault_service.proofs.AwayWrites.{interrupt_law, real_delivery_law, step_law}
use Rattle.fault_service.proofs.laws.every_step_changes_only_what_it_writes.Goals.{returns as goal}

pub returns : goal
returns c = record { step = step_law; interrupt = interrupt_law; exception = real_delivery_law }
