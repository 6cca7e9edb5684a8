use Rattle.{std.proofs.Common.{rules}, fault_service.specs.Delivery.{protected_delivery}}
use Rattle.fault_service.proofs.delivery.deliver_in_protected_mode.Goals.{returns-in-Err as goal}

pub returns-in-Err : goal
unfolding protected_delivery
returns-in-Err c = search rules
