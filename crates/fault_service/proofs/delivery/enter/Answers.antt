use Rattle.{std.proofs.Common.{rules}, fault_service.specs.Delivery.{after_delivery}}
use Rattle.fault_service.proofs.delivery.enter.Goals.{returns as goal}

pub returns : goal
unfolding after_delivery
returns c = search rules
