use Rattle.{std.proofs.Common.{rules}, fault_service.proofs.delivery.handler.Goals.{returns-then-from-lt-EXCEPTION_VECTORS as goal}}

pub returns-then-from-lt-EXCEPTION_VECTORS : goal
returns-then-from-lt-EXCEPTION_VECTORS c = search rules
