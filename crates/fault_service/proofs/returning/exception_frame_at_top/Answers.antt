use Rattle.{std.proofs.Common.{rules}, fault_service.specs.Return.{exception_frame_pop}}
use Rattle.fault_service.proofs.returning.exception_frame_at_top.Goals.{returns as goal}

pub returns : goal
unfolding exception_frame_pop
returns c = search rules
