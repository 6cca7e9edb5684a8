use Rattle.{std.proofs.Common.{rules}, fault_service.specs.Delivery.{exception_frame}}
use Rattle.fault_service.proofs.delivery.write_frame.Goals.{returns-then-frame_bits-eq16 as goal}

pub returns-then-frame_bits-eq16 : goal
unfolding exception_frame
returns-then-frame_bits-eq16 c = search rules
