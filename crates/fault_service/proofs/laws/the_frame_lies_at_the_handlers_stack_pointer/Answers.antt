use Rattle.fault_service.proofs.{RoundTrip.{frame_law}, laws.the_frame_lies_at_the_handlers_stack_pointer.Goals.{returns as goal}}

pub returns : goal
returns c = frame_law
