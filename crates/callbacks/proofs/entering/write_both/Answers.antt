use Rattle.{std.proofs.Common.{rules}, callbacks.specs.Callbacks.{with_frame_and_structure}}
use Rattle.guest_space.specs.{Far.{world_after_far_write, after_far_write}, Transfer.{with_places}}
use Rattle.callbacks.proofs.entering.write_both.Goals.{returns-clause-written as goal}

pub returns-clause-written : goal
unfolding with_frame_and_structure world_after_far_write after_far_write with_places
returns-clause-written c = search rules
