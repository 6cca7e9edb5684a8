use Rattle.{std.proofs.Common.{rules}, desc_services.specs.Rows.{get_descriptor}}
use Rattle.guest_space.specs.{Far.{world_after_far_write, after_far_write}, Transfer.{with_places}}
use Rattle.desc_services.proofs.packed.get_descriptor.Goals.{returns-then-not-far_ok as goal}

pub returns-then-not-far_ok : goal
unfolding get_descriptor world_after_far_write after_far_write with_places
returns-then-not-far_ok c = search rules
