use Rattle.guest_space.proofs.{HostStacks.{only_far}, laws.every_far_write_changes_only_its_places.Goals.{returns as goal}}

pub returns : goal
returns c = only_far
