use Rattle.guest_space.proofs.{HostStacks.{stacks_reachable}, laws.the_protected_stacks_are_reachable.Goals.{returns as goal}}

pub returns : goal
returns c = stacks_reachable
