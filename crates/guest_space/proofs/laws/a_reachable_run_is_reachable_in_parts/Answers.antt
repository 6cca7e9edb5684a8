use Rattle.guest_space.proofs.{FarLaws.{parts_reachable}, laws.a_reachable_run_is_reachable_in_parts.Goals.{returns as goal}}

pub returns : goal
returns c = parts_reachable
