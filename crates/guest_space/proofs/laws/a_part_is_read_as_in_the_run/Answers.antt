use Rattle.guest_space.proofs.{FarLaws.{part_is_read}, laws.a_part_is_read_as_in_the_run.Goals.{returns as goal}}

pub returns : goal
returns c = part_is_read
