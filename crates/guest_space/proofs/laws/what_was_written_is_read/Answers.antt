use Rattle.guest_space.proofs.{FarLaws.{written_is_read}, laws.what_was_written_is_read.Goals.{returns as goal}}

pub returns : goal
returns c = written_is_read
