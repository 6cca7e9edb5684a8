use Rattle.block_services.proofs.{RoomLaws.{stays}, laws.a_block_that_shrinks_stays.Goals.{returns as goal}}

pub returns : goal
returns c = stays
