use Rattle.block_services.specs.Rows.{free_pages}
use Rattle.block_services.proofs.{RoomLaws.{largest_is}, laws.the_table_gives_the_largest_block.Goals.{returns as goal}}

pub returns : goal
returns c w = largest_is w.blocks (free_pages w)
