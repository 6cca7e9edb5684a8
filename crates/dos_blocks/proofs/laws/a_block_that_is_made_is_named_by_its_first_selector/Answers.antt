use Rattle.dos_blocks.proofs.{NamedLaws.{new_block}, laws.a_block_that_is_made_is_named_by_its_first_selector.Goals.{returns as goal}}

pub returns : goal
returns c = new_block
