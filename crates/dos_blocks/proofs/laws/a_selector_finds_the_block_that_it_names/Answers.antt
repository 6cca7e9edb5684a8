use Rattle.dos_blocks.proofs.{NamedLaws.{finds_named}, laws.a_selector_finds_the_block_that_it_names.Goals.{returns-clause-found as goal}}

pub returns-clause-found : goal
returns-clause-found c = finds_named
