use Rattle.host_memory.proofs.{BlocksClaim.{holds_world}, laws.every_memory_that_holds_a_world_has_its_bytes.Goals.{returns as goal}}

pub returns : goal
returns c = holds_world
