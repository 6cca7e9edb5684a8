use Rattle.host_memory.proofs.WorldWalks.{world_walk, world_byte}
use Rattle.host_memory.proofs.laws.every_memory_that_holds_a_world_is_walked_so.Goals as goal

pub returns-clause-walks : goal.returns-clause-walks
returns-clause-walks c = λ b w holds sound. world_walk b w holds sound.blocks

pub returns-clause-bytes : goal.returns-clause-bytes
returns-clause-bytes c = λ b w holds sound. world_byte b w holds sound.blocks
