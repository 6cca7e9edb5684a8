use Rattle.host_memory.proofs.{BlankSound.{blank_is_sound}, blank.a_blank_world_is_sound.Goals.{returns as goal}}

pub returns : goal
returns c = blank_is_sound
