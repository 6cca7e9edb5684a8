use Rattle.client_world.proofs.{SoundRows.{IsSound-row}, descriptors.a_plain_descriptor_keeps_a_world_sound.Goals.{returns as goal}}

pub returns : goal
returns c = IsSound-row
