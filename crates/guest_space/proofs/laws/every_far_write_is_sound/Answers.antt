use Rattle.guest_space.proofs.{FarLaws.{sound_far, far_alone}, laws.every_far_write_is_sound.Goals.{returns as goal}}

pub returns : goal
returns c = record { sound = sound_far; alone = far_alone }
