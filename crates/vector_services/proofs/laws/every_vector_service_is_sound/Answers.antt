use Rattle.vector_services.proofs.{ServiceLaws.{sound_service}, laws.every_vector_service_is_sound.Goals.{returns as goal}}

pub returns : goal
returns c = sound_service
