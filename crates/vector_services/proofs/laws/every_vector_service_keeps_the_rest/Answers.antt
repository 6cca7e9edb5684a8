use Rattle.vector_services.proofs.{ServiceLaws.{kept_service}, laws.every_vector_service_keeps_the_rest.Goals.{returns as goal}}

pub returns : goal
returns c = kept_service
