use Rattle.block_services.proofs.{ServiceLaws.{kept_service}, laws.every_block_service_keeps_the_rest.Goals.{returns as goal}}

pub returns : goal
returns c = kept_service
