use Rattle.fault_service.proofs.SoundAnswers.{delivery_alone, return_alone}
use Rattle.fault_service.proofs.laws.every_answer_depends_on_the_world_alone.Goals.{returns as goal}

pub returns : goal
returns c = record { delivery = delivery_alone; back = return_alone }
