use Rattle.interrupts.proofs.KeptWorlds.{kept_world_delivery, kept_world_interrupt, kept_world_step}
use Rattle.interrupts.proofs.laws.every_answer_keeps_the_rest.Goals.{returns as goal}

pub returns : goal
returns c = record { step = kept_world_step; interrupt = kept_world_interrupt; delivery = kept_world_delivery }
