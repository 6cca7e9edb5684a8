use Rattle.interrupts.proofs.Alone.{delivery_alone, interrupt_alone, popped_alone, step_alone}
use Rattle.interrupts.proofs.laws.every_answer_depends_on_the_world_alone.Goals.{returns as goal}

pub returns : goal
returns c = record { step = step_alone; interrupt = interrupt_alone; delivery = delivery_alone; popped = popped_alone }
