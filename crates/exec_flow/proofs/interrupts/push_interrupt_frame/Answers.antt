use Rattle.{std.proofs.Common.{rules}, exec_flow.specs.Interrupts.{interrupt_push}}
use Rattle.exec_flow.proofs.interrupts.push_interrupt_frame.Goals.{returns as goal}

pub returns : goal
unfolding interrupt_push
returns c = search rules
