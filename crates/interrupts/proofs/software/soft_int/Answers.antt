use Rattle.{std.proofs.Common.{rules}, interrupts.specs.Delivery.{software_interrupt}}
use Rattle.interrupts.proofs.Alone.{interrupt_ok, interrupt_err}
use Rattle.interrupts.proofs.software.soft_int.Goals as goal

pub returns-in-Ok-clause-world : goal.returns-in-Ok-clause-world
unfolding software_interrupt
returns-in-Ok-clause-world c = interrupt_ok c.args.m.now c.interrupt.new.m c.args.n c.args.len (search rules)

pub returns-in-Err-clause-world : goal.returns-in-Err-clause-world
unfolding software_interrupt
returns-in-Err-clause-world c = interrupt_err c.args.m.now c.in-Err.f c.args.n c.args.len (search rules)
