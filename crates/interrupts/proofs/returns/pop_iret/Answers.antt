use Rattle.{std.proofs.Common.{rules}, client_world.specs.declared.outcome.Exit.TheVariants.{BadFrame}}
use Rattle.{interrupts.specs.Delivery.{after_iret}, interrupts.proofs.Alone.{popped_ok, popped_err}}
use Rattle.interrupts.proofs.returns.pop_iret.Goals as goal

pub returns-in-Ok-clause-world : goal.returns-in-Ok-clause-world
unfolding after_iret
returns-in-Ok-clause-world c = popped_ok c.args.m.now c.pop_frame.new.m (search rules)

pub returns-in-Err-clause-world : goal.returns-in-Err-clause-world
unfolding after_iret
returns-in-Err-clause-world c = popped_err c.args.m.now BadFrame (search rules)
