use Rattle.{std.proofs.Common.{rules}, client_world.specs.declared.outcome.Exit.TheVariants.{Fault}}
use Rattle.{interrupts.specs.Delivery.{real_delivery}, interrupts.proofs.Alone.{delivery_ok, delivery_err}}
use Rattle.interrupts.proofs.exceptions.deliver_in_real_mode.Goals as goal

pub returns-then-not-has_real_vector-clause-world : goal.returns-then-not-has_real_vector-clause-world
unfolding real_delivery
returns-then-not-has_real_vector-clause-world c = delivery_err c.args.m.now c.args.f (Fault c.args.f.number c.args.f.code) (search rules)

pub returns-in-Ok-clause-world : goal.returns-in-Ok-clause-world
unfolding real_delivery
returns-in-Ok-clause-world c = delivery_ok c.args.m.now c.soft_int.new.m c.args.f (search rules)

pub returns-in-Err-clause-world : goal.returns-in-Err-clause-world
unfolding real_delivery
returns-in-Err-clause-world c = delivery_err c.args.m.now c.args.f (Fault c.args.f.number c.args.f.code) (search rules)
