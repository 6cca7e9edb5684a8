use Rattle.{std.proofs.Common.{rules}, client_world.specs.declared.outcome.Exit.TheVariants.{BadFrame}}
use Rattle.{mode_gates.specs.FarFrames.{after_far_return}, mode_gates.proofs.FarStates.{far_ok, far_err}}
use Rattle.mode_gates.proofs.far_frames.pop_far.Goals as goal

pub returns-in-Ok-clause-world : goal.returns-in-Ok-clause-world
unfolding after_far_return
returns-in-Ok-clause-world c = far_ok c.args.m.now c.pop_far_frame.new.m (search rules)

pub returns-in-Err-clause-world : goal.returns-in-Err-clause-world
unfolding after_far_return
returns-in-Err-clause-world c = far_err c.args.m.now BadFrame (search rules)
