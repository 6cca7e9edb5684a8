use Rattle.std.proofs.Common.{arith, below_more, get_or-set_other, get_or-set_same}
use Rattle.guest_space.proofs.{Runs.{all_touch, bytes_read, translated_fails}, machine.Machine.load_into.Goals.{in-Ok, in_default}}
use Rattle.guest_space.proofs.machine.Machine.load_into.Goals as goal

pub loop-i-init : goal.loop-i-init
loop-i-init c = λ k less. absurd (omega arith)

pub loop-i-preserved : goal.loop-i-preserved
loop-i-preserved c = grind (arith, all_touch, below_more, get_or-set_other, get_or-set_same, in-Ok, in_default, translated_fails)

pub returns : goal.returns
returns c = grind (arith, bytes_read)
