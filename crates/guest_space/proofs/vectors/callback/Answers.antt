use Rattle.{std.proofs.{Common.{refl, arith}, lemmas.Bool.{ne_eqb}}, host_memory.specs.Vectors.{callback_at}}
use Rattle.guest_space.proofs.VectorCalls.{second_pointer}
use Rattle.guest_space.proofs.vectors.callback.Goals as goal

pub returns-then-get8-eq0 : goal.returns-then-get8-eq0
unfolding callback_at
returns-then-get8-eq0 c = rw (← c.get8.ensures, c.if-get8-eq0.true) refl

pub returns-else-get8-eq0 : goal.returns-else-get8-eq0
unfolding callback_at
returns-else-get8-eq0 c = grind (arith, ne_eqb, second_pointer)
