use Rattle.std.proofs.Common.{◌≡◌, ◌-◌, ◌++◌, length}
use Rattle.guest_space.specs.Code.{code_from}
use Rattle.guest_space.proofs.machine.Machine.code.Given as goal

abbrev pub invariant-loop-at : goal.invariant-loop-at
invariant-loop-at l = record {
  size : length l.code.items ≡ l.at;
  left : l.code.items ++ code_from l.self.world l.at (15 - l.at) ≡ code_from l.self.world 0 15;
}
