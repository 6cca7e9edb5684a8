use Rattle.std.proofs.Common.{◌≡◌, ◌≤◌, [], length, drop}
use Rattle.insn_plan.specs.Accesses.{touches_after}
use Rattle.insn_plan.proofs.accesses.Accesses.touches.Given as goal

-- what is left comes to what all of them come to
abbrev pub invariant-loop-a : goal.invariant-loop-a
invariant-loop-a l = record {
  goes_on : touches_after l.self.world l.touches.items (drop l.a-index l.a-items) ≡ touches_after l.self.world [] l.self.accesses;
  room : length l.touches.items ≤ l.a-index;
}
