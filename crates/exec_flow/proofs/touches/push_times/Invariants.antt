use Rattle.std.proofs.Common.{◌≡◌, ◌+◌, ◌-◌, length}
use Rattle.exec_flow.specs.EnterAccesses.{and_pushes}
use Rattle.exec_flow.proofs.touches.push_times.Given as goal

-- what is left comes to all of the pushes
abbrev pub invariant-loop : goal.invariant-loop
invariant-loop l = record {
  world : l.a.world ≡ l.fn.a.world;
  left : and_pushes l.a.world l.i.width (l.n - l.counter) l.esp l.a.accesses
      ≡ and_pushes l.fn.a.world l.i.width l.n l.fn.a.world.regs.esp l.fn.a.accesses;
  room : length l.a.accesses ≡ length l.fn.a.accesses + l.counter;
}
