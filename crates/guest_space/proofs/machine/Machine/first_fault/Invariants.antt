use Rattle.std.proofs.Common.{◌≡◌, drop}
use Rattle.guest_space.specs.Pending.{first_write_fault}
use Rattle.guest_space.proofs.machine.Machine.first_fault.Given as goal

abbrev pub invariant-loop-x : goal.invariant-loop-x
invariant-loop-x l = first_write_fault l.self.world (drop l.x-index l.writes) ≡ first_write_fault l.self.world l.writes
