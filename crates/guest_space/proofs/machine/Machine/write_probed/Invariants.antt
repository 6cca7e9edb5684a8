use Rattle.std.proofs.Common.{◌≡◌, drop, None}
use Rattle.guest_space.specs.Pending.{first_write_fault, after_writes}
use Rattle.guest_space.proofs.machine.Machine.write_probed.Given as goal

abbrev pub invariant-loop-x : goal.invariant-loop-x
invariant-loop-x l = record {
  none : first_write_fault l.self.world (drop l.x-index l.writes) ≡ None;
  left : after_writes l.self (drop l.x-index l.writes) ≡ after_writes l.fn.self l.writes;
}
