use Rattle.std.proofs.Common.{length, arith}
use Rattle.guest_space.proofs.{FarLaws.{reachable_linear, far_written_linear, reachable_not_refused}, MachineLaws.{far_made}}
use Rattle.guest_space.proofs.machine.Machine.write_bytes.Goals as goal

pub put-requires-clause-writable : goal.put-requires-clause-writable
put-requires-clause-writable c = grind (arith, reachable_linear)

pub returns-in-Ok-clause-written : goal.returns-in-Ok-clause-written
returns-in-Ok-clause-written c = grind (arith, far_written_linear)

pub returns-in-Ok-clause-only : goal.returns-in-Ok-clause-only
returns-in-Ok-clause-only c =
    far_made c.args.self.now c.put.new.self c.holds_world.ensures c.args.p (length c.args.bytes.now) c.args.bytes.now
    (returns-in-Ok-clause-written c)

pub returns-in_default : goal.returns-in_default
returns-in_default c = grind (arith, reachable_not_refused)
