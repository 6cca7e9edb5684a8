use Rattle.{std.proofs.Common.{arith}, guest_space.proofs.{MachineLaws.{all_or_kept, all_made}, Writes.{one_made, one_refused}}}
use Rattle.guest_space.proofs.machine.Machine.write_all.Goals as goal

pub returns-then-writes-eq1-clause-done : goal.returns-then-writes-eq1-clause-done
returns-then-writes-eq1-clause-done c =
    one_made c.args.self.now c.write_one.new.self c.args.writes.now _ c.write_one.result c.if-writes-eq1.true c.write_one.ensures.made

pub returns-then-writes-eq1-clause-refused : goal.returns-then-writes-eq1-clause-refused
returns-then-writes-eq1-clause-refused c =
    one_refused c.args.self.now c.write_one.new.self c.args.writes.now _ c.write_one.result c.if-writes-eq1.true c.write_one.ensures.made

pub returns-then-writes-eq1-clause-only : goal.returns-then-writes-eq1-clause-only
returns-then-writes-eq1-clause-only c =
    all_or_kept c.args.self.now c.write_one.new.self c.holds_world.ensures c.args.writes.now c.write_one.result
    (returns-then-writes-eq1-clause-done c) (returns-then-writes-eq1-clause-refused c)

pub returns-then-write_quickly-clause-only : goal.returns-then-write_quickly-clause-only
returns-then-write_quickly-clause-only c =
    all_made c.args.self.now c.write_quickly.new.self c.holds_world.ensures c.args.writes.now
    (c.write_quickly.ensures.made c.if-write_quickly.true).1

pub returns-else-write_quickly-clause-only : goal.returns-else-write_quickly-clause-only
returns-else-write_quickly-clause-only c = grind (arith, all_or_kept)
