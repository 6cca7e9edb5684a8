use Rattle.{std.proofs.Common.{arith}, guest_space.proofs.{Accesses.{write_done, write_refused}, MachineLaws.{stored_or_kept}}}
use Rattle.guest_space.proofs.machine.Machine.write.Goals as goal

pub returns-in-Some-clause-done : goal.returns-in-Some-clause-done
returns-in-Some-clause-done g c = grind (arith, write_done)

pub returns-in-Some-clause-refused : goal.returns-in-Some-clause-refused
returns-in-Some-clause-refused g c =
    write_refused c.args.self.now c.store.new.self c.args.seg c.args.off g.row.N c.in-Some.base c.store.result
    c.in-Some.ensures c.store.ensures.refused

pub returns-in-Some-clause-only : goal.returns-in-Some-clause-only
returns-in-Some-clause-only g c =
    stored_or_kept c.args.self.now c.store.new.self c.holds_world.ensures c.args.seg c.args.off g.row.N c.args.v c.store.result
    (write_done c.args.self.now c.store.new.self c.args.seg c.args.off g.row.N c.in-Some.base c.args.v c.store.result
    c.in-Some.ensures c.store.ensures.done)
    (write_refused c.args.self.now c.store.new.self c.args.seg c.args.off g.row.N c.in-Some.base c.store.result
    c.in-Some.ensures c.store.ensures.refused)

pub returns-in-None-clause-only : goal.returns-in-None-clause-only
returns-in-None-clause-only g c = grind (arith, stored_or_kept)
