use Rattle.{std.proofs.Common.{◌∙◌, sym, arith}, host_memory.proofs.HostTables.{tables_inside}}
use Rattle.guest_space.proofs.{Runs.{translated_by_walk, translated_by_failure}, Insides.{machine_inside}}
use Rattle.guest_space.proofs.machine.Machine.walk_to.Goals as goal

pub walk-requires-clause-tables : goal.walk-requires-clause-tables
walk-requires-clause-tables c = tables_inside c.self.inside.ram c.self.inside.pages c.self.invariant.0

pub returns-in-Ok : goal.returns-in-Ok
returns-in-Ok c =
    rw (← c.self.view_is) (sym (translated_by_walk _ _ c.args.lin c.args.write c.in-Ok.at (machine_inside c.self.inside c.self.invariant)
    (omega arith) (sym c.walk.ensures ∙ c.in-Ok.is)))

pub returns-in-Err : goal.returns-in-Err
returns-in-Err c =
    rw (← c.self.view_is, c.page_fault.ensures)
    (sym (translated_by_failure _ _ c.args.lin c.args.write c.in-Err.fault (machine_inside c.self.inside c.self.invariant)
    (omega arith) (sym c.walk.ensures ∙ c.in-Err.is)))
