use Rattle.{std.proofs.Common.{◌∙◌, sym, arith}, guest_space.proofs.Accesses.{refusal_refused, write_done, write_refused}}
use Rattle.guest_space.proofs.machine.Machine.write_checked.Goals as goal

pub returns-in_err-base-clause-refused : goal.returns-in_err-base-clause-refused
returns-in_err-base-clause-refused g c = grind (arith, refusal_refused)

pub returns-clause-done : goal.returns-clause-done
returns-clause-done g c = grind (arith, write_done)

pub returns-clause-refused : goal.returns-clause-refused
returns-clause-refused g c =
    write_refused c.args.self.now c.store.new.self c.args.seg c.args.off g.row.N c.in_ok-base.base c.store.result
    (sym c.segment_base.ensures ∙ c.in_ok-base.was) c.store.ensures.refused
