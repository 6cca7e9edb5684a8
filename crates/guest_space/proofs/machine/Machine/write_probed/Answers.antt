use Rattle.std.proofs.Common.{◌∙◌, sym, refl, arith}
use Rattle.guest_space.proofs.Writes.{left_from, none_refused, left_none, left_written, none_left}
use Rattle.guest_space.proofs.machine.Machine.write_probed.Goals as goal

pub loop-x-init : goal.loop-x-init
loop-x-init c = record { none = sym c.first_fault.ensures ∙ c.in_default.is; left = refl }

pub make_probed-requires : goal.make_probed-requires
make_probed-requires c = grind (arith, left_from, none_refused)

pub loop-x-preserved : goal.loop-x-preserved
loop-x-preserved c = record {
  none = grind (arith, left_none);
  left = left_written c.loop-x.self c.make_probed.new.self _ c.args.writes.now c.loop-x.x-index _ c.loop-x-test.true c.make_probed.ensures
      c.loop-x.invariant.left;
}

pub returns-clause-done : goal.returns-clause-done
returns-clause-done c = (
  sym c.first_fault.ensures ∙ c.in_default.is,
  none_left c.loop-x.self _ c.args.writes.now c.loop-x.x-index c.loop-x-test.false c.loop-x.invariant.left,
)
