use Rattle.{std.proofs.Common.{refl}, guest_space.proofs.Writes.{left_written, none_left}}
use Rattle.guest_space.proofs.machine.Machine.make_runs.Goals as goal

pub loop-x-init : goal.loop-x-init
loop-x-init c = record { runs = c.requires; left = refl }

pub make_at-requires : goal.make_at-requires
make_at-requires c = c.loop-x.invariant.runs c.loop-x.x-index _ c.loop-x-test.true

pub loop-x-preserved : goal.loop-x-preserved
loop-x-preserved c = record {
  runs = λ k d within. c.make_at.ensures.kept _ _ _ _ (c.loop-x.invariant.runs k d within);
  left = left_written c.loop-x.self c.make_at.new.self _ c.args.writes.now c.loop-x.x-index _ c.loop-x-test.true c.make_at.ensures.written
      c.loop-x.invariant.left;
}

pub returns : goal.returns
returns c = none_left c.loop-x.self _ c.args.writes.now c.loop-x.x-index c.loop-x-test.false c.loop-x.invariant.left
