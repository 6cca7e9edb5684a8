use Rattle.{std.proofs.Common.{arith}, dpmi_report.specs.Summary.{is_refusal}}
use Rattle.dpmi_report.proofs.{Sequence.{counted}, summary.count_refusals.Goals.{loop-i-preserved as goal}}

pub loop-i-preserved : goal
loop-i-preserved c = (
  counted is_refusal c.args.host.now.world.kept c.loop-i.i c.refusal_at-count.result c.loop-i.count
      (omega (arith, c.loop-i-test.true, c.kept-i-end.ensures))
      c.refusal_at-count.ensures.value c.loop-i.invariant.0,
  omega (arith, c.refusal_at-count.ensures.most, c.loop-i.invariant.1),
)
