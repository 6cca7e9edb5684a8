use Rattle.{std.proofs.Common.{◌∙◌, arith, sym}, dos_blocks.proofs.SelectorLaws.{free_next, taken_run, whole_run}}
use Rattle.dos_blocks.proofs.selectors.is_free_run.Goals as goal

pub returns-then-is_some : goal.returns-then-is_some
returns-then-is_some c =
    taken_run c.args.m.now.world.descriptors c.args.first c.loop-place.place c.args.n c.desc.result c.loop-place-test.true
    c.desc.ensures.row
    (sym c.is_some.ensures ∙ c.if-is_some.true) c.loop-place.invariant

pub loop-place-preserved : goal.loop-place-preserved
loop-place-preserved c =
    free_next c.args.m.now.world.descriptors c.args.first c.loop-place.place c.args.n c.desc.result c.loop-place-test.true
    c.desc.ensures.row
    (sym c.is_some.ensures ∙ c.if-is_some.false) c.loop-place.invariant

pub returns : goal.returns
returns c =
    whole_run c.args.m.now.world.descriptors c.args.first c.loop-place.place c.args.n c.loop-place-test.false (omega arith)
    c.loop-place.invariant
