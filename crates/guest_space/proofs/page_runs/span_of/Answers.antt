use Rattle.{std.proofs.Common.{rules, ◌≡◌, slice_index_or, arith}, client_world.specs.declared.segments.SegReg.TheVariants.{Es}}
use Rattle.guest_space.proofs.WriteRuns.{span_grows}
use Rattle.guest_space.proofs.page_runs.span_of.Goals as goal

pub loop-x-preserved : goal.loop-x-preserved
loop-x-preserved c =
    let x = slice_index_or c.args.writes.now c.loop-x.x-index (record { seg = Es; width = 0; off = 0; value = 0 }) in
    let same : x.seg ≡ c.args.seg = search rules in
    span_grows c.args.seg c.loop-x.low c.loop-x.high c.min-low.result c.max-high.result c.args.writes.now c.loop-x.x-index
    (record { seg = Es; width = 0; off = 0; value = 0 }) c.loop-x-test.true c.loop-x.invariant
    (same, omega arith, omega arith) (omega arith) (omega arith)

pub returns : goal.returns
returns c = λ k d within. c.loop-x.invariant k d (omega arith) (omega arith)
