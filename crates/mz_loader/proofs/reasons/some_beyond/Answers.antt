use Rattle.{std.proofs.Common.{sym, ◌∙◌, arith}, mz_loader.proofs.Relocating.{some_beyond_here, some_beyond_next, some_beyond_end}}
use Rattle.mz_loader.proofs.reasons.some_beyond.Goals as goal

pub returns-then-limit-relocation_target : goal.returns-then-limit-relocation_target
returns-then-limit-relocation_target c =
    sym (some_beyond_here c.args.file.now c.args.limit c.args.at c.args.n c.loop-i.i c.loop-i-test.true
    (omega (arith, c.relocation_target.ensures.target, c.if-limit-relocation_target.true)))
    ∙ c.loop-i.invariant

pub loop-i-preserved : goal.loop-i-preserved
loop-i-preserved c =
    sym (some_beyond_next c.args.file.now c.args.limit c.args.at c.args.n c.loop-i.i c.loop-i-test.true
    (omega (arith, c.relocation_target.ensures.target, c.if-limit-relocation_target.false)))
    ∙ c.loop-i.invariant

pub returns : goal.returns
returns c = sym (some_beyond_end c.args.file.now c.args.limit c.args.at c.args.n c.loop-i.i c.loop-i-test.false) ∙ c.loop-i.invariant
