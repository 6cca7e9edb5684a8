use Rattle.{std.proofs.Common.{arith}, exec_core.proofs.BitLaws.{highest_here, highest_further, none_higher}}
use Rattle.exec_core.proofs.bits.highest_bit.Goals as goal

pub returns-then-v-lt2 : goal.returns-then-v-lt2
returns-then-v-lt2 c = let here = highest_here c.loop-k.v c.loop-k.k c.args.width c.loop-k-test.true c.if-v-lt2.true in cc

pub loop-k-preserved : goal.loop-k-preserved
loop-k-preserved c = let further = highest_further c.loop-k.v c.loop-k.k c.args.width c.loop-k-test.true c.if-v-lt2.false in cc

pub returns : goal.returns
returns c =
    let none = none_higher c.loop-k.v c.loop-k.k c.args.width c.loop-k-test.false in
    let all = c.loop-k.invariant in
    let end = c.loop-k.auto.k-end in
    omega arith
