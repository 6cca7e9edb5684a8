use Rattle.{std.proofs.Common.{arith}, exec_core.proofs.BitLaws.{lowest_here, lowest_further, none_lower}}
use Rattle.exec_core.proofs.bits.lowest_bit.Goals as goal

pub returns-then-v-eq1 : goal.returns-then-v-eq1
returns-then-v-eq1 c = let here = lowest_here c.loop-k.v c.loop-k.k c.args.width c.loop-k-test.true c.if-v-eq1.true in cc

pub loop-k-preserved : goal.loop-k-preserved
loop-k-preserved c = let further = lowest_further c.loop-k.v c.loop-k.k c.args.width c.loop-k-test.true c.if-v-eq1.false in cc

pub returns : goal.returns
returns c =
    let none = none_lower c.loop-k.v c.loop-k.k c.args.width c.loop-k-test.false in
    let all = c.loop-k.invariant in
    let end = c.loop-k.auto.k-end in
    omega arith
