use Rattle.dos_calls.proofs.LineLaws.{line_here, line_next, line_none}
use Rattle.dos_calls.proofs.keys.line_length.Goals as goal

pub returns-then-bytes-n-eq13-clause-line : goal.returns-then-bytes-n-eq13-clause-line
returns-then-bytes-n-eq13-clause-line c = line_here c.args.bytes.now c.loop-n.n c.loop-n-test.true c.if-bytes-n-eq13.true c.loop-n.invariant

pub loop-n-preserved : goal.loop-n-preserved
loop-n-preserved c = line_next c.args.bytes.now c.loop-n.n c.loop-n-test.true c.if-bytes-n-eq13.false c.loop-n.invariant

pub returns-clause-line : goal.returns-clause-line
returns-clause-line c = line_none c.args.bytes.now c.loop-n.n c.loop-n-test.false c.loop-n.invariant
