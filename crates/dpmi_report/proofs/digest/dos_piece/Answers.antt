use Rattle.{std.proofs.{Common.{arith, ◌∙◌}, lemmas.List.{length-set}}, dpmi_report.proofs.Sequence.{byte_more, piece_is}}
use Rattle.dpmi_report.proofs.digest.dos_piece.Goals as goal

pub loop-i-preserved : goal.loop-i-preserved
loop-i-preserved c = (
  byte_more c.loop-i.piece c.args.machine.now.world.dos c.args.at c.loop-i.i c.dos8.result (omega (arith, c.loop-i.invariant.1))
      c.loop-i.invariant.0 c.dos8.ensures,
  length-set _ _ _ ∙ c.loop-i.invariant.1,
)

pub returns : goal.returns
returns c = piece_is c.loop-i.piece c.args.machine.now.world.dos c.args.at c.loop-i.invariant.1
    (omega (arith, c.requires.inside, c.requires.size)) (λ k lt. c.loop-i.invariant.0 k (omega arith))
