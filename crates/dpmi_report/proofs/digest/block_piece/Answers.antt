use Rattle.{std.proofs.{Common.{arith, ◌∙◌, ◌+◌}, lemmas.List.{length-set}}, client_world.specs.{Access.{bytes_of_block}, World.{block_at}}}
use Rattle.dpmi_report.proofs.{BlockBytes.{has_byte}, Sequence.{byte_more, piece_is}}
use Rattle.dpmi_report.proofs.digest.block_piece.Goals as goal

pub block8-requires : goal.block8-requires
block8-requires c =
    has_byte (block_at c.args.machine.now.world.blocks c.args.handle) (c.args.at + c.loop-i.i) (omega (arith, c.requires.inside))

pub loop-i-preserved : goal.loop-i-preserved
loop-i-preserved c = (
  byte_more c.loop-i.piece (bytes_of_block (block_at c.args.machine.now.world.blocks c.args.handle)) c.args.at c.loop-i.i c.block8.result
      (omega (arith, c.loop-i.invariant.1)) c.loop-i.invariant.0 c.block8.ensures,
  length-set _ _ _ ∙ c.loop-i.invariant.1,
)

pub returns : goal.returns
returns c =
    piece_is c.loop-i.piece (bytes_of_block (block_at c.args.machine.now.world.blocks c.args.handle)) c.args.at c.loop-i.invariant.1
    c.requires.inside
    (λ k lt. c.loop-i.invariant.0 k (omega arith))
