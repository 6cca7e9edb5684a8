use Rattle.dpmi_report.proofs.{BlockBytes.{has_block}, blocks.is_block.Goals.{returns as goal}}

pub returns : goal
returns c = rw (c.is_some.ensures, c.block.ensures) (has_block c.args.machine.now.world.blocks c.args.place)
