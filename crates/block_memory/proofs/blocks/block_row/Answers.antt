use Rattle.block_memory.proofs.{BlockCalls.{row_read}, blocks.block_row.Goals.{returns as goal}}

pub returns : goal
returns c = row_read c.args.ram.now c.args.place c.get32.result c.get32-2.result c.requires c.get32.ensures c.get32-2.ensures
