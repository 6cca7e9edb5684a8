use Rattle.{std.proofs.Common.{arith}, host_memory.specs.Filling.{table_entry, table_start}}
use Rattle.host_memory.proofs.FreshMemory.{none_written, one_written}
use Rattle.host_memory.proofs.blank.fill_table.Goals as goal

pub loop-index-init : goal.loop-index-init
loop-index-init c = none_written (table_entry c.args.table) (table_start c.args.table) c.args.ram.now

pub set32-requires : goal.set32-requires
set32-requires c = let size = c.loop-index.invariant.size in omega arith

pub loop-index-preserved : goal.loop-index-preserved
loop-index-preserved c =
    let size = c.loop-index.invariant.size in
    rw c.set32.ensures.bytes
    (one_written (table_entry c.args.table) (table_start c.args.table) c.loop-index.index c.table_entry.result _ c.args.ram.now
    c.loop-index.ram c.loop-index.invariant (omega arith) (omega arith) c.table_entry.ensures)
