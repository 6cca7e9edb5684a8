use Rattle.host_memory.specs.Filling.{Written, table_entry, table_start}
use Rattle.host_memory.proofs.blank.fill_table.Given as goal

abbrev pub invariant-loop-index : goal.invariant-loop-index
invariant-loop-index l = Written (table_entry l.table) (table_start l.table) l.index l.fn.ram l.ram
