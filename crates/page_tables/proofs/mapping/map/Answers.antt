use Rattle.{std.proofs.Common.{arith}, page_tables.specs.Entry.{page_entry}}
use Rattle.page_tables.proofs.MapLaws.{HasTables-with_entry, IsMapped-with_entry, EndsInFrame-with_entry, KeepsOtherPages-with_entry}
use Rattle.page_tables.proofs.mapping.map.Goals as goal

pub returns-clause-tables : goal.returns-clause-tables
returns-clause-tables c =
    rw (c.set32.ensures.bytes, c.table_place-place.ensures.place, c.page_entry.ensures)
    (HasTables-with_entry c.args.ram.now c.args.lin (page_entry c.args.frame c.args.writable)
    c.requires.tables (omega arith) c.requires.covered)

pub returns-clause-mapped : goal.returns-clause-mapped
returns-clause-mapped c =
    rw (c.set32.ensures.bytes, c.table_place-place.ensures.place, c.page_entry.ensures)
    (IsMapped-with_entry c.args.ram.now c.args.lin c.args.frame c.args.writable
    c.requires.tables (omega arith) c.requires.covered)

pub returns-clause-page : goal.returns-clause-page
returns-clause-page c =
    rw (c.set32.ensures.bytes, c.table_place-place.ensures.place, c.page_entry.ensures)
    (EndsInFrame-with_entry c.args.ram.now c.args.lin c.args.frame c.args.writable
    c.requires.tables (omega arith) c.requires.covered)

pub returns-clause-others : goal.returns-clause-others
returns-clause-others c =
    rw (c.set32.ensures.bytes, c.table_place-place.ensures.place, c.page_entry.ensures)
    (KeepsOtherPages-with_entry c.args.ram.now c.args.lin (page_entry c.args.frame c.args.writable)
    c.requires.tables (omega arith) c.requires.covered)
