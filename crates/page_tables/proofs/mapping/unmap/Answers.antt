use Rattle.std.proofs.Common.{arith}
use Rattle.page_tables.proofs.MapLaws.{HasTables-with_entry, IsCovered-with_entry, IsUnmapped-with_entry, EndsNowhere-with_entry}
use Rattle.page_tables.proofs.MapLaws.{KeepsOtherPages-with_entry}
use Rattle.page_tables.proofs.mapping.unmap.Goals as goal

pub returns-clause-tables : goal.returns-clause-tables
returns-clause-tables c =
    rw (c.set32.ensures.bytes, c.table_place-place.ensures.place)
    (HasTables-with_entry c.args.ram.now c.args.lin 0 c.requires.tables (omega arith) c.requires.mapped.covered)

pub returns-clause-covered : goal.returns-clause-covered
returns-clause-covered c =
    rw (c.set32.ensures.bytes, c.table_place-place.ensures.place)
    (IsCovered-with_entry c.args.ram.now c.args.lin 0 c.requires.tables (omega arith) c.requires.mapped.covered)

pub returns-clause-unmapped : goal.returns-clause-unmapped
returns-clause-unmapped c =
    rw (c.set32.ensures.bytes, c.table_place-place.ensures.place)
    (IsUnmapped-with_entry c.args.ram.now c.args.lin c.requires.tables (omega arith) c.requires.mapped.covered)

pub returns-clause-page : goal.returns-clause-page
returns-clause-page c =
    rw (c.set32.ensures.bytes, c.table_place-place.ensures.place)
    (EndsNowhere-with_entry c.args.ram.now c.args.lin c.requires.tables (omega arith) c.requires.mapped.covered)

pub returns-clause-others : goal.returns-clause-others
returns-clause-others c =
    rw (c.set32.ensures.bytes, c.table_place-place.ensures.place)
    (KeepsOtherPages-with_entry c.args.ram.now c.args.lin 0 c.requires.tables (omega arith) c.requires.mapped.covered)
