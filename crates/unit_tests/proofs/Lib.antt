mod FirstTables
