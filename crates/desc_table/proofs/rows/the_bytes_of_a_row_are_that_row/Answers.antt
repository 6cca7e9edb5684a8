use Rattle.desc_table.proofs.{RowLaws.{length-row_bytes, row_at-row_bytes}, rows.the_bytes_of_a_row_are_that_row.Goals.{returns as goal}}

pub returns : goal
returns c = record { size = length-row_bytes; read = row_at-row_bytes }
