use Rattle.std.proofs.{Common.{arith, ◌<◌, ◌∙◌, ap, length, Some, None}, lemmas.Option.{slice_get-get_or}}
use Rattle.{desc_table.specs.Rows.{rows_from, rows_start}, client_world.specs.Selector.{Row}}
use Rattle.desc_table.proofs.RowLaws.{length-rows_from, at_rows_from}
use Rattle.desc_table.proofs.rows.the_rows_stand_at_their_indices.Goals as goal

pub returns-clause-size : goal.returns-clause-size
returns-clause-size c bytes = length-rows_from bytes rows_start

pub returns-clause-rows : goal.returns-clause-rows
returns-clause-rows c bytes index small =
    let inside : index < length (rows_from bytes rows_start) = omega (arith, length-rows_from bytes rows_start) in
    slice_get-get_or (rows_from bytes rows_start) index None inside
    ∙ ap (λ (row : Row). Some row) (at_rows_from bytes rows_start index None small)
