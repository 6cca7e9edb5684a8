use Rattle.guest_space.proofs.{RecordWrites.{only_row}, laws.every_row_changes_only_itself.Goals.{returns as goal}}

pub returns : goal
returns c = only_row
