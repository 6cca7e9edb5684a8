use Rattle.{std.proofs.Common.{arith}, desc_table.proofs.RowLaws.{at_rows_from}, guest_space.specs.HiddenParts.{part_of_selector}}
use Rattle.guest_space.proofs.hidden_parts.protected_part.Goals.{returns-else-not-is_local as goal}

pub returns-else-not-is_local : goal
unfolding part_of_selector
returns-else-not-is_local c = grind (arith, at_rows_from)
