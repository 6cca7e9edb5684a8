use Rattle.{std.proofs.Common.{rules}, guest_space.proofs.hidden_parts.part_in_row.Goals.{returns as goal}}

pub returns : goal
returns c = search rules
