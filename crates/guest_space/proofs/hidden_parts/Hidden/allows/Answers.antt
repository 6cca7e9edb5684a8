use Rattle.{std.proofs.Common.{rules}, guest_space.proofs.hidden_parts.Hidden.allows.Goals.{returns-else-is_data_with as goal}}

pub returns-else-is_data_with : goal
returns-else-is_data_with c = search rules
