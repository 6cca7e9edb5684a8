use Rattle.{std.proofs.Common.{rules}, client_world.proofs.selectors.is_local.Goals.{returns as goal}}

pub returns : goal
returns c = search rules
