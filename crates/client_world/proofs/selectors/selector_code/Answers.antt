use Rattle.{std.proofs.Common.{rules}, client_world.proofs.selectors.selector_code.Goals.{returns as goal}}

pub returns : goal
returns c = search rules
