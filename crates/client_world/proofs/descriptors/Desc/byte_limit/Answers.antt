use Rattle.{std.proofs.Common.{rules}, client_world.proofs.descriptors.Desc.byte_limit.Goals.{returns-then-self as goal}}

pub returns-then-self : goal
returns-then-self c = search rules
