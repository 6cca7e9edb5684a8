use Rattle.{std.proofs.Common.{rules}, client_world.proofs.descriptors.Desc.is_inside.Goals.{returns-then-end-limit as goal}}

pub returns-then-end-limit : goal
returns-then-end-limit c = search rules
