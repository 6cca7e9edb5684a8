use Rattle.{std.proofs.Common.{rules}, client_world.proofs.registers.Flags.image.Goals.{returns as goal}}

pub returns : goal
returns c = search rules
