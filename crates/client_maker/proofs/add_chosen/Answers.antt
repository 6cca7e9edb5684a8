use Rattle.{std.proofs.Common.{rules}, client_maker.proofs.add_chosen.Goals.{returns-clause-added as goal}}

pub returns-clause-added : goal
returns-clause-added c = search rules
