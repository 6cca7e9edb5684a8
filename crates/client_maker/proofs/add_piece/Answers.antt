use Rattle.{std.proofs.Common.{rules}, client_maker.proofs.add_piece.Goals.{returns-in-1-clause-added as goal}}

pub returns-in-1-clause-added : goal
returns-in-1-clause-added c = search rules
