use Rattle.std.proofs.Common.{arith}
use Rattle.translation.proofs.{PutPart.{first_reachable}, structure.write_results.Goals.{write_bytes-requires-clause-reachable as goal}}

pub write_bytes-requires-clause-reachable : goal
write_bytes-requires-clause-reachable c = first_reachable c.args.m.now.world c.args.at c.index_results.result c.requires (omega arith)
