use Rattle.std.proofs.Common.{rules}
use Rattle.interrupts.proofs.{KeptWorlds.{refused_by_vector}, software.check_handler.Goals.{returns-in-Err-clause-refused as goal}}

pub returns-in-Err-clause-refused : goal
returns-in-Err-clause-refused c = refused_by_vector c.args.m.now c.args.n c.in-Err.f (search rules) (search rules)
