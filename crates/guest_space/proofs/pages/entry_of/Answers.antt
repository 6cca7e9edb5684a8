use Rattle.{std.proofs.Common.{arith}, guest_space.proofs.{CacheLaws.{entry_hits}, pages.entry_of.Goals.{returns-clause-hit as goal}}}

pub returns-clause-hit : goal
returns-clause-hit c = grind (arith, entry_hits)
