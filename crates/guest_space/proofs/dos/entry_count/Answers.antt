use Rattle.{std.proofs.Common.{arith}, guest_space.proofs.ArenaLists.{counted}}
use Rattle.guest_space.proofs.dos.entry_count.Goals as goal

pub returns-then-get8-eq0-clause-count : goal.returns-then-get8-eq0-clause-count
returns-then-get8-eq0-clause-count c = grind (arith, counted)

pub returns-clause-count : goal.returns-clause-count
returns-clause-count c = grind (arith, counted)
