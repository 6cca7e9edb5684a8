use Rattle.std.proofs.Common.{arith}
use Rattle.guest_space.proofs.{ArenaLists.{list_start}, ArenaPuts.{splice_put}, dos.replace_entries.Goals.{returns as goal}}

pub returns : goal
returns c = grind (arith, list_start, splice_put)
