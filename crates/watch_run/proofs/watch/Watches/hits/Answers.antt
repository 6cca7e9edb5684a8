use Rattle.{std.proofs.Common.{rules}, watch_run.proofs.HitLaws.{bits_none, bits_start, bits_next, bits_room, bits_all}}
use Rattle.watch_run.proofs.watch.Watches.hits.Goals.{loop-k-preserved as goal}

pub loop-k-preserved : goal
loop-k-preserved c = search (rules, bits_none, bits_start, bits_next, bits_room, bits_all)
