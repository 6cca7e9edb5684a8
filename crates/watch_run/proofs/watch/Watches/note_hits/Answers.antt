use Rattle.{std.proofs.Common.{rules}, watch_run.specs.Hits.{with_hits}}
use Rattle.watch_run.proofs.HitLaws.{marked_none, none_due, step_marked, step_due, end_marked, end_due}
use Rattle.watch_run.proofs.watch.Watches.note_hits.Goals.{loop-k-preserved as goal}

pub loop-k-preserved : goal
unfolding with_hits
loop-k-preserved c = search (rules, marked_none, none_due, step_marked, step_due, end_marked, end_due)
