use Rattle.{std.proofs.Common.{rules}, watch_run.specs.Services.{set_watch}}
use Rattle.watch_run.proofs.watch.Watches.set_watch.Goals.{returns-then-from-gt4294967296-clause-answer as goal}

pub returns-then-from-gt4294967296-clause-answer : goal
unfolding set_watch
returns-then-from-gt4294967296-clause-answer c = search rules
