use Rattle.std.proofs.Common.{◌≡◌, drop}
use Rattle.watch_run.specs.Hits.{watches_one}
use Rattle.watch_run.proofs.hits.watches_one.Given as goal

-- what is left decides
abbrev pub invariant-loop-t : goal.invariant-loop-t
invariant-loop-t l = watches_one l.x (drop l.t-index l.touches) ≡ watches_one l.x l.touches
