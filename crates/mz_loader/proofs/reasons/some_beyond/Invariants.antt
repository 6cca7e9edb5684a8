use Rattle.std.proofs.Common.{◌≡◌, ◌+◌, ◌-◌, ◌*◌}
use Rattle.mz_loader.specs.Refusal.{some_beyond}
use Rattle.mz_loader.proofs.reasons.some_beyond.Given as goal

abbrev pub invariant-loop-i : goal.invariant-loop-i
invariant-loop-i l = some_beyond l.file l.limit (l.at + 4 * l.i) (l.n - l.i) ≡ some_beyond l.file l.limit l.at l.n
