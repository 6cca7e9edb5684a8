use Rattle.std.proofs.Common.{◌≡◌, ◌-◌, Some, drop}
use Rattle.watch_run.specs.Hits.{hit_bits}
use Rattle.watch_run.proofs.watch.Watches.hits.Given as goal

-- the bits of the last k handles
abbrev pub invariant-loop-k : goal.invariant-loop-k
invariant-loop-k l = l.bits ≡ hit_bits l.at (Some l.touches.items) (drop (16 - l.k) l.slots)
