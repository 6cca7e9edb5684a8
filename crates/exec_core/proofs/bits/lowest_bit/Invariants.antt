use Rattle.std.proofs.Common.{◌≡◌, ◌+◌, ◌-◌}
use Rattle.exec_core.specs.Bits.{lowest_bit}
use Rattle.exec_core.proofs.bits.lowest_bit.Given as goal

-- the bits looked at are k, and what is left gives the rest
abbrev pub invariant-loop-k : goal.invariant-loop-k
invariant-loop-k l = l.k + lowest_bit l.v (l.width - l.k) ≡ lowest_bit l.initial.v l.width
