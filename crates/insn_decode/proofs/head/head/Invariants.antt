use Rattle.std.proofs.Common.{◌≡◌, length}
use Rattle.insn_decode.specs.Reading.{head_at, no_prefixes}
use Rattle.insn_decode.proofs.head.head.Given as goal

abbrev pub invariant-loop-rest : goal.invariant-loop-rest
invariant-loop-rest l = head_at no_prefixes l.bytes ≡ head_at l.prefixes l.rest

abbrev pub decreases-loop-rest : goal.decreases-loop-rest
decreases-loop-rest l = length l.rest
