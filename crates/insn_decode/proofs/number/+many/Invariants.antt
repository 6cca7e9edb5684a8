use Rattle.insn_decode.proofs.number.+many.Given as goal

abbrev pub decreases-many : goal.decreases-many
decreases-many l = l.size
