use Rattle.std.proofs.Common.{◌≡◌, map, take}
use Rattle.dpmi_calls.specs.Memory.{seen}
use Rattle.dpmi_calls.proofs.memory.copy_seen.Given as goal

abbrev pub invariant-loop-i : goal.invariant-loop-i
invariant-loop-i l = take l.i l.into ≡ map (seen l.m.world) (take l.i l.places)
