use Rattle.std.proofs.Common.{◌≡◌, ◌≤◌, take}
use Rattle.std.specs.Prelude.{count_by, is_some}
use Rattle.dpmi_report.proofs.parts.count_descriptors.Given as goal

abbrev pub invariant-loop-index : goal.invariant-loop-index
invariant-loop-index l = (l.count ≡ count_by is_some (take l.index l.machine.world.descriptors)) × (l.count ≤ l.index)
