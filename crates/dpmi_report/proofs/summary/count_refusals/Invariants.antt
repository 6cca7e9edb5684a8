use Rattle.std.proofs.Common.{◌≡◌, ◌≤◌, take}
use Rattle.std.specs.Prelude.{count_by}
use Rattle.dpmi_report.specs.Summary.{is_refusal}
use Rattle.dpmi_report.proofs.summary.count_refusals.Given as goal

abbrev pub invariant-loop-i : goal.invariant-loop-i
invariant-loop-i l = (l.count ≡ count_by is_refusal (take l.i l.host.world.kept)) × (l.count ≤ l.i)
