use Rattle.std.specs.List.{AllWithin}
use Rattle.guest_space.specs.{declared.pending.Write.{Write}, WriteRuns.{LiesIn}}
use Rattle.guest_space.proofs.page_runs.span_of.Given as goal

abbrev pub invariant-loop-x : goal.invariant-loop-x
invariant-loop-x l = AllWithin (λ (x : Write). LiesIn l.seg l.low l.high x) l.writes 0 l.x-index
