use Rattle.std.proofs.Common.{◌≡◌, ◌+◌, ◌-◌, length}
use Rattle.exec_flow.specs.Frames.{push_saved_frames}
use Rattle.insn_plan.specs.{Act.{Act, Pending}, Plan.{plan_result}}
use Rattle.exec_flow.proofs.frames.push_frames.Given as goal

-- what is left after k levels is the whole, for whatever follows
abbrev pub invariant-loop-k : goal.invariant-loop-k
invariant-loop-k l = record {
  left : (rest : Pending → Act) →
      plan_result l.m.world (push_saved_frames l.m.world l.i 1 l.fn.n l.initial.next rest)
      ≡ plan_result l.m.world (push_saved_frames l.m.world l.i (l.k + 1) (l.fn.n - l.k) l.next rest);
  writes : length l.next.writes ≡ length l.initial.next.writes + l.k;
}
