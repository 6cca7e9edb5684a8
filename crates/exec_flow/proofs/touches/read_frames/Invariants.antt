use Rattle.std.proofs.Common.{◌≡◌, ◌+◌, ◌-◌, length}
use Rattle.exec_flow.specs.EnterAccesses.{frame_reads}
use Rattle.exec_flow.proofs.touches.read_frames.Given as goal

-- what is left comes to all of the reads
abbrev pub invariant-loop-k : goal.invariant-loop-k
invariant-loop-k l = record {
  world : l.a.world ≡ l.fn.a.world;
  left : frame_reads l.a.world l.i (l.k + 1) (l.n - l.k) l.a.accesses ≡ frame_reads l.fn.a.world l.i 1 l.n l.fn.a.accesses;
  room : length l.a.accesses ≡ l.k;
}
