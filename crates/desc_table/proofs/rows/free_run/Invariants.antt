use Rattle.std.proofs.Common.{◌≡◌, ◌≤◌, ◌<◌, ◌+◌, ℕ, None}
use Rattle.client_world.specs.declared.host_frames.TheConstants.{FIRST_FREE_DESCRIPTOR}
use Rattle.desc_table.specs.Rows.{row_at, row_address, IsFreeRun}
use Rattle.desc_table.proofs.rows.free_run.Given as goal

-- the rows from `start` on are free and fewer than n, and no run begins below `start`
abbrev pub invariant-loop-index : goal.invariant-loop-index
invariant-loop-index l = record {
  from : FIRST_FREE_DESCRIPTOR ≤ l.start;
  to : l.start ≤ l.index;
  short : l.index < l.start + l.n;
  free : (index : ℕ) → l.start ≤ index → index < l.index → row_at l.ram (row_address index) ≡ None;
  least : (below : ℕ) → FIRST_FREE_DESCRIPTOR ≤ below → below < l.start → ¬ IsFreeRun l.ram below l.n;
}
