use Rattle.std.proofs.Common.{◌≡◌, length}
use Rattle.guest_space.specs.DosRuns.{with_run_bytes}
use Rattle.guest_space.proofs.dos.put_dos_rows.Given as goal

abbrev pub invariant-loop-number : goal.invariant-loop-number
invariant-loop-number l = record {
  size : length l.ram ≡ length l.fn.ram;
  written : l.ram ≡ with_run_bytes l.fn.ram l.run l.number;
}
