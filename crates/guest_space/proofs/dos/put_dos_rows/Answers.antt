use Rattle.{std.proofs.Common.{sym, refl, arith}, guest_space.proofs.DosRows.{row_put_next, run_bytes_none}}
use Rattle.guest_space.proofs.dos.put_dos_rows.Goals as goal

pub loop-number-init : goal.loop-number-init
loop-number-init c = record { size = refl; written = sym (run_bytes_none c.args.ram.now c.args.run) }

pub loop-number-preserved : goal.loop-number-preserved
loop-number-preserved c = grind (arith, row_put_next)
