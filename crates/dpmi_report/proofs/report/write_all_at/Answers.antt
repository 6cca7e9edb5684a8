use Rattle.dpmi_io.proofs.Output.{puts_cut, puts_cut_early, puts_then}
use Rattle.dpmi_report.proofs.report.write_all_at.Goals as goal

pub returns-in_err-write_run : goal.returns-in_err-write_run
returns-in_err-write_run g c = puts_cut_early _ _ _ c.from_residual.ensures.0 c.in_err-write_run.ensures

pub returns-in_err-write_state_of : goal.returns-in_err-write_state_of
returns-in_err-write_state_of g c =
    puts_cut _ _ c.from_residual-in_err-write_state_of.ensures.0 (puts_then _ c.in_ok-write_run.ensures c.in_err-write_state_of.ensures)

pub returns : goal.returns
returns g c = puts_then _ (puts_then _ c.in_ok-write_run.ensures c.in_ok-write_state_of.ensures) c.write_memory_of.ensures
