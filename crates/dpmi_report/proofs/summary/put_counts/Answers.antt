use Rattle.dpmi_io.proofs.Output.{puts_cut, puts_cut_early, puts_then}
use Rattle.dpmi_report.proofs.summary.put_counts.Goals as goal

pub returns-in_err-put_soak : goal.returns-in_err-put_soak
returns-in_err-put_soak g c = puts_cut_early _ _ _ c.from_residual.ensures.0 c.in_err-put_soak.ensures

pub returns-in_err-put_exit : goal.returns-in_err-put_exit
returns-in_err-put_exit g c =
    puts_cut _ _ c.from_residual-in_err-put_exit.ensures.0 (puts_then _ c.in_ok-put_soak.ensures c.in_err-put_exit.ensures)

pub returns : goal.returns
returns g c = puts_then _ (puts_then _ c.in_ok-put_soak.ensures c.in_ok-put_exit.ensures) c.put_services.ensures
