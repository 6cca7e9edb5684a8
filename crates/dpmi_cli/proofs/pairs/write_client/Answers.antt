use Rattle.dpmi_io.proofs.Output.{puts_cut, puts_then}
use Rattle.dpmi_cli.proofs.pairs.write_client.Goals as goal

pub returns-in_err-put_client_line : goal.returns-in_err-put_client_line
returns-in_err-put_client_line g c = puts_cut _ _ c.from_residual.ensures.0 c.in_err-put_client_line.ensures

pub returns : goal.returns
returns g c = puts_then _ c.in_ok-put_client_line.ensures c.write_all_of.ensures
