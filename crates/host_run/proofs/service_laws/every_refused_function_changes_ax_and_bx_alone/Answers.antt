use Rattle.host_run.proofs.Services.{any_function, other_function}
use Rattle.host_run.proofs.service_laws.every_refused_function_changes_ax_and_bx_alone.Goals.{returns as goal}

pub returns : goal
returns c = record { all = any_function; others = other_function }
