use Rattle.{std.proofs.Common.{rules}, exec_flow.specs.FarTransfers.{code_selector}}
use Rattle.exec_flow.proofs.far_transfers.code_selector.Goals.{returns-in-Protected as goal}

pub returns-in-Protected : goal
unfolding code_selector
returns-in-Protected c = search rules
