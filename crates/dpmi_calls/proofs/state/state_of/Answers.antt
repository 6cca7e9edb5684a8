use Rattle.{std.proofs.Common.{rules}, dpmi_calls.proofs.state.state_of.Goals.{returns as goal}}

pub returns : goal
returns c = search rules
