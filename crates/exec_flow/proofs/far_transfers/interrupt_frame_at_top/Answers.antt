use Rattle.{std.proofs.Common.{rules}, exec_flow.specs.FarTransfers.{interrupt_frame_pop, far_transfer}}
use Rattle.exec_flow.proofs.far_transfers.interrupt_frame_at_top.Goals.{returns as goal}

pub returns : goal
unfolding interrupt_frame_pop far_transfer
returns c = search rules
