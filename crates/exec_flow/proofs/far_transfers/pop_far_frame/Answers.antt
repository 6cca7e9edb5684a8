use Rattle.{std.proofs.Common.{rules}, exec_flow.specs.FarTransfers.{far_frame_pop, far_transfer}}
use Rattle.insn_plan.specs.{Plan.{after_plan, after_commit}, Stack.{regs_after_pops}}
use Rattle.{guest_space.specs.Pending.{first_write_fault, after_writes}, client_world.specs.General.{with_general}}
use Rattle.exec_flow.proofs.far_transfers.pop_far_frame.Goals.{returns as goal}

pub returns : goal
unfolding far_frame_pop far_transfer after_plan after_commit first_write_fault after_writes with_general regs_after_pops
returns c = search rules
