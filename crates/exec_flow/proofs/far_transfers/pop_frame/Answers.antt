use Rattle.{std.proofs.Common.{rules, ◌≡◌, ◌∙◌, Ok}, client_world.specs.General.{with_general}}
use Rattle.exec_flow.specs.{FarTransfers.{pending_of_interrupt_frame}, FlagImages.{with_popped_flags}}
use Rattle.{guest_space.specs.Pending.{first_write_fault, after_writes}, insn_plan.proofs.WrittenState.{carried_by}}
use Rattle.insn_plan.specs.{Plan.{after_commit}, Stack.{regs_after_pops}}
use Rattle.exec_flow.proofs.far_transfers.pop_frame.Goals.{returns as goal}

pub returns : goal
unfolding with_general with_popped_flags first_write_fault after_writes after_commit regs_after_pops
returns c =
    let frame = c.in_ok-frame.frame in
    let made : after_commit c.args.m.now (pending_of_interrupt_frame c.args.m.now.world c.args.bits frame.ip frame.cs frame.image)
    ≡ Ok c.set_popped_flags.new.m =
    search rules in
    carried_by _ _ _ c.in_ok-frame.ensures ∙ made
