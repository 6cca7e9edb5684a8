use Rattle.{std.proofs.Common.{rules, ◌≡◌, ◌∙◌, Ok}, guest_space.specs.Pending.{first_write_fault, after_writes}}
use Rattle.{insn_plan.proofs.WrittenState.{carried_by}, insn_plan.specs.Plan.{after_commit}}
use Rattle.{fault_service.specs.Return.{pending_of_exception_frame}, fault_service.proofs.returning.pop_exception.Goals.{returns as goal}}

pub returns : goal
unfolding first_write_fault after_writes after_commit
returns c =
    let frame = c.in_ok-frame.frame in
    let left = pending_of_exception_frame c.args.m.now.world frame.ip frame.cs frame.image frame.sp frame.ss in
    let made : after_commit c.args.m.now left ≡ Ok c.set_vif.new.self = search rules in
    carried_by _ _ _ c.in_ok-frame.ensures ∙ made
