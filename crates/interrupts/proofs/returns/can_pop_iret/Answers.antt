use Rattle.{std.proofs.Common.{ap, ◌∙◌, sym}, std.specs.Prelude.{ℕ, is_ok}, exec_flow.specs.FarTransfers.{interrupt_frame_pop}}
use Rattle.insn_plan.specs.Plan.{plan_result}
use Rattle.interrupts.proofs.{ReturnPlans.{return_is_made}, returns.can_pop_iret.Goals.{returns as goal}}

pub returns : goal
returns c =
    let w = c.args.m.now.world in
    c.can_pop_frame.ensures ∙ ap (λ (bits : ℕ). is_ok (plan_result w (interrupt_frame_pop w bits))) c.frame_bits.ensures
    ∙ sym (return_is_made c.args.m.now)
