use Rattle.{std.proofs.Common.{◌∙◌, sym, arith}, guest_space.proofs.FarLaws.{reachable_checked, not_reachable}}
use Rattle.guest_space.proofs.machine.Machine.far_ok.Goals as goal

pub returns-in-Ok : goal.returns-in-Ok
returns-in-Ok c =
    c.is_ok.ensures.value
    ∙ reachable_checked c.args.self.now.world c.args.p c.args.n c.in-Ok.base c.args.write c.check.result
    (sym c.protected_base.ensures ∙ c.in-Ok.is) c.check.ensures

pub returns-in-Err : goal.returns-in-Err
returns-in-Err c = grind (arith, not_reachable)
