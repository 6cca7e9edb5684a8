use Rattle.std.proofs.Common.{◌∙◌, sym, arith}
use Rattle.fault_service.proofs.{Plans.{exception_there, pop_keeps_depth}, returning.back.Goals.{pop-requires as goal}}

pub pop-requires : goal
pop-requires c =
    let some = exception_there c.args.m.now.world (sym c.is_exception.ensures ∙ c.if-not-is_exception.false) in
    let kept = pop_keeps_depth c.args.m.now c.pop_exception.new.m c.frame_bits-bits.result c.in-Ok.ensures in
    omega (arith, some, kept)
