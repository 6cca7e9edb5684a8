use Rattle.{std.proofs.Common.{◌∙◌, sym, arith, length-append}, host_memory.proofs.Parts.{regs_is}}
use Rattle.guest_space.proofs.Codes.{whole_code, more_code, code_ends, code_full}
use Rattle.guest_space.proofs.machine.Machine.code.Goals as goal

pub returns-in-Ok : goal.returns-in-Ok
returns-in-Ok c = grind (arith, regs_is, whole_code)

pub loop-at-init : goal.loop-at-init
loop-at-init c = grind arith

pub push-requires : goal.push-requires
push-requires c = grind arith

pub returns-in-Err : goal.returns-in-Err
returns-in-Err c =
    code_ends c.args.self.now.world c.loop-at.code.items _ c.loop-at.at c.in-Err.field-0 c.loop-at-test.true
    (sym c.fetch.ensures ∙ c.in-Err.is) c.loop-at.invariant.left

pub loop-at-preserved : goal.loop-at-preserved
loop-at-preserved c = grind (arith, length-append, more_code)

pub returns : goal.returns
returns c = code_full c.args.self.now.world c.loop-at.code.items _ c.loop-at.at c.loop-at-test.false c.loop-at.invariant.left
