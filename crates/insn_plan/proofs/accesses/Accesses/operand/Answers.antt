use Rattle.{std.proofs.Common.{refl, arith}, insn_plan.specs.Act.{value_of}}
use Rattle.insn_plan.proofs.{Moved.{source_given}, accesses.Accesses.operand.Goals.{returns-in_default as goal}}

pub returns-in_default : goal
unfolding value_of
returns-in_default c =
    rw (source_given c.args.self.now.world.regs c.args.addr32 c.args.width c.args.operand.now c.in_default.not-Mem)
    (rw (c.given.ensures, c.regs-in_default.ensures) (record { value = refl; noted = refl; room = omega arith }))
