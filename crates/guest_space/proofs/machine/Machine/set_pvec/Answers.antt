use Rattle.{std.proofs.Common.{arith}, guest_space.proofs.VectorCalls.{set_interrupt}}
use Rattle.guest_space.proofs.machine.Machine.set_pvec.Goals as goal

pub invariant_of-self : goal.invariant_of-self
invariant_of-self c = (set_interrupt c.self.inside c.args.self.now c.self.view_is c.self.invariant c.args.n c.args.p (omega arith)
    c.set_pointer.new.ram c.set_pointer.ensures).whole

pub returns : goal.returns
returns c =
    let after = set_interrupt c.self.inside c.args.self.now c.self.view_is c.self.invariant c.args.n c.args.p (omega arith)
    c.set_pointer.new.ram c.set_pointer.ensures in
    record { world = after.world; addresses = after.addresses }
