use Rattle.guest_space.proofs.VectorCalls.{set_callback}
use Rattle.guest_space.proofs.machine.Machine.set_back.Goals as goal

pub invariant_of-self : goal.invariant_of-self
invariant_of-self c = (set_callback c.self.inside c.args.self.now c.self.view_is c.self.invariant c.requires.width c.args.slot c.args.row
    c.requires.slot c.set_callback.new.ram c.set_callback.ensures).whole

pub returns : goal.returns
returns c =
    let after = set_callback c.self.inside c.args.self.now c.self.view_is c.self.invariant c.requires.width c.args.slot c.args.row
    c.requires.slot c.set_callback.new.ram c.set_callback.ensures in
    record { world = after.world; addresses = after.addresses }
