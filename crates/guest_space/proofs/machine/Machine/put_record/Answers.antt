use Rattle.{std.proofs.Common.{arith}, guest_space.proofs.RecordWrites.{after_put}}
use Rattle.guest_space.proofs.machine.Machine.put_record.Goals as goal

pub invariant_of-self : goal.invariant_of-self
invariant_of-self c =
    (after_put c.self.inside c.args.self.now c.self.view_is c.self.invariant c.requires.width c.args.bytes.now c.requires.depth
    (omega arith) c.requires.exact
    c.record_count-place.result c.record_count-place.ensures.count c.write.new.self c.write.ensures.bytes).whole

pub returns : goal.returns
returns c =
    (after_put c.self.inside c.args.self.now c.self.view_is c.self.invariant c.requires.width c.args.bytes.now c.requires.depth
    (omega arith) c.requires.exact
    c.record_count-place.result c.record_count-place.ensures.count c.write.new.self c.write.ensures.bytes).view
