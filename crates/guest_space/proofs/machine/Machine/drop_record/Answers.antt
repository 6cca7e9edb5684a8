use Rattle.{std.proofs.Common.{arith}, guest_space.proofs.{Insides.{processor_of}, RecordWrites.{count_of, after_drop}}}
use Rattle.guest_space.proofs.machine.Machine.drop_record.Goals as goal

pub overflow_sub-place : goal.overflow_sub-place
overflow_sub-place c =
    omega (
      arith,
      c.requires,
      count_of (processor_of c.self.inside) c.self.inside.ram c.args.self.now c.self.view_is c.self.invariant.0,
      c.record_count-place.ensures.count,
    )

pub invariant_of-self : goal.invariant_of-self
invariant_of-self c =
    (after_drop c.self.inside c.args.self.now c.self.view_is c.self.invariant c.requires c.record_count-place.result
    c.record_count-place.ensures.count
    c.fill.new.self c.fill.ensures.bytes).whole

pub returns : goal.returns
returns c =
    (after_drop c.self.inside c.args.self.now c.self.view_is c.self.invariant c.requires c.record_count-place.result
    c.record_count-place.ensures.count
    c.fill.new.self c.fill.ensures.bytes).view
