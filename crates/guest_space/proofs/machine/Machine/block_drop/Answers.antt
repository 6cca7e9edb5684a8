use Rattle.{std.proofs.Common.{refl, arith, ap, None}, client_world.specs.World.{World}, block_memory.proofs.SizedSound.{some_width}}
use Rattle.guest_space.specs.Machines.{held_world}
use Rattle.guest_space.proofs.{BlockCalls.{block_call, held_before_drop, may_drop}, Insides.{processor_of}}
use Rattle.guest_space.proofs.machine.Machine.block_drop.Goals as goal

pub drop_block-requires : goal.drop_block-requires
drop_block-requires c = may_drop (processor_of c.self.inside) c.self.inside.ram c.args.self.now c.self.view_is c.self.invariant.0
    c.self.invariant.1 c.args.handle c.requires.some c.requires.most c.requires.held

pub invariant_of-self : goal.invariant_of-self
invariant_of-self c =
    (block_call c.self.inside c.args.self.now c.self.view_is c.self.invariant c.drop_block.new.ram _ c.empty_cache-self-inside.ensures
    c.args.handle
    (λ o. None) None c.requires.some c.drop_block.ensures
    (some_width c.args.self.now.world c.args.handle c.soundness.ensures c.requires.held) refl).whole

pub returns : goal.returns
returns c =
    let done = block_call c.self.inside c.args.self.now c.self.view_is c.self.invariant c.drop_block.new.ram _
    c.empty_cache-self-inside.ensures c.args.handle
    (λ o. None) None c.requires.some c.drop_block.ensures
    (some_width c.args.self.now.world c.args.handle c.soundness.ensures c.requires.held) refl in
    let handles = c.soundness.ensures.blocks.handles in let most = c.requires.most in
    record {
      world = done.world;
      addresses = λ p held. done.addresses p
          (held_before_drop c.args.self.now.world (held_world (processor_of c.self.inside) c.drop_block.new.ram) c.args.handle
          c.requires.some (omega arith) (ap (λ (x : World). x.blocks) done.world) p held) held;
    }
