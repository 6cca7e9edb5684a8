use Rattle.{std.proofs.Common.{refl}, client_world.specs.World.{block_at}, block_memory.specs.BlockSizes.{sized_block}}
use Rattle.{block_memory.proofs.SizedSound.{some_width}, guest_space.proofs.{BlockCalls.{block_call, may_size}, Insides.{processor_of}}}
use Rattle.guest_space.proofs.machine.Machine.block_size.Goals as goal

pub resize_block-requires : goal.resize_block-requires
resize_block-requires c =
    may_size (processor_of c.self.inside) c.self.inside.ram c.args.self.now c.self.view_is c.self.invariant.0 c.self.invariant.1
    c.args.handle c.args.base c.args.pages c.requires.some c.requires.most c.requires.room

pub invariant_of-self : goal.invariant_of-self
invariant_of-self c =
    (block_call c.self.inside c.args.self.now c.self.view_is c.self.invariant c.resize_block.new.ram _ c.empty_cache-self-inside.ensures
    c.args.handle
    (λ o. sized_block c.args.base c.args.pages o)
    (sized_block c.args.base c.args.pages (block_at c.args.self.now.world.blocks c.args.handle)) c.requires.some c.resize_block.ensures
    (some_width c.args.self.now.world c.args.handle c.soundness.ensures c.requires.room.held) refl).whole

pub returns : goal.returns
returns c =
    let done = block_call c.self.inside c.args.self.now c.self.view_is c.self.invariant c.resize_block.new.ram _
    c.empty_cache-self-inside.ensures c.args.handle
    (λ o. sized_block c.args.base c.args.pages o)
    (sized_block c.args.base c.args.pages (block_at c.args.self.now.world.blocks c.args.handle)) c.requires.some c.resize_block.ensures
    (some_width c.args.self.now.world c.args.handle c.soundness.ensures c.requires.room.held) refl in
    record { world = done.world; addresses = done.addresses }
