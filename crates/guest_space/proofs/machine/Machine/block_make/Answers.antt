use Rattle.{std.proofs.Common.{◌-◌, arith, Some}, client_world.specs.World.{block_at}}
use Rattle.block_memory.specs.BlockSizes.{block_with_zero_pages, fresh_block}
use Rattle.guest_space.proofs.{BlockCalls.{block_call, held_after_make, made_block, may_make}, Insides.{processor_of}}
use Rattle.guest_space.proofs.machine.Machine.block_make.Goals as goal

pub extend_block-requires-clause-room : goal.extend_block-requires-clause-room
extend_block-requires-clause-room c =
    may_make (processor_of c.self.inside) c.self.inside.ram c.args.self.now c.self.view_is c.self.invariant.0 c.self.invariant.1
    c.args.handle c.args.base c.args.pages c.requires.some c.requires.most
    c.requires.free c.soundness.ensures.blocks.handles c.requires.room

pub invariant_of-self : goal.invariant_of-self
invariant_of-self c =
    (block_call c.self.inside c.args.self.now c.self.view_is c.self.invariant c.extend_block.new.ram _ c.empty_cache-self-inside.ensures
    c.args.handle
    (λ o. block_with_zero_pages c.args.base o (c.args.pages - 0)) (Some (fresh_block c.args.base c.args.pages)) c.requires.some
    c.extend_block.ensures c.requires.width
    (made_block c.args.base c.args.pages (block_at c.args.self.now.world.blocks c.args.handle) c.requires.free c.requires.room.some)).whole

pub returns : goal.returns
returns c =
    let done = block_call c.self.inside c.args.self.now c.self.view_is c.self.invariant c.extend_block.new.ram _
    c.empty_cache-self-inside.ensures c.args.handle
    (λ o. block_with_zero_pages c.args.base o (c.args.pages - 0)) (Some (fresh_block c.args.base c.args.pages)) c.requires.some
    c.extend_block.ensures c.requires.width
    (made_block c.args.base c.args.pages (block_at c.args.self.now.world.blocks c.args.handle) c.requires.free c.requires.room.some) in
    let handles = c.soundness.ensures.blocks.handles in let most = c.requires.most in grind (arith, held_after_make, processor_of)
