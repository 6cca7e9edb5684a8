use Rattle.{client_world.specs.World.{block_at}, block_services.proofs.SpanLists.{row_fits, row_seen_as}}
use Rattle.block_services.proofs.gaps.row_of.Goals as goal

pub returns-clause-from : goal.returns-clause-from
returns-clause-from c = (row_fits c.args.m.now.world.blocks c.args.m.now.world.budget c.args.handle c.soundness.ensures.blocks
    c.block.result c.block.ensures).from

pub returns-clause-whole : goal.returns-clause-whole
returns-clause-whole c = (row_fits c.args.m.now.world.blocks c.args.m.now.world.budget c.args.handle c.soundness.ensures.blocks
    c.block.result c.block.ensures).whole

pub returns-clause-to : goal.returns-clause-to
returns-clause-to c = (row_fits c.args.m.now.world.blocks c.args.m.now.world.budget c.args.handle c.soundness.ensures.blocks c.block.result
    c.block.ensures).to

pub returns-clause-base : goal.returns-clause-base
returns-clause-base c = (row_seen_as (block_at c.args.m.now.world.blocks c.args.handle) c.block.result c.block.ensures).0

pub returns-clause-pages : goal.returns-clause-pages
returns-clause-pages c = (row_seen_as (block_at c.args.m.now.world.blocks c.args.handle) c.block.result c.block.ensures).1
