use Rattle.{std.proofs.Common.{arith, ◌≡◌}, block_memory.proofs.BlockRuns.{extending, extending_in, extended_all, extended_more, next_page}}
use Rattle.block_memory.proofs.blocks.extend_block.Goals as goal

pub loop-n-init : goal.loop-n-init
loop-n-init c = extending c.args.ram.now c.args.place c.args.base c.args.from c.args.to c.requires.room

pub grow_page-requires : goal.grow_page-requires
grow_page-requires c =
    let so_far = extending_in c.args.ram.now c.loop-n.ram c.args.place c.args.base c.args.from c.loop-n.n c.args.to c.loop-n.invariant in
    record { room = next_page c.loop-n.ram c.args.place c.args.base c.loop-n.n c.args.to so_far c.loop-n-test.true }

pub loop-n-preserved : goal.loop-n-preserved
loop-n-preserved c =
    extended_more c.args.ram.now c.loop-n.ram c.grow_page.new.ram c.args.place c.args.base c.args.from c.loop-n.n c.args.to c.loop-n.auto.n
    c.loop-n-test.true c.loop-n.invariant c.grow_page.ensures

pub returns : goal.returns
returns c =
    let past = c.loop-n-test.false in
    let end : c.loop-n.n ≡ c.args.to = omega (arith, c.loop-n.auto.n-end) in
    extended_all c.args.ram.now c.loop-n.ram c.args.place c.args.base c.args.from c.loop-n.n c.args.to end c.loop-n.invariant
