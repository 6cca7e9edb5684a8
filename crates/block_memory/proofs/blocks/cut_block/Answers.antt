use Rattle.std.proofs.Common.{◌≡◌, ◌+◌, ◌-◌, subst, arith, ℕ}
use Rattle.block_memory.specs.{BlockChanges.{HasPagesIn, ReplacesBlock}, BlockSizes.{shorter}}
use Rattle.block_memory.proofs.BlockRuns.{Cutting, cutting, cutting_in, cut_all, cut_more}
use Rattle.block_memory.proofs.blocks.cut_block.Goals as goal

pub loop-gone-init : goal.loop-gone-init
loop-gone-init c =
    subst (Cutting c.args.ram.now c.args.ram.now c.args.place c.args.base) (let e : c.args.from ≡ c.args.from - 0 = omega arith in e)
    (cutting c.args.ram.now c.args.place c.args.base c.args.from c.requires.pages)

pub drop_page-requires : goal.drop_page-requires
drop_page-requires c =
    let less = c.loop-gone-test.true in
    let next : c.args.from - c.loop-gone.gone ≡ c.args.from - 1 - c.loop-gone.gone + 1 = omega arith in
    let so_far =
    cutting_in c.args.ram.now c.loop-gone.ram c.args.place c.args.base (c.args.from - c.loop-gone.gone) c.loop-gone.invariant in
    record { pages = subst (HasPagesIn c.loop-gone.ram c.args.place c.args.base) next so_far }

pub loop-gone-preserved : goal.loop-gone-preserved
loop-gone-preserved c =
    let less = c.loop-gone-test.true in
    let next : c.args.from - c.loop-gone.gone ≡ c.args.from - (c.loop-gone.gone + 1) + 1 = omega arith in
    let same : c.args.from - 1 - c.loop-gone.gone ≡ c.args.from - (c.loop-gone.gone + 1) = omega arith in
    cut_more c.args.ram.now c.loop-gone.ram c.drop_page.new.ram c.args.place c.args.base (c.args.from - (c.loop-gone.gone + 1))
    (subst (Cutting c.args.ram.now c.loop-gone.ram c.args.place c.args.base) next c.loop-gone.invariant)
    (subst (λ (n : ℕ). ReplacesBlock c.loop-gone.ram c.drop_page.new.ram c.args.place (λ o. shorter o n)) same c.drop_page.ensures)

pub returns-clause-block : goal.returns-clause-block
returns-clause-block c =
    let past = c.loop-gone-test.false in
    let end : c.args.from - c.loop-gone.gone ≡ c.args.to = omega (arith, c.requires.order, c.loop-gone.auto.gone-end) in
    cut_all c.args.ram.now c.loop-gone.ram c.args.place c.args.base c.args.to
    (subst (Cutting c.args.ram.now c.loop-gone.ram c.args.place c.args.base) end c.loop-gone.invariant)

pub returns-clause-pages : goal.returns-clause-pages
returns-clause-pages c =
    let past = c.loop-gone-test.false in
    let end : c.args.from - c.loop-gone.gone ≡ c.args.to = omega (arith, c.requires.order, c.loop-gone.auto.gone-end) in
    cutting_in c.args.ram.now c.loop-gone.ram c.args.place c.args.base c.args.to
    (subst (Cutting c.args.ram.now c.loop-gone.ram c.args.place c.args.base) end c.loop-gone.invariant)
