use Rattle.{std.proofs.Common.{arith, ap, ◌∙◌}, std.specs.Prelude.{nat_lt}, dpmi_report.proofs.BlockBytes.{lock_is, page_below}}
use Rattle.dpmi_report.proofs.blocks.is_locked.Goals as goal

pub overflow_mul-page : goal.overflow_mul-page
overflow_mul-page c =
    let below = page_below c.args.machine.now.world.blocks c.args.machine.now.world.budget c.args.handle c.args.row.base c.args.row.pages
    c.soundness.ensures.blocks c.requires.block in
    let inside = c.requires.inside in omega arith

pub overflow_add-row : goal.overflow_add-row
overflow_add-row c =
    let below = page_below c.args.machine.now.world.blocks c.args.machine.now.world.budget c.args.handle c.args.row.base c.args.row.pages
    c.soundness.ensures.blocks c.requires.block in
    let inside = c.requires.inside in omega arith

pub returns : goal.returns
returns c =
    ap (nat_lt 0)
    (c.lock_count.ensures
    ∙ lock_is c.args.machine.now.world.blocks c.args.machine.now.world.budget c.args.handle c.args.row.base c.args.row.pages c.args.page
    c.soundness.ensures.blocks c.requires.block c.requires.inside)
