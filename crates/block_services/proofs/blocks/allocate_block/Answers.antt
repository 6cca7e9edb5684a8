use Rattle.{std.proofs.Common.{subst, sym, ℕ, arith}, block_memory.specs.BlockSizes.{CanMake}}
use Rattle.block_services.proofs.{RoomLaws.{can_make, first_gap_is}, blocks.allocate_block.Goals.{block_make-requires-clause-room as goal}}

pub block_make-requires-clause-room : goal
block_make-requires-clause-room c =
    let w = c.args.m.now.world in
    let free = c.free_pages.ensures.free in
    let enough = c.if-free_pages-pages.false in
    let size = c.if-size-eq0.false in
    let pages = c.pages_rounded_up-pages.ensures.pages in
    subst (λ (base : ℕ). CanMake w.blocks w.budget base c.pages_rounded_up-pages.result) (sym c.page_address-base.ensures)
    (can_make w.blocks w.budget c.in_ok-page.page c.pages_rounded_up-pages.result c.soundness.ensures.blocks
    (first_gap_is w.blocks c.pages_rounded_up-pages.result c.in_ok-page.page c.in_ok-page.ensures.0) (omega arith) (omega arith))
