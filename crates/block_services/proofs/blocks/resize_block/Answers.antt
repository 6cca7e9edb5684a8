use Rattle.{std.proofs.Common.{sym, arith}, client_world.specs.World.{block_at}}
use Rattle.block_services.proofs.{RoomLaws.{can_size, seen_held}, blocks.resize_block.Goals.{block_size-requires-clause-room as goal}}

pub block_size-requires-clause-room : goal
block_size-requires-clause-room c =
    let w = c.args.m.now.world in
    let handle = c.si_di-handle.result in
    let free = c.free_pages.ensures.free in
    let enough = c.if-free_pages-saturating_sub.false in
    let less = c.saturating_sub.ensures in
    let size = c.if-size-eq0.false in
    let pages = c.pages_rounded_up-pages.ensures.pages in
    let count = c.in-Some.ensures.pages in
    can_size w.blocks w.budget handle c.in_ok-base-in-Some.base c.pages_rounded_up-pages.result c.soundness.ensures.blocks
    (seen_held (block_at w.blocks handle) c.in-Some.row (sym c.in-Some.ensures.row))
    c.in_ok-base-in-Some.ensures (omega arith) (omega arith)
