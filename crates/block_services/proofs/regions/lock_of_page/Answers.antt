use Rattle.std.proofs.Common.{arith}
use Rattle.block_services.proofs.{PageLaws.{no_page_lock}, regions.lock_of_page.Goals.{returns-then-page as goal}}

pub returns-then-page : goal
returns-then-page c = no_page_lock c.args.m.now.world.blocks c.args.page (omega (arith, c.if-page.true))
