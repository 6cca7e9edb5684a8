use Rattle.std.proofs.Common.{◌∙◌, ◌+◌, ◌*◌, ℕ, ap, inl, inr}
use Rattle.{client_world.specs.declared.host_frames.TheConstants.{PAGE_SIZE, LOCK_COUNTS, LOCK_COUNT_SIZE}, guest_ram.specs.Bytes.{word_of}}
use Rattle.guest_space.proofs.{BlockLocks.{region_lock, outside_lock}, Insides.{processor_of}}
use Rattle.guest_space.proofs.machine.Machine.lock_count.Goals as goal

pub returns-then-lin-lt-BLOCK_REGION : goal.returns-then-lin-lt-BLOCK_REGION
returns-then-lin-lt-BLOCK_REGION c = outside_lock c.args.self.now.world c.args.lin (inl c.if-lin-lt-BLOCK_REGION.true)

pub returns-then-lin-lt-BLOCK_REGION_END : goal.returns-then-lin-lt-BLOCK_REGION_END
returns-then-lin-lt-BLOCK_REGION_END c =
    region_lock (processor_of c.self.inside) c.self.inside.ram c.args.self.now c.self.view_is c.self.invariant.0 c.self.invariant.1
    c.args.lin c.get16.result c.if-lin-lt-BLOCK_REGION.false
    c.if-lin-lt-BLOCK_REGION_END.true (c.get16.ensures
    ∙ ap (λ (page : ℕ). word_of c.self.inside.ram (PAGE_SIZE * LOCK_COUNTS + LOCK_COUNT_SIZE * page)) c.region_page.ensures.page)

pub returns-else-lin-lt-BLOCK_REGION_END : goal.returns-else-lin-lt-BLOCK_REGION_END
returns-else-lin-lt-BLOCK_REGION_END c = outside_lock c.args.self.now.world c.args.lin (inr c.if-lin-lt-BLOCK_REGION_END.false)
