use Rattle.std.proofs.Common.{◌∙◌, ◌+◌, ◌*◌, ℕ, ap, arith}
use Rattle.{client_world.specs.declared.host_frames.TheConstants.{PAGE_SIZE, LOCK_COUNTS, LOCK_COUNT_SIZE}, guest_ram.specs.Bytes.{put}}
use Rattle.{host_memory.specs.Vectors.{word_bytes}, block_memory.proofs.LockWrites.{in_region_of}}
use Rattle.guest_space.proofs.BlockLocks.{locked_machine}
use Rattle.guest_space.proofs.machine.Machine.set_lock_count.Goals as goal

pub invariant_of-self : goal.invariant_of-self
invariant_of-self c =
    let put_there = c.set16.ensures.bytes
    ∙ ap (λ (page : ℕ). put c.self.inside.ram (PAGE_SIZE * LOCK_COUNTS + LOCK_COUNT_SIZE * page) (word_bytes c.args.n))
    c.region_page-page.ensures.page in
    (locked_machine c.self.inside c.args.self.now c.self.view_is c.self.invariant c.args.lin c.args.n (omega arith) c.requires
    c.set16.new.self put_there).whole

pub returns : goal.returns
returns c =
    let put_there = c.set16.ensures.bytes
    ∙ ap (λ (page : ℕ). put c.self.inside.ram (PAGE_SIZE * LOCK_COUNTS + LOCK_COUNT_SIZE * page) (word_bytes c.args.n))
    c.region_page-page.ensures.page in
    let after = locked_machine c.self.inside c.args.self.now c.self.view_is c.self.invariant c.args.lin c.args.n (omega arith) c.requires
    c.set16.new.self put_there in
    record { world = after.world; addresses = after.addresses }

pub region_page-page-requires : goal.region_page-page-requires
region_page-page-requires c = grind (arith, in_region_of)
