use Rattle.std.proofs.Common.{◌∙◌, ◌+◌, ◌*◌, ℕ, ap, arith}
use Rattle.{client_world.specs.declared.host_frames.TheConstants.{PAGE_SIZE, BLOCK_TABLES, PAGE_ENTRY_SIZE}, guest_ram.specs.Bytes.{dword}}
use Rattle.block_memory.proofs.LockWrites.{in_region_of}
use Rattle.guest_space.proofs.{BlockLocks.{frame_inside, cleared_machine}, Insides.{processor_of}}
use Rattle.guest_space.proofs.machine.Machine.zero_page.Goals as goal

pub fill-requires : goal.fill-requires
fill-requires c =
    frame_inside (processor_of c.self.inside) c.self.inside.ram c.args.self.now c.self.view_is c.self.invariant.0 c.self.invariant.1
    c.args.lin c.get32-entry.result c.requires
    (c.get32-entry.ensures
    ∙ ap (λ (page : ℕ). dword c.self.inside.ram (PAGE_SIZE * BLOCK_TABLES + PAGE_ENTRY_SIZE * page)) c.region_page.ensures.page)

pub invariant_of-self : goal.invariant_of-self
invariant_of-self c =
    (cleared_machine c.self.inside c.args.self.now c.self.view_is c.self.invariant c.args.lin c.get32-entry.result c.requires
    (c.get32-entry.ensures ∙ ap (λ (page : ℕ). dword c.self.inside.ram (PAGE_SIZE * BLOCK_TABLES + PAGE_ENTRY_SIZE * page))
    c.region_page.ensures.page) c.fill.new.self c.fill.ensures.bytes).whole

pub returns : goal.returns
returns c =
    let after = cleared_machine c.self.inside c.args.self.now c.self.view_is c.self.invariant c.args.lin c.get32-entry.result c.requires
    (c.get32-entry.ensures ∙ ap (λ (page : ℕ). dword c.self.inside.ram (PAGE_SIZE * BLOCK_TABLES + PAGE_ENTRY_SIZE * page))
    c.region_page.ensures.page) c.fill.new.self c.fill.ensures.bytes in
    record { world = after.world; addresses = after.addresses }

pub region_page-requires : goal.region_page-requires
region_page-requires c = grind (arith, in_region_of)
