use Rattle.std.proofs.Common.{◌∙◌, ◌+◌, ◌*◌, ◌/◌, ℕ, ap}
use Rattle.{client_world.specs.declared.host_frames.TheConstants.{PAGE_SIZE, BLOCK_TABLES, PAGE_ENTRY_SIZE}, guest_ram.specs.Bytes.{dword}}
use Rattle.guest_space.proofs.{BlockCalls.{may_read, reads_byte}, Insides.{processor_of}}
use Rattle.guest_space.proofs.machine.Machine.block8.Goals as goal

pub block_row-base-requires : goal.block_row-base-requires
block_row-base-requires c =
    may_read (processor_of c.self.inside) c.self.inside.ram c.args.self.now c.self.view_is c.self.invariant.0 c.self.invariant.1
    c.soundness.ensures c.args.handle c.args.at c.requires

pub region_page-requires : goal.region_page-requires
region_page-requires c =
    let read = reads_byte (processor_of c.self.inside) c.self.inside.ram c.args.self.now c.self.view_is c.self.invariant.0
    c.self.invariant.1 c.args.handle
    c.block_row-base.result.0 c.block_row-base.result.1 c.args.at c.requires
    (c.block_row-base.ensures c.self.inside.pages c.self.invariant.0) in
    record { from = read.from; to = read.to }

pub get8-requires : goal.get8-requires
get8-requires c =
    (reads_byte (processor_of c.self.inside) c.self.inside.ram c.args.self.now c.self.view_is c.self.invariant.0 c.self.invariant.1
    c.args.handle
    c.block_row-base.result.0 c.block_row-base.result.1 c.args.at c.requires
    (c.block_row-base.ensures c.self.inside.pages c.self.invariant.0)).inside c.get32-entry.result
    (c.get32-entry.ensures ∙ ap (λ (first : ℕ).
    dword c.self.inside.ram (PAGE_SIZE * BLOCK_TABLES + PAGE_ENTRY_SIZE * (first + c.args.at / PAGE_SIZE))) c.region_page.ensures.page)

pub returns : goal.returns
returns c =
    c.get8.ensures ∙ (reads_byte (processor_of c.self.inside) c.self.inside.ram c.args.self.now c.self.view_is c.self.invariant.0
    c.self.invariant.1 c.args.handle
    c.block_row-base.result.0 c.block_row-base.result.1 c.args.at c.requires
    (c.block_row-base.ensures c.self.inside.pages c.self.invariant.0)).byte c.get32-entry.result
    (c.get32-entry.ensures ∙ ap (λ (first : ℕ).
    dword c.self.inside.ram (PAGE_SIZE * BLOCK_TABLES + PAGE_ENTRY_SIZE * (first + c.args.at / PAGE_SIZE))) c.region_page.ensures.page)
