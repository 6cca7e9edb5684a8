use Rattle.{std.proofs.Common.{◌∙◌, ◌+◌, ◌*◌, ℕ, ap, slice_set}, client_world.specs.declared.host_frames.TheConstants.{PAGE_SIZE, VECTORS}}
use Rattle.{host_memory.specs.Vectors.{pageable_start}, guest_space.proofs.VectorCalls.{set_pageable}}
use Rattle.guest_space.proofs.machine.Machine.set_pageable.Goals as goal

pub invariant_of-self : goal.invariant_of-self
invariant_of-self c =
    (set_pageable c.self.inside c.args.self.now c.self.view_is c.self.invariant c.args.page c.args.on c.requires c.set8.new.self
    (c.set8.ensures.bytes
    ∙ ap (λ (x : ℕ). slice_set c.self.inside.ram (PAGE_SIZE * VECTORS + pageable_start + c.args.page) x) c.bit.ensures)).whole

pub returns : goal.returns
returns c =
    let after = set_pageable c.self.inside c.args.self.now c.self.view_is c.self.invariant c.args.page c.args.on c.requires c.set8.new.self
    (c.set8.ensures.bytes
    ∙ ap (λ (x : ℕ). slice_set c.self.inside.ram (PAGE_SIZE * VECTORS + pageable_start + c.args.page) x) c.bit.ensures) in
    record { world = after.world; addresses = after.addresses }
