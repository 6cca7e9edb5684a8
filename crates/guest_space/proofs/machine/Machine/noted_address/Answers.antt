use Rattle.{std.proofs.Common.{◌≡◌, ◌/◌, arith}, client_world.specs.declared.host_frames.TheConstants.{PAGE_SIZE}}
use Rattle.guest_space.specs.Cache.{entry_at}
use Rattle.guest_space.proofs.{CacheLaws.{hit_ends}, Runs.{translated_by_walk}, Insides.{machine_inside}}
use Rattle.guest_space.proofs.machine.Machine.noted_address.Goals.{returns-then-serves as goal}

pub returns-then-serves : goal
returns-then-serves c =
    let entry = entry_at c.self.inside.cache c.cache_place.result in
    let told = c.serves.ensures c.if-serves.true in
    let same : entry.page ≡ c.args.lin / PAGE_SIZE = told.0 in
    let hit = c.self.invariant.3.hit c.cache_place.result c.cache_place.ensures.inside (omega (arith, same)) in
    rw (← c.self.view_is) (translated_by_walk _ _ c.args.lin c.args.write _ (machine_inside c.self.inside c.self.invariant) (omega arith)
    (hit_ends c.self.inside.ram entry c.args.lin c.args.write hit told.0 told.1))
