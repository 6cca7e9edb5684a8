use Rattle.{std.proofs.Common.{sym, subst}, client_world.specs.Soundness.{IsSound}}
use Rattle.guest_space.proofs.machine.Machine.new.Goals.{invariant_of-result as goal}

pub invariant_of-result : goal
invariant_of-result c = (
  c.in_ok-ram.ensures.holds,
  subst IsSound (sym c.in_ok-ram.ensures.world) c.in_ok-ram.ensures.sound,
  c.all_parts-hidden.ensures,
  c.empty_cache.ensures c.in_ok-ram.ram,
)
