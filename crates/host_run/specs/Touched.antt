-- The places that the client instruction of a turn touches. Source: own.
use Rattle.std.specs.Prelude.{List, [], None, Some}
use Rattle.client_world.specs.{declared.place.Place.{Place}, World.{World, HostWorld}}
use Rattle.cpu_step.specs.Touched.{touched_by_step as step_touches}
use Rattle.host_run.specs.{declared.traps.Trap.{Trap}, declared.traps.Trap.TheVariants.{NoTrap}, Traps.{current_trap}}

-- none at a trap, in either mode: the host serves it
abbrev pub unless_trapped : World → Trap → List Place
unless_trapped w NoTrap = step_touches w
unless_trapped w _ = []

-- none where the run has ended
abbrev pub touched_by_turn : HostWorld → List Place
touched_by_turn w = elim w.exit [ Some _ ↦ [] | None ↦ unless_trapped w.machine (current_trap w.machine) ]
