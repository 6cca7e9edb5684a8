use Rattle.std.proofs.Common.{◌+◌, ◌≤◌, subst, List, length, arith}
use Rattle.client_world.specs.{declared.dos_memory.DosEntry.{DosEntry}, DosMemory.{IsArena}}
use Rattle.guest_space.specs.Arena.{with_replaced_entries}
use Rattle.guest_space.proofs.{DosRunCalls.{entries_after, put_there}, ArenaWrites.{with_arena, arena_of}, Insides.{processor_of}}
use Rattle.guest_space.proofs.machine.Machine.arena_put.Goals as goal

pub put_entries-requires-clause-within : goal.put_entries-requires-clause-within
put_entries-requires-clause-within c =
    subst (λ (es : List DosEntry). c.args.place + c.args.old ≤ length es)
    (arena_of (processor_of c.self.inside) c.self.inside.ram c.args.self.now c.self.view_is) c.requires.within

pub put_entries-requires-clause-sound : goal.put_entries-requires-clause-sound
put_entries-requires-clause-sound c =
    subst (λ (es : List DosEntry). IsArena (with_replaced_entries es c.args.place c.args.old c.args.new.now.items))
    (arena_of (processor_of c.self.inside) c.self.inside.ram c.args.self.now c.self.view_is) c.requires.sound

pub invariant_of-self : goal.invariant_of-self
invariant_of-self c =
    (entries_after c.self.inside c.args.self.now c.self.view_is c.self.invariant c.put_entries.new.ram c.args.place c.args.old
    c.args.new.now.items
    c.requires.old_plain c.requires.new_plain c.requires.sound c.put_entries.ensures).whole

pub returns : goal.returns
returns c = record {
  world = (entries_after c.self.inside c.args.self.now c.self.view_is c.self.invariant c.put_entries.new.ram c.args.place c.args.old
      c.args.new.now.items
      c.requires.old_plain c.requires.new_plain c.requires.sound c.put_entries.ensures).world;
  bytes = grind (arith, put_there, with_arena);
}
