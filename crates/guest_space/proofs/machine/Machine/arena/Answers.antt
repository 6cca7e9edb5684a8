use Rattle.{std.proofs.Common.{◌∙◌, sym, ap, refl, arith, List, get_or}, client_world.specs.declared.dos_memory.DosEntry.{DosEntry}}
use Rattle.host_memory.specs.Layout.{arena_part}
use Rattle.guest_space.proofs.{ArenaLists.{few_entries, entry_there}, ArenaWrites.{arena_of, count_of}, Insides.{processor_of}}
use Rattle.guest_space.proofs.machine.Machine.arena.Goals as goal

pub entry-requires : goal.entry-requires
entry-requires c =
    omega (
      arith,
      c.requires,
      count_of (processor_of c.self.inside) c.self.inside.ram c.args.self.now c.self.view_is,
      few_entries (arena_part c.self.inside.ram),
      c.self.invariant.0.size,
    )

pub returns : goal.returns
returns c default =
    c.entry.ensures
    ∙ entry_there c.self.inside.ram c.self.inside.ram c.args.place default refl
    (omega (arith, c.requires, count_of (processor_of c.self.inside) c.self.inside.ram c.args.self.now c.self.view_is))
    ∙ ap (λ (es : List DosEntry). get_or es c.args.place default)
    (sym (arena_of (processor_of c.self.inside) c.self.inside.ram c.args.self.now c.self.view_is))
