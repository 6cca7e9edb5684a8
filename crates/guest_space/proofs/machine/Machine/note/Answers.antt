use Rattle.{std.proofs.Common.{ℕ, ◌%◌, ap, ◌∙◌, sym}, host_memory.proofs.HostTables.{tables_inside}}
use Rattle.{guest_space.proofs.CacheLaws.{set_warm}, guest_space.specs.declared.pages.TheConstants.{CACHE_SIZE}}
use Rattle.guest_space.proofs.machine.Machine.note.Goals as goal

pub walk-requires-clause-tables : goal.walk-requires-clause-tables
walk-requires-clause-tables c = tables_inside c.self.inside.ram c.self.inside.pages c.self.invariant.0

pub entry_of-requires-clause-tables : goal.entry_of-requires-clause-tables
entry_of-requires-clause-tables c = tables_inside c.self.inside.ram c.self.inside.pages c.self.invariant.0

pub invariant_of-self : goal.invariant_of-self
invariant_of-self c =
    let m = c.self.inside in (
      c.self.invariant.0,
      c.self.invariant.1,
      c.self.invariant.2,
      set_warm m.ram m.cache c.cache_place.result c.entry_of.result c.cache_place.ensures.inside c.self.invariant.3 c.entry_of.ensures.used
          c.entry_of.ensures.hit
          (ap (λ (page : ℕ). page % CACHE_SIZE) c.entry_of.ensures.page ∙ sym c.cache_place.ensures.place),
    )
