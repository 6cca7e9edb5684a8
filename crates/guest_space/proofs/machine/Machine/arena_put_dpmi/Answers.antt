use Rattle.std.proofs.Common.{◌≡◌, ◌+◌, ◌*◌, ◌≤◌, ◌∙◌, ℕ, ap, subst, arith, List, length}
use Rattle.client_world.specs.{declared.host_frames.TheConstants.{DOS_LIST, PAGE_SIZE}, declared.dos_memory.DosEntry.{DosEntry}}
use Rattle.{client_world.specs.DosMemory.{IsArena}, guest_ram.specs.Bytes.{put}, host_memory.specs.Headers.{with_headers}}
use Rattle.guest_space.specs.{Arena.{arena_bytes, with_replaced_entries}, DosRuns.{rows_of_run, with_run_bytes}}
use Rattle.guest_space.proofs.{DosRunCalls.{put_there, run_machine}, ArenaWrites.{arena_of, entries_holds, with_arena}}
use Rattle.guest_space.proofs.Insides.{processor_of}
use Rattle.guest_space.proofs.machine.Machine.arena_put_dpmi.Goals as goal

pub put_entries-requires-clause-within : goal.put_entries-requires-clause-within
put_entries-requires-clause-within c =
    subst (λ (es : List DosEntry). c.args.place + c.args.old ≤ length es)
    (arena_of (processor_of c.self.inside) c.self.inside.ram c.args.self.now c.self.view_is) c.requires.within

pub put_entries-requires-clause-sound : goal.put_entries-requires-clause-sound
put_entries-requires-clause-sound c =
    subst (λ (es : List DosEntry). IsArena (with_replaced_entries es c.args.place c.args.old c.args.new.now.items))
    (arena_of (processor_of c.self.inside) c.self.inside.ram c.args.self.now c.self.view_is) c.requires.arena

pub put_dos_rows-requires-clause-rows : goal.put_dos_rows-requires-clause-rows
put_dos_rows-requires-clause-rows c =
    let size = (entries_holds (processor_of c.self.inside) c.self.inside.ram c.put_entries.new.ram c.args.self.now c.args.place c.args.old
    c.args.new.now.items c.self.view_is
    c.self.invariant.0 c.requires.arena
    (put_there c.self.inside c.args.self.now c.put_entries.new.ram c.args.place c.args.old c.args.new.now.items c.self.view_is
    c.put_entries.ensures)).size in
    omega arith

pub all_parts-self-inside-requires : goal.all_parts-self-inside-requires
all_parts-self-inside-requires c =
    let size = (run_machine c.self.inside c.args.self.now c.self.view_is c.self.invariant c.put_entries.new.ram c.put_dos_rows.new.ram
    c.args.place c.args.old c.args.new.now.items
    c.args.run (omega arith) (omega arith) c.requires c.put_entries.ensures c.put_dos_rows.ensures).holds.size in
    omega arith

pub invariant_of-self : goal.invariant_of-self
invariant_of-self c =
    let after = run_machine c.self.inside c.args.self.now c.self.view_is c.self.invariant c.put_entries.new.ram c.put_dos_rows.new.ram
    c.args.place c.args.old c.args.new.now.items
    c.args.run (omega arith) (omega arith) c.requires c.put_entries.ensures c.put_dos_rows.ensures in
    (after.holds, after.sound, c.all_parts-self-inside.ensures, after.warm)

pub returns : goal.returns
returns c =
    let after = run_machine c.self.inside c.args.self.now c.self.view_is c.self.invariant c.put_entries.new.ram c.put_dos_rows.new.ram
    c.args.place c.args.old c.args.new.now.items
    c.args.run (omega arith) (omega arith) c.requires c.put_entries.ensures c.put_dos_rows.ensures in
    let entries : c.put_entries.new.ram ≡ with_headers
    (put c.args.self.now.bytes (PAGE_SIZE * DOS_LIST)
    (arena_bytes (with_replaced_entries c.args.self.now.world.arena c.args.place c.args.old c.args.new.now.items)))
    (with_replaced_entries c.args.self.now.world.arena c.args.place c.args.old c.args.new.now.items) =
    grind (arith, put_there, with_arena) in
    record {
      world = after.world;
      bytes = c.put_dos_rows.ensures ∙ ap (λ (b : List ℕ). with_run_bytes b c.args.run (rows_of_run c.args.run)) entries;
      addresses = after.addresses;
    }
