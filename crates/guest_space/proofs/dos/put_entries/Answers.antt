use Rattle.{std.proofs.Common.{◌≡◌, ◌+◌, ap, arith, refl, List, length}, client_world.specs.declared.dos_memory.DosEntry.{DosEntry}}
use Rattle.{guest_ram.proofs.PutLaws.{length-put}, host_memory.specs.{DosList.{arena_in}, Layout.{arena_part}}}
use Rattle.{guest_space.specs.Arena.{with_replaced_entries}, host_memory.proofs.ListsClaim.{length-arena_in}}
use Rattle.guest_space.proofs.{ArenaLists.{list_start}, ArenaPuts.{length-spliced}, ArenaWrites.{splice_fits, arena_after, count_after}}
use Rattle.guest_space.proofs.ArenaWrites.{replaced_is, written_is}
use Rattle.guest_space.proofs.dos.put_entries.Goals as goal

pub replace_entries-requires-clause-within : goal.replace_entries-requires-clause-within
replace_entries-requires-clause-within c = grind (arith, length-arena_in)

pub replace_entries-requires-clause-fits : goal.replace_entries-requires-clause-fits
replace_entries-requires-clause-fits c = grind (arith, length-arena_in, splice_fits)

pub overflow_sub-n : goal.overflow_sub-n
overflow_sub-n c = omega (arith, c.requires.within, length-arena_in (arena_part c.args.ram.now), c.entry_count-n.ensures.count)

pub write_headers-requires : goal.write_headers-requires
write_headers-requires c =
    let b = c.args.ram.now in
    let es = arena_in (arena_part b) in
    let new = with_replaced_entries es c.args.place c.args.old c.args.new.now.items in
    let replaced =
    replaced_is b c.replace_entries.new.ram es c.args.place c.args.old c.as_slice-entries.result.now c.args.new.now.items refl
    c.as_slice-entries.ensures.value c.replace_entries.ensures in
    let size = ap (λ (xs : List DosEntry). length xs) c.as_slice-entries.ensures.value in
    let old_count = length-arena_in (arena_part b) in
    let fits = splice_fits es c.args.place c.args.old c.args.new.now.items c.requires.within c.requires.sound in
    let total : length new + c.args.old ≡ length es + length c.args.new.now.items =
    length-spliced es c.args.place c.args.old c.args.new.now.items c.requires.within in
    let count = count_after b c.replace_entries.new.ram new c.requires.frames c.requires.sound replaced in
    grind (arith, arena_after, length-put, list_start)

pub returns : goal.returns
returns c = grind (arith, replaced_is, written_is)
