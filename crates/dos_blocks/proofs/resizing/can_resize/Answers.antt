use Rattle.{std.proofs.Common.{ap, arith, true}, client_world.specs.declared.dos_memory.DosEntry.{DosEntry}}
use Rattle.{dos_blocks.specs.Blocks.{missing_entry}, dos_blocks.proofs.{Searches.{found_block}, Splicing.{entry_within}}}
use Rattle.dos_blocks.proofs.resizing.can_resize.Goals as goal

pub arena-entry-requires : goal.arena-entry-requires
arena-entry-requires c = (found_block true c.args.m.now.world.arena c.args.seg c.in-Some.place c.in-Some.ensures.found).small

pub overflow_add-run : goal.overflow_add-run
overflow_add-run c =
    let es = c.args.m.now.world.arena in
    let block = found_block true es c.args.seg c.in-Some.place c.in-Some.ensures.found in
    let within = entry_within es c.in-Some.place c.in-Some.ensures.sound block.small in
    omega (arith, within.ends, ap (λ (e : DosEntry). e.at) (c.arena-entry.ensures missing_entry))
