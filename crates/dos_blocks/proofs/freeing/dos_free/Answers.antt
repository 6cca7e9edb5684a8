use Rattle.{std.proofs.Common.{◌+◌, ◌-◌, ◌∙◌, ap, refl, arith, ℕ, [], ◌∷◌}, client_world.specs.declared.dos_memory.DosEntry.{DosEntry}}
use Rattle.dos_blocks.specs.Blocks.{missing_entry, first_descriptor, free_entries_after, free_before, joined_entry, run_of_block}
use Rattle.dos_blocks.proofs.{BlockRuns.{can_free_block, can_put}, Searches.{found_block}, Splicing.{entry_within}}
use Rattle.dos_blocks.proofs.freeing.dos_free.Goals as goal

pub arena-entry-requires : goal.arena-entry-requires
arena-entry-requires c = (found_block c.args.for_dpmi c.args.m.now.world.arena c.args.seg c.in-Some.place c.in-Some.ensures.found).small

pub overflow_add-run : goal.overflow_add-run
overflow_add-run c =
    let es = c.args.m.now.world.arena in
    let block = found_block c.args.for_dpmi es c.args.seg c.in-Some.place c.in-Some.ensures.found in
    let within = entry_within es c.in-Some.place c.in-Some.ensures.sound block.small in
    omega (arith, within.ends, ap (λ (e : DosEntry). e.at) (c.arena-entry.ensures missing_entry))

pub free_entries_after-requires : goal.free_entries_after-requires
free_entries_after-requires c =
    (found_block c.args.for_dpmi c.args.m.now.world.arena c.args.seg c.in-Some.place c.in-Some.ensures.found).small

pub joined_entry-requires : goal.joined_entry-requires
joined_entry-requires c = (found_block c.args.for_dpmi c.args.m.now.world.arena c.args.seg c.in-Some.place c.in-Some.ensures.found).small

pub put_block-requires : goal.put_block-requires
put_block-requires c =
    let w = c.args.m.now.world in
    let es = w.arena in
    let place = c.in-Some.place in
    can_put c.args.for_dpmi w (place - free_before es place) (place - c.free_before-before.result)
    (free_before es place + (1 + free_entries_after es place)) (c.free_before-before.result + (1 + c.free_entries_after.result))
    (joined_entry es place ∷ [])
    c.one-entries.result.items _ _
    (can_free_block w c.args.for_dpmi c.args.seg place c.soundness.ensures c.requires c.in-Some.ensures.found)
    (ap (λ (n : ℕ). place - n) c.free_before-before.ensures)
    (rw (c.free_before-before.ensures, c.free_entries_after.ensures) refl)
    (c.one-entries.ensures ∙ ap (λ (e : DosEntry). e ∷ []) c.joined_entry.ensures)
    (ap (λ (first : ℕ). run_of_block c.arena-entry.result first c.arena-entry.result.paras 0) c.first_descriptor.ensures
    ∙ ap (λ (e : DosEntry). run_of_block e (first_descriptor c.args.for_dpmi w.descriptors c.args.seg) e.paras 0)
    (c.arena-entry.ensures missing_entry))
