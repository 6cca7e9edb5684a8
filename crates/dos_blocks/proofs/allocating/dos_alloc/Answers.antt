use Rattle.{std.proofs.Common.{◌∙◌, ap, refl, arith, ℕ}, client_world.specs.declared.dos_memory.DosEntry.{DosEntry}}
use Rattle.dos_blocks.specs.Blocks.{missing_entry, block_state, new_descriptor, run_of_block, split}
use Rattle.dos_blocks.proofs.{BlockRuns.{can_give_block, can_put}, Searches.{found_fit}, Splicing.{entry_within}}
use Rattle.dos_blocks.proofs.allocating.dos_alloc.Goals as goal

pub arena-entry-requires : goal.arena-entry-requires
arena-entry-requires c = (found_fit c.args.m.now.world.arena c.args.paras c.in-Some.place c.in-Some.ensures.found).small

pub split-entries-requires : goal.split-entries-requires
split-entries-requires c =
    let es = c.args.m.now.world.arena in
    let fit = found_fit es c.args.paras c.in-Some.place c.in-Some.ensures.found in
    let within = entry_within es c.in-Some.place c.in-Some.ensures.sound fit.small in
    let entry = c.arena-entry.ensures missing_entry in
    let at = ap (λ (e : DosEntry). e.at) entry in
    let paras = ap (λ (e : DosEntry). e.paras) entry in
    record { fits = omega (arith, fit.room, paras); room = omega (arith, within.ends, at, paras) }

pub put_block-requires : goal.put_block-requires
put_block-requires c =
    let w = c.args.m.now.world in
    let n = c.args.paras in
    let place = c.in-Some.place in
    let entry = c.arena-entry.ensures missing_entry in
    can_put c.args.for_dpmi w place place 1 1 _ c.split-entries.result.items _ _
    (can_give_block w c.args.for_dpmi n place c.soundness.ensures c.requires c.in-Some.ensures.found) refl refl
    (c.split-entries.ensures ∙ ap (λ (e : DosEntry). split (block_state c.args.for_dpmi) e.at n e.paras) entry)
    (ap (λ (first : ℕ). run_of_block c.arena-entry.result first 0 n) c.new_descriptor.ensures
    ∙ ap (λ (e : DosEntry). run_of_block e (new_descriptor c.args.for_dpmi w.descriptors n) 0 n) entry)

pub overflow_add-run : goal.overflow_add-run
overflow_add-run c =
    let es = c.args.m.now.world.arena in
    let fit = found_fit es c.args.paras c.in-Some.place c.in-Some.ensures.found in
    let within = entry_within es c.in-Some.place c.in-Some.ensures.sound fit.small in
    let at = ap (λ (e : DosEntry). e.at) (c.arena-entry.ensures missing_entry) in
    omega (arith, within.ends, at)
