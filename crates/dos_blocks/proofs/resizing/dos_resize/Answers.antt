use Rattle.{std.proofs.Common.{◌≡◌, ◌+◌, ◌∙◌, ap, refl, arith, ℕ}, client_world.specs.declared.dos_memory.DosEntry.{DosEntry}}
use Rattle.dos_blocks.specs.Blocks.{missing_entry, block_state, first_descriptor, split, room_after, free_entries_after, greatest_size}
use Rattle.dos_blocks.specs.Blocks.{run_of_block}
use Rattle.dos_blocks.proofs.{BlockRuns.{can_put, can_resize_block}, RunPuts.{has_room}, Searches.{found_block}, Splicing.{entry_within}}
use Rattle.dos_blocks.proofs.resizing.dos_resize.Goals as goal

pub arena-entry-requires : goal.arena-entry-requires
arena-entry-requires c = (found_block c.args.for_dpmi c.args.m.now.world.arena c.args.seg c.in-Some.place c.in-Some.ensures.found).small

pub room_after-requires : goal.room_after-requires
room_after-requires c = (found_block c.args.for_dpmi c.args.m.now.world.arena c.args.seg c.in-Some.place c.in-Some.ensures.found).small

pub overflow_add-possible : goal.overflow_add-possible
overflow_add-possible c =
    let es = c.args.m.now.world.arena in
    let room = has_room es c.in-Some.place c.in-Some.ensures.sound
    (found_block c.args.for_dpmi es c.args.seg c.in-Some.place c.in-Some.ensures.found).small in
    let paras = ap (λ (e : DosEntry). e.paras) (c.arena-entry.ensures missing_entry) in
    omega (arith, room.behind, paras, c.room_after.ensures)

pub overflow_add-run : goal.overflow_add-run
overflow_add-run c =
    let es = c.args.m.now.world.arena in
    let block = found_block c.args.for_dpmi es c.args.seg c.in-Some.place c.in-Some.ensures.found in
    let within = entry_within es c.in-Some.place c.in-Some.ensures.sound block.small in
    omega (arith, within.ends, ap (λ (e : DosEntry). e.at) (c.arena-entry.ensures missing_entry))

pub free_entries_after-old-requires : goal.free_entries_after-old-requires
free_entries_after-old-requires c =
    (found_block c.args.for_dpmi c.args.m.now.world.arena c.args.seg c.in-Some.place c.in-Some.ensures.found).small

pub split-entries-requires-clause-room : goal.split-entries-requires-clause-room
split-entries-requires-clause-room c =
    let es = c.args.m.now.world.arena in
    let room = has_room es c.in-Some.place c.in-Some.ensures.sound
    (found_block c.args.for_dpmi es c.args.seg c.in-Some.place c.in-Some.ensures.found).small in
    let at = ap (λ (e : DosEntry). e.at) (c.arena-entry.ensures missing_entry) in
    let paras = ap (λ (e : DosEntry). e.paras) (c.arena-entry.ensures missing_entry) in
    omega (arith, room.behind, at, paras, c.room_after.ensures)

pub put_block-requires : goal.put_block-requires
put_block-requires c =
    let w = c.args.m.now.world in
    let es = w.arena in
    let n = c.args.paras in
    let place = c.in-Some.place in
    let entry = c.arena-entry.ensures missing_entry in
    let paras : c.arena-entry.result.paras + c.room_after.result ≡ greatest_size es place =
    ap (λ (n : ℕ). c.arena-entry.result.paras + n) c.room_after.ensures ∙ ap (λ (e : DosEntry). e.paras + room_after es place) entry in
    can_put c.args.for_dpmi w place place (1 + free_entries_after es place) (1 + c.free_entries_after-old.result) _
    c.split-entries.result.items _ _
    (can_resize_block w c.args.for_dpmi n c.args.seg place c.soundness.ensures c.requires c.in-Some.ensures.found
    (omega (arith, paras, c.if-paras-possible.false)))
    refl (ap (λ (n : ℕ). 1 + n) c.free_entries_after-old.ensures)
    (c.split-entries.ensures ∙ ap (λ (m : ℕ). split (block_state c.args.for_dpmi) c.arena-entry.result.at n m) paras
    ∙ ap (λ (e : DosEntry). split (block_state c.args.for_dpmi) e.at n (greatest_size es place)) entry)
    (ap (λ (first : ℕ). run_of_block c.arena-entry.result first c.arena-entry.result.paras n) c.first_descriptor.ensures
    ∙ ap (λ (e : DosEntry). run_of_block e (first_descriptor c.args.for_dpmi w.descriptors c.args.seg) e.paras n) entry)
