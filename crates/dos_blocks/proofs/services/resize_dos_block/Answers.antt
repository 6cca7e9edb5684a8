use Rattle.std.proofs.Common.{◌≡◌, ◌∙◌, ap, sym, arith, ℕ, true}
use Rattle.client_world.specs.{declared.dos_memory.DosEntry.{DosEntry}, Selector.{index_of}}
use Rattle.dos_blocks.specs.Blocks.{missing_entry, entry_of_place, has_room_to_grow, run_of_block}
use Rattle.dos_blocks.proofs.{BlockRuns.{can_resize_named}, RunPuts.{has_room}, Searches.{found_block}, Splicing.{entry_within}}
use Rattle.dos_blocks.proofs.services.resize_dos_block.Goals as goal

pub arena-entry-requires : goal.arena-entry-requires
arena-entry-requires c = (found_block true c.args.m.now.world.arena c.in-Some.segment c.in-Some-place_of_block.place
    c.in-Some-place_of_block.ensures.found).small

pub room_after-requires : goal.room_after-requires
room_after-requires c = (found_block true c.args.m.now.world.arena c.in-Some.segment c.in-Some-place_of_block.place
    c.in-Some-place_of_block.ensures.found).small

pub overflow_add-possible : goal.overflow_add-possible
overflow_add-possible c =
    let es = c.args.m.now.world.arena in
    let place = c.in-Some-place_of_block.place in
    let room = has_room es place c.soundness.ensures.arena
    (found_block true es c.in-Some.segment place c.in-Some-place_of_block.ensures.found).small in
    omega (arith, room.behind, ap (λ (e : DosEntry). e.paras) (c.arena-entry.ensures missing_entry), c.room_after.ensures)

pub overflow_add-run : goal.overflow_add-run
overflow_add-run c =
    let es = c.args.m.now.world.arena in
    let place = c.in-Some-place_of_block.place in
    let within = entry_within es place c.soundness.ensures.arena
    (found_block true es c.in-Some.segment place c.in-Some-place_of_block.ensures.found).small in
    omega (arith, within.ends, ap (λ (e : DosEntry). e.at) (c.arena-entry.ensures missing_entry))

pub dos_resize-requires : goal.dos_resize-requires
dos_resize-requires c =
    let w = c.args.m.now.world in
    let n = c.low_half-n.result in
    let sel = c.low_half-sel.result in
    let place = c.in-Some-place_of_block.place in
    let entry = entry_of_place w.arena place in
    let given : run_of_block c.arena-entry.result c.index_of.result c.arena-entry.result.paras n
    ≡ run_of_block entry (index_of sel) entry.paras n =
    ap (λ (first : ℕ). run_of_block c.arena-entry.result first c.arena-entry.result.paras n) c.index_of.ensures.value
    ∙ ap (λ (e : DosEntry). run_of_block e (index_of sel) e.paras n) (c.arena-entry.ensures missing_entry) in
    let grows : has_room_to_grow w.descriptors (run_of_block entry (index_of sel) entry.paras n) ≡ true =
    ap (has_room_to_grow w.descriptors) (sym given) ∙ sym c.has_room_to_grow.ensures ∙ c.if-not-has_room_to_grow.false in
    λ e. can_resize_named w n sel c.in-Some.segment place c.soundness.ensures c.requires (λ none. omega (arith, none, c.if-n-eq0.false))
    (sym c.in-Some.ensures) (sym c.in-Some-place_of_block.ensures.found) grows
