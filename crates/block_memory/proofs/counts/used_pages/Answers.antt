use Rattle.{std.proofs.Common.{◌≡◌, ◌∙◌, ap, arith, ℕ}, std.specs.List.{range_with_len}}
use Rattle.{client_world.specs.declared.limits.TheConstants.{MAX_BLOCKS}, guest_ram.specs.Count.{total}}
use Rattle.host_memory.specs.Layout.{handles_part, pages_of}
use Rattle.block_memory.proofs.{PageSums.{sum_next, pages_part, all_pages_is}, PageWrites.{row_pages_read}}
use Rattle.block_memory.proofs.counts.used_pages.Goals as goal

pub overflow_add-used : goal.overflow_add-used
overflow_add-used c =
    let b = c.args.ram.now in
    let read = row_pages_read b c.loop-place.place c.get32-used.result c.loop-place-test.true c.get32-used.ensures in
    let so_far = c.loop-place.invariant.so_far in
    let part = pages_part (handles_part b) c.loop-place.place c.loop-place-test.true in
    let few = c.requires.few in
    omega arith

pub loop-place-preserved : goal.loop-place-preserved
loop-place-preserved c =
    let b = c.args.ram.now in
    let read = row_pages_read b c.loop-place.place c.get32-used.result c.loop-place-test.true c.get32-used.ensures in
    let so_far = c.loop-place.invariant.so_far in
    let next = sum_next (pages_of (handles_part b)) c.loop-place.place in
    record { so_far = omega arith }

pub returns : goal.returns
returns c =
    let b = c.args.ram.now in
    let past = c.loop-place-test.false in
    let end : c.loop-place.place ≡ MAX_BLOCKS = omega (arith, c.loop-place.auto.place-end) in
    c.loop-place.invariant.so_far
    ∙ ap (λ (n : ℕ). total (pages_of (handles_part b)) (range_with_len 0 n)) end
    ∙ all_pages_is (handles_part b)
