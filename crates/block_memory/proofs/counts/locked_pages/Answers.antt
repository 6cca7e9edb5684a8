use Rattle.{std.proofs.Common.{◌≡◌, ◌∙◌, ◌-◌, ◌/◌, ap, arith, ℕ}, std.specs.List.{range_with_len}}
use Rattle.client_world.specs.{declared.host_frames.TheConstants.{PAGE_SIZE}, declared.limits.TheConstants.{MAX_BLOCKS}}
use Rattle.{client_world.specs.declared.memory_map.TheConstants.{BLOCK_REGION}, block_memory.specs.BlockSizes.{locked_of, locked_run}}
use Rattle.host_memory.specs.Layout.{handles_part, locks_part, first_page_of}
use Rattle.block_memory.proofs.{PageSums.{sum_next, locked_part, all_locked_is}, PageWrites.{row_pages_read, row_base_read}}
use Rattle.guest_ram.specs.Count.{total}
use Rattle.block_memory.proofs.counts.locked_pages.Goals as goal

pub locked_in-locked-requires-clause-inside : goal.locked_in-locked-requires-clause-inside
locked_in-locked-requires-clause-inside c =
    let b = c.args.ram.now in
    let place = c.loop-place.place in
    let pages = row_pages_read b place c.get32-pages.result c.loop-place-test.true c.get32-pages.ensures in
    let base = row_base_read b place c.get32-base.result c.loop-place-test.true c.get32-base.ensures in
    let first : c.saturating_sub.result / PAGE_SIZE ≡ first_page_of (handles_part b) place =
    ap (λ (n : ℕ). n / PAGE_SIZE) (c.saturating_sub.ensures ∙ ap (λ (n : ℕ). n - BLOCK_REGION) base) in
    let inside = c.requires.inside place c.loop-place-test.true in
    omega arith

pub overflow_add-locked : goal.overflow_add-locked
overflow_add-locked c =
    let b = c.args.ram.now in
    let place = c.loop-place.place in
    let pages = row_pages_read b place c.get32-pages.result c.loop-place-test.true c.get32-pages.ensures in
    let base = row_base_read b place c.get32-base.result c.loop-place-test.true c.get32-base.ensures in
    let first : c.saturating_sub.result / PAGE_SIZE ≡ first_page_of (handles_part b) place =
    ap (λ (n : ℕ). n / PAGE_SIZE) (c.saturating_sub.ensures ∙ ap (λ (n : ℕ). n - BLOCK_REGION) base) in
    let own : c.locked_in-locked.result ≡ locked_of (handles_part b) (locks_part b) place =
    c.locked_in-locked.ensures ∙ ap (λ (n : ℕ). locked_run (locks_part b) n c.get32-pages.result) first
    ∙ ap (locked_run (locks_part b) (first_page_of (handles_part b) place)) pages in
    let so_far = c.loop-place.invariant.so_far in
    let part = locked_part (handles_part b) (locks_part b) place c.loop-place-test.true in
    let few = c.requires.few in
    omega arith

pub loop-place-preserved : goal.loop-place-preserved
loop-place-preserved c =
    let b = c.args.ram.now in
    let place = c.loop-place.place in
    let pages = row_pages_read b place c.get32-pages.result c.loop-place-test.true c.get32-pages.ensures in
    let base = row_base_read b place c.get32-base.result c.loop-place-test.true c.get32-base.ensures in
    let first : c.saturating_sub.result / PAGE_SIZE ≡ first_page_of (handles_part b) place =
    ap (λ (n : ℕ). n / PAGE_SIZE) (c.saturating_sub.ensures ∙ ap (λ (n : ℕ). n - BLOCK_REGION) base) in
    let own : c.locked_in-locked.result ≡ locked_of (handles_part b) (locks_part b) place =
    c.locked_in-locked.ensures ∙ ap (λ (n : ℕ). locked_run (locks_part b) n c.get32-pages.result) first
    ∙ ap (locked_run (locks_part b) (first_page_of (handles_part b) place)) pages in
    let so_far = c.loop-place.invariant.so_far in
    let next = sum_next (locked_of (handles_part b) (locks_part b)) place in
    record { so_far = omega arith }

pub returns : goal.returns
returns c =
    let b = c.args.ram.now in
    let past = c.loop-place-test.false in
    let end : c.loop-place.place ≡ MAX_BLOCKS = omega (arith, c.loop-place.auto.place-end) in
    c.loop-place.invariant.so_far
    ∙ ap (λ (n : ℕ). total (locked_of (handles_part b) (locks_part b)) (range_with_len 0 n)) end
    ∙ all_locked_is (handles_part b) (locks_part b)
