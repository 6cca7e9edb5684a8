use Rattle.std.proofs.{Common.{◌≡◌, ◌≤◌, ◌∙◌, ◌+◌, ap, sym, arith, ℕ, inl, inr}, lemmas.Bool.{cases_eq, eq-eqb, ne_eqb}}
use Rattle.{std.specs.Prelude.{nat_eq, if◌then◌else◌}, host_memory.specs.Layout.{locks_part}}
use Rattle.block_memory.proofs.{PageSums.{run_next, run_none, run_few}, PageWrites.{lock_read}}
use Rattle.block_memory.proofs.counts.locked_in.Goals as goal

bit_few : (n bit : ℕ) → bit ≡ (if nat_eq n 0 then 0 else 1) → bit ≤ 1
bit_few n bit e = elim (cases_eq n 0) [
  | inl none ↦ (let zero = rw (eq-eqb n 0 none) at e in omega arith)
  | inr some ↦ (let one = rw (ne_eqb n 0 some) at e in omega arith)
]

pub loop-page-init : goal.loop-page-init
loop-page-init c = record { so_far = sym (run_none (locks_part c.args.ram.now) c.args.first) }

pub loop-page-preserved : goal.loop-page-preserved
loop-page-preserved c =
    let b = c.args.ram.now in
    let less = c.loop-page-test.true in let inside = c.requires.inside in
    let read = lock_read b (c.args.first + c.loop-page.page) c.get16.result (omega arith) c.get16.ensures in
    let next = run_next (locks_part b) c.args.first c.loop-page.page in
    let bit = c.is_locked-count.ensures ∙ ap (λ (n : ℕ). if nat_eq n 0 then 0 else 1) read in
    let so_far = c.loop-page.invariant.so_far in
    record { so_far = omega arith }

pub overflow_add-count : goal.overflow_add-count
overflow_add-count c =
    let b = c.args.ram.now in
    let so_far = c.loop-page.invariant.so_far in
    let few = run_few (locks_part b) c.args.first c.loop-page.page in
    let inside = c.requires.inside in let less = c.loop-page-test.true in
    let bit = c.is_locked-count.ensures in
    let small : c.is_locked-count.result ≤ 1 = bit_few c.get16.result c.is_locked-count.result bit in
    omega arith
