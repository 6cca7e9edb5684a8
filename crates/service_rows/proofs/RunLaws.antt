-- The first index that passes a test; and the first free run, which is the same as a function and as a relation.
use Rattle.std.proofs.Common.{◌≡◌, ◌≢◌, ◌≤◌, ◌<◌, ◌+◌, ◌-◌, ℕ, zero, suc, Bool, true, false, inl, inr, refl, sym, ◌∙◌, ap, arith, None}
use Rattle.std.proofs.{Common.{Some, ◌⊎◌, ◌↔◌, List, Option, IfSome, IsNone}, lemmas.Bool.{cases_eq, cases_Bool, and_parts, and_from}}
use Rattle.std.proofs.lemmas.Bool.{le-leb, leb-true, eq-eqb, ne_eqb, cond-true, cond-false, true≢false, false_from_ne_true}
use Rattle.service_rows.specs.{FirstIndex.{first_index}, FreeRun.{are_free, is_free_run, first_free_run}}
use Rattle.std.specs.Option.{is_none}
use Rattle.client_world.specs.{declared.host_frames.TheConstants.{DESCRIPTORS, FIRST_FREE_DESCRIPTOR}, FreeRuns.{IsFreeRunOf}}
use Rattle.client_world.specs.{FreeRuns.{IsFirstFreeRunOf}, Selector.{Row, row_at_index}}

passes : (test : ℕ → Bool) (index left : ℕ) → test index ≡ true → first_index test index (suc left) ≡ Some index
unfolding first_index
passes test index left e = rw e

fails : (test : ℕ → Bool) (index left : ℕ) → test index ≡ false → first_index test index (suc left) ≡ first_index test (index + 1) left
unfolding first_index
fails test index left e = rw e

none_left : (test : ℕ → Bool) (index : ℕ) → first_index test index 0 ≡ None
unfolding first_index
none_left test index = refl

-- the search in code, from one index up to another
pub index_found : (test : ℕ → Bool) (index end : ℕ) → index < end → test index ≡ true → first_index test index (end - index) ≡ Some index
index_found test index end below e =
    let k : end - index ≡ suc (end - (index + 1)) = omega arith in
    ap (first_index test index) k ∙ passes test index (end - (index + 1)) e

pub index_passed : (test : ℕ → Bool) (index end : ℕ) → index < end → test index ≡ false →
    first_index test index (end - index) ≡ first_index test (index + 1) (end - (index + 1))
index_passed test index end below e =
    let k : end - index ≡ suc (end - (index + 1)) = omega arith in
    ap (first_index test index) k ∙ fails test index (end - (index + 1)) e

pub index_missed : (test : ℕ → Bool) (index end : ℕ) → end ≤ index → first_index test index (end - index) ≡ None
index_missed test index end beyond = let k : end - index ≡ 0 = omega arith in ap (first_index test index) k ∙ none_left test index

-- the answer, from what is true of it
pub is_first : (test : ℕ → Bool) (from left first : ℕ) → from ≤ first → first < from + left → test first ≡ true →
    ((below : ℕ) → from ≤ below → below < first → test below ≡ false) → first_index test from left ≡ Some first
is_first test from zero first above below here none = absurd (omega arith)
is_first test from (suc left) first above below here none = elim (cases_eq from first) [
  | inl e ↦ passes test from left (ap test e ∙ here) ∙ ap (λ (i : ℕ). Some i) e
  | inr ne ↦ fails test from left (none from (omega arith) (omega arith))
      ∙ is_first test (from + 1) left first (omega arith) (omega arith) here (λ b l u. none b (omega arith) u)
]

pub is_missing : (test : ℕ → Bool) (from left : ℕ) → ((k : ℕ) → from ≤ k → k < from + left → test k ≡ false) →
    first_index test from left ≡ None
is_missing test from zero none = none_left test from
is_missing test from (suc left) none = fails test from left (none from (omega arith) (omega arith))
    ∙ is_missing test (from + 1) left (λ k l u. none k (omega arith) (omega arith))

-- an answer passes the test, and no index before it does
pub record IsFirst (test : ℕ → Bool) (from left first : ℕ) : Type 0 where
  pub above : from ≤ first
  pub below : first < from + left
  pub here : test first ≡ true

pub first_is : (test : ℕ → Bool) (from left first : ℕ) → first_index test from left ≡ Some first → IsFirst test from left first
first_is test from zero first e = absurd (none_some first (sym (none_left test from) ∙ e))
  where
    none_some : (i : ℕ) → None ≢ Some i
    none_some i e = cc
first_is test from (suc left) first e = elim (cases_Bool (test from)) [
  | inl t ↦ (let same : from ≡ first = cc (passes test from left t, e) in
      record { above = omega arith; below = omega arith; here = ap test (sym same) ∙ t })
  | inr t ↦ (let rest = first_is test (from + 1) left first (sym (fails test from left t) ∙ e) in
      record { above = omega (arith, rest.above); below = omega (arith, rest.below); here = rest.here })
]

-- where none passes, each doesn't
pub first_none : (test : ℕ → Bool) (from left : ℕ) → first_index test from left ≡ None → (k : ℕ) → from ≤ k → k < from + left →
    test k ≡ false
first_none test from zero e k l u = absurd (omega arith)
first_none test from (suc left) e k l u = elim (cases_Bool (test from)) [
  | inl t ↦ absurd (some_none from (sym (passes test from left t) ∙ e))
  | inr t ↦ elim (cases_eq from k) [
    | inl same ↦ ap test (sym same) ∙ t
    | inr other ↦ first_none test (from + 1) left (sym (fails test from left t) ∙ e) k (omega arith) (omega arith)
  ]
]
  where
    some_none : (i : ℕ) → Some i ≢ None
    some_none i e = cc

-- the search that leaves out indices of which none passes
pub index_skipped : (test : ℕ → Bool) (left index next end : ℕ) → next ≡ index + left → next ≤ end →
    ((k : ℕ) → index ≤ k → k < next → test k ≡ false) → first_index test index (end - index) ≡ first_index test next (end - next)
index_skipped test zero index next end e within none = ap (λ (i : ℕ). first_index test i (end - i)) (omega arith)
index_skipped test (suc left) index next end e within none =
    index_passed test index end (omega arith) (none index (omega arith) (omega arith))
    ∙ index_skipped test left (index + 1) next end (omega arith) within (λ k l u. none k (omega arith) u)

-- and that leaves out all that are left
pub index_ended : (test : ℕ → Bool) (index end : ℕ) → ((k : ℕ) → index ≤ k → k < end → test k ≡ false) →
    first_index test index (end - index) ≡ None
index_ended test index end none = is_missing test index (end - index) (λ k l u. none k l (omega arith))

-- ---- free runs

none_of : (row : Row) → is_none row ≡ true → row ≡ None
none_of None e = refl
none_of (Some row) e = cc

free_from : (rows : List Row) (first n : ℕ) → ((k : ℕ) → first ≤ k → k < first + n → row_at_index rows k ≡ None) →
    are_free rows first n ≡ true
unfolding are_free
free_from rows first zero free = refl
free_from rows first (suc n) free =
    and_from (is_none (row_at_index rows first)) (are_free rows (first + 1) n) (ap is_none (free first (omega arith) (omega arith)))
    (free_from rows (first + 1) n (λ k l u. free k (omega arith) (omega arith)))

free_at : (rows : List Row) (first n : ℕ) → are_free rows first n ≡ true → (k : ℕ) → first ≤ k → k < first + n → row_at_index rows k ≡ None
unfolding are_free
free_at rows first zero e k l u = absurd (omega arith)
free_at rows first (suc n) e k l u =
    let both = and_parts (is_none (row_at_index rows first)) (are_free rows (first + 1) n) e in
    elim (cases_eq first k) [
      | inl same ↦ ap (row_at_index rows) (sym same) ∙ none_of (row_at_index rows first) both.0
      | inr other ↦ free_at rows (first + 1) n both.1 k (omega arith) (omega arith)
    ]

pub run_of_test : (rows : List Row) (first n : ℕ) → is_free_run rows first n ≡ true → IsFreeRunOf rows first n
run_of_test rows first n e =
    let both = and_parts _ (are_free rows first n) e in
    record { within = leb-true (first + n) DESCRIPTORS both.0; free = free_at rows first n both.1 }

test_of_run : (rows : List Row) (first n : ℕ) → IsFreeRunOf rows first n → is_free_run rows first n ≡ true
test_of_run rows first n run =
    and_from _ (are_free rows first n) (le-leb (first + n) DESCRIPTORS run.within) (free_from rows first n run.free)

no_test : (rows : List Row) (first n : ℕ) → ¬ IsFreeRunOf rows first n → is_free_run rows first n ≡ false
no_test rows first n none = false_from_ne_true (is_free_run rows first n) (λ e. none (run_of_test rows first n e))

at_zero : (rows : List Row) (n : ℕ) → n ≡ 0 → first_free_run rows n ≡ None
unfolding first_free_run
at_zero rows n e = cond-true _ _ _ (eq-eqb n 0 e)

at_some : (rows : List Row) (n : ℕ) → n ≢ 0 →
    first_free_run rows n ≡ first_index (λ first. is_free_run rows first n) FIRST_FREE_DESCRIPTOR (DESCRIPTORS - FIRST_FREE_DESCRIPTOR)
unfolding first_free_run
at_some rows n ne = cond-false _ _ _ (ne_eqb n 0 ne)

-- the run that the machine's search answers
run_found : (rows : List Row) (n first : ℕ) → n ≢ 0 → IsFirstFreeRunOf rows first n → first_free_run rows n ≡ Some first
run_found rows n first ne run =
    let within = run.run.within in
    at_some rows n ne ∙ is_first (λ first. is_free_run rows first n) FIRST_FREE_DESCRIPTOR (DESCRIPTORS - FIRST_FREE_DESCRIPTOR) first
    run.from (omega arith) (test_of_run rows first n run.run) (λ below l u. no_test rows below n (run.least below l u))

run_missed : (rows : List Row) (n : ℕ) → (n ≡ 0) ⊎ ((first : ℕ) → FIRST_FREE_DESCRIPTOR ≤ first → ¬ IsFreeRunOf rows first n) →
    first_free_run rows n ≡ None
run_missed rows n none = elim (cases_eq n 0) [
  | inl nothing ↦ at_zero rows n nothing
  | inr ne ↦ elim none [
    | inl nothing ↦ absurd (ne nothing)
    | inr never ↦ at_some rows n ne
        ∙ is_missing (λ first. is_free_run rows first n) FIRST_FREE_DESCRIPTOR (DESCRIPTORS - FIRST_FREE_DESCRIPTOR)
        (λ k l u. no_test rows k n (never k l))
  ]
]

pub is_first_free_run : (rows : List Row) (n : ℕ) (answer : Option ℕ) →
    (IsNone answer ↔ ((n ≡ 0) ⊎ ((first : ℕ) → FIRST_FREE_DESCRIPTOR ≤ first → ¬ IsFreeRunOf rows first n))) →
    IfSome answer (λ first. IsFirstFreeRunOf rows first n) → answer ≡ first_free_run rows n
is_first_free_run rows n None none some = sym (run_missed rows n (none.0 refl))
is_first_free_run rows n (Some first) none some = sym (run_found rows n first (λ nothing. true≢false (none.1 (inl nothing))) some)

-- and what it answers is one
pub free_run_of : (rows : List Row) (n first : ℕ) → first_free_run rows n ≡ Some first → (FIRST_FREE_DESCRIPTOR ≤ first)
    × IsFreeRunOf rows first n
free_run_of rows n first e = elim (cases_eq n 0) [
  | inl nothing ↦ absurd (none_some first (sym (at_zero rows n nothing) ∙ e))
  | inr ne ↦ (let is = first_is (λ (k : ℕ). is_free_run rows k n) FIRST_FREE_DESCRIPTOR (DESCRIPTORS - FIRST_FREE_DESCRIPTOR) first
      (sym (at_some rows n ne) ∙ e) in
      (is.above, run_of_test rows first n is.here))
]
  where
    none_some : (i : ℕ) → None ≢ Some i
    none_some i e = cc
