-- The most pages that a new block would find free in a row.
use Rattle.std.proofs.Common.{◌≡◌, ◌≢◌, ◌∙◌, ℕ, zero, suc, true, inl, inr, min, List, sym, arith, refl, Option, None, Some, nat_le}
use Rattle.std.proofs.lemmas.Bool.{cases_Bool, leb-true, leb-false}
use Rattle.std.specs.Option.{is_some}
use Rattle.client_world.specs.{Soundness.{SoundBlocks}, World.{MemoryBlock}}
use Rattle.block_services.specs.{declared.spans.Span.{Span}, Free.{largest_new_block}, Gaps.{first_gap}}
use Rattle.block_services.proofs.SpanLaws.{AreSorted, found_is, wide_found, wide_missed, widest}

some_is : (o : Option ℕ) → o ≢ None → is_some o ≡ true
some_is None some = absurd (some refl)
some_is (Some x) some = refl

here : (blocks : List (Option MemoryBlock)) (n : ℕ) → first_gap blocks (suc n) ≢ None → largest_new_block blocks (suc n) ≡ suc n
unfolding largest_new_block
here blocks n some = rw (some_is (first_gap blocks (suc n)) some) refl

next : (blocks : List (Option MemoryBlock)) (n : ℕ) → first_gap blocks (suc n) ≡ None →
    largest_new_block blocks (suc n) ≡ largest_new_block blocks n
unfolding largest_new_block
next blocks n e = rw e refl

nothing : (blocks : List (Option MemoryBlock)) → largest_new_block blocks 0 ≡ 0
unfolding largest_new_block
nothing blocks = refl

pub largest_is_least : (blocks : List (Option MemoryBlock)) (budget : ℕ) (spans : List Span) → SoundBlocks blocks budget →
    AreSorted blocks spans → (most : ℕ) → largest_new_block blocks most ≡ min most (widest spans 0)
largest_is_least blocks budget spans sound sorted zero = nothing blocks ∙ omega arith
largest_is_least blocks budget spans sound sorted (suc n) =
    let same = found_is blocks budget (suc n) spans sound (omega arith) sorted in
    elim (cases_Bool (nat_le (suc n) (widest spans 0))) [
      | inl fits ↦ (let few = leb-true (suc n) (widest spans 0) fits in
          here blocks n (λ none. wide_found (suc n) (omega arith) spans 0 few (same ∙ none)) ∙ omega arith)
      | inr many ↦ (let more = leb-false (suc n) (widest spans 0) many in
          next blocks n (sym same ∙ wide_missed (suc n) spans 0 more)
          ∙ largest_is_least blocks budget spans sound sorted n ∙ omega arith)
    ]
