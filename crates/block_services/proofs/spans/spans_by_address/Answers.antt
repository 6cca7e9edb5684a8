use Rattle.std.proofs.{Common.{rules}, lemmas.List.Sorted.{IsNonDecreasingBy-from_sort_by_key}}
use Rattle.{arrayvec.proofs.ArrayVecLemmas.{items-with_items}, block_services.specs.declared.spans.Span.{Span}}
use Rattle.block_services.proofs.spans.spans_by_address.Goals.{returns-clause-ascending as goal}

pub returns-clause-ascending : goal
returns-clause-ascending c = rw (items-with_items c.held_spans-spans.result c.sort_unstable_by_key.new.self (search rules))
    (IsNonDecreasingBy-from_sort_by_key (λ (span : Span). span.first) _ c.sort_unstable_by_key.ensures.sorted (λ a r q k. search rules))
