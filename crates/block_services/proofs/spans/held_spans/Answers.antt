use Rattle.std.proofs.Common.{◌∙◌, sym, ap, arith, ◌++◌, List, length}
use Rattle.block_services.specs.{declared.spans.Span.{Span}, Spans.{spans_of_row}}
use Rattle.block_services.proofs.SpanLists.{few_spans, spans_more, spans_none}
use Rattle.block_services.proofs.spans.held_spans.Goals as goal

pub loop-place-init : goal.loop-place-init
loop-place-init c = c.new-spans.ensures ∙ sym (spans_none c.args.m.now.world.blocks)

pub add_span-requires-clause-room : goal.add_span-requires-clause-room
add_span-requires-clause-room c =
    let few = few_spans c.args.m.now.world.blocks c.loop-place.place in
    let same = ap (λ (xs : List Span). length xs) c.loop-place.invariant in
    omega (arith, few, same, c.loop-place-test.true)

pub loop-place-preserved : goal.loop-place-preserved
loop-place-preserved c =
    c.add_span.ensures ∙ ap (λ (xs : List Span). xs ++ spans_of_row c.row_of.result) c.loop-place.invariant
    ∙ sym (spans_more c.args.m.now.world.blocks c.loop-place.place c.row_of.result c.row_of.ensures.row)
