use Rattle.std.proofs.Common.{◌+◌, ◌∙◌, ℕ, sym, ap, arith, drop, max, min, get_or}
use Rattle.block_services.proofs.{FreeLaws.{largest_is_least}, SpanLaws.{missing, sorted_as, span_within, widest, widest_last, widest_next}}
use Rattle.block_services.proofs.gaps.widest_gap.Goals as goal

pub loop-span-preserved : goal.loop-span-preserved
loop-span-preserved c =
    let within = span_within c.args.m.now.world.blocks c.args.m.now.world.budget c.loop-span.span-index missing
    c.as_slice-spans.result.now c.spans_by_address-sorted.result.items
    c.soundness.ensures.blocks c.as_slice-spans.ensures.value c.spans_by_address-sorted.ensures.held
    c.spans_by_address-sorted.ensures.ascending c.loop-span-test.true in
    let few = c.loop-span.invariant.few in
    record {
      few = omega (arith, within.after, few, c.max-page.ensures);
      same = ap (λ (page : ℕ). max c.max-widest.result (widest (drop (c.loop-span.span-index + 1) c.as_slice-spans.result.now) page))
          c.max-page.ensures
          ∙ ap (λ (best : ℕ). max best (widest (drop (c.loop-span.span-index + 1) c.as_slice-spans.result.now)
          (max c.loop-span.page (get_or c.as_slice-spans.result.now c.loop-span.span-index missing).after)))
          (c.max-widest.ensures ∙ ap (λ (room : ℕ). max c.loop-span.widest room) c.saturating_sub.ensures)
          ∙ sym (widest_next c.as_slice-spans.result.now c.loop-span.span-index c.loop-span.page c.loop-span.widest missing
          c.loop-span-test.true)
          ∙ c.loop-span.invariant.same;
    }

pub returns : goal.returns
returns c most =
    largest_is_least c.args.m.now.world.blocks c.args.m.now.world.budget c.as_slice-spans.result.now c.soundness.ensures.blocks
    (sorted_as c.args.m.now.world.blocks c.as_slice-spans.result.now c.spans_by_address-sorted.result.items
    c.as_slice-spans.ensures.value c.spans_by_address-sorted.ensures.held c.spans_by_address-sorted.ensures.ascending) most
    ∙ ap (λ (pages : ℕ). min most pages) (sym c.loop-span.invariant.same
    ∙ widest_last c.as_slice-spans.result.now c.loop-span.span-index c.loop-span.page c.loop-span.widest c.loop-span-test.false
    ∙ sym c.max.ensures)
