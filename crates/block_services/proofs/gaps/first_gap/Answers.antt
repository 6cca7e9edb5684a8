use Rattle.std.proofs.Common.{◌+◌, ◌∙◌, ℕ, sym, ap, arith, refl, drop}
use Rattle.block_services.proofs.SpanLaws.{found, found_here, found_last, found_next, found_none, gap_is, missing, span_within}
use Rattle.block_services.proofs.gaps.first_gap.Goals as goal

pub returns-then-page-pages : goal.returns-then-page-pages
returns-then-page-pages c =
    let first = gap_is c.args.m.now.world.blocks c.args.m.now.world.budget c.args.pages c.as_slice-spans.result.now
    c.spans_by_address-sorted.result.items
    c.soundness.ensures.blocks c.requires.some c.as_slice-spans.ensures.value c.spans_by_address-sorted.ensures.held
    c.spans_by_address-sorted.ensures.ascending in
    let within = span_within c.args.m.now.world.blocks c.args.m.now.world.budget c.loop-span.span-index missing
    c.as_slice-spans.result.now c.spans_by_address-sorted.result.items
    c.soundness.ensures.blocks c.as_slice-spans.ensures.value c.spans_by_address-sorted.ensures.held
    c.spans_by_address-sorted.ensures.ascending c.loop-span-test.true in
    let some = c.requires.some in (
      first ∙ sym c.loop-span.invariant.same
          ∙ found_here c.as_slice-spans.result.now c.loop-span.span-index c.loop-span.page c.args.pages missing c.loop-span-test.true
          c.if-page-pages.true,
      omega (arith, within.first, some, c.if-page-pages.true),
    )

pub loop-span-preserved : goal.loop-span-preserved
loop-span-preserved c =
    let within = span_within c.args.m.now.world.blocks c.args.m.now.world.budget c.loop-span.span-index missing
    c.as_slice-spans.result.now c.spans_by_address-sorted.result.items
    c.soundness.ensures.blocks c.as_slice-spans.ensures.value c.spans_by_address-sorted.ensures.held
    c.spans_by_address-sorted.ensures.ascending c.loop-span-test.true in
    let few = c.loop-span.invariant.few in
    record {
      few = omega (arith, within.after, few, c.max-page.ensures);
      same = ap (λ (page : ℕ). found (drop (c.loop-span.span-index + 1) c.as_slice-spans.result.now) page c.args.pages) c.max-page.ensures
          ∙ sym (found_next c.as_slice-spans.result.now c.loop-span.span-index c.loop-span.page c.args.pages missing c.loop-span-test.true
          c.if-page-pages.false)
          ∙ c.loop-span.invariant.same;
    }

pub returns-then-page-pages-le-BLOCK_REGION_PAGES : goal.returns-then-page-pages-le-BLOCK_REGION_PAGES
returns-then-page-pages-le-BLOCK_REGION_PAGES c =
    let first = gap_is c.args.m.now.world.blocks c.args.m.now.world.budget c.args.pages c.as_slice-spans.result.now
    c.spans_by_address-sorted.result.items
    c.soundness.ensures.blocks c.requires.some c.as_slice-spans.ensures.value c.spans_by_address-sorted.ensures.held
    c.spans_by_address-sorted.ensures.ascending in (
      first ∙ sym c.loop-span.invariant.same
          ∙ found_last c.as_slice-spans.result.now c.loop-span.span-index c.loop-span.page c.args.pages c.loop-span-test.false
          c.if-page-pages-le-BLOCK_REGION_PAGES.true,
      omega (arith, c.requires.some, c.if-page-pages-le-BLOCK_REGION_PAGES.true),
    )

pub returns : goal.returns
returns c =
    let first = gap_is c.args.m.now.world.blocks c.args.m.now.world.budget c.args.pages c.as_slice-spans.result.now
    c.spans_by_address-sorted.result.items
    c.soundness.ensures.blocks c.requires.some c.as_slice-spans.ensures.value c.spans_by_address-sorted.ensures.held
    c.spans_by_address-sorted.ensures.ascending in (
      first ∙ sym c.loop-span.invariant.same
          ∙ found_none c.as_slice-spans.result.now c.loop-span.span-index c.loop-span.page c.args.pages c.loop-span-test.false
          c.if-page-pages-le-BLOCK_REGION_PAGES.false,
      refl,
    )
