use Rattle.{std.proofs.Common.{◌∙◌, sym, arith}, dos_blocks.proofs.Searches.{block_here, block_next, block_none}}
use Rattle.dos_blocks.proofs.finding.place_of_block.Goals as goal

pub returns-then-starts_at-clause-found : goal.returns-then-starts_at-clause-found
returns-then-starts_at-clause-found c =
    sym (block_here c.args.for_dpmi c.args.m.now.world.arena c.args.segment c.loop-place.place c.arena.result
    (omega (arith, c.arena_len-place-end.ensures.count, c.loop-place-test.true)) (c.arena.ensures c.arena.result)
    (sym c.starts_at.ensures ∙ c.if-starts_at.true))
    ∙ c.loop-place.invariant

pub loop-place-preserved : goal.loop-place-preserved
loop-place-preserved c =
    sym (block_next c.args.for_dpmi c.args.m.now.world.arena c.args.segment c.loop-place.place c.arena.result
    (omega (arith, c.arena_len-place-end.ensures.count, c.loop-place-test.true)) (c.arena.ensures c.arena.result)
    (sym c.starts_at.ensures ∙ c.if-starts_at.false))
    ∙ c.loop-place.invariant

pub returns-clause-found : goal.returns-clause-found
returns-clause-found c =
    sym (block_none c.args.for_dpmi c.args.m.now.world.arena c.args.segment c.loop-place.place
    (omega (arith, c.arena_len-place-end.ensures.count, c.loop-place-test.false)))
    ∙ c.loop-place.invariant
