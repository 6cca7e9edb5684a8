use Rattle.{std.proofs.Common.{◌+◌, ◌∙◌, sym, ap, arith, ℕ, drop, max}, dos_blocks.specs.Blocks.{largest}}
use Rattle.dos_blocks.proofs.Searches.{largest_next, largest_none}
use Rattle.dos_blocks.proofs.finding.largest.Goals as goal

pub loop-place-preserved : goal.loop-place-preserved
loop-place-preserved c =
    ap (λ (best : ℕ). max best (largest (drop (c.loop-place.place + 1) c.args.m.now.world.arena))) c.larger-best.ensures
    ∙ sym (largest_next c.args.m.now.world.arena c.loop-place.best c.loop-place.place c.arena.result
    (omega (arith, c.arena_len-place-end.ensures.count, c.loop-place-test.true)) (c.arena.ensures c.arena.result))
    ∙ c.loop-place.invariant

pub returns : goal.returns
returns c =
    sym (largest_none c.args.m.now.world.arena c.loop-place.best c.loop-place.place
    (omega (arith, c.arena_len-place-end.ensures.count, c.loop-place-test.false)))
    ∙ c.loop-place.invariant
