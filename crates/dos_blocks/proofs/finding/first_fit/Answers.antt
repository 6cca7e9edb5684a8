use Rattle.{std.proofs.Common.{◌∙◌, sym, arith}, dos_blocks.proofs.Searches.{fit_here, fit_next, fit_none}}
use Rattle.dos_blocks.proofs.finding.first_fit.Goals as goal

pub returns-then-fits-clause-found : goal.returns-then-fits-clause-found
returns-then-fits-clause-found c =
    sym (fit_here c.args.m.now.world.arena c.args.n c.loop-place.place c.arena.result
    (omega (arith, c.arena_len-place-end.ensures.count, c.loop-place-test.true)) (c.arena.ensures c.arena.result)
    (sym c.fits.ensures ∙ c.if-fits.true))
    ∙ c.loop-place.invariant

pub loop-place-preserved : goal.loop-place-preserved
loop-place-preserved c =
    sym (fit_next c.args.m.now.world.arena c.args.n c.loop-place.place c.arena.result
    (omega (arith, c.arena_len-place-end.ensures.count, c.loop-place-test.true)) (c.arena.ensures c.arena.result)
    (sym c.fits.ensures ∙ c.if-fits.false))
    ∙ c.loop-place.invariant

pub returns-clause-found : goal.returns-clause-found
returns-clause-found c =
    sym (fit_none c.args.m.now.world.arena c.args.n c.loop-place.place
    (omega (arith, c.arena_len-place-end.ensures.count, c.loop-place-test.false)))
    ∙ c.loop-place.invariant
