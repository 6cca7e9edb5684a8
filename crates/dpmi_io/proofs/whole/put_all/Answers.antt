use Rattle.{std.proofs.{Common.{arith, ◌∙◌, refl, subst}, lemmas.Grind.{common_steps}}, dpmi_io.specs.Causes.{Rose}}
use Rattle.dpmi_io.proofs.Output.{gained-none, gains_piece, part_piece}
use Rattle.dpmi_io.proofs.whole.put_all.Goals as goal

pub loop-done-init : goal.loop-done-init
loop-done-init g c = (omega arith, gained-none _, refl)

pub returns-in-Err-clause-puts : goal.returns-in-Err-clause-puts
returns-in-Err-clause-puts g c = record {
  whole = tt;
  part = part_piece _ _ _ c.args.bytes.now c.loop-done.done c.loop-done.invariant.1 c.in-Err.ensures.part;
  quiet = tt;
  failed = subst (λ from. Rose from (g.O.Sink.faults c.put.new.self)) c.loop-done.invariant.2 c.in-Err.ensures.failed;
}

pub loop-done-preserved : goal.loop-done-preserved
loop-done-preserved g c = (
  grind (arith, common_steps, c.in-Ok.ensures),
  gains_piece _ _ _ c.args.bytes.now c.loop-done.done c.in-Ok.count c.loop-done.invariant.1 c.in-Ok.ensures.took,
  c.in-Ok.ensures.quiet ∙ c.loop-done.invariant.2,
)
