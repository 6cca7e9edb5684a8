use Rattle.{std.proofs.Common.{refl, subst, ◌<◌}, std.specs.Prelude.{OnOk}, guest_space.specs.Windows.{IsWindow}}
use Rattle.cpu_step.specs.{declared.steps.Learned.{Learned}, Windows.{learned_answer}}
use Rattle.cpu_step.proofs.{KnownSteps.{known_step}, SoundSteps.{window_after}}
use Rattle.cpu_step.proofs.steps.step_in_window.Goals as goal

pub returns-in-Some-clause-step : goal.returns-in-Some-clause-step
returns-in-Some-clause-step c =
    known_step _ _ _ _ _ _ _ _ c.requires.window c.requires.start c.words_in-low.ensures
    (c.in-Some.ensures.decoded c.words_in-low.result refl) c.execute.ensures.executed

pub returns-in-Some-clause-window : goal.returns-in-Some-clause-window
returns-in-Some-clause-window c =
    window_after _ _ _ _ _ c.holds_world.ensures c.requires.window c.execute.ensures.handed_on c.execute.ensures.segment
    (known_step _ _ _ _ _ _ _ _ c.requires.window c.requires.start c.words_in-low.ensures
    (c.in-Some.ensures.decoded c.words_in-low.result refl) c.execute.ensures.executed)

pub returns-in-Done-clause-window : goal.returns-in-Done-clause-window
returns-in-Done-clause-window c =
    let after = c.step_of_unknown in
    subst (λ (x : Learned). OnOk (learned_answer x) (0 < after.new.window.starts → IsWindow after.new.m after.new.window)) c.in-Done.is
    (window_after _ _ _ _ _ c.holds_world.ensures c.requires.window after.ensures.handed_on after.ensures.segment after.ensures.step)
