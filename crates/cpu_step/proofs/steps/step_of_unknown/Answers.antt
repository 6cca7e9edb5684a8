use Rattle.cpu_step.proofs.{KnownSteps.{known_step}, steps.step_of_unknown.Goals.{returns-in-Some-clause-step as goal}}

pub returns-in-Some-clause-step : goal
returns-in-Some-clause-step c =
    rw c.as_learned.ensures
    (known_step _ _ _ _ _ _ _ _ c.requires.window c.requires.start c.words_in-words.ensures c.in-Some.ensures.decoded
    c.execute.ensures.executed)
