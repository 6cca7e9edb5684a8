use Rattle.timer_run.specs.Rounds.{source_of_round, timed_rounds, timed_turns}
use Rattle.timer_run.proofs.RoundLaws.{matched_by_source, timed_sound}
use Rattle.timer_run.proofs.laws.every_nested_call_of_a_timed_run_hands_over.Goals.{returns as goal}

pub returns : goal
returns c = λ every h i j sound keys m.
    c.every_nested_call_hands_over.ensures.matched (source_of_round every (timed_rounds every h i)) (timed_turns every h) i j
    (timed_sound every h i sound keys) (timed_sound every h j sound keys) (matched_by_source every h i j sound keys m)
