use Rattle.{std.specs.Prelude.{None, Some}, client_world.specs.WatchWorld.{host_without_watches}, timer_run.specs.Rounds.{timed_rounds}}
use Rattle.{watch_run.specs.Turn.{turns_with_watchpoints}, dpmi_cli.specs.Laws.{RunKeepsTheLaws, seen_run, seen_timed_run}}
use Rattle.dpmi_cli.proofs.{RunAnswers.{keeps_the_laws}, laws.every_run_keeps_the_laws.Goals.{returns as goal}}

pub returns : goal
returns c = λ w timer sound keys.
    let order = c.nested_calls_return_in_order.ensures in
    elim timer as (λ t. RunKeepsTheLaws w t) [
      | None ↦
          keeps_the_laws (seen_run w)
          (λ n. c.every_touch_of_a_watched_turn_is_held.ensures (turns_with_watchpoints (host_without_watches w) n))
          (λ n. c.every_watched_turn_changes_the_innermost_record_at_most.ensures.turns w n sound keys)
          (λ n. c.every_watched_turn_is_sound.ensures.turns w n sound keys)
          order.depth order.partner order.record_stays c.every_nested_call_hands_over.ensures.matched
      | Some every ↦
          keeps_the_laws (seen_timed_run every w)
          (λ n. c.every_touch_of_a_round_is_held.ensures every (timed_rounds every w n))
          (λ n. c.every_round_changes_the_innermost_record_at_most.ensures.rounds every w n sound keys)
          (λ n. c.every_round_is_sound.ensures.rounds every w n sound keys)
          order.depth order.partner order.record_stays c.every_nested_call_hands_over.ensures.matched
    ]
