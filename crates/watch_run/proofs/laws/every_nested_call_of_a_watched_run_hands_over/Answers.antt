use Rattle.{host_run.specs.RealCalls.{from_client}, watch_run.specs.Turn.{watched_turns}}
use Rattle.watch_run.proofs.{WatchedTurns.{turns_sound}, laws.every_nested_call_of_a_watched_run_hands_over.Goals.{returns as goal}}

pub returns : goal
returns c = λ h i j sound keys m.
    c.every_nested_call_hands_over.ensures.matched from_client (watched_turns h) i j (turns_sound h i sound keys)
    (turns_sound h j sound keys) m
