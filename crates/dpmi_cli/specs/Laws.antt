-- What holds of the runs that a verdict starts. Source: own.
use Rattle.std.specs.{Prelude.{◌+◌, ◌≤◌, ℕ, List, All, None, Some, ⊤}, declared.option.Option.{Option}}
use Rattle.client_world.specs.{declared.place.Place.{Place}, Access.{IsHeld}, WatchWorld.{host_without_watches}, World.{HostWorld}}
use Rattle.host_run.specs.{HandOver.{HandsOver}, Nested.{IsHandedOver, LastPush, Matched, Stacked, host_depth}, RealCalls.{InterruptSource}}
use Rattle.host_run.specs.RealCalls.{from_client}
use Rattle.watch_run.specs.Turn.{touched_by_watch_turn, turns_with_watchpoints, watched_turns}
use Rattle.timer_run.specs.Rounds.{source_of_round, timed_rounds, timed_turns, touched_by_round}
use Rattle.dpmi_cli.specs.Answer.{Verdict, Refuses, Starts, StartsMade, StartsPair}

-- it holds of the world in which the run starts and of its timer, if one starts, or of the worlds in which two start
abbrev pub OfItsRun : (HostWorld → Option ℕ → Type 0) → Verdict → Type 0
OfItsRun P (Refuses reason) = ⊤
OfItsRun P (Starts w timer bound) = P w timer
OfItsRun P (StartsMade number w) = P w None
OfItsRun P (StartsPair slice bound a b) = P a None × P b None

-- a run as the laws see it: the host before each turn, the places that the client instruction of each turn touches, and whose interrupt
-- each turn may reflect
pub record RunSeen : Type 0 where
  pub host : ℕ → HostWorld
  pub touched : ℕ → List Place
  pub source : ℕ → InterruptSource

-- at each turn, every place that a client instruction touches is the client's
abbrev pub TouchesWhatIsHeld : RunSeen → Type 0
TouchesWhatIsHeld r = (n : ℕ) → All (IsHeld (r.host n).machine) (r.touched n)

-- each turn leaves the records of nested calls, adds an innermost one as its call starts, or takes the innermost one away as its call
-- returns
abbrev pub NestsByOneRecord : RunSeen → Type 0
NestsByOneRecord r = (n : ℕ) → Stacked (r.source n) (r.host n) (r.host (n + 1))

-- calls return in order: the depth changes by one at most; a turn that takes a record away has a partner, the last turn before it that
-- added one at that depth; and it takes the record away that its partner added, which until then stayed in its place, with those below it
pub record ReturnsInOrder (r : RunSeen) : Type 0 where
  pub depth : (k : ℕ) →
      (host_depth (r.host (k + 1)) ≤ host_depth (r.host k) + 1) × (host_depth (r.host k) ≤ host_depth (r.host (k + 1)) + 1)
  pub partner : (i j : ℕ) → LastPush r.host i j → Matched r.host i j
  pub record_stays : (i j : ℕ) → Matched r.host i j → IsHandedOver (r.source i) r.host i j

-- of two turns of which the second takes away the record that the first added, each call, callback and exception hands over what it should
abbrev pub HandsOverWhatIsNested : RunSeen → Type 0
HandsOverWhatIsNested r = (i j : ℕ) → (h : IsHandedOver (r.source i) r.host i j) →
    HandsOver (r.source i) (r.host i) (r.host (i + 1)) (r.host j) (r.host (j + 1)) h.innermost

-- the laws that each run keeps
pub record KeepsTheLaws (r : RunSeen) : Type 0 where
  pub every_touch_is_held : TouchesWhatIsHeld r
  pub every_turn_changes_the_innermost_record_at_most : NestsByOneRecord r
  pub nested_calls_return_in_order : ReturnsInOrder r
  pub every_nested_call_hands_over : HandsOverWhatIsNested r

-- the run from a host, in which the client's interrupts alone are reflected
abbrev pub seen_run : HostWorld → RunSeen
seen_run w = record {
  host = watched_turns w;
  touched = λ n. touched_by_watch_turn (turns_with_watchpoints (host_without_watches w) n);
  source = λ n. from_client;
}

-- the same of a run with a timer: a round that is the timer's interrupt reflects that one, and every other the client's alone
abbrev pub seen_timed_run : ℕ → HostWorld → RunSeen
seen_timed_run every w = record {
  host = timed_turns every w;
  touched = λ n. touched_by_round every (timed_rounds every w n);
  source = λ n. source_of_round every (timed_rounds every w n);
}

-- a run from a host, with its timer or without one, keeps the laws
abbrev pub RunKeepsTheLaws : HostWorld → Option ℕ → Type 0
RunKeepsTheLaws w None = KeepsTheLaws (seen_run w)
RunKeepsTheLaws w (Some every) = KeepsTheLaws (seen_timed_run every w)
