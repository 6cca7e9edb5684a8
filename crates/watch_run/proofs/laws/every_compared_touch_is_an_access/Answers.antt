use Rattle.watch_run.proofs.NextTouches.{none_is_an_event, places_are_the_steps, some_is_no_event}
use Rattle.watch_run.proofs.laws.every_compared_touch_is_an_access.Goals as goal

pub returns-clause-none : goal.returns-clause-none
returns-clause-none c = none_is_an_event c.only_an_event_has_no_touches.ensures.none

pub returns-clause-some : goal.returns-clause-some
returns-clause-some c = some_is_no_event c.only_an_event_has_no_touches.ensures.some

pub returns-clause-places : goal.returns-clause-places
returns-clause-places c = places_are_the_steps c.every_touch_is_an_access.ensures.places
