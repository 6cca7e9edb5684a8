use Rattle.cpu_step.proofs.{EventTouches.{untouched, has_touches}, laws.only_an_event_has_no_touches.Goals.{returns as goal}}

pub returns : goal
returns c = record { none = untouched; some = has_touches }
