-- The records of the calls that haven't returned, as a stack: the last one is the innermost. Source: own.
use Rattle.std.specs.{Prelude.{◌≡◌, ◌-◌, ◌<◌, MatchResult}, List.{slice_get}, declared.option.Option.{Option}}
use Rattle.std.specs.declared.result.Result.{Result}
use Rattle.client_world.specs.{declared.calls.Deep.{Deep}, declared.calls.Record.{Record}, declared.limits.TheConstants.{GREATEST_DEPTH}}
use Rattle.client_world.specs.World.{World, depth}
use Rattle.guest_space.specs.Records.{with_record, without_record}
use Rattle.host_memory.specs.{Records.{record_bytes}, View.{MachineView}}

-- the innermost record, if there is one
abbrev pub top : World → Option Record
top w = slice_get w.calls (depth w - 1)

-- the machine after a record was pushed
abbrev pub after_push : MachineView → Record → MachineView
after_push v r = with_record v r (record_bytes r)

-- the machine after the innermost record was popped
abbrev pub after_pop : MachineView → MachineView
after_pop v = without_record v

-- the result of a push, and the machine after it: the record is pushed where there is room; at the greatest depth nothing has changed
abbrev pub Pushes : Record → Result (Unit {0}) Deep → MachineView → MachineView → Type 0
Pushes r result old new = MatchResult result
    (λ _. (depth old.world < GREATEST_DEPTH) × (new ≡ after_push old r))
    (λ _. (depth old.world ≡ GREATEST_DEPTH) × (new ≡ old))
