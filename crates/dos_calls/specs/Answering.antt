-- How the contracts of the calls are said: what is left after the console, what a call serves, what ends. Source: own.
use Rattle.std.specs.Prelude.{◌≡◌, ℕ, ◌+◌, ◌-◌, Bool, true, false, if◌then◌else◌, List, [], ◌∷◌, ◌++◌, length, take, drop, Some, None}
use Rattle.std.specs.declared.option.Option.{Option}
use Rattle.client_world.specs.{declared.limits.TheConstants.{CONSOLE_ROOM}, declared.services.DosDone.{DosDone}}
use Rattle.client_world.specs.{declared.services.DosDone.TheVariants.{Served, Ended}, World.{World}}
use Rattle.dos_calls.specs.Calls.{CallResult, CallState, has_room}

-- the console with the bytes after it, or with as many as fit
abbrev pub console_with : List ℕ → List ℕ → List ℕ
console_with console bytes =
    if has_room console bytes then console ++ bytes else console ++ take (CONSOLE_ROOM - length console) bytes

-- whether a key is left
abbrev pub any_left : List ℕ → Bool
any_left [] = false
any_left (key ∷ keys) = true

-- the keys of a line of that length without its return, and those after the return
abbrev pub line_at : List ℕ → Option ℕ → Option (List ℕ × List ℕ)
line_at keys None = None
line_at keys (Some n) = Some (take n keys, drop (n + 1) keys)

-- the call serves this machine with that one, whatever the keys and the console are, and leaves them
abbrev pub Serves : (CallState → CallResult) → World → World → Type 0
Serves call old new = (keys console : List ℕ) →
    call (record { world = old; keys = keys; console = console })
    ≡ record { done = Served; world = new; keys = keys; console = console }

-- a fact that holds where a call ended the client
abbrev pub IfEnded : DosDone → Type 0 → Type 0
IfEnded Served P = Unit {0}
IfEnded (Ended exit) P = P
