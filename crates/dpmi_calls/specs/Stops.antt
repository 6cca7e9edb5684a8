-- What is looked for in a run, and the turns at which it is found. Source: own.
use Rattle.std.specs.Prelude.{◌≡◌, ℕ, zero, suc, ◌+◌, ◌-◌, ◌%◌, ◌^◌, ◌≤◌, ◌<◌, ◌++◌, List, [], ◌∷◌, Bool, ◌&&◌, not, nat_eq, nat_lt, ◌⊎◌}
use Rattle.std.specs.{Prelude.{if◌then◌else◌, None, Some, length, IsSome}, List.{position}, declared.option.Option.{Option}}
use Rattle.client_world.specs.World.{HostWorld, World}
use Rattle.dpmi_calls.specs.{Clients.{ClientGiven, refusal_of}, Memory.{seen}, declared.stops.Stop.{Stop}}
use Rattle.dpmi_calls.specs.{declared.wanted.TheConstants.{MOST_WANTED}, declared.wanted.Wanted.{Wanted}, declared.wanted.Reason.{Reason}}
use Rattle.dpmi_calls.specs.declared.wanted.Reason.TheVariants.{Change, Place, Outside}
use Rattle.host_run.specs.Traps.{current_trap, is_trap}
use Rattle.watch_run.specs.Hits.{instruction_address}

-- what is looked for: the client at one of these linear addresses; a change of a byte at one of those; or the client at an instruction
-- outside the bytes from one address on, if these are some
pub record WantedStops : Type 0 where
  pub places : List ℕ
  pub bytes : List ℕ
  pub stay_at : ℕ
  pub stay_size : ℕ

-- those of these parts
abbrev pub wanted_of : List ℕ → List ℕ → ℕ → ℕ → WantedStops
wanted_of places bytes stay_at stay_size = record { places = places; bytes = bytes; stay_at = stay_at; stay_size = stay_size }

-- what a call is given
abbrev pub wanted_in : Wanted → WantedStops
wanted_in w = wanted_of w.places.now w.bytes.now w.stay_at w.stay_size

-- how far a linear address lies above another one; addresses wrap
abbrev pub distance : ℕ → ℕ → ℕ
distance from to = (to + 2 ^ 32 - from) % 2 ^ 32

-- the client is at an instruction, and not at a trap of the host, outside those bytes
abbrev pub is_outside : WantedStops → World → Bool
is_outside s w =
    nat_lt 0 s.stay_size && not (nat_lt (distance s.stay_at (instruction_address w)) s.stay_size) && not (is_trap (current_trap w))

-- the client sees another byte there; one that appears or goes away is another one too
abbrev pub is_changed : World → World → ℕ → Bool
is_changed before after linear = not (nat_eq (seen before linear) (seen after linear))

-- the first byte that changed, by its number in the list
abbrev pub first_change : WantedStops → World → World → Option ℕ
first_change s before after = position (is_changed before after) s.bytes

-- the first of the places at which the client is
abbrev pub first_place : WantedStops → World → Option ℕ
first_place s w = position (λ lin. nat_eq lin (instruction_address w)) s.places

-- why to stop after a turn that led from one world to another: a change, then a place, then the way out
abbrev pub reason_of : WantedStops → World → World → Option Reason
reason_of s before after = elim (first_change s before after) [
  | Some k ↦ Some (Change k)
  | None ↦ elim (first_place s after) [
    | Some k ↦ Some (Place k)
    | None ↦ if is_outside s after then Some Outside else None
  ]
]

-- why to stop after turn n + 1 of a run, whose hosts are given from turn 0 on; there is no turn after an exit
unfoldable pub reason_at : WantedStops → (ℕ → HostWorld) → ℕ → Option Reason
reason_at s host n = elim (host n).exit [ Some _ ↦ None | None ↦ reason_of s (host n).machine (host (n + 1)).machine ]

-- ---- in numbers

abbrev pub reason_number : Reason → ℕ
reason_number (Change k) = 1
reason_number (Place k) = 2
reason_number Outside = 3

-- the number of the byte or of the place
abbrev pub which_of : Reason → ℕ
which_of (Change k) = k
which_of (Place k) = k
which_of Outside = 0

abbrev pub stop_at : ℕ → Reason → Stop
stop_at turn reason = record { turn = turn; reason = reason_number reason; which = which_of reason }

-- ---- the stops of a run

-- the stop of that turn, where there is a reason
abbrev pub stops_by : ℕ → Option Reason → List Stop
stops_by turn None = []
stops_by turn (Some reason) = stop_at turn reason ∷ []

-- those of that many turns after the first `done` ones, in order
unfoldable pub stops_of : WantedStops → (ℕ → HostWorld) → ℕ → ℕ → List Stop
stops_of s host done zero = []
stops_of s host done (suc n) = stops_of s host done n ++ stops_by (done + n + 1) (reason_at s host (done + n))

-- the search goes on after that many turns, of which the first `done` had no part in it: the client has not ended, and there is room for
-- one more stop
pub record GoesOn (s : WantedStops) (host : ℕ → HostWorld) (done room turns : ℕ) : Type 0 where
  pub no_exit : (host turns).exit ≡ None
  pub space : length (stops_of s host done (turns - done)) < room

-- the last stop up to that turn, by the last one before it
abbrev pub last_by : Option Stop → ℕ → Option Reason → Option Stop
last_by before turn None = before
last_by before turn (Some reason) = Some (stop_at turn reason)

-- the last of them
unfoldable pub last_of : WantedStops → (ℕ → HostWorld) → ℕ → ℕ → Option Stop
last_of s host done zero = None
last_of s host done (suc n) = last_by (last_of s host done n) (done + n + 1) (reason_at s host (done + n))

-- no stop: turn 0
abbrev pub stop_or_none : Option Stop → Stop
stop_or_none o = elim o [ None ↦ record { turn = 0; reason = 0; which = 0 } | Some stop ↦ stop ]

-- ---- refusals

-- no more is looked for than may be
abbrev pub IsFew : WantedStops → Type 0
IsFew s = (length s.places ≤ MOST_WANTED) × (length s.bytes ≤ MOST_WANTED)

-- a search is made: its turns are some, no more is looked for than may be, and the client is taken, for so many turns
pub record IsSearch (c : ClientGiven) (from to : ℕ) (s : WantedStops) : Type 0 where
  pub first : 0 < from
  pub order : from ≤ to
  pub few : IsFew s
  pub client : refusal_of c to 0 ≡ None

-- why no search is made: its turns are none, more is looked for than may be, or the client is refused
abbrev pub IsRefusedSearch : ClientGiven → ℕ → ℕ → WantedStops → Type 0
IsRefusedSearch c from to s =
    (from ≡ 0) ⊎ (to < from) ⊎ (MOST_WANTED < length s.places) ⊎ (MOST_WANTED < length s.bytes) ⊎ IsSome (refusal_of c to 0)
