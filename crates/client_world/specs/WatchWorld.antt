-- The world of a client that has watchpoints. Source: own.
use Rattle.std.specs.{Prelude.{List, [], ◌∷◌, Bool, false, None}, declared.option.Option.{Option}}
use Rattle.client_world.specs.{declared.watchpoints.Watch.{Watch}, World.{HostWorld}}

-- the watchpoints, the one of handle h at place h - 1 of 16; and whether a hit is still to be told to the client
pub record Watching : Type 0 where
  pub watches : List (Option Watch)
  pub due : Bool

-- none is held, and nothing is due
abbrev pub no_watches : Watching
no_watches = record {
  watches = None ∷ None ∷ None ∷ None ∷ None ∷ None ∷ None ∷ None ∷ None ∷ None ∷ None ∷ None ∷ None ∷ None ∷ None ∷ None ∷ [];
  due = false;
}

-- the host and its watchpoints
pub record WatchWorld : Type 0 where
  pub host : HostWorld
  pub watching : Watching

-- a host whose client has set no watchpoint
abbrev pub host_without_watches : HostWorld → WatchWorld
host_without_watches h = record { host = h; watching = no_watches }
