-- The first world of a host, and the world in which a file's client starts. Source: own.
use Rattle.std.specs.Prelude.{◌≡◌, ℕ, List, [], None}
use Rattle.client_world.specs.World.{World, HostWorld}
use Rattle.host_memory.specs.Blank.{blank_world}
use Rattle.mz_loader.specs.Start.{world_at_start as client_started}

-- a host that has run nothing, on that machine, with these keystrokes, and a trace that keeps a number of lines at most
abbrev pub new_host : World → List ℕ → ℕ → HostWorld
new_host machine keys keep = record {
  machine = machine;
  keys = keys;
  console = [];
  keep = keep;
  kept = [];
  lines = 0;
  steps = 0;
  exit = None;
}

-- the world of a new host, by its page budget, its keystrokes, and the number of trace lines that are kept
abbrev pub blank : ℕ → List ℕ → ℕ → HostWorld
blank pages keys keep = new_host (blank_world pages) keys keep

-- the world of a host that is new
abbrev pub IsBlank : HostWorld → Type 0
IsBlank w = w ≡ blank w.machine.budget w.keys w.keep

-- the world that a file starts
abbrev pub host_at_start : ℕ → List ℕ → ℕ → List ℕ → HostWorld
host_at_start pages keys keep file = new_host (client_started file (blank_world pages)) keys keep
