-- A host with its watchpoints as a client that takes turns, and the text of two of them. Source: own.
use Rattle.std.specs.{Prelude.{ℕ, List, ◌++◌, codes, Some}, declared.option.Option.{Option}}
use Rattle.client_world.specs.{declared.outcome.Exit.{Exit}, declared.outcome.Exit.TheVariants.{Bound}, World.{HostWorld}}
use Rattle.client_world.specs.WatchWorld.{WatchWorld, host_without_watches}
use Rattle.watch_run.specs.Turn.{turn_with_watchpoints, watched_run}
use Rattle.dpmi_io.specs.LineEnd.{line_end}
use Rattle.dpmi_report.specs.Text.{text}
use Rattle.pair_run.specs.{declared.lines.Letter.{Letter}, declared.lines.Letter.TheVariants.{A, B}, Slices.{OwnRun, letter_text, own_run}}
use Rattle.pair_run.specs.Slices.{slices_text}

-- the run ends at its bound
abbrev pub host_with_bound_exit : WatchWorld → WatchWorld
host_with_bound_exit w = record w { host = record w.host { exit = Some Bound } }

abbrev pub host_console : WatchWorld → List ℕ
host_console w = w.host.console

abbrev pub host_exit : WatchWorld → Option Exit
host_exit w = w.host.exit

abbrev pub host_steps : WatchWorld → ℕ
host_steps w = w.host.steps

-- the run from a host's world up to a bound, as far as its slices show it
abbrev pub sliced : ℕ → HostWorld → OwnRun
sliced bound w = own_run turn_with_watchpoints host_console host_steps bound (host_without_watches w)

-- the line before the text of a client
abbrev pub client_line : Letter → List ℕ
client_line client = codes "client " ++ letter_text client ++ line_end

-- the text of a client's own run
abbrev pub client_part : Letter → HostWorld → List ℕ
client_part client end = client_line client ++ text end

-- the text of two clients: what they wrote slice by slice, and then the text of the run of each
abbrev pub pair_text : ℕ → ℕ → HostWorld → HostWorld → List ℕ
pair_text slice bound a b =
    slices_text slice (sliced bound a) (sliced bound b) ++ (client_part A (watched_run a bound) ++ client_part B (watched_run b bound))
