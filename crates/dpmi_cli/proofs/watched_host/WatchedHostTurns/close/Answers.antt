use Rattle.{std.proofs.Common.{◌∙◌, ap}, client_world.specs.WatchWorld.{WatchWorld}, host_run.specs.View.{HostView}}
use Rattle.dpmi_cli.proofs.{RunAnswers.{close_is}, watched_host.WatchedHostTurns.close.Goals.{returns as goal}}

pub returns : goal
returns c =
    ap (λ (v : HostView). let w : WatchWorld = record { host = v.world; watching = c.args.self.now.watches } in w) c.stop_bound.ensures
    ∙ close_is (record { host = c.args.self.now.host.world; watching = c.args.self.now.watches }) c.requires
