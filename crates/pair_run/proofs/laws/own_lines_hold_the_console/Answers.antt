use Rattle.{std.proofs.Common.{sym, ◌∙◌}, pair_run.proofs.{OwnRuns.{client_of}, SliceTexts.{own_bytes, run_console}}}
use Rattle.pair_run.proofs.laws.own_lines_hold_the_console.Goals.{returns as goal}

pub returns : goal
returns g c w client n bound some first =
    own_bytes (client_of g.met.T.Turns.ended_stays g.met.T.Turns.turn_is_counted g.met.T.Turns.console_extends) w n bound client some
    first.no_steps first.no_bytes
    ∙ sym (run_console g.T.Turns.turn g.T.Turns.closed g.T.Turns.console_of g.T.Turns.exit_of
    (λ v. (g.met.T.Turns.closed_is_bound v).1) bound w)
