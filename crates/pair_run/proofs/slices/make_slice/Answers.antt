use Rattle.std.proofs.Common.{arith, ap, length}
use Rattle.pair_run.proofs.{OwnRuns.{client_of, no_shorter}, slices.make_slice.Goals.{rest_from-requires as goal}}

pub rest_from-requires : goal
rest_from-requires g c =
    let more = no_shorter (client_of g.met.T.Turns.ended_stays g.met.T.Turns.turn_is_counted g.met.T.Turns.console_extends)
    (g.T.Turns.world c.args.client.now) c.args.turns in
    omega (
      arith,
      more,
      ap length c.console-before.ensures,
      ap length c.console.ensures,
      ap (λ w. length (g.T.Turns.console_of w)) c.go.ensures.world,
    )
