use Rattle.{std.proofs.Common.{ap}, dpmi_io.proofs.Output.{puts_cut, puts_text, puts_then}}
use Rattle.{pair_run.specs.declared.lines.Letter.TheVariants.{A, B}, dpmi_cli.specs.Pairs.{client_part}}
use Rattle.dpmi_cli.proofs.RunAnswers.{first, run_ended, slices_put, when_ok}
use Rattle.dpmi_cli.proofs.pairs.write_turns.Goals as goal

pub pair-requires-clause-first_a : goal.pair-requires-clause-first_a
pair-requires-clause-first_a g c = first c.args.a.now.host.world c.args.a.now.watches c.requires.new.0

pub pair-requires-clause-first_b : goal.pair-requires-clause-first_b
pair-requires-clause-first_b g c = first c.args.b.now.host.world c.args.b.now.watches c.requires.new.1

pub returns-in_err-pair-clause-puts : goal.returns-in_err-pair-clause-puts
returns-in_err-pair-clause-puts g c =
    let none = c.requires.watches in
    puts_cut _ _ c.from_residual.ensures.0
    (slices_put c.args.slice c.args.bound c.args.a.now.host.world c.args.b.now.host.world _ _ none.0 none.1 c.in_err-pair.ensures.puts)

pub returns-in_err-write_client-clause-puts : goal.returns-in_err-write_client-clause-puts
returns-in_err-write_client-clause-puts g c =
    let a = c.args.a.now.host.world in
    let none = c.requires.watches in
    puts_then _
    (slices_put c.args.slice c.args.bound a c.args.b.now.host.world _ _ none.0 none.1 c.in_ok-pair.ensures.puts)
    (puts_cut _ _ c.from_residual-in_err-write_client.ensures.0
    (puts_text (ap (client_part A) (run_ended a _ _ c.args.bound none.0 c.in_ok-pair.ensures.end_a)) c.in_err-write_client.ensures))

pub returns-clause-end_a : goal.returns-clause-end_a
returns-clause-end_a g c =
    when_ok c.write_client-2.result
    (run_ended c.args.a.now.host.world _ _ c.args.bound c.requires.watches.0 c.in_ok-pair.ensures.end_a)

pub returns-clause-end_b : goal.returns-clause-end_b
returns-clause-end_b g c =
    when_ok c.write_client-2.result
    (run_ended c.args.b.now.host.world _ _ c.args.bound c.requires.watches.1 c.in_ok-pair.ensures.end_b)

pub returns-clause-puts : goal.returns-clause-puts
returns-clause-puts g c =
    let a = c.args.a.now.host.world in
    let b = c.args.b.now.host.world in
    let none = c.requires.watches in
    puts_then _
    (slices_put c.args.slice c.args.bound a b _ _ none.0 none.1 c.in_ok-pair.ensures.puts)
    (puts_then _
    (puts_text (ap (client_part A) (run_ended a _ _ c.args.bound none.0 c.in_ok-pair.ensures.end_a)) c.in_ok-write_client.ensures)
    (puts_text (ap (client_part B) (run_ended b _ _ c.args.bound none.1 c.in_ok-pair.ensures.end_b)) c.write_client-2.ensures))
