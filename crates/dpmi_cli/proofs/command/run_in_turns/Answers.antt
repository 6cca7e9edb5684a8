use Rattle.{std.proofs.Common.{ap, ◌∙◌}, std.specs.Prelude.{None, max}, dpmi_cli.specs.Answer.{run_status}}
use Rattle.dpmi_cli.proofs.RunAnswers.{gives_pair, gives_pair_cut}
use Rattle.dpmi_cli.proofs.command.run_in_turns.Goals as goal

pub returns-in-Err-clause-answers : goal.returns-in-Err-clause-answers
returns-in-Err-clause-answers g c =
    let a = c.args.a.now.host.world in
    let b = c.args.b.now.host.world in
    let laws_a = c.every_run_keeps_the_laws.ensures a None c.requires.new.0.sound c.requires.new.0.keys in
    let laws_b = c.every_run_keeps_the_laws.ensures b None c.requires.new.1.sound c.requires.new.1.keys in
    gives_pair_cut c.args.slice c.args.bound a b _ _ _ _ laws_a laws_b c.in-Err.ensures.puts.part c.in-Err.ensures.puts.failed

pub returns-in-Ok-clause-answers : goal.returns-in-Ok-clause-answers
returns-in-Ok-clause-answers g c =
    let a = c.args.a.now.host.world in
    let b = c.args.b.now.host.world in
    let laws_a = c.every_run_keeps_the_laws.ensures a None c.requires.new.0.sound c.requires.new.0.keys in
    let laws_b = c.every_run_keeps_the_laws.ensures b None c.requires.new.1.sound c.requires.new.1.keys in
    gives_pair c.args.slice c.args.bound a b c.write_turns.new.a.host.world c.write_turns.new.b.host.world _ _ _ _ _ laws_a laws_b
    c.in-Ok.ensures.end_a c.in-Ok.ensures.end_b c.in-Ok.ensures.puts.whole
    (c.max.ensures ∙ ap (λ n. max n c.status_of_run-in-Ok.result) c.status_of_run.ensures
    ∙ ap (λ n. max (run_status c.write_turns.new.a.host.world) n) c.status_of_run-in-Ok.ensures)
