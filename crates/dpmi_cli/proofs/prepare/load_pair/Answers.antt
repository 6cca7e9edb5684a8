use Rattle.{std.proofs.Common.{[]}, client_world.specs.declared.limits.TheConstants.{DEFAULT_TRACE}, dpmi_words.specs.Meaning.{pair_in}}
use Rattle.dpmi_cli.proofs.Files.{is_blank, is_ready, is_started, first_refused, first_taken}
use Rattle.dpmi_cli.proofs.prepare.load_pair.Goals as goal

pub load-requires : goal.load-requires
load-requires c = is_blank c.args.pair.now.pages_a [] DEFAULT_TRACE c.in_ok-a.a.world c.in_ok-a.ensures

pub load_second-requires-clause-ready : goal.load_second-requires-clause-ready
load_second-requires-clause-ready c =
    is_ready c.args.pair.now.pages_a [] DEFAULT_TRACE c.args.first.now c.load.new.self.world
    (is_started c.args.pair.now.pages_a [] DEFAULT_TRACE c.args.first.now c.in_ok-a.a.world c.load.new.self.world c.in_ok-a.ensures
    c.in-Ok.ensures.started)
    c.in-Ok.ensures.sound c.are_bytes.ensures

pub returns-in-Err-clause-verdict : goal.returns-in-Err-clause-verdict
returns-in-Err-clause-verdict c =
    first_refused (pair_in c.args.pair.now) c.args.first.now c.args.second.now c.in-Err.fault c.in-Err.ensures.refused

pub returns-in-Ok-clause-verdict : goal.returns-in-Ok-clause-verdict
returns-in-Ok-clause-verdict c =
    first_taken (pair_in c.args.pair.now) c.args.first.now c.args.second.now c.load.new.self.world _ c.in-Ok.ensures.taken
    (is_started c.args.pair.now.pages_a [] DEFAULT_TRACE c.args.first.now c.in_ok-a.a.world c.load.new.self.world c.in_ok-a.ensures
    c.in-Ok.ensures.started)
    c.load_second.ensures.verdict
