use Rattle.{std.proofs.Common.{[]}, client_world.specs.declared.limits.TheConstants.{DEFAULT_TRACE}, dpmi_words.specs.Meaning.{pair_in}}
use Rattle.dpmi_cli.proofs.Files.{is_blank, is_ready, is_started, new_pair, second_refused, second_taken}
use Rattle.dpmi_cli.proofs.prepare.load_second.Goals as goal

pub load-requires : goal.load-requires
load-requires c = is_blank c.args.pair.now.pages_b [] DEFAULT_TRACE c.args.b.world c.requires.blank

pub returns-in-Err-clause-verdict : goal.returns-in-Err-clause-verdict
returns-in-Err-clause-verdict c =
    second_refused (pair_in c.args.pair.now) c.args.a.world c.args.second.now c.in-Err.fault c.in-Err.ensures.refused

pub returns-in-Ok-clause-verdict : goal.returns-in-Ok-clause-verdict
returns-in-Ok-clause-verdict c =
    second_taken (pair_in c.args.pair.now) c.args.a.world c.args.second.now c.load.new.self.world c.in-Ok.ensures.taken
    (is_started c.args.pair.now.pages_b [] DEFAULT_TRACE c.args.second.now c.args.b.world c.load.new.self.world c.requires.blank
    c.in-Ok.ensures.started)

pub returns-in-Ok-clause-new : goal.returns-in-Ok-clause-new
returns-in-Ok-clause-new c =
    new_pair (pair_in c.args.pair.now) c.args.a.world c.load.new.self.world c.requires.ranges c.requires.ready
    (is_ready c.args.pair.now.pages_b [] DEFAULT_TRACE c.args.second.now c.load.new.self.world
    (is_started c.args.pair.now.pages_b [] DEFAULT_TRACE c.args.second.now c.args.b.world c.load.new.self.world c.requires.blank
    c.in-Ok.ensures.started)
    c.in-Ok.ensures.sound c.are_bytes.ensures)
